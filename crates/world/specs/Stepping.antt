-- The step of one controller among the others.
use Rattle.controller.specs.Step.{Step, with_state}
use Rattle.controller.specs.declared.message.Message.{Message}
use Rattle.master_core.specs.Master as master
use Rattle.worker_core.specs.Worker as worker
use Rattle.world.specs.State.{Controllers, with_worker}

-- the master's step, with its workers as they are
abbrev pub master_moved : Controllers → Step master.State Message → Step Controllers Message
master_moved c moved = with_state (λ m. record c { master = m }) moved

-- the step of a worker, with all others as they are
abbrev pub worker_moved : Controllers → worker.State → Step worker.State Message
    → Step Controllers Message
worker_moved c w moved =
    with_state (λ next. record c { workers = with_worker w.name next c.workers }) moved
