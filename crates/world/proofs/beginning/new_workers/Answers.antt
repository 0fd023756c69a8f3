use Rattle.controller_form.specs.States.WorkerForm.{worker_state_read}
use Rattle.stored_state.specs.Seat.{kept_in}
use Rattle.world.specs.State.{new_worker}
use Rattle.world.proofs.Runs.Seating.{more_seated}
use Rattle.world.proofs.beginning.new_workers.Goals as goal

pub loop-name-preserved : goal.loop-name-preserved
loop-name-preserved g c =
    more_seated (kept_in worker_state_read g.K.Keep.held) (new_worker c.args.master.now) c.args.names.now c.loop-name.name-index c.name-item.result c.loop-name.workers.items c.push.new.items.items c.in_ok-new_worker.field-0
    c.loop-name-test.true c.name-item.is c.loop-name.invariant c.in_ok-new_worker.ensures c.in_ok-push.ensures
