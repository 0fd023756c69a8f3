use Rattle.std.proofs.Common.{◌≡◌, map, take}
use Rattle.controller_form.specs.States.WorkerForm.{worker_state_read}
use Rattle.stored_state.specs.Seat.{kept_in}
use Rattle.world.specs.State.{new_worker}
use Rattle.world.proofs.beginning.new_workers.Given as goal

-- the workers of the names so far, each at its seat
abbrev pub invariant-loop-name : goal.invariant-loop-name
invariant-loop-name g l = map (kept_in worker_state_read g.K.Keep.held) l.workers.items ≡ map (new_worker l.master) (take l.name-index l.names)
