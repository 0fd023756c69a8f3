use Rattle.std.proofs.Common.{◌∙◌, [], ap, map, subst, sym}
use Rattle.controller_form.specs.States.WorkerForm.{worker_state_read}
use Rattle.stored_state.specs.Seat.{kept_in}
use Rattle.world.specs.State.{IsConsistent, state}
use Rattle.world.proofs.beginning.shop_of.Goals as goal

pub new-requires : goal.new-requires
new-requires g c = subst (λ m. IsConsistent (state m (map (kept_in worker_state_read g.K.Keep.held) c.args.workers.items) [])) (sym c.in-Ok.ensures) c.requires

pub returns-in-Ok : goal.returns-in-Ok
returns-in-Ok g c = c.new.ensures ∙ ap (λ m. state m (map (kept_in worker_state_read g.K.Keep.held) c.args.workers.items) []) c.in-Ok.ensures
