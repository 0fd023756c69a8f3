use Rattle.std.proofs.Common.{◌≡◌, true, OnErr, ap, map, subst, sym, ◌∙◌}
use Rattle.stored_state.specs.Cause.{step_on}
use Rattle.world.proofs.Shop.AlwaysKept.{master_keeps}
use Rattle.world.proofs.Runs.Answered.{on_ok}
use Rattle.world.proofs.Shop.Kept.{master_kept}
use Rattle.world.proofs.Runs.Settled.{master_settled}
use Rattle.world.proofs.Runs.Unknown.{master_same, master_unknown}
use Rattle.world.specs.Happening.{ComesTo, IsUnknown, master_step, next_state}
use Rattle.world.specs.State.{State, state}
use Rattle.master_core.specs.Messages.{take_step as taken_by_master}
use Rattle.master_core.specs.Orders.{order_step as ordered_master}
use Rattle.world.proofs.seats.Seats.tell_master.Goals as goal

pub invariant_of-self : goal.invariant_of-self
invariant_of-self g c =
    let w : State = state (g.M.Seat.kept c.self.inside.master) (map g.W.Seat.kept c.self.inside.workers.items) c.self.inside.messages.messages in
    let comes = subst (λ (v : State). ComesTo v.controllers.master.name v.messages c.args.cause) (sym c.self.view_is) c.requires in
    let keeps = master_keeps c.args.cause c.args.at w c.self.invariant comes in
    master_kept c.steps.result c.args.stop w.controllers.master (g.M.Seat.kept c.steps.new.seat) w.controllers.workers w.messages c.steps.new.messages.messages (step_on ordered_master taken_by_master c.args.cause c.args.at w.controllers.master) c.steps.ensures.stored c.steps.ensures.messages c.steps.ensures.err_stored c.steps.ensures.err_messages c.self.invariant keeps

pub returns-clause-state : goal.returns-clause-state
returns-clause-state g c =
    let w : State = state (g.M.Seat.kept c.self.inside.master) (map g.W.Seat.kept c.self.inside.workers.items) c.self.inside.messages.messages in
    on_ok _ _ _ c.steps.result c.steps.ensures.stored c.steps.ensures.messages (λ is sent.
    master_settled c.args.stop w.controllers.master (g.M.Seat.kept c.steps.new.seat) w.controllers.workers w.messages c.steps.new.messages.messages (step_on ordered_master taken_by_master c.args.cause c.args.at w.controllers.master) is sent
    ∙ ap (λ (v : State). next_state c.args.stop v (master_step c.args.cause c.args.at v)) c.self.view_is)

pub returns-clause-err : goal.returns-clause-err
returns-clause-err g c =
    let w : State = state (g.M.Seat.kept c.self.inside.master) (map g.W.Seat.kept c.self.inside.workers.items) c.self.inside.messages.messages in
    let now : State = state (g.M.Seat.kept c.steps.new.seat) w.controllers.workers c.steps.new.messages.messages in
    subst (λ (v : State). OnErr c.steps.result (IsUnknown v (master_step c.args.cause c.args.at v) now)) c.self.view_is
    (master_unknown c.steps.result w.controllers.master (g.M.Seat.kept c.steps.new.seat) w.controllers.workers w.messages c.steps.new.messages.messages (step_on ordered_master taken_by_master c.args.cause c.args.at w.controllers.master) c.steps.ensures.err_stored c.steps.ensures.err_messages)

pub returns-clause-sure : goal.returns-clause-sure
returns-clause-sure g c =
    let w : State = state (g.M.Seat.kept c.self.inside.master) (map g.W.Seat.kept c.self.inside.workers.items) c.self.inside.messages.messages in
    let now : State = state (g.M.Seat.kept c.steps.new.seat) w.controllers.workers c.steps.new.messages.messages in
    subst (λ (v : State). OnErr c.steps.result (g.M.Seat.is_sure ≡ true → g.R.Carrier.is_direct ≡ true → now ≡ v)) c.self.view_is
    (master_same _ _ c.steps.result w.controllers.master (g.M.Seat.kept c.steps.new.seat) w.controllers.workers w.messages c.steps.new.messages.messages c.steps.ensures.sure c.steps.ensures.err_messages)
