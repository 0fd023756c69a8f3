use Rattle.std.proofs.Common.{◌∙◌, ap, sym, unwrap_or}
use Rattle.stored_state.proofs.OnceMore.{led_so}
use Rattle.stored_state.specs.Cause.{led_to, once_more}
use Rattle.stored_state.proofs.memory_seat.MemorySeatSeat.step.Goals as goal

pub store-requires : goal.store-requires
store-requires g c =
    let order = g.C.Controller.order_step in
    let take = g.C.Controller.take_step in
    let stays = g.C.StoredController.stays in
    let again = c.in_ok-again.ensures ∙ ap (λ s. once_more stays c.args.cause s) c.self.view_is in
    (λ i. led_to order take (again i) c.args.at (c.step_made.ensures.state i))
    ∙ led_so order take stays g.met.C.StoredController.take_stays c.args.cause c.args.at c.args.self.now
    ∙ sym ((λ i. unwrap_or c.in_ok-next.next (c.step_made.ensures.state i)) ∙ c.in_ok-next.ensures.next)
