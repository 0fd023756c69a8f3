use Rattle.std.proofs.Common.{◌∙◌, ◌&&◌, sym, ap}
use Rattle.ticket_items.specs.Resource.{is_alike}
use Rattle.spawn.specs.Parts.{resources}
use Rattle.merge.proofs.OrderedCopies.{copies_told_in_order}
use Rattle.merge.specs.InOrder.{are_met}
use Rattle.merge.proofs.copies.are_copies.Goals as goal

pub returns-then-are_of : goal.returns-then-are_of
returns-then-are_of c =
    c.are_in_order-then-are_of.ensures ∙ sym (ap (λ b. b && are_met is_alike (resources c.args.rows.now) c.args.copies.now) (sym c.are_of.ensures ∙ c.if-are_of.true))
    ∙ sym (copies_told_in_order c.args.rows.now c.args.ids.now c.args.copies.now c.requires (sym c.are_in_order.ensures ∙ c.if-not-are_in_order.false))

pub returns-else-are_of : goal.returns-else-are_of
returns-else-are_of c =
    c.if-are_of.false ∙ sym (ap (λ b. b && are_met is_alike (resources c.args.rows.now) c.args.copies.now) (sym c.are_of.ensures ∙ c.if-are_of.false))
    ∙ sym (copies_told_in_order c.args.rows.now c.args.ids.now c.args.copies.now c.requires (sym c.are_in_order.ensures ∙ c.if-not-are_in_order.false))
