use Rattle.std.proofs.Common.{◌∙◌, ap}
use Rattle.ticket_rows.proofs.Reasons.{link_reason}
use Rattle.ticket_rows.specs.Ticket.{unless}
use Rattle.ticket_items.specs.declared.refusal.Refusal.TheVariants.{UnresolvedLink}
use Rattle.ticket_rows.proofs.edit.known_rows.open_to_link.Goals as goal

pub returns-then-not-is_below-clause-refusal : goal.returns-then-not-is_below-clause-refusal
returns-then-not-is_below-clause-refusal c =
    link_reason c.args.rows.now c.args.node.now c.args.link.now c.in_ok-home.home c.at.result.now c.is_below.result c.in_ok-place.ensures.refusal c.in_ok-home.ensures.refusal c.in_ok-home.ensures.place c.at.ensures
    (c.is_below.ensures) ∙ ap (λ b. unless b UnresolvedLink) c.if-not-is_below.true

pub returns-clause-refusal : goal.returns-clause-refusal
returns-clause-refusal c =
    link_reason c.args.rows.now c.args.node.now c.args.link.now c.in_ok-home.home c.at.result.now c.is_below.result c.in_ok-place.ensures.refusal c.in_ok-home.ensures.refusal c.in_ok-home.ensures.place c.at.ensures
    (c.is_below.ensures) ∙ ap (λ b. unless b UnresolvedLink) c.if-not-is_below.false
