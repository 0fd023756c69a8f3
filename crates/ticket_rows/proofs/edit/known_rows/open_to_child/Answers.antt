use Rattle.std.proofs.Common.{◌∙◌, [], sym, ap}
use Rattle.ticket_rows.proofs.Reasons.{child_reason}
use Rattle.ticket_rows.specs.Ticket.{unless}
use Rattle.ticket_items.specs.declared.refusal.Refusal.TheVariants.{TooDeep}
use Rattle.ticket_rows.proofs.edit.known_rows.open_to_child.Goals as goal

pub returns-then-not-has_room-clause-refusal : goal.returns-then-not-has_room-clause-refusal
returns-then-not-has_room-clause-refusal c =
    child_reason c.args.rows.now c.args.node.now (record { id = c.args.id.now; kind = []; job_part = []; status = c.args.status.now }) c.in_ok-place.place c.at.result.now c.in_ok-place.ensures.refusal (sym c.has_id.ensures ∙ c.if-has_id.false) c.in_ok-place.ensures.place c.at.ensures
    ∙ ap (λ b. unless b TooDeep) (sym c.has_room.ensures ∙ c.if-not-has_room.true)

pub returns-clause-refusal : goal.returns-clause-refusal
returns-clause-refusal c =
    child_reason c.args.rows.now c.args.node.now (record { id = c.args.id.now; kind = []; job_part = []; status = c.args.status.now }) c.in_ok-place.place c.at.result.now c.in_ok-place.ensures.refusal (sym c.has_id.ensures ∙ c.if-has_id.false) c.in_ok-place.ensures.place c.at.ensures
    ∙ ap (λ b. unless b TooDeep) (sym c.has_room.ensures ∙ c.if-not-has_room.false)
