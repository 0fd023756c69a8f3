use Rattle.std.proofs.Common.{◌≡◌, ◌∙◌, ◌||◌, false, sym, ap}
use Rattle.ticket_items.proofs.AtKey.{any_key}
use Rattle.ticket_items.specs.Ids.{mem}
use Rattle.ticket_items.specs.Resource.{resource_ids}
use Rattle.ticket_rows.specs.Ticket.{ids}
use Rattle.worker_core.proofs.entries.has.Goals as goal

pub returns-else-has_id : goal.returns-else-has_id
returns-else-has_id c =
    let x = c.args.id.now in
    let p = c.args.part.now in
    let out : mem x (ids p.rows) ≡ false = ap (λ rows. mem x (ids rows)) (sym (c.rows.ensures.rows)) ∙ sym c.has_id.ensures ∙ c.if-has_id.false in
    c.holds.ensures ∙ any_key (λ y. y.id) x c.rw.result.now ∙ ap (λ pool. mem x (resource_ids pool)) c.rw.ensures ∙ sym (ap (λ b. b || mem x (resource_ids p.rw)) out)
