use Rattle.std.proofs.Common.{◌∙◌, ◌+◌, ◌++◌, ◌∷◌, [], None, append_assoc, refl, subst, sym, take, arith}
use Rattle.ticket_items.specs.Ids.{mem}
use Rattle.ticket_items.specs.Resource.{resource_ids}
use Rattle.ticket_rows.specs.Ticket.{ids}
use Rattle.spawn.proofs.Holdings.{given_grown, given_next, given_none, row_more}
use Rattle.spawn.specs.Holdings.{IsGiven}
use Rattle.spawn.proofs.tables.holders.Holders.free_rows.Goals as goal

pub loop-place-init : goal.loop-place-init
loop-place-init c = given_none None c.args.self.now

pub loop-place-preserved : goal.loop-place-preserved
loop-place-preserved c =
    let rows = c.args.rows.now in
    let i = c.loop-place.place in
    let r = c.at-row.result.now in
    let old = c.args.self.now in
    let done = ids (take i rows) in
    given_grown (done ++ r.id ∷ []) (resource_ids r.resources) (ids (take (i + 1) rows)) None old c.free_id.new.self _
    (given_next done r.id (done ++ r.id ∷ []) None old c.loop-place.self c.free_id.new.self c.loop-place.invariant c.free_id.ensures refl)
    (subst (λ pool. IsGiven (λ x. mem x (resource_ids pool)) None c.free_id.new.self c.free_pool.new.self) c.as_slice.ensures c.free_pool.ensures)
    (row_more rows i r (omega (arith, c.loop-place-test.true, c.len-place-end.ensures)) c.at-row.ensures ∙ sym (append_assoc done (r.id ∷ []) (resource_ids r.resources)))
