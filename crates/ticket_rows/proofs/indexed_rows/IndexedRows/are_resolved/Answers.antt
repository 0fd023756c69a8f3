use Rattle.std.proofs.Common.{◌∙◌, ◌+◌, ◌&&◌, [], drop, sym, ap, arith}
use Rattle.ticket_rows.proofs.LinksByRuns.{before_at, links_step}
use Rattle.ticket_rows.proofs.LinkWalk.{are_resolved_from, resolved_walk}
use Rattle.ticket_rows.specs.Ticket.{are_resolved}
use Rattle.ticket_rows.proofs.indexed_rows.IndexedRows.are_resolved.Goals as goal

pub loop-place-init : goal.loop-place-init
loop-place-init c = sym (resolved_walk c.rows-rows.result)

pub returns-then-not-links_resolve : goal.returns-then-not-links_resolve
returns-then-not-links_resolve c =
    let rows = c.rows-rows.result in
    let k = c.loop-place.place in
    let step = links_step c.args.self.now rows k c.at-row.result.now c.links_resolve.result c.as_slice.result.now c.rows-rows.ensures (omega (arith, c.loop-place-test.true, c.len-place-end.ensures)) c.at-row.ensures c.as_slice.ensures c.links_resolve.ensures in
    sym (sym c.loop-place.invariant ∙ step ∙ ap (λ b. b && are_resolved_from rows (before_at [] rows (k + 1)) (drop (k + 1) rows)) c.if-not-links_resolve.true) ∙ ap are_resolved c.rows-rows.ensures

pub loop-place-preserved : goal.loop-place-preserved
loop-place-preserved c =
    let rows = c.rows-rows.result in
    let k = c.loop-place.place in
    let step = links_step c.args.self.now rows k c.at-row.result.now c.links_resolve.result c.as_slice.result.now c.rows-rows.ensures (omega (arith, c.loop-place-test.true, c.len-place-end.ensures)) c.at-row.ensures c.as_slice.ensures c.links_resolve.ensures in
    sym (step ∙ ap (λ b. b && are_resolved_from rows (before_at [] rows (k + 1)) (drop (k + 1) rows)) c.if-not-links_resolve.false) ∙ c.loop-place.invariant
