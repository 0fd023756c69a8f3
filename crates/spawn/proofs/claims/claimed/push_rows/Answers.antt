use Rattle.std.proofs.Common.{◌∙◌, ◌++◌, ap, append_assoc, map, sym, take, arith}
use Rattle.ticket_rows.specs.Ticket.{ids, ids_of}
use Rattle.spawn.proofs.Holdings.{row_more}
use Rattle.spawn.proofs.claims.claimed.push_rows.Goals as goal

pub loop-place-preserved : goal.loop-place-preserved
loop-place-preserved c =
    let rows = c.args.rows.now in
    let i = c.loop-place.place in
    let r = c.at-row.result.now in
    let old = map (λ s. s.now) c.args.all.now.items in
    c.in_ok-push_row.ensures ∙ ap (λ ys. ys ++ ids_of r) c.loop-place.invariant ∙ append_assoc old (ids (take i rows)) (ids_of r)
    ∙ ap (λ ys. old ++ ys) (sym (row_more rows i r (omega (arith, c.loop-place-test.true, c.len-place-end.ensures)) c.at-row.ensures))
