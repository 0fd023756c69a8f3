use Rattle.std.proofs.Common.{◌∙◌, ◌++◌, ◌∷◌, [], ◌+◌, ◌-◌, length, take, drop, sym, ap, arith}
use Rattle.std.proofs.lemmas.List.{take_all, take_rest}
use Rattle.ticket_items.specs.declared.node_row.NodeRow.{NodeRow}
use Rattle.ticket_rows.proofs.Below.{run_length}
use Rattle.ticket_rows.proofs.Shapes.{length-runs-rows, runs_more}
use Rattle.ticket_rows.specs.Index.{runs_of}
use Rattle.ticket_rows.specs.Ticket.{depths}
use Rattle.ticket_rows.proofs.runs.runs_of.Goals as goal

pub loop-place-preserved : goal.loop-place-preserved
loop-place-preserved c =
    let rows = c.args.rows.now in
    let i = c.loop-place.place in
    let runs = take i (runs_of (depths rows)) in
    c.in_ok-push.ensures.items ∙ ap (λ ns. ns ++ c.deeper_count.result ∷ []) c.loop-place.invariant ∙ ap (λ n. runs ++ n ∷ []) (c.deeper_count.ensures.count ∙ ap (λ (t : NodeRow). run_length t.depth (take (length rows - (i + 1)) (drop (i + 1) rows))) (sym c.index-rows-place.is) ∙ ap (run_length c.index-rows-place.result.depth) (take_rest rows (i + 1)))
    ∙ sym (runs_more rows i c.index-rows-place.result c.loop-place-test.true c.index-rows-place.is)

pub returns : goal.returns
returns c =
    let rows = c.args.rows.now in
    c.loop-place.invariant ∙ take_all c.loop-place.place (runs_of (depths rows)) (omega (arith, length-runs-rows rows, c.loop-place-test.false))
