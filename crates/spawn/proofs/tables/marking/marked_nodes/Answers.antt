use Rattle.std.proofs.Common.{◌≡◌, ◌∙◌, ◌++◌, ◌∷◌, [], get_or, take, sym, ap, arith}
use Rattle.std.specs.List.{filter}
use Rattle.ticket_rows.specs.Ticket.{node_ids}
use Rattle.spawn.proofs.Shown.{nodes_more, nodes_same}
use Rattle.spawn.specs.IdSet.{is_in}
use Rattle.spawn.proofs.tables.marking.marked_nodes.Goals as goal
use Rattle.spawn.proofs.tables.marking.marked_nodes.Goals.{then-has+in_ok-copy+in_ok-push, else-has}

pub loop-place-preserved : goal.loop-place-preserved
loop-place-preserved c =
    let rows = c.args.rows.now in
    let spawned = c.args.spawned.now in
    let i = c.loop-place.place in
    let d = c.at-row.result.now in
    let there : c.has.result ≡ is_in spawned (get_or rows i d).id = c.has.ensures ∙ ap (λ r. is_in spawned r.id) c.at-row.ensures in
    elim c.if-has.branch [
      | then-has+in_ok-copy+in_ok-push w ↦
          ap (λ v. v.items) w.nodes-is ∙ w.in_ok-push.ensures.items ∙ ap (λ is. is ++ w.in_ok-copy.field-0 ∷ []) c.loop-place.invariant
          ∙ ap (λ y. filter (is_in spawned) (node_ids (take i rows)) ++ y ∷ []) (w.in_ok-copy.ensures ∙ ap (λ r. r.id) c.at-row.ensures)
          ∙ nodes_more (is_in spawned) rows i d (omega (arith, c.loop-place-test.true, c.len-place-end.ensures)) (sym there ∙ w.if-has.true)
      | else-has w ↦ ap (λ v. v.items) w.nodes-is ∙ c.loop-place.invariant ∙ nodes_same (is_in spawned) rows i d (omega (arith, c.loop-place-test.true, c.len-place-end.ensures)) (sym there ∙ w.if-has.false)
    ]
