use Rattle.std.proofs.Common.{◌∙◌, ◌+◌, ◌++◌, ◌∷◌, [], ap, append_assoc, arith, drop, map, sym}
use Rattle.std.proofs.lemmas.List.{append-nil, drop_all, drop_more, map_push}
use Rattle.job_picture.specs.Marked.{mark_in}
use Rattle.job_picture.specs.Picture.{held_line}
use Rattle.job_picture.specs.Rows.{line_of, node_line}
use Rattle.job_picture.proofs.master_picture.held_lines.Goals as goal

pub loop-place-preserved : goal.loop-place-preserved
loop-place-preserved c =
    let rows = c.args.rows.now in
    let i = c.loop-place.place in
    let r = c.at-row.result.now in
    let f = held_line c.args.master.now (mark_in c.args.marked.now) in
    let line = c.in_ok-node_line.field-0 in
    let old = map line_of c.loop-place.lines.items in
    let rest = map f (drop (i + 1) rows) in
    ap (λ ls. map line_of ls ++ rest) c.in_ok-push.ensures.items
    ∙ ap (λ xs. xs ++ rest) (map_push line_of c.loop-place.lines.items line)
    ∙ append_assoc old (line_of line ∷ []) rest
    ∙ ap (λ y. old ++ y ∷ rest) (c.in_ok-node_line.ensures ∙ ap (λ s. node_line (mark_in c.args.marked.now) r s []) c.spawn_at.ensures ∙ ap f c.at-row.ensures)
    ∙ ap (λ rs. old ++ map f rs) (sym (drop_more rows i r (omega (arith, c.loop-place-test.true, c.len-place-end.ensures))))
    ∙ c.loop-place.invariant

pub returns : goal.returns
returns c =
    let f = held_line c.args.master.now (mark_in c.args.marked.now) in
    let old = map line_of c.loop-place.lines.items in
    sym (append-nil old) ∙ ap (λ rs. old ++ map f rs) (sym (drop_all c.loop-place.place c.args.rows.now (omega (arith, c.loop-place-test.false, c.len-place-end.ensures))))
    ∙ c.loop-place.invariant
