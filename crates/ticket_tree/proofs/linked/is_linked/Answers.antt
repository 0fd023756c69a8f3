use Rattle.std.proofs.Common.{◌≡◌, ◌∙◌, ◌+◌, ◌<◌, ◌||◌, ap, arith, drop, length, sym}
use Rattle.std.proofs.lemmas.List.{drop_all, drop_more}
use Rattle.std.specs.List.{list_any}
use Rattle.std.specs.Str.{bytes_eq}
use Rattle.ticket_items.specs.declared.node_row.NodeRow.{NodeRow}
use Rattle.ticket_tree.specs.Part.{is_linked}
use Rattle.ticket_tree.proofs.linked.is_linked.Goals as goal

pub returns-then-links : goal.returns-then-links
returns-then-links c =
    let rows = c.args.rows.now in
    let x = c.args.id.now in
    let i = c.loop-place.place in
    let test = λ (r : NodeRow). list_any (λ l. bytes_eq l.rref x) r.links in
    let within : i < length rows = omega (arith, c.loop-place-test.true, c.len-place-end.ensures) in
    sym (sym c.loop-place.invariant ∙ ap (list_any test) (drop_more rows i c.at.result.now within)
    ∙ ap (λ b. b || is_linked (drop (i + 1) rows) x) (ap test (sym c.at.ensures) ∙ sym c.links.ensures ∙ c.if-links.true))

pub loop-place-preserved : goal.loop-place-preserved
loop-place-preserved c =
    let rows = c.args.rows.now in
    let x = c.args.id.now in
    let i = c.loop-place.place in
    let test = λ (r : NodeRow). list_any (λ l. bytes_eq l.rref x) r.links in
    let within : i < length rows = omega (arith, c.loop-place-test.true, c.len-place-end.ensures) in
    sym (ap (list_any test) (drop_more rows i c.at.result.now within)
    ∙ ap (λ b. b || is_linked (drop (i + 1) rows) x) (ap test (sym c.at.ensures) ∙ sym c.links.ensures ∙ c.if-links.false))
    ∙ c.loop-place.invariant

pub returns : goal.returns
returns c =
    let x = c.args.id.now in
    sym (ap (λ rs. is_linked rs x) (drop_all c.loop-place.place c.args.rows.now (omega (arith, c.loop-place-test.false, c.len-place-end.ensures)))) ∙ c.loop-place.invariant
