use Rattle.std.proofs.Common.{◌≡◌, ◌∙◌, ◌-◌, ◌<◌, Some, ap, arith, drop, length, sym, take}
use Rattle.std.proofs.lemmas.List.{length-drop, take_all}
use Rattle.std.proofs.lemmas.Option.{slice_get-get_or}
use Rattle.ticket_items.proofs.Places.{same_found}
use Rattle.ticket_items.specs.declared.node_row.NodeRow.{NodeRow}
use Rattle.ticket_tree.proofs.at.At.between.Goals as goal

pub returns-clause-front : goal.returns-clause-front
returns-clause-front c =
    let whole : c.args.from - 0 ≡ c.args.from = omega arith in
    c.between-front.ensures ∙ ap (λ n. take n c.args.rows.now) whole

pub returns-clause-behind : goal.returns-clause-behind
returns-clause-behind c =
    let rows = c.args.rows.now in
    let to = c.args.to in
    c.between-behind.ensures ∙ ap (λ n. take (n - to) (drop to rows)) c.len.ensures ∙ take_all (length rows - to) (drop to rows) (omega (arith, length-drop to rows))

pub returns-clause-depth : goal.returns-clause-depth
returns-clause-depth c r there =
    let rows = c.args.rows.now in
    let s = c.at.result.now in
    let within : c.args.from < length rows = omega (arith, c.requires.apart, c.requires.within) in
    ap (λ (t : NodeRow). t.depth) (same_found s r _ (slice_get-get_or rows c.args.from s within ∙ ap Some (sym c.at.ensures)) there)
