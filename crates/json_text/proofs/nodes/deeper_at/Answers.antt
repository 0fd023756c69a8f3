use Rattle.std.proofs.Common.{◌∙◌, ◌∷◌, ◌+◌, ◌<◌, drop, length, sym, ap, arith}
use Rattle.std.proofs.lemmas.Bool.{le-ltb}
use Rattle.std.proofs.lemmas.List.{drop_more}
use Rattle.json_text.specs.TicketText.{is_front_deeper}
use Rattle.json_text.proofs.nodes.deeper_at.Goals as goal

pub returns-then-depth-row-clause-row : goal.returns-then-depth-row-clause-row
returns-then-depth-row-clause-row c =
    let rows = c.args.rows.now in
    let at = c.args.at in
    let row = c.at-row.result.now in
    let within : at < length rows = omega (arith, c.if-at-len.false, c.len.ensures) in
    record {
      within = within;
      is = drop_more rows at row within ∙ ap (λ r. r ∷ drop (at + 1) rows) (sym c.at-row.ensures);
      deeper = c.if-depth-row.true;
    }

pub returns-else-depth-row-clause-row : goal.returns-else-depth-row-clause-row
returns-else-depth-row-clause-row c =
    let rows = c.args.rows.now in
    let at = c.args.at in
    let row = c.at-row.result.now in
    let within : at < length rows = omega (arith, c.if-at-len.false, c.len.ensures) in
    ap (is_front_deeper c.args.depth) (drop_more rows at row within ∙ ap (λ r. r ∷ drop (at + 1) rows) (sym c.at-row.ensures)) ∙ le-ltb c.args.depth row.depth c.if-depth-row.false
