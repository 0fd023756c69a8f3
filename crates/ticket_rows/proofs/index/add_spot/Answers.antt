use Rattle.std.proofs.Common.{◌∙◌, Some, cond, ap}
use Rattle.std.proofs.lemmas.Map.Text.{is_eq-slice_cmp}
use Rattle.std.specs.Str.{bytes_eq}
use Rattle.ticket_rows.specs.Index.{spot_under}
use Rattle.ticket_rows.proofs.index.add_spot.Goals as goal

pub returns-clause-added : goal.returns-clause-added
returns-clause-added c x =
    let old = spot_under c.args.spots.now x in
    c.in_ok-known.ensures.updates.0 x ∙ ap (λ b. cond b (Some c.args.spot) old) (is_eq-slice_cmp _ x) ∙ ap (λ i. cond (bytes_eq i x) (Some c.args.spot) old) c.in_ok-clone.ensures.cases
