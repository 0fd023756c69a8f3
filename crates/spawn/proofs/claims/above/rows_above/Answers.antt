use Rattle.std.proofs.Common.{◌∙◌, ◌-◌, ap, sym, take}
use Rattle.std.proofs.lemmas.List.{take-map}
use Rattle.spawn.proofs.Ancestry.{borrowed}
use Rattle.spawn.proofs.claims.above.rows_above.Goals as goal

pub returns : goal.returns
returns c =
    ap borrowed (c.truncate.ensures.items ∙ ap (λ n. take n c.in_ok-way.way.items) c.levels.ensures)
    ∙ sym (take-map (λ s. s.now) (c.args.at.now.depth - 1) c.in_ok-way.way.items)
    ∙ ap (take (c.args.at.now.depth - 1)) c.in_ok-way.ensures
