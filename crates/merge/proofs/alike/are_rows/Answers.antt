use Rattle.std.proofs.Common.{◌∙◌, sym}
use Rattle.std.proofs.lemmas.Bool.{ne_eqb}
use Rattle.merge.specs.Alike.{is_row}
use Rattle.merge.proofs.Told.{pairs_unlike}
use Rattle.merge.proofs.alike.are_rows.Goals as goal

pub are_alike-requires : goal.are_alike-requires
are_alike-requires c = sym c.len.ensures ∙ c.if-len-new.true

pub returns-else-len-new : goal.returns-else-len-new
returns-else-len-new c =
    ne_eqb _ _ c.if-len-new.false ∙ sym (pairs_unlike (is_row c.args.levels) c.args.old.now c.args.new.now (λ same. c.if-len-new.false (c.len.ensures ∙ same)))
