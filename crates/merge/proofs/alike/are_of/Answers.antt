use Rattle.std.proofs.Common.{◌∙◌, rules, tests}
use Rattle.std.proofs.lemmas.Iterator.{YieldsList-from_slice, YieldsList-from_zip}
use Rattle.std.proofs.lemmas.Iterator.Search.{all_from_yields_List}
use Rattle.merge.proofs.Told.{pairs_all}
use Rattle.merge.proofs.alike.are_of.Goals as goal

pub returns-then-resources-items : goal.returns-then-resources-items
returns-then-resources-items g c =
    all_from_yields_List (λ p. g.T.OfResource.is_of p.0 p.1) c.all.new.self _ _ c.all.ensures.ran
    (YieldsList-from_zip {s = c.zip.result} (YieldsList-from_slice c.args.resources.now cc) (YieldsList-from_slice c.args.items.now cc))
    (λ x b q k. search (rules, tests))
    ∙ pairs_all g.T.OfResource.is_of c.args.resources.now c.args.items.now c.if-resources-items.true
