use Rattle.std.proofs.Common.{◌≡◌, ◌∙◌, IfOk, map, ap, subst}
use Rattle.spawn.specs.Parts.{as_ancestor}
use Rattle.spawn.proofs.Ancestry.{borrowed, borrowed_ancestors}
use Rattle.spawn.proofs.claims.above.ancestors_of.Goals as goal

pub returns : goal.returns
returns c =
    subst (λ xs. IfOk c.as_ancestors.result (λ v. v.items ≡ xs)) (borrowed_ancestors c.as_slice.result.now ∙ ap (map as_ancestor) (ap borrowed c.as_slice.ensures.value ∙ c.in_ok-above.ensures)) c.as_ancestors.ensures
