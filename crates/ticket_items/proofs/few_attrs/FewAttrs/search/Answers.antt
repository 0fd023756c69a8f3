use Rattle.std.proofs.Common.{rules}
use Rattle.std.proofs.lemmas.Fn.{always_returns_same}
use Rattle.std.specs.Cmp.Lexicographic.{slice_cmp}
use Rattle.std.specs.Ordering.{nat_cmp}
use Rattle.ticket_items.proofs.AttrPlaces.{searched}
use Rattle.ticket_items.proofs.few_attrs.FewAttrs.search.Goals as goal

-- the closure compares the name of a pair, and the slice has the pairs
pub returns : goal.returns
returns c =
    let ends = c.binary_search_by.ensures.position (λ p. slice_cmp nat_cmp p.0 c.args.name.now) (always_returns_same _ _ _ (λ a r f called. search rules)) in
    rw (← c.self.view_is, ← c.deref.ensures.value) (searched c.args.name.now _ (rw c.deref.ensures.value c.self.invariant) _ c.binary_search_by.ensures.bound ends)
