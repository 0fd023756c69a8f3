-- Sets of borrowed ids.
use Rattle.std.specs.Prelude.{◌≡◌, ℕ, Bool, List}
use Rattle.std.specs.BTreeSet.{BTreeSet, contains_by}
use Rattle.std.specs.Borrow.{Bor}
use Rattle.std.specs.Cmp.Lexicographic.{slice_cmp}
use Rattle.std.specs.Ordering.{nat_cmp}

abbrev pub IdSet : Type 0
IdSet = BTreeSet (Bor (List ℕ))

-- whether the id is in the set
abbrev pub is_in : IdSet → List ℕ → Bool
is_in set x = contains_by (λ k. slice_cmp nat_cmp x k.now) set

-- the set has just the ids that pass a test
pub record IsSetOf (f : List ℕ → Bool) (s : IdSet) : Type 0 where
  pub just : (x : List ℕ) → is_in s x ≡ f x
