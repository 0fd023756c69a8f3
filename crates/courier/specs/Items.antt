-- Items, by their numbers, of which none stands twice.
use Rattle.std.specs.Prelude.{◌≡◌, ℕ, ◌==◌, Bool, true, not, ◌&&◌, List, [], ◌∷◌}
use Rattle.std.specs.List.{list_any}
use Rattle.std.specs.Ordering.{nat_cmp}
use Rattle.std.specs.BTreeSet.{BTreeSet, contains}

-- the item is among them
abbrev pub has : ℕ → List ℕ → Bool
has item items = list_any (λ i. i == item) items

-- none stands twice
abbrev pub all_differ : List ℕ → Bool
all_differ [] = true
all_differ (item ∷ items) = not (has item items) && all_differ items

-- the set is that of the items
abbrev pub IsSetOf : List ℕ → BTreeSet ℕ → Type 0
IsSetOf items set = (item : ℕ) → contains nat_cmp set item ≡ has item items
