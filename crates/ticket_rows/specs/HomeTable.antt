-- A table of homes: ids of nodes under ids of resources, both borrowed.
use Rattle.std.specs.Prelude.{ℕ, Bool, List, if◌then◌else◌, Option, Some, None}
use Rattle.std.specs.Borrow.{Bor}
use Rattle.std.specs.BTreeMap.{BTreeMap, get_by}
use Rattle.std.specs.Cmp.Lexicographic.{slice_cmp}
use Rattle.std.specs.Option.{option_map, option_map_or}
use Rattle.std.specs.Ordering.{nat_cmp}

-- the home that stands in the table under an id
abbrev pub home_in : BTreeMap (Bor (List ℕ)) (Bor (List ℕ)) → List ℕ → Option (List ℕ)
home_in homes x = option_map (λ h. h.now) (get_by (λ k. slice_cmp nat_cmp x k.now) homes)

-- the home that is known, or else this one where the test holds
abbrev pub or_here : Bool → List ℕ → Option (List ℕ) → Option (List ℕ)
or_here here home known = option_map_or Some known (if here then Some home else None)

-- the home that is known, or else the later one
abbrev pub or_known : Option (List ℕ) → Option (List ℕ) → Option (List ℕ)
or_known known later = option_map_or Some known later
