-- Where a name stands among attributes in a list, or where it belongs.
use Rattle.std.specs.Prelude.{◌≡◌, ℕ, List, ◌<◌, ◌≤◌, length}
use Rattle.std.specs.Cmp.Lexicographic.{slice_cmp}
use Rattle.std.specs.List.{AllWithin, HoldsAt}
use Rattle.std.specs.Ordering.{nat_cmp}
use Rattle.std.specs.declared.cmp.Ordering.{Ordering}
use Rattle.std.specs.declared.cmp.Ordering.TheVariants.{Less, Equal, Greater}
use Rattle.ticket_items.specs.Attrs.{Pairs}

-- how a name compares with the one of a pair
abbrev pub Compares : List ℕ → Ordering → List ℕ × List ℕ → Type 0
Compares name order pair = slice_cmp nat_cmp name pair.0 ≡ order

-- the pair at the place is the name's
pub record StandsAt (name : List ℕ) (pairs : Pairs) (place : ℕ) : Type 0 where
  pub within : place < length pairs
  pub behind : AllWithin (Compares name Greater) pairs 0 place
  pub there : HoldsAt (Compares name Equal) pairs place

-- no pair is the name's, and its own belongs at the place
pub record BelongsAt (name : List ℕ) (pairs : Pairs) (place : ℕ) : Type 0 where
  pub within : place ≤ length pairs
  pub behind : AllWithin (Compares name Greater) pairs 0 place
  pub before : AllWithin (Compares name Less) pairs place (length pairs)
