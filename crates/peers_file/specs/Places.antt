-- Where a pattern stands among rows in order, or where it belongs.
use Rattle.std.specs.Prelude.{◌≡◌, ℕ, List, ◌<◌, ◌≤◌, length}
use Rattle.std.specs.Cmp.Lexicographic.{slice_cmp}
use Rattle.std.specs.List.{AllWithin, HoldsAt}
use Rattle.std.specs.Ordering.{nat_cmp}
use Rattle.std.specs.declared.cmp.Ordering.{Ordering}
use Rattle.std.specs.declared.cmp.Ordering.TheVariants.{Less, Equal, Greater}
use Rattle.url.specs.Parts.{Parts}
use Rattle.peers_file.specs.Table.{Rows}

-- how a pattern compares with the one of a row
abbrev pub Compares : List ℕ → Ordering → List ℕ × Parts → Type 0
Compares pattern order row = slice_cmp nat_cmp pattern row.0 ≡ order

-- the row at the place is the pattern's
pub record StandsAt (pattern : List ℕ) (rows : Rows) (place : ℕ) : Type 0 where
  pub within : place < length rows
  pub behind : AllWithin (Compares pattern Greater) rows 0 place
  pub there : HoldsAt (Compares pattern Equal) rows place

-- no row is the pattern's, and its own belongs at the place
pub record BelongsAt (pattern : List ℕ) (rows : Rows) (place : ℕ) : Type 0 where
  pub within : place ≤ length rows
  pub behind : AllWithin (Compares pattern Greater) rows 0 place
  pub before : AllWithin (Compares pattern Less) rows place (length rows)
