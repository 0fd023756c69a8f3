-- A ticket at one of its nodes.
use Rattle.std.specs.Prelude.{◌≡◌, ℕ, List, ◌++◌, length, Some, slice_get}
use Rattle.std.specs.List.{filter}
use Rattle.std.specs.Option.{option_map}
use Rattle.ticket_rows.specs.Place.{node_places, place_at, is_below}
use Rattle.ticket_items.specs.declared.node_row.NodeRow.{NodeRow}
use Rattle.ticket_tree.specs.declared.at.At.{At}

-- the rows of n and of the nodes below it
abbrev pub rows_below : List NodeRow → List ℕ → List NodeRow
rows_below rows n = filter (λ r. is_below (node_places rows) r.id n) rows

-- the rows are those in front of n, its own, which comes first, with those below it, and those
-- behind; and its depth is the length of its path
pub record IsAt (rows : List NodeRow) (n : List ℕ) (a : At) : Type 0 where
  pub whole : rows ≡ a.front ++ a.below ++ a.behind
  pub below : a.below ≡ rows_below rows n
  pub first : option_map (λ r. r.id) (slice_get a.below 0) ≡ Some n
  pub depth : option_map (λ p. length p.path) (place_at (node_places rows) n) ≡ Some a.depth
