-- A ticket at one of its nodes: the rows between the node's bounds, those in front of them, and
-- those behind.
use Rattle.std.proofs.Common.{◌≡◌, ◌∙◌, ℕ, zero, suc, ◌+◌, ◌-◌, ◌<◌, ◌≤◌, ◌&&◌, Bool, true, false}
use Rattle.std.proofs.Common.{cond, List, [], ◌∷◌, ◌++◌, length, take, drop, Option, Some, None}
use Rattle.std.proofs.Common.{refl, sym, ap, append_assoc, arith, is_some, nat_le, nat_lt}
use Rattle.std.proofs.Common.{slice_get}
use Rattle.std.proofs.lemmas.Bool.{and_parts, le-ltb, lt-ltb, ltb-true}
use Rattle.std.proofs.lemmas.List.{drop-drop, take-append-drop}
use Rattle.std.specs.List.{filter}
use Rattle.std.specs.Option.{option_and_then, option_map, option_map_or}
use Rattle.ticket_items.specs.Ids.{mem}
use Rattle.ticket_items.specs.declared.node_row.NodeRow.{NodeRow}
use Rattle.ticket_rows.proofs.Below.{below_unknown}
use Rattle.ticket_rows.specs.Place.{BoundsNodesBelow, Place, is_below, node_place, node_places}
use Rattle.ticket_rows.specs.Place.{parent, place_at, up}
use Rattle.ticket_rows.specs.Ticket.{IsValid, has_node}
use Rattle.ticket_tree.proofs.Between.{filter_between}
use Rattle.ticket_tree.proofs.OwnPlaces.{own_at, stands_below}
use Rattle.ticket_tree.specs.At.{IsAt, rows_below}
use Rattle.ticket_tree.specs.declared.at.At.{At}

-- ---- the first row between the bounds

-- the row of n at a place
record RowAt (rows : List NodeRow) (n : List ℕ) (k : ℕ) : Type 0 where
  row : NodeRow
  there : slice_get rows k ≡ Some row
  named : row.id ≡ n

named_row : (rows : List NodeRow) (n : List ℕ) (k : ℕ) (o : Option NodeRow) → slice_get rows k ≡ o
    → option_map (λ r. r.id) o ≡ Some n → RowAt rows n k
named_row rows n k None there e = cc
named_row rows n k (Some r) there e =
    record { row = r; there = there; named = ap (λ o. option_map_or (λ i. i) o n) e }

root_at : (rows : List NodeRow) (n : List ℕ) (from to : ℕ) → BoundsNodesBelow rows n from to
    → RowAt rows n from
root_at rows n from to bounds = named_row rows n from (slice_get rows from) refl bounds.node

-- the bounds of a node lie apart
pub bounds_apart : (rows : List NodeRow) (n : List ℕ) (from to : ℕ) → IsValid rows
    → BoundsNodesBelow rows n from to → from < to
bounds_apart rows n from to valid bounds =
    let root = root_at rows n from to bounds in
    let own = own_at rows valid from root.row root.there in
    let inside : (nat_le from from && nat_lt from to) ≡ true = sym (bounds.exact from (node_place root.row own.path) own.here) ∙ ap (λ i. mem i own.path) (sym root.named) ∙ own.on in
    ltb-true _ _ (and_parts (nat_le from from) (nat_lt from to) inside).1

-- ---- the parts

whole_is : (rows : List NodeRow) (from to : ℕ) → from ≤ to
    → rows ≡ take from rows ++ take (to - from) (drop from rows) ++ drop to rows
whole_is rows from to within =
    let count : ℕ = to - from in
    let mid = take count (drop from rows) in
    let end : to ≡ from + count = omega (arith, within) in
    sym (append_assoc (take from rows) mid (drop to rows)
    ∙ ap (λ k. take from rows ++ (mid ++ drop k rows)) end
    ∙ ap (λ rs. take from rows ++ (mid ++ rs)) (sym (drop-drop count from rows))
    ∙ ap (λ rs. take from rows ++ rs) (take-append-drop count (drop from rows))
    ∙ take-append-drop from rows)

below_is : (rows : List NodeRow) (n : List ℕ) (from to : ℕ) → IsValid rows
    → BoundsNodesBelow rows n from to → rows_below rows n ≡ take (to - from) (drop from rows)
below_is rows n from to valid bounds =
    filter_between (λ r. is_below (node_places rows) r.id n) rows from to
    (λ k r e. let own = own_at rows valid k r e in stands_below (node_places rows) n r own.path (nat_le from k && nat_lt k to) own.there (bounds.exact k (node_place r own.path) own.here))

first_is : {X : Type 0} (xs : List X) (from count : ℕ) → 0 < count
    → slice_get (take count (drop from xs)) 0 ≡ slice_get xs from
first_is [] zero (suc count) more = refl
first_is [] (suc from) (suc count) more = refl
first_is (x ∷ xs) zero (suc count) more = refl
first_is (x ∷ xs) (suc from) (suc count) more = first_is xs from (suc count) more
first_is xs from zero more =
    let never : ⊥ = omega (arith, more) in
    absurd never

-- what stands in front of a node's bounds, between them and behind, is the ticket at the node
pub is_at : (rows : List NodeRow) (n : List ℕ) (from to : ℕ) (a : At) → IsValid rows
    → BoundsNodesBelow rows n from to → a.front ≡ take from rows
    → a.below ≡ take (to - from) (drop from rows) → a.behind ≡ drop to rows
    → ((r : NodeRow) → slice_get rows from ≡ Some r → a.depth ≡ r.depth)
    → IsAt rows n a
is_at rows n from to a valid bounds front below behind deep =
    let root = root_at rows n from to bounds in
    let own = own_at rows valid from root.row root.there in
    let apart = bounds_apart rows n from to valid bounds in
    let within : from ≤ to = omega (arith, apart) in
    let some : 0 < to - from = omega (arith, apart) in
    record {
      whole = whole_is rows from to within
          ∙ sym (ap (λ rs. rs ++ a.below ++ a.behind) front
          ∙ ap (λ rs. take from rows ++ rs ++ a.behind) below
          ∙ ap (λ rs. take from rows ++ take (to - from) (drop from rows) ++ rs) behind);
      below = below ∙ sym (below_is rows n from to valid bounds);
      first = ap (λ rs. option_map (λ r. r.id) (slice_get rs 0)) below ∙ ap (option_map (λ r. r.id)) (first_is rows from (to - from) some) ∙ bounds.node;
      depth = ap (λ i. option_map (λ p. length p.path) (place_at (node_places rows) i)) (sym root.named) ∙ ap (option_map (λ p. length p.path)) own.there ∙ ap Some (own.long ∙ sym (deep root.row root.there));
    }

-- ---- how deep it stands

longer_than_one : (path : List (List ℕ)) → nat_lt 1 (length path) ≡ is_some (slice_get path 1)
longer_than_one [] = le-ltb 1 0 (omega arith)
longer_than_one (x ∷ []) = le-ltb 1 1 (omega arith)
longer_than_one (x ∷ y ∷ path) = lt-ltb 1 (suc (suc (length path))) (omega arith)

deeper_at : (o : Option Place) (depth : ℕ) → option_map (λ p. length p.path) o ≡ Some depth
    → nat_lt 1 depth ≡ is_some (option_and_then parent o)
deeper_at None depth e = cc
deeper_at (Some p) depth e = ap (λ o. nat_lt 1 (option_map_or (λ d. d) o depth)) (sym e) ∙ longer_than_one p.path

-- a node is deeper than 1 just if it has a parent
pub deeper_has_parent : (rows : List NodeRow) (n : List ℕ) (a : At) → IsAt rows n a
    → nat_lt 1 a.depth ≡ is_some (up (node_places rows) n)
deeper_has_parent rows n a is = deeper_at (place_at (node_places rows) n) a.depth is.depth

-- ---- an unknown node

none_kept : {X : Type 0} (f : X → Bool) (xs : List X) → ((x : X) → f x ≡ false) → filter f xs ≡ []
none_kept f [] none = refl
none_kept f (x ∷ xs) none = ap (λ b. cond b (x ∷ filter f xs) (filter f xs)) (none x) ∙ none_kept f xs none

-- no rows stand below an unknown node
pub none_below_unknown : (rows : List NodeRow) (n : List ℕ) → has_node rows n ≡ false
    → rows_below rows n ≡ []
none_below_unknown rows n unknown = none_kept (λ r. is_below (node_places rows) r.id n) rows (λ r. below_unknown rows r.id n unknown)
