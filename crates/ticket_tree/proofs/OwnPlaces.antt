-- The place of each row is found by its id, and stands among those of the nodes where the row does.
use Rattle.std.proofs.Common.{◌≡◌, ℕ, zero, suc, ◌-◌, ◌||◌, Bool, true, false, not, List, [], ◌∷◌}
use Rattle.std.proofs.Common.{length, Some, refl, sym, ap, ◌∙◌, subst, slice_get}
use Rattle.std.proofs.lemmas.Bool.{and_parts}
use Rattle.std.specs.Option.{option_map_or}
use Rattle.ticket_items.proofs.Apart.{bytes_eq-same}
use Rattle.ticket_items.specs.Ids.{mem, are_distinct}
use Rattle.ticket_items.specs.declared.node_row.NodeRow.{NodeRow}
use Rattle.ticket_rows.proofs.Below.{Path, Follows, Follows-outline, length-path_of}
use Rattle.ticket_rows.proofs.NodePlaces.{nodes_from, node_places-rows, node_ids_distinct}
use Rattle.ticket_rows.specs.Place.{Place, below, is_below, node_place, node_places, path_of}
use Rattle.ticket_rows.specs.Place.{last_of, place_at}
use Rattle.ticket_rows.specs.Ticket.{IsValid, node_ids}
use Rattle.ticket_tree.proofs.Parents.{FindsAll, finds_here, finds_later}

-- each row's place is found by its id
abbrev pub OwnPlaces : List Place → Path → List NodeRow → Type 0
OwnPlaces tree before [] = Unit {0}
OwnPlaces tree before (r ∷ rows) = (place_at tree r.id ≡ Some (node_place r (path_of before r))) × OwnPlaces tree (path_of before r) rows

own_places : (tree : List Place) (before : Path) (rows : List NodeRow)
    → FindsAll tree (nodes_from before rows) → are_distinct (node_ids rows) ≡ true
    → OwnPlaces tree before rows
own_places tree before [] finds apart = tt
own_places tree before (r ∷ rows) finds apart = (
  finds_here tree before r rows finds,
  own_places tree (path_of before r) rows (finds_later tree before r rows apart finds) (and_parts (not (mem r.id (node_ids rows))) (are_distinct (node_ids rows)) apart).1,
)

pub own_places-rows : (rows : List NodeRow) → IsValid rows → OwnPlaces (node_places rows) [] rows
own_places-rows rows valid =
    own_places (node_places rows) [] rows (λ y p found. ap (λ ps. place_at ps y) (node_places-rows rows) ∙ found) (node_ids_distinct rows valid.distinct)

pub stands_below : (tree : List Place) (n : List ℕ) (r : NodeRow) (path : Path) (b : Bool)
    → place_at tree r.id ≡ Some (node_place r path) → mem n path ≡ b → is_below tree r.id n ≡ b
stands_below tree n r path b there on = ap (λ o. option_map_or (below n) o false) there ∙ on

-- ---- by their numbers

-- the k-th row stands at the k-th place, which is that of its id
pub record OwnAt (tree nodes : List Place) (k : ℕ) (r : NodeRow) : Type 0 where
  pub path : Path
  pub here : slice_get nodes k ≡ Some (node_place r path)
  pub there : place_at tree r.id ≡ Some (node_place r path)
  pub on : mem r.id path ≡ true
  pub long : length path ≡ r.depth

own_from : (tree : List Place) (before : Path) (rows : List NodeRow) → OwnPlaces tree before rows
    → Follows before rows
    → (k : ℕ) (r : NodeRow) → slice_get rows k ≡ Some r → OwnAt tree (nodes_from before rows) k r
own_from tree before [] own follows k r e = cc
own_from tree before (s ∷ rows) own follows zero r e =
    subst (OwnAt tree (nodes_from before (s ∷ rows)) zero) (ap (λ o. option_map_or (λ t. t) o s) e)
    (record {
      path = path_of before s;
      here = refl;
      there = own.0;
      on = ap (λ b. b || mem s.id (last_of (s.depth - 1) before)) (bytes_eq-same s.id);
      long = length-path_of before s follows.0 follows.1;
    })
own_from tree before (s ∷ rows) own follows (suc k) r e =
    let later = own_from tree (path_of before s) rows own.1 follows.2 k r e in
    record { path = later.path; here = later.here; there = later.there; on = later.on; long = later.long }

pub own_at : (rows : List NodeRow) → IsValid rows → (k : ℕ) (r : NodeRow)
    → slice_get rows k ≡ Some r → OwnAt (node_places rows) (node_places rows) k r
own_at rows valid k r e =
    subst (λ nodes. OwnAt (node_places rows) nodes k r) (sym (node_places-rows rows)) (own_from (node_places rows) [] rows (own_places-rows rows valid) (Follows-outline rows valid.tree) k r e)
