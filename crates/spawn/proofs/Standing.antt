-- Where an id stands: its place among all places, and the path of it.
use Rattle.std.proofs.Common.{◌≡◌, ◌∙◌, ℕ, true, false, List, [], Option, Some, None, is_some, refl}
use Rattle.std.proofs.Common.{sym, ap}
use Rattle.std.proofs.lemmas.Slice.Eq.{bytes_eq-Decides}
use Rattle.std.specs.Option.{option_map_or, option_and_then}
use Rattle.std.specs.Str.{bytes_eq}
use Rattle.ticket_rows.proofs.AtHome.{find-passes}
use Rattle.ticket_rows.proofs.NodePlaces.{node_places-rows, node_ids_distinct}
use Rattle.ticket_tree.proofs.OnPlaces.{stands_node}
use Rattle.ticket_rows.proofs.ResourcePlaces.{resource_places-rows, home_is}
use Rattle.ticket_rows.specs.Homes.{home_of}
use Rattle.ticket_items.specs.Ids.{mem}
use Rattle.ticket_rows.specs.Place.{Place, places, node_places, resource_places, place_at, below}
use Rattle.ticket_rows.specs.Place.{is_below, home_at}
use Rattle.ticket_rows.specs.Ticket.{IsValid, has_node}
use Rattle.ticket_items.specs.declared.node_row.NodeRow.{NodeRow}
pub use Rattle.ticket_tree.proofs.ByKind.{found_among, ids_apart, place_of_node, place_of_resource}
use Rattle.ticket_tree.proofs.ByKind.{home_from}

-- ---- the node at which an id stands

-- the place of an id, which is below just what the node is below
pub record StandsAt (rows : List NodeRow) (x h : List ℕ) : Type 0 where
  pub place : Place
  pub there : place_at (places rows) x ≡ Some place
  pub id : place.id ≡ x
  pub below_as : (n : List ℕ) → below n place ≡ is_below (node_places rows) h n

pub named : (tree : List Place) (x : List ℕ) (p : Place) → place_at tree x ≡ Some p → p.id ≡ x
named tree x p found = (bytes_eq-Decides p.id x).0 (find-passes (λ q. bytes_eq q.id x) tree p found)

some_of : {X : Type 0} (o : Option X) → is_some o ≡ true → (x : X) × (o ≡ Some x)
some_of None h = cc
some_of (Some x) h = (x, refl)

pub node_stands : (rows : List NodeRow) (x : List ℕ) → IsValid rows → has_node rows x ≡ true
    → StandsAt rows x x
node_stands rows x valid known =
    let found = some_of (place_at (node_places rows) x) (stands_node rows x ∙ known) in
    let there = place_of_node rows x found.0 valid found.1 in
    record { place = found.0; there = there; id = named (places rows) x found.0 there; below_as = λ n. sym (ap (λ o. option_map_or (below n) o false) found.1) }

pub held_some : {X : Type 0} (f : Place → Option X) (o : Option Place) (h : X)
    → option_and_then f o ≡ Some h → (q : Place) × (o ≡ Some q) × (f q ≡ Some h)
held_some f None h e = cc
held_some f (Some q) h e = (q, refl, e)

pub resource_stands : (rows : List NodeRow) (x h : List ℕ) → IsValid rows → home_of rows x ≡ Some h
    → StandsAt rows x h
resource_stands rows x h valid known =
    let found = held_some home_at (place_at (resource_places rows) x) h (home_is rows x ∙ known) in
    let there = place_of_resource rows x found.0 valid found.1 in
    let rowwise = ap (λ ps. place_at ps x) (sym (resource_places-rows rows)) ∙ found.1 in
    let home = home_from [] rows x found.0 h (node_ids_distinct rows valid.distinct) rowwise found.2 in
    let node = ap (λ ps. place_at ps h) (node_places-rows rows) ∙ home.there in
    record {
      place = found.0;
      there = there;
      id = named (places rows) x found.0 there;
      below_as = λ n. ap (mem n) (sym home.path) ∙ sym (ap (λ o. option_map_or (below n) o false) node);
    }
