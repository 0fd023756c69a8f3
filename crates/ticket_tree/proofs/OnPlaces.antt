-- Ids, nodes, resources and room, found on the places as among the rows.
use Rattle.std.proofs.Common.{◌≡◌, ℕ, ◌||◌, Bool, true, false, cond, List, [], ◌∷◌, ◌++◌, length}
use Rattle.std.proofs.Common.{map, Option, Some, None, is_some, refl, sym, ap, ◌∙◌, nat_lt}
use Rattle.std.proofs.lemmas.List.{map-append}
use Rattle.std.specs.List.{find, list_any}
use Rattle.std.specs.Option.{option_map, option_map_or, option_and_then}
use Rattle.std.specs.Str.{bytes_eq}
use Rattle.ticket_items.proofs.AtKey.{any_key}
use Rattle.ticket_items.proofs.Places.{is_some-find}
use Rattle.ticket_rows.proofs.AtHome.{entry-found, in_pool, holds}
use Rattle.ticket_rows.proofs.Below.{Follows, Follows-outline, length-path_of, is_some-place_at}
use Rattle.ticket_rows.proofs.NodePlaces.{nodes_from, node_places-rows}
use Rattle.ticket_rows.proofs.ResourcePlaces.{resources_from, resource_places-rows, home_is}
use Rattle.ticket_rows.specs.Edit.{has_room, reaches}
use Rattle.ticket_rows.specs.Homes.{has_resource}
use Rattle.ticket_items.specs.Ids.{mem}
use Rattle.ticket_rows.specs.Place.{Place, node_place, resource_place, places_from, places}
use Rattle.ticket_rows.specs.Place.{node_places, resource_places, place_at, is_below, path_of}
use Rattle.ticket_tree.specs.PlainEdit.{stands, has_room_below, is_home_above}
use Rattle.ticket_rows.specs.Ticket.{IsValid, ids, has_node, row_of, max_depth}
use Rattle.ticket_items.specs.declared.node_row.NodeRow.{NodeRow}
use Rattle.ticket_items.specs.declared.resource.Resource.{Resource}

-- ---- what stands at a place

pub stands_among : (tree : List Place) (x : List ℕ) → stands tree x ≡ mem x (map (λ p. p.id) tree)
stands_among tree x = is_some-find (λ p. bytes_eq p.id x) tree ∙ any_key (λ p. p.id) x tree

pub pool_ids : (path : List (List ℕ)) (xs : List Resource)
    → map (λ p. p.id) (map (resource_place path) xs) ≡ map (λ x. x.id) xs
pool_ids path [] = refl
pool_ids path (x ∷ xs) = ap (λ is. x.id ∷ is) (pool_ids path xs)

-- the places have the ids of the rows
pub ids_of_places : (before : List (List ℕ)) (rows : List NodeRow)
    → map (λ p. p.id) (places_from before rows) ≡ ids rows
ids_of_places before [] = refl
ids_of_places before (r ∷ rows) =
    ap (λ is. r.id ∷ is) (map-append (λ p. p.id) (map (resource_place (path_of before r)) r.resources) (places_from (path_of before r) rows)
    ∙ ap (λ is. is ++ map (λ p. p.id) (places_from (path_of before r) rows)) (pool_ids (path_of before r) r.resources)
    ∙ ap (λ is. map (λ x. x.id) r.resources ++ is) (ids_of_places (path_of before r) rows))

pub stands_somewhere : (rows : List NodeRow) (x : List ℕ)
    → stands (places rows) x ≡ mem x (ids rows)
stands_somewhere rows x = stands_among (places rows) x ∙ ap (mem x) (ids_of_places [] rows)

pub stands_node : (rows : List NodeRow) (x : List ℕ) → stands (node_places rows) x ≡ has_node rows x
stands_node rows x = ap (λ nodes. stands nodes x) (node_places-rows rows) ∙ is_some-place_at [] rows x

-- ---- resources on the places

some_at : (b : Bool) (p : Place) (o : Option Place) (c : Bool) → is_some o ≡ c
    → is_some (cond b (Some p) o) ≡ (b || c)
some_at true p o c e = refl
some_at false p o c e = e

or_assoc : (a b c : Bool) → (a || (b || c)) ≡ ((a || b) || c)
or_assoc true b c = refl
or_assoc false b c = refl

stands_in_pool : (path : List (List ℕ)) (x : List ℕ) (pool : List Resource) (rest : List Place)
    → stands (map (resource_place path) pool ++ rest) x
    ≡ (list_any (λ y. bytes_eq y.id x) pool || stands rest x)
stands_in_pool path x [] rest = refl
stands_in_pool path x (y ∷ pool) rest =
    some_at (bytes_eq y.id x) (resource_place path y) (place_at (map (resource_place path) pool ++ rest) x) _ (stands_in_pool path x pool rest) ∙ or_assoc (bytes_eq y.id x) (list_any (λ z. bytes_eq z.id x) pool) (stands rest x)

stands_from : (before : List (List ℕ)) (rows : List NodeRow) (x : List ℕ)
    → stands (resources_from before rows) x ≡ list_any (holds x) rows
stands_from before [] x = refl
stands_from before (r ∷ rows) x = stands_in_pool (path_of before r) x r.resources (resources_from (path_of before r) rows) ∙ ap (λ b. holds x r || b) (stands_from (path_of before r) rows x)

some_mapped : {X Y : Type 0} (f : X → Y) (o : Option X) → is_some (option_map f o) ≡ is_some o
some_mapped f None = refl
some_mapped f (Some x) = refl

held_at : (b : Bool) (x : List ℕ) (r : NodeRow) (o : Option NodeRow) → holds x r ≡ b
    → is_some {T = Resource × List ℕ}
    (option_and_then (λ s. option_map (λ y. (y, s.id)) (in_pool x s.resources)) o)
    ≡ is_some o
    → is_some {T = Resource × List ℕ}
    (option_and_then (λ s. option_map (λ y. (y, s.id)) (in_pool x s.resources)) (cond b (Some r) o))
    ≡ is_some (cond b (Some r) o)
held_at true x r o e later = some_mapped (λ y. (y, r.id)) (in_pool x r.resources) ∙ is_some-find (λ y. bytes_eq y.id x) r.resources ∙ e
held_at false x r o e later = later

some_held : (x : List ℕ) (rows : List NodeRow)
    → is_some {T = Resource × List ℕ}
    (option_and_then (λ r. option_map (λ y. (y, r.id)) (in_pool x r.resources))
    (find (holds x) rows))
    ≡ is_some (find (holds x) rows)
some_held x [] = refl
some_held x (r ∷ rows) = held_at (holds x r) x r (find (holds x) rows) refl (some_held x rows)

pub has_resource-any : (rows : List NodeRow) (x : List ℕ)
    → list_any (holds x) rows ≡ has_resource rows x
has_resource-any rows x = sym (is_some-find (holds x) rows) ∙ sym (some_held x rows) ∙ sym (ap is_some (entry-found rows x))

pub stands_resource : (rows : List NodeRow) (x : List ℕ)
    → stands (resource_places rows) x ≡ has_resource rows x
stands_resource rows x =
    ap (λ ps. stands ps x) (resource_places-rows rows) ∙ stands_from [] rows x ∙ has_resource-any rows x

-- ---- room

room_at : (b : Bool) (before : List (List ℕ)) (r : NodeRow) (p : Option Place) (o : Option NodeRow)
    → length (path_of before r) ≡ r.depth
    → option_map_or (λ q. nat_lt (length q.path) max_depth) p false
    ≡ option_map_or (λ s. nat_lt s.depth max_depth) o false
    → option_map_or (λ q. nat_lt (length q.path) max_depth)
    (cond b (Some (node_place r (path_of before r))) p) false
    ≡ option_map_or (λ s. nat_lt s.depth max_depth) (cond b (Some r) o) false
room_at true before r p o long later = ap (λ n. nat_lt n max_depth) long
room_at false before r p o long later = later

room_from : (before : List (List ℕ)) (rows : List NodeRow) (n : List ℕ) → Follows before rows
    → option_map_or (λ q. nat_lt (length q.path) max_depth)
    (place_at (nodes_from before rows) n) false
    ≡ has_room rows n
room_from before [] n follows = refl
room_from before (r ∷ rows) n follows =
    room_at (bytes_eq r.id n) before r (place_at (nodes_from (path_of before r) rows) n) (row_of rows n) (length-path_of before r follows.0 follows.1) (room_from (path_of before r) rows n follows.2)

pub room_is : (rows : List NodeRow) (n : List ℕ) → IsValid rows
    → has_room_below (places rows) n ≡ has_room rows n
room_is rows n valid = ap (λ nodes. option_map_or (λ q. nat_lt (length q.path) max_depth) (place_at nodes n) false) (node_places-rows rows) ∙ room_from [] rows n (Follows-outline rows valid.tree)

pub above_is : (rows : List NodeRow) (n x : List ℕ)
    → is_home_above (places rows) n x ≡ reaches rows n x
above_is rows n x = ap (λ o. option_map_or (is_below (node_places rows) n) o false) (home_is rows x)
