-- The look-ups on rows are look-ups on places and on rows by id.
use Rattle.std.proofs.Common.{◌≡◌, ◌∙◌, ℕ, ◌||◌, Bool, true, false, not, cond, List, [], ◌∷◌, ◌++◌}
use Rattle.std.proofs.Common.{map, Option, Some, None, is_some, refl, sym, ap}
use Rattle.std.proofs.lemmas.Bool.{true≢false, and_parts, or_parts, not-true}
use Rattle.std.proofs.lemmas.Slice.Eq.{bytes_eq-Decides}
use Rattle.std.specs.List.{find, list_any}
use Rattle.std.specs.Option.{option_map}
use Rattle.std.specs.Str.{bytes_eq}
use Rattle.ticket_items.proofs.Apart.{mem-append, later_distinct, or_true}
use Rattle.ticket_items.proofs.AtKey.{any_key}
use Rattle.ticket_items.proofs.Places.{is_some-find}
use Rattle.ticket_items.specs.Ids.{mem, are_distinct}
use Rattle.ticket_rows.proofs.AtHome.{any-map, in_pool}
use Rattle.ticket_rows.proofs.NodePlaces.{nodes_from, node_places-rows, node_ids_distinct}
use Rattle.ticket_rows.proofs.Below.{mem-node_ids}
use Rattle.ticket_rows.proofs.ResourcePlaces.{resources_from, resource_places-rows, home_is}
use Rattle.ticket_rows.specs.Homes.{resource_of}
use Rattle.ticket_rows.specs.Place.{Place, path_of, node_place, resource_place, Row, node_row}
use Rattle.ticket_rows.specs.Place.{is_node, place_at, places, resource_row, rows_by_id}
use Rattle.ticket_rows.specs.Ticket.{ids, node_ids, row_of}
use Rattle.ticket_items.specs.declared.node_row.NodeRow.{NodeRow}
use Rattle.ticket_items.specs.declared.resource.Resource.{Resource}
use Rattle.ticket_tree.proofs.ById.{Line, row_at, line_cond, pool_ids, pool_lines, among_ids}
use Rattle.ticket_tree.proofs.ById.{first_out}
use Rattle.ticket_tree.proofs.ByKind.{found_by_kind, place_of_node, place_of_resource, home_from}
use Rattle.ticket_tree.proofs.OnPlaces.{stands_node, stands_resource, stands_somewhere}
use Rattle.ticket_tree.proofs.PlainOneRow.{resource_of-cons}
use Rattle.ticket_tree.proofs.PlainRows.{keys_of_lines}
use Rattle.ticket_tree.specs.Laws.{NodeIsAtPlace, ResourceIsAtPlace, HomeIsAtPlace}
use Rattle.ticket_tree.specs.Laws.{NodesAmongPlaces, ResourcesAmongPlaces, PlacesByKind}
use Rattle.ticket_tree.specs.Laws.{StandsWithRow, PathIsHomes}

-- ---- places

node_here : (b : Bool) (before : List (List ℕ)) (s : NodeRow) (rows : List NodeRow) (x : List ℕ)
    (r : NodeRow)
    → cond b (Some s) (row_of rows x) ≡ Some r
    → (row_of rows x ≡ Some r
    → (path : List (List ℕ)) × (place_at (nodes_from (path_of before s) rows) x
    ≡ Some (node_place r path)))
    → (path : List (List ℕ))
    × (cond b (Some (node_place s (path_of before s)))
    (place_at (nodes_from (path_of before s) rows) x)
    ≡ Some (node_place r path))
node_here true before s rows x r found go = (path_of before s, ap (option_map (λ t. node_place t (path_of before s))) found)
node_here false before s rows x r found go = go found

node_at : (before : List (List ℕ)) (rows : List NodeRow) (x : List ℕ) (r : NodeRow)
    → row_of rows x ≡ Some r
    → (path : List (List ℕ)) × (place_at (nodes_from before rows) x ≡ Some (node_place r path))
node_at before [] x r found = cc
node_at before (s ∷ rows) x r found = node_here (bytes_eq s.id x) before s rows x r found (node_at (path_of before s) rows x r)

pool_here : (b : Bool) (path : List (List ℕ)) (z : Resource) (pool : List Resource)
    (rest : List Place) (x : List ℕ) (y : Resource)
    → cond b (Some z) (in_pool x pool) ≡ Some y
    → (in_pool x pool ≡ Some y
    → place_at (map (resource_place path) pool ++ rest) x ≡ Some (resource_place path y))
    → cond b (Some (resource_place path z)) (place_at (map (resource_place path) pool ++ rest) x)
    ≡ Some (resource_place path y)
pool_here true path z pool rest x y found go = ap (option_map (resource_place path)) found
pool_here false path z pool rest x y found go = go found

place_in_pool : (path : List (List ℕ)) (pool : List Resource) (rest : List Place) (x : List ℕ)
    (y : Resource)
    → in_pool x pool ≡ Some y
    → place_at (map (resource_place path) pool ++ rest) x ≡ Some (resource_place path y)
place_in_pool path [] rest x y found = cc
place_in_pool path (z ∷ pool) rest x y found = pool_here (bytes_eq z.id x) path z pool rest x y found (place_in_pool path pool rest x y)

place_behind_pool : (path : List (List ℕ)) (pool : List Resource) (rest : List Place) (x : List ℕ)
    → list_any (λ z. bytes_eq z.id x) pool ≡ false
    → place_at (map (resource_place path) pool ++ rest) x ≡ place_at rest x
place_behind_pool path [] rest x none = refl
place_behind_pool path (z ∷ pool) rest x none =
    let parts = or_parts (bytes_eq z.id x) (list_any (λ w. bytes_eq w.id x) pool) none in
    ap (λ b. cond b (Some (resource_place path z)) (place_at (map (resource_place path) pool ++ rest) x)) parts.0 ∙ place_behind_pool path pool rest x parts.1

resource_here : (b : Bool) (before : List (List ℕ)) (s : NodeRow) (rows : List NodeRow) (x : List ℕ)
    (y : Resource)
    → list_any (λ z. bytes_eq z.id x) s.resources ≡ b
    → cond b (in_pool x s.resources) (resource_of rows x) ≡ Some y
    → (resource_of rows x ≡ Some y
    → (path : List (List ℕ)) × (place_at (resources_from (path_of before s) rows) x
    ≡ Some (resource_place path y)))
    → (path : List (List ℕ))
    × (place_at
    (map (resource_place (path_of before s)) s.resources ++ resources_from
    (path_of before s) rows) x
    ≡ Some (resource_place path y))
resource_here true before s rows x y e found go = (path_of before s, place_in_pool (path_of before s) s.resources (resources_from (path_of before s) rows) x y found)
resource_here false before s rows x y e found go =
    let later = go found in
    (later.0, place_behind_pool (path_of before s) s.resources (resources_from (path_of before s) rows) x e ∙ later.1)

resource_at : (before : List (List ℕ)) (rows : List NodeRow) (x : List ℕ) (y : Resource)
    → resource_of rows x ≡ Some y
    → (path : List (List ℕ))
    × (place_at (resources_from before rows) x ≡ Some (resource_place path y))
resource_at before [] x y found = cc
resource_at before (s ∷ rows) x y found =
    resource_here (list_any (λ z. bytes_eq z.id x) s.resources) before s rows x y refl (sym (resource_of-cons x s rows) ∙ found) (resource_at (path_of before s) rows x y)

-- ---- rows by id

row_behind_pool : (x : List ℕ) (pool : List Resource) (rest : List Line)
    → list_any (λ z. bytes_eq z.id x) pool ≡ false
    → row_at (pool_lines pool ++ rest) x ≡ row_at rest x
row_behind_pool x [] rest none = refl
row_behind_pool x (z ∷ pool) rest none =
    let parts = or_parts (bytes_eq z.id x) (list_any (λ w. bytes_eq w.id x) pool) none in
    line_cond (bytes_eq z.id x) (z.id, resource_row z) (find (λ l. bytes_eq l.0 x) (pool_lines pool ++ rest))
    ∙ ap (λ b. cond b (Some (resource_row z)) (row_at (pool_lines pool ++ rest) x)) parts.0 ∙ row_behind_pool x pool rest parts.1

row_here : (b : Bool) (z : Resource) (o : Option Resource) (y : Resource) (rest : Option Row)
    → cond b (Some z) o ≡ Some y → (o ≡ Some y → rest ≡ Some (resource_row y))
    → cond b (Some (resource_row z)) rest ≡ Some (resource_row y)
row_here true z o y rest found go = ap (option_map resource_row) found
row_here false z o y rest found go = go found

row_in_pool : (x : List ℕ) (pool : List Resource) (rest : List Line) (y : Resource)
    → in_pool x pool ≡ Some y → row_at (pool_lines pool ++ rest) x ≡ Some (resource_row y)
row_in_pool x [] rest y found = cc
row_in_pool x (z ∷ pool) rest y found =
    line_cond (bytes_eq z.id x) (z.id, resource_row z) (find (λ l. bytes_eq l.0 x) (pool_lines pool ++ rest))
    ∙ row_here (bytes_eq z.id x) z (in_pool x pool) y (row_at (pool_lines pool ++ rest) x) found (row_in_pool x pool rest y)

-- a row whose id isn't the first one's, nor in the first one's pool
row_later : (s : NodeRow) (rows : List NodeRow) (x : List ℕ) → bytes_eq s.id x ≡ false
    → list_any (λ z. bytes_eq z.id x) s.resources ≡ false
    → row_at (rows_by_id (s ∷ rows)) x ≡ row_at (rows_by_id rows) x
row_later s rows x other none =
    line_cond (bytes_eq s.id x) (s.id, node_row s) (find (λ l. bytes_eq l.0 x) (pool_lines s.resources ++ rows_by_id rows))
    ∙ ap (λ b. cond b (Some (node_row s)) (row_at (pool_lines s.resources ++ rows_by_id rows) x)) other ∙ row_behind_pool x s.resources (rows_by_id rows) none

node_row_here : (b : Bool) (s : NodeRow) (rows : List NodeRow) (x : List ℕ) (r : NodeRow)
    → bytes_eq s.id x ≡ b → are_distinct (pool_ids s ++ ids rows) ≡ true
    → cond b (Some s) (row_of rows x) ≡ Some r
    → (row_of rows x ≡ Some r → row_at (rows_by_id rows) x ≡ Some (node_row r))
    → row_at (rows_by_id (s ∷ rows)) x ≡ Some (node_row r)
node_row_here true s rows x r e apart found go =
    line_cond (bytes_eq s.id x) (s.id, node_row s) (find (λ l. bytes_eq l.0 x) (pool_lines s.resources ++ rows_by_id rows))
    ∙ ap (λ b. cond b (Some (node_row s)) (row_at (pool_lines s.resources ++ rows_by_id rows) x)) e ∙ ap (option_map node_row) found
node_row_here false s rows x r e apart found go =
    let there : mem x (node_ids rows) ≡ true = mem-node_ids rows x ∙ ap is_some found in
    let none : list_any (λ z. bytes_eq z.id x) s.resources ≡ false = sym (any-map x s.resources) ∙ first_out x (pool_ids s) (ids rows) apart (among_ids x rows there) in
    row_later s rows x e none ∙ go found

node_row_at : (rows : List NodeRow) (x : List ℕ) (r : NodeRow) → are_distinct (ids rows) ≡ true
    → row_of rows x ≡ Some r → row_at (rows_by_id rows) x ≡ Some (node_row r)
node_row_at [] x r apart found = cc
node_row_at (s ∷ rows) x r apart found =
    let parts = and_parts _ _ apart in
    node_row_here (bytes_eq s.id x) s rows x r refl parts.1 found (node_row_at rows x r (later_distinct (pool_ids s) (ids rows) parts.1))

-- an id among others isn't the one that isn't
other_one : (b : Bool) (s x : List ℕ) (xs : List (List ℕ)) → bytes_eq s x ≡ b → mem s xs ≡ false
    → mem x xs ≡ true → b ≡ false
other_one true s x xs e out there = absurd (true≢false (sym there ∙ ap (λ i. mem i xs) (sym ((bytes_eq-Decides s x).0 e)) ∙ out))
other_one false s x xs e out there = refl

in_ids : (b : Bool) (x : List ℕ) (xs : List (List ℕ)) → mem x xs ≡ true → (b || mem x xs) ≡ true
in_ids true x xs there = refl
in_ids false x xs there = there

among_here : (b : Bool) (x : List ℕ) (s : NodeRow) (rows : List NodeRow) (y : Resource)
    → list_any (λ z. bytes_eq z.id x) s.resources ≡ b
    → cond b (in_pool x s.resources) (resource_of rows x) ≡ Some y
    → (resource_of rows x ≡ Some y → mem x (ids rows) ≡ true) → mem x (ids (s ∷ rows)) ≡ true
among_here true x s rows y e found go =
    in_ids (bytes_eq s.id x) x (pool_ids s ++ ids rows) (mem-append x (pool_ids s) (ids rows) ∙ ap (λ b. b || mem x (ids rows)) (any-map x s.resources ∙ e))
among_here false x s rows y e found go =
    in_ids (bytes_eq s.id x) x (pool_ids s ++ ids rows) (mem-append x (pool_ids s) (ids rows) ∙ ap (λ b. mem x (pool_ids s) || b) (go found) ∙ or_true (mem x (pool_ids s)))

resource_among : (x : List ℕ) (rows : List NodeRow) (y : Resource) → resource_of rows x ≡ Some y
    → mem x (ids rows) ≡ true
resource_among x [] y found = cc
resource_among x (s ∷ rows) y found = among_here (list_any (λ z. bytes_eq z.id x) s.resources) x s rows y refl (sym (resource_of-cons x s rows) ∙ found) (resource_among x rows y)

resource_row_here : (b : Bool) (s : NodeRow) (rows : List NodeRow) (x : List ℕ) (y : Resource)
    → list_any (λ z. bytes_eq z.id x) s.resources ≡ b → mem s.id (pool_ids s ++ ids rows) ≡ false
    → cond b (in_pool x s.resources) (resource_of rows x) ≡ Some y
    → (resource_of rows x ≡ Some y → row_at (rows_by_id rows) x ≡ Some (resource_row y))
    → row_at (rows_by_id (s ∷ rows)) x ≡ Some (resource_row y)
resource_row_here true s rows x y e alone found go =
    let there : mem x (pool_ids s ++ ids rows) ≡ true = mem-append x (pool_ids s) (ids rows) ∙ ap (λ b. b || mem x (ids rows)) (any-map x s.resources ∙ e) in
    line_cond (bytes_eq s.id x) (s.id, node_row s) (find (λ l. bytes_eq l.0 x) (pool_lines s.resources ++ rows_by_id rows))
    ∙ ap (λ b. cond b (Some (node_row s)) (row_at (pool_lines s.resources ++ rows_by_id rows) x)) (other_one (bytes_eq s.id x) s.id x (pool_ids s ++ ids rows) refl alone there)
    ∙ row_in_pool x s.resources (rows_by_id rows) y found
resource_row_here false s rows x y e alone found go =
    let there : mem x (pool_ids s ++ ids rows) ≡ true = mem-append x (pool_ids s) (ids rows) ∙ ap (λ b. mem x (pool_ids s) || b) (resource_among x rows y found) ∙ or_true (mem x (pool_ids s)) in
    row_later s rows x (other_one (bytes_eq s.id x) s.id x (pool_ids s ++ ids rows) refl alone there) e ∙ go found

resource_row_at : (rows : List NodeRow) (x : List ℕ) (y : Resource) → are_distinct (ids rows) ≡ true
    → resource_of rows x ≡ Some y → row_at (rows_by_id rows) x ≡ Some (resource_row y)
resource_row_at [] x y apart found = cc
resource_row_at (s ∷ rows) x y apart found =
    let parts = and_parts _ _ apart in
    resource_row_here (list_any (λ z. bytes_eq z.id x) s.resources) s rows x y refl (not-true _ parts.0) (sym (resource_of-cons x s rows) ∙ found) (resource_row_at rows x y (later_distinct (pool_ids s) (ids rows) parts.1))

-- ---- the laws

pub node_is_at_place : NodeIsAtPlace
node_is_at_place rows valid x r found =
    let at = node_at [] rows x r found in
    record { path = at.0; place = ap (λ ps. place_at ps x) (node_places-rows rows) ∙ at.1; row = node_row_at rows x r valid.distinct found }

pub resource_is_at_place : ResourceIsAtPlace
resource_is_at_place rows valid x y found =
    let at = resource_at [] rows x y found in
    record { path = at.0; place = ap (λ ps. place_at ps x) (resource_places-rows rows) ∙ at.1; row = resource_row_at rows x y valid.distinct found }

pub home_is_at_place : HomeIsAtPlace
home_is_at_place rows x = sym (home_is rows x)

pub nodes_among_places : NodesAmongPlaces
nodes_among_places rows valid x = (stands_node rows x, λ p found. place_of_node rows x p valid found)

pub resources_among_places : ResourcesAmongPlaces
resources_among_places rows valid x = (stands_resource rows x, λ p found. place_of_resource rows x p valid found)

pub places_by_kind : PlacesByKind
places_by_kind rows x p found = (λ node. found_by_kind is_node (places rows) x p node found, λ other. found_by_kind (λ q. not (is_node q)) (places rows) x p (ap not other) found)

mapped : {X Y : Type 0} (f : X → Y) (o : Option X) → is_some (option_map f o) ≡ is_some o
mapped f None = refl
mapped f (Some x) = refl

pub stands_with_row : StandsWithRow
stands_with_row rows x =
    stands_somewhere rows x ∙ sym (mapped (λ (l : Line). l.1) (find (λ l. bytes_eq l.0 x) (rows_by_id rows)) ∙ is_some-find (λ (l : Line). bytes_eq l.0 x) (rows_by_id rows) ∙ any_key (λ (l : Line). l.0) x (rows_by_id rows) ∙ ap (mem x) (keys_of_lines rows))

pub path_is_homes : PathIsHomes
path_is_homes rows valid x p h found held =
    let home = home_from [] rows x p h (node_ids_distinct rows valid.distinct) (ap (λ ps. place_at ps x) (sym (resource_places-rows rows)) ∙ found) held in
    ap (option_map (λ q. q.path)) (ap (λ ps. place_at ps h) (node_places-rows rows) ∙ home.there) ∙ ap Some home.path
