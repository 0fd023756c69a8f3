-- The ticket that is seen is the master's: a valid ticket's rows are those that its places and its rows by id tell.
use Rattle.std.proofs.Common.{◌≡◌, ◌∙◌, ℕ, Bool, true, false, not, cond, List, [], ◌∷◌, ◌++◌, map, Some, refl, ap, append-nil}
use Rattle.std.proofs.lemmas.Bool.{and_parts, not-true, or_parts}
use Rattle.std.proofs.lemmas.List.Elements.{filter-append, filter_map-append}
use Rattle.std.specs.List.{cons_option, filter, filter_map, find, flat_map}
use Rattle.std.specs.Option.{option_and_then, option_map}
use Rattle.std.specs.Str.{bytes_eq}
use Rattle.ticket_items.proofs.Apart.{bytes_eq-same, bytes_eq-symm}
use Rattle.ticket_items.specs.Ids.{are_distinct, mem}
use Rattle.ticket_items.specs.declared.node_row.NodeRow.{NodeRow}
use Rattle.ticket_items.specs.declared.resource.Resource.{Resource}
use Rattle.ticket_rows.proofs.Below.{Follows, Follows-outline, Path, length-path_of}
use Rattle.ticket_rows.proofs.NodePlaces.{node_ids_distinct}
use Rattle.ticket_rows.specs.Place.{Place, node_place, node_thing, path_of, places, places_from, places_of, resource_place, resource_thing, row_in, rows_by_id, rows_by_id_of}
use Rattle.ticket_rows.specs.Ticket.{IsValid, node_ids}
use Rattle.ticket_tree.proofs.ById.{Line, pool_lines, row_at}
use Rattle.ticket_tree.proofs.PlainRows.{keys_of_lines}
use Rattle.ticket_tree.specs.PlainEdit.{is_at}
use Rattle.world.specs.Laws.{TicketIsSeen}
use Rattle.plain_shop.specs.SeenTicket.{as_node, as_resource, node_there, nodes_told, pool_of, resource_there}
use Rattle.plain_shop.specs.Shop.{Rows}

-- ---- each line is found by its id

-- each of these lines is what is known under its id
abbrev OwnLines : Rows → List Line → Type 0
OwnLines f [] = Unit {0}
OwnLines f (l ∷ ls) = (f l.0 ≡ Some l.1) × OwnLines f ls

own_later : (l : Line) (all ls : List Line) → mem l.0 (map (λ k. k.0) ls) ≡ false → OwnLines (row_at all) ls → OwnLines (row_at (l ∷ all)) ls
own_later l all [] out own = tt
own_later l all (k ∷ ls) out own =
    let parts = or_parts (bytes_eq k.0 l.0) (mem l.0 (map (λ i. i.0) ls)) out in (
      ap (λ b. option_map (λ (i : Line). i.1) (cond b (Some l) (find (λ i. bytes_eq i.0 k.0) all))) (bytes_eq-symm l.0 k.0 ∙ parts.0) ∙ own.0,
      own_later l all ls parts.1 own.1,
    )

own_lines : (ls : List Line) → are_distinct (map (λ l. l.0) ls) ≡ true → OwnLines (row_at ls) ls
own_lines [] apart = tt
own_lines (l ∷ ls) apart =
    let parts = and_parts (not (mem l.0 (map (λ k. k.0) ls))) (are_distinct (map (λ k. k.0) ls)) apart in (
      ap (λ b. option_map (λ (i : Line). i.1) (cond b (Some l) (find (λ i. bytes_eq i.0 l.0) ls))) (bytes_eq-same l.0),
      own_later l ls ls (not-true _ parts.0) (own_lines ls parts.1),
    )

own_parts : (f : Rows) (xs ys : List Line) → OwnLines f (xs ++ ys) → OwnLines f xs × OwnLines f ys
own_parts f [] ys own = (tt, own)
own_parts f (x ∷ xs) ys own =
    let parts = own_parts f xs ys own.1 in
    ((own.0, parts.0), parts.1)

-- ---- pools

-- the resources of a node's pool, if this is the node
abbrev pick : List ℕ → NodeRow → List Resource
pick n r = cond (bytes_eq r.id n) r.resources []

pool_told : (f : Rows) (path : Path) (xs : List Resource) → OwnLines f (pool_lines xs) → filter_map (resource_there f) (map (resource_place path) xs) ≡ xs
pool_told f path [] own = refl
pool_told f path (x ∷ xs) own =
    ap (λ o. cons_option (option_and_then (as_resource x.id (resource_thing x)) o) (filter_map (resource_there f) (map (resource_place path) xs))) own.0 ∙ ap (λ ys. x ∷ ys) (pool_told f path xs own.1)

pool_at : (n id : List ℕ) (above : Path) (xs : List Resource) (b : Bool) → bytes_eq id n ≡ b → filter (is_at n) (map (resource_place (id ∷ above)) xs) ≡ cond b (map (resource_place (id ∷ above)) xs) []
pool_at n id above [] true e = refl
pool_at n id above [] false e = refl
pool_at n id above (x ∷ xs) b e =
    let p : Place = resource_place (id ∷ above) x in
    let later = filter (is_at n) (map (resource_place (id ∷ above)) xs) in
    ap (λ t. cond t (p ∷ later) later) e ∙ here b (pool_at n id above xs b e)
  where
    here : (b : Bool) → filter (is_at n) (map (resource_place (id ∷ above)) xs) ≡ cond b (map (resource_place (id ∷ above)) xs) []
        → cond b (resource_place (id ∷ above) x ∷ filter (is_at n) (map (resource_place (id ∷ above)) xs)) (filter (is_at n) (map (resource_place (id ∷ above)) xs))
        ≡ cond b (resource_place (id ∷ above) x ∷ map (resource_place (id ∷ above)) xs) []
    here true rest = ap (λ ps. resource_place (id ∷ above) x ∷ ps) rest
    here false rest = rest

own_pool : (f : Rows) (n : List ℕ) (before : Path) (r : NodeRow) (b : Bool) → bytes_eq r.id n ≡ b → OwnLines f (rows_by_id_of r) → filter_map (resource_there f) (filter (is_at n) (places_of r (path_of before r))) ≡ cond b r.resources []
own_pool f n before r b e own =
    let path = path_of before r in
    let p : Place = node_place r path in
    let later = filter (is_at n) (map (resource_place path) r.resources) in
    ap (λ t. filter_map (resource_there f) (cond t (p ∷ later) later)) e ∙ ap (λ ps. filter_map (resource_there f) (cond b (p ∷ ps) ps)) (pool_at n r.id _ r.resources b e) ∙ here b
  where
    here : (b : Bool) → filter_map (resource_there f) (cond b (node_place r (path_of before r) ∷ cond b (map (resource_place (path_of before r)) r.resources) []) (cond b (map (resource_place (path_of before r)) r.resources) [])) ≡ cond b r.resources []
    here true = ap (λ o. cons_option (option_and_then (as_resource r.id (node_thing r)) o) (filter_map (resource_there f) (map (resource_place (path_of before r)) r.resources))) own.0 ∙ pool_told f (path_of before r) r.resources own.1
    here false = refl

pools_there : (f : Rows) (n : List ℕ) (before : Path) (rows : List NodeRow) → OwnLines f (rows_by_id rows) → pool_of (places_from before rows) f n ≡ flat_map (pick n) rows
pools_there f n before [] own = refl
pools_there f n before (r ∷ rows) own =
    let path = path_of before r in
    let parts = own_parts f (rows_by_id_of r) (rows_by_id rows) own in
    ap (filter_map (resource_there f)) (filter-append (is_at n) (places_of r path) (places_from path rows))
    ∙ filter_map-append (resource_there f) (filter (is_at n) (places_of r path)) (filter (is_at n) (places_from path rows))
    ∙ ap (λ xs. xs ++ pool_of (places_from path rows) f n) (own_pool f n before r (bytes_eq r.id n) refl parts.0)
    ∙ ap (λ xs. pick n r ++ xs) (pools_there f n path rows parts.1)

-- ---- each node has the pool of its id

abbrev OwnPools : (List ℕ → List Resource) → List NodeRow → Type 0
OwnPools pool [] = Unit {0}
OwnPools pool (r ∷ rows) = (pool r.id ≡ r.resources) × OwnPools pool rows

none_picked : (n : List ℕ) (rows : List NodeRow) → mem n (node_ids rows) ≡ false → flat_map (pick n) rows ≡ []
none_picked n [] out = refl
none_picked n (r ∷ rows) out =
    let parts = or_parts (bytes_eq r.id n) (mem n (node_ids rows)) out in
    ap (λ b. cond b r.resources [] ++ flat_map (pick n) rows) parts.0 ∙ none_picked n rows parts.1

pools_later : (r : NodeRow) (all rows : List NodeRow) → mem r.id (node_ids rows) ≡ false → OwnPools (λ n. flat_map (pick n) all) rows → OwnPools (λ n. flat_map (pick n) (r ∷ all)) rows
pools_later r all [] out own = tt
pools_later r all (s ∷ rows) out own =
    let parts = or_parts (bytes_eq s.id r.id) (mem r.id (node_ids rows)) out in
    (ap (λ b. cond b r.resources [] ++ flat_map (pick s.id) all) (bytes_eq-symm r.id s.id ∙ parts.0) ∙ own.0, pools_later r all rows parts.1 own.1)

own_pools : (rows : List NodeRow) → are_distinct (node_ids rows) ≡ true → OwnPools (λ n. flat_map (pick n) rows) rows
own_pools [] apart = tt
own_pools (r ∷ rows) apart =
    let parts = and_parts (not (mem r.id (node_ids rows))) (are_distinct (node_ids rows)) apart in
    let out = not-true _ parts.0 in (
      ap (λ b. cond b r.resources [] ++ flat_map (pick r.id) rows) (bytes_eq-same r.id) ∙ ap (λ xs. r.resources ++ xs) (none_picked r.id rows out) ∙ append-nil r.resources,
      pools_later r rows rows out (own_pools rows parts.1),
    )

with_pools : (pool : List ℕ → List Resource) (rows : List NodeRow) → OwnPools pool rows → map (λ (r : NodeRow). record r { resources = pool r.id }) rows ≡ rows
with_pools pool [] own = refl
with_pools pool (r ∷ rows) own =
    ap (λ xs. record r { resources = xs } ∷ map (λ (s : NodeRow). record s { resources = pool s.id }) rows) own.0 ∙ ap (λ rs. r ∷ rs) (with_pools pool rows own.1)

-- ---- nodes

no_nodes : (tree : List Place) (f : Rows) (path : Path) (xs : List Resource) → OwnLines f (pool_lines xs) → filter_map (node_there tree f) (map (resource_place path) xs) ≡ []
no_nodes tree f path [] own = refl
no_nodes tree f path (x ∷ xs) own =
    let p : Place = resource_place path x in
    ap (λ o. cons_option (option_and_then (as_node p (pool_of tree f x.id) (resource_thing x)) o) (filter_map (node_there tree f) (map (resource_place path) xs))) own.0 ∙ no_nodes tree f path xs own.1

nodes_there : (tree : List Place) (f : Rows) (before : Path) (rows : List NodeRow) → Follows before rows → OwnLines f (rows_by_id rows) → filter_map (node_there tree f) (places_from before rows) ≡ map (λ (r : NodeRow). record r { resources = pool_of tree f r.id }) rows
nodes_there tree f before [] follows own = refl
nodes_there tree f before (r ∷ rows) follows own =
    let path = path_of before r in
    let p : Place = node_place r path in
    let pool = pool_of tree f r.id in
    let parts = own_parts f (rows_by_id_of r) (rows_by_id rows) own in
    let resources = map (resource_place path) r.resources in
    let later = filter_map (node_there tree f) (resources ++ places_from path rows) in
    ap (λ o. cons_option (option_and_then (as_node p pool (node_thing r)) o) later) own.0
    ∙ ap (λ d. record r { depth = d; resources = pool } ∷ later) (length-path_of before r follows.0 follows.1)
    ∙ ap (λ rs. record r { resources = pool } ∷ rs)
    (filter_map-append (node_there tree f) resources (places_from path rows)
    ∙ ap (λ rs. rs ++ filter_map (node_there tree f) (places_from path rows)) (no_nodes tree f path r.resources parts.0.1)
    ∙ nodes_there tree f path rows follows.2 parts.1)

-- ---- the whole

pub rows_told : (rows : List NodeRow) → IsValid rows → nodes_told (places rows) (row_in rows) ≡ rows
rows_told rows valid =
    let own = own_lines (rows_by_id rows) (ap are_distinct (keys_of_lines rows) ∙ valid.distinct) in
    nodes_there (places rows) (row_in rows) [] rows (Follows-outline rows valid.tree) own
    ∙ ap (λ (pool : List ℕ → List Resource). map (λ (r : NodeRow). record r { resources = pool r.id }) rows) (λ j n. pools_there (row_in rows) n [] rows own j)
    ∙ with_pools (λ n. flat_map (pick n) rows) rows (own_pools rows (node_ids_distinct rows valid.distinct))

pub ticket_is_seen : TicketIsSeen
ticket_is_seen w ok =
    let ticket = w.controllers.master.ticket in
    ap (λ rows. record ticket { rows = rows }) (rows_told ticket.rows ok.master.valid)
