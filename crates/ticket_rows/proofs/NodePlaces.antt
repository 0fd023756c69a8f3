-- The places of the nodes alone, row by row; and the ids of the nodes among all ids.
use Rattle.std.proofs.Common.{◌≡◌, ℕ, ◌||◌, true, false, List, [], ◌∷◌, ◌++◌, map, refl, ap, ◌∙◌}
use Rattle.std.proofs.lemmas.Bool.{and_parts, and_from, or_parts, not-true, not_from_false}
use Rattle.std.specs.List.{filter}
use Rattle.std.specs.Str.{bytes_eq}
use Rattle.ticket_items.proofs.Apart.{later_part, later_distinct}
use Rattle.ticket_items.specs.Ids.{mem, are_distinct}
use Rattle.ticket_rows.specs.Place.{Place, node_place, resource_place, places_from, node_places}
use Rattle.ticket_rows.specs.Place.{is_node, path_of}
use Rattle.ticket_rows.specs.Ticket.{ids, node_ids}
use Rattle.ticket_items.specs.declared.node_row.NodeRow.{NodeRow}
use Rattle.ticket_items.specs.declared.resource.Resource.{Resource}

abbrev pub nodes_from : List (List ℕ) → List NodeRow → List Place
nodes_from before [] = []
nodes_from before (r ∷ rows) = node_place r (path_of before r) ∷ nodes_from (path_of before r) rows

no_nodes : (path : List (List ℕ)) (xs : List Resource) (rest : List Place)
    → filter is_node (map (resource_place path) xs ++ rest) ≡ filter is_node rest
no_nodes path [] rest = refl
no_nodes path (x ∷ xs) rest = no_nodes path xs rest

nodes_among : (before : List (List ℕ)) (rows : List NodeRow)
    → filter is_node (places_from before rows) ≡ nodes_from before rows
nodes_among before [] = refl
nodes_among before (r ∷ rows) =
    ap (λ ps. node_place r (path_of before r) ∷ ps) (no_nodes (path_of before r) r.resources (places_from (path_of before r) rows) ∙ nodes_among (path_of before r) rows)

pub node_places-rows : (rows : List NodeRow) → node_places rows ≡ nodes_from [] rows
node_places-rows rows = nodes_among [] rows

-- ---- ids

-- what is no id is no node's id
pub no_node_id : (x : List ℕ) (rows : List NodeRow) → mem x (ids rows) ≡ false
    → mem x (node_ids rows) ≡ false
no_node_id x [] out = refl
no_node_id x (r ∷ rows) out =
    let parts = or_parts (bytes_eq r.id x) _ out in
    ap (λ b. b || mem x (node_ids rows)) parts.0 ∙ no_node_id x rows (later_part x (map (λ y. y.id) r.resources) (ids rows) parts.1)

-- where all ids are apart, those of the nodes are
pub node_ids_distinct : (rows : List NodeRow) → are_distinct (ids rows) ≡ true
    → are_distinct (node_ids rows) ≡ true
node_ids_distinct [] h = refl
node_ids_distinct (r ∷ rows) h =
    let parts = and_parts _ _ h in
    let own : List (List ℕ) = map (λ y. y.id) r.resources in
    and_from _ _ (not_from_false _ (no_node_id r.id rows (later_part r.id own (ids rows) (not-true _ parts.0)))) (node_ids_distinct rows (later_distinct own (ids rows) parts.1))
