-- Each act on the rows makes of the places what it makes of them on the plain ticket.
use Rattle.std.proofs.Common.{◌≡◌, ℕ, true, List, [], ◌∷◌, Option, Some, None, is_some, refl}
use Rattle.std.proofs.Common.{sym, ap, ◌∙◌}
use Rattle.std.proofs.lemmas.Bool.{true≢false}
use Rattle.std.specs.Option.{option_map_or}
use Rattle.ticket_rows.proofs.Below.{Follows-outline, is_some-place_at}
use Rattle.ticket_rows.proofs.NewNode.{walked_child}
use Rattle.ticket_rows.proofs.NodePlaces.{nodes_from, node_places-rows, node_ids_distinct}
use Rattle.ticket_tree.proofs.PlainNode.{places-add_node}
use Rattle.ticket_tree.proofs.PlainPlaces.{places-with_row, places-with_resource, places-add_link}
use Rattle.ticket_tree.proofs.PlainPlaces.{places-add_resource}
use Rattle.ticket_tree.proofs.PlainRows.{apart_node}
use Rattle.ticket_rows.proofs.Reasons.{child_new, target_known}
use Rattle.ticket_items.specs.Act.{Act, NodeChange, ResourceChange, NodeAddition, act_of}
use Rattle.ticket_items.specs.Act.{NewNode, NewResource, NewLink}
use Rattle.ticket_rows.specs.Edit.{act_rows, bare_row, behind_last, changed_node, changed_resource}
use Rattle.ticket_rows.specs.Edit.{lookups}
use Rattle.ticket_rows.specs.EditRefusal.{act_refusal}
use Rattle.ticket_tree.specs.Laws.{EditOfPlaces}
use Rattle.ticket_rows.specs.Place.{Place, node, resource_place, places, place_at, below}
use Rattle.ticket_tree.specs.PlainEdit.{act_places, is_at, path_at}
use Rattle.ticket_rows.specs.Ticket.{IsValid, has_node}
use Rattle.ticket_items.specs.declared.node_row.NodeRow.{NodeRow}

-- the place of a node that is there
some_of : (o : Option Place) → is_some o ≡ true → (p : Place) × (o ≡ Some p)
some_of None there = absurd (true≢false (sym there))
some_of (Some p) there = (p, refl)

there : (rows : List NodeRow) (n : List ℕ) → has_node rows n ≡ true
    → (p : Place) × (place_at (nodes_from [] rows) n ≡ Some p)
there rows n known = some_of (place_at (nodes_from [] rows) n) (is_some-place_at [] rows n ∙ known)

path_there : (rows : List NodeRow) (n : List ℕ) (p : Place)
    → place_at (nodes_from [] rows) n ≡ Some p → path_at (places rows) n ≡ p.path
path_there rows n p found = ap (λ nodes. option_map_or (λ q. q.path) (place_at nodes n) []) (node_places-rows rows) ∙ ap (λ o. option_map_or (λ q. q.path) o []) found

pub act_of_places : (a : Act) (at : ℕ) (rows : List NodeRow) → IsValid rows
    → act_refusal a (lookups rows) ≡ None → places (act_rows a at rows) ≡ act_places a (places rows)
act_of_places (NodeChange n change) at rows valid free = places-with_row n (changed_node change at) [] rows (record { path = λ before r. refl; places = λ path r. refl })
act_of_places (ResourceChange x change) at rows valid free = places-with_resource x (changed_resource change) [] rows (λ path y. refl)
act_of_places (NodeAddition n (NewNode new)) at rows valid free =
    let fit = child_new n new (lookups rows) free in
    let found = there rows n fit.0 in
    let bare = bare_row new.id new.kind new.job_part new.status in
    ap places (walked_child n bare rows valid fit.0)
    ∙ places-add_node n bare new.id new.kind new.job_part found.0 [] rows (record { deep = λ d. refl; pool = λ d. refl; place = λ d path. refl; named = λ d. refl }) refl (node_ids_distinct rows valid.distinct) (Follows-outline rows valid.tree) found.1
    ∙ ap (λ path. behind_last (below n) (record { id = new.id; path = new.id ∷ path; thing = node new.kind new.job_part [] }) (places rows)) (sym (path_there rows n found.0 found.1))
act_of_places (NodeAddition n (NewResource x)) at rows valid free =
    let found = there rows n (target_known (NodeAddition n (NewResource x)) (lookups rows) free) in
    places-add_resource n x found.0 [] rows (node_ids_distinct rows valid.distinct) found.1
    ∙ ap (λ path. behind_last (is_at n) (resource_place path x) (places rows)) (sym (path_there rows n found.0 found.1))
act_of_places (NodeAddition n (NewLink link)) at rows valid free = places-add_link n link [] rows (apart_node rows n valid (target_known (NodeAddition n (NewLink link)) (lookups rows) free))

pub edit_of_places : EditOfPlaces
edit_of_places e at rows valid free = act_of_places (act_of e) at rows valid free
