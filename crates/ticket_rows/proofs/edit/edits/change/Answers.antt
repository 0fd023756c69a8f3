use Rattle.std.proofs.Common.{rules, ◌≡◌, ℕ, List, ◌∙◌, ◌+◌, ◌++◌, ◌∷◌, [], Some, drop, get_or, refl, sym, ap, slice_get}
use Rattle.std.proofs.lemmas.Bool.{ltb-true}
use Rattle.std.proofs.lemmas.Option.{slice_get-get_or}
use Rattle.std.specs.List.{position}
use Rattle.std.specs.Str.{bytes_eq}
use Rattle.ticket_items.proofs.Places.{below_length, found_at_position, same_found}
use Rattle.ticket_items.specs.Act.{BareNode}
use Rattle.ticket_items.specs.Attrs.{with_attr}
use Rattle.ticket_items.specs.declared.audit.Audit.TheVariants.{Notification}
use Rattle.ticket_items.specs.declared.node_row.NodeRow.{NodeRow}
use Rattle.ticket_items.specs.declared.resource.Resource.{Resource}
use Rattle.ticket_rows.proofs.AtHome.{holds}
use Rattle.ticket_rows.proofs.AtPlaces.{map-at_place, row_at_place, then_ok}
use Rattle.ticket_rows.proofs.Below.{run_length}
use Rattle.ticket_rows.proofs.IndexFollows.{index_same, index_stays, shapes-with_resource}
use Rattle.ticket_rows.proofs.NewNode.{inserted_child, room_at}
use Rattle.ticket_rows.proofs.Reasons.{child_new, resource_new}
use Rattle.ticket_rows.specs.Boxed.{contents}
use Rattle.ticket_rows.specs.ChangedRow.{at_place, changed_place}
use Rattle.ticket_rows.specs.Edit.{bare_row, edited_rows, lookups, refusal_of}
use Rattle.ticket_rows.specs.Index.{shape_of, shapes_of}
use Rattle.ticket_rows.specs.Ticket.{max_depth}
use Rattle.ticket_rows.proofs.edit.edits.change.Goals as goal

abbrev child : (id kind job_part status : List ℕ) → BareNode
child id kind job_part status = record { id = id; kind = kind; job_part = job_part; status = status }

pub set_status-requires : goal.set_status-requires
set_status-requires c = below_length (λ r. bytes_eq r.id c.in-SetStatus.node) (contents c.args.rows.now.items) c.args.place (ap (λ e. changed_place e (contents c.args.rows.now.items)) (sym c.in-SetStatus.is) ∙ c.requires.place)

pub returns-in-SetStatus-clause-ok : goal.returns-in-SetStatus-clause-ok
returns-in-SetStatus-clause-ok c =
    c.set_status.ensures ∙ row_at_place c.in-SetStatus.node (λ (r : NodeRow). record r { status = c.in-SetStatus.status }) (contents c.args.rows.now.items) c.args.place c.requires.valid.distinct (ap (λ e. changed_place e (contents c.args.rows.now.items)) (sym c.in-SetStatus.is) ∙ c.requires.place)
    ∙ ap (λ e. edited_rows e c.args.at (contents c.args.rows.now.items)) (sym c.in-SetStatus.is)

pub set_attr-requires : goal.set_attr-requires
set_attr-requires c = below_length (λ r. bytes_eq r.id c.in-SetAttr.node) (contents c.args.rows.now.items) c.args.place (ap (λ e. changed_place e (contents c.args.rows.now.items)) (sym c.in-SetAttr.is) ∙ c.requires.place)

pub returns-in-SetAttr-clause-ok : goal.returns-in-SetAttr-clause-ok
returns-in-SetAttr-clause-ok c =
    then_ok c.set_attr.result _ _ _ c.set_attr.ensures.ok
    (row_at_place c.in-SetAttr.node (λ (r : NodeRow). record r { attrs = with_attr c.in-SetAttr.name c.in-SetAttr.value r.attrs }) (contents c.args.rows.now.items) c.args.place c.requires.valid.distinct (ap (λ e. changed_place e (contents c.args.rows.now.items)) (sym c.in-SetAttr.is) ∙ c.requires.place)
    ∙ ap (λ e. edited_rows e c.args.at (contents c.args.rows.now.items)) (sym c.in-SetAttr.is))

pub append-requires : goal.append-requires
append-requires c = below_length (λ r. bytes_eq r.id c.in-Note.node) (contents c.args.rows.now.items) c.args.place (ap (λ e. changed_place e (contents c.args.rows.now.items)) (sym c.in-Note.is) ∙ c.requires.place)

pub returns-in-Note-clause-ok : goal.returns-in-Note-clause-ok
returns-in-Note-clause-ok c =
    then_ok c.append.result _ _ _ c.append.ensures.ok
    (row_at_place c.in-Note.node (λ (r : NodeRow). record r { audits = r.audits ++ Notification c.args.at c.in-Note.text ∷ [] }) (contents c.args.rows.now.items) c.args.place c.requires.valid.distinct (ap (λ e. changed_place e (contents c.args.rows.now.items)) (sym c.in-Note.is) ∙ c.requires.place)
    ∙ ap (λ e. edited_rows e c.args.at (contents c.args.rows.now.items)) (sym c.in-Note.is))

pub add_resource-requires-clause-within : goal.add_resource-requires-clause-within
add_resource-requires-clause-within c = below_length (λ r. bytes_eq r.id c.in-AddResource.node) (contents c.args.rows.now.items) c.args.place (ap (λ e. changed_place e (contents c.args.rows.now.items)) (sym c.in-AddResource.is) ∙ c.requires.place)

pub returns-in-AddResource-clause-ok : goal.returns-in-AddResource-clause-ok
returns-in-AddResource-clause-ok c =
    then_ok c.add_resource.result _ _ _ c.add_resource.ensures.ok
    (row_at_place c.in-AddResource.node (λ (r : NodeRow). record r { resources = r.resources ++ c.in-AddResource.resource ∷ [] }) (contents c.args.rows.now.items) c.args.place c.requires.valid.distinct (ap (λ e. changed_place e (contents c.args.rows.now.items)) (sym c.in-AddResource.is) ∙ c.requires.place)
    ∙ ap (λ e. edited_rows e c.args.at (contents c.args.rows.now.items)) (sym c.in-AddResource.is))

pub add_link-requires : goal.add_link-requires
add_link-requires c = below_length (λ r. bytes_eq r.id c.in-AddLink.node) (contents c.args.rows.now.items) c.args.place (ap (λ e. changed_place e (contents c.args.rows.now.items)) (sym c.in-AddLink.is) ∙ c.requires.place)

pub returns-clause-ok : goal.returns-clause-ok
returns-clause-ok c =
    then_ok c.add_link.result _ _ _ c.add_link.ensures.ok
    (row_at_place c.in-AddLink.node (λ (r : NodeRow). record r { links = r.links ++ c.in-AddLink.link ∷ [] }) (contents c.args.rows.now.items) c.args.place c.requires.valid.distinct (ap (λ e. changed_place e (contents c.args.rows.now.items)) (sym c.in-AddLink.is) ∙ c.requires.place)
    ∙ ap (λ e. edited_rows e c.args.at (contents c.args.rows.now.items)) (sym c.in-AddLink.is))

pub set_resource_status-requires-clause-home : goal.set_resource_status-requires-clause-home
set_resource_status-requires-clause-home c =
    let named : position (holds c.in-SetResStatus.resource) (contents c.args.rows.now.items) ≡ Some c.args.place = ap (λ e. changed_place e (contents c.args.rows.now.items)) (sym c.in-SetResStatus.is) ∙ c.requires.place in
    search (rules, named)

pub set_resource_attr-requires-clause-home : goal.set_resource_attr-requires-clause-home
set_resource_attr-requires-clause-home c =
    let named : position (holds c.in-SetResAttr.resource) (contents c.args.rows.now.items) ≡ Some c.args.place = ap (λ e. changed_place e (contents c.args.rows.now.items)) (sym c.in-SetResAttr.is) ∙ c.requires.place in
    search (rules, named)

pub add_node-requires-clause-within : goal.add_node-requires-clause-within
add_node-requires-clause-within c = below_length (λ r. bytes_eq r.id c.in-AddNode.node) (contents c.args.rows.now.items) c.args.place (ap (λ e. changed_place e (contents c.args.rows.now.items)) (sym c.in-AddNode.is) ∙ c.requires.place)

pub add_node-requires-clause-shallow : goal.add_node-requires-clause-shallow
add_node-requires-clause-shallow c r at =
    let rows = contents c.args.rows.now.items in
    let x = c.in-AddNode.node in
    let none = ap (λ e. refusal_of e rows) (sym c.in-AddNode.is) ∙ c.requires.open in
    let fit = child_new x (child c.in-AddNode.id c.in-AddNode.kind c.in-AddNode.job_part c.in-AddNode.status) (lookups rows) none in
    let there = found_at_position (λ s. bytes_eq s.id x) rows c.args.place (ap (λ e. changed_place e (contents c.args.rows.now.items)) (sym c.in-AddNode.is) ∙ c.requires.place) in
    ltb-true r.depth max_depth (room_at rows x r (there.1 ∙ ap Some (same_found there.0 r (slice_get rows c.args.place) there.2 at)) fit.3)

pub add_node-requires-clause-new : goal.add_node-requires-clause-new
add_node-requires-clause-new c =
    let rows = contents c.args.rows.now.items in
    let none = ap (λ e. refusal_of e rows) (sym c.in-AddNode.is) ∙ c.requires.open in
    (child_new c.in-AddNode.node (child c.in-AddNode.id c.in-AddNode.kind c.in-AddNode.job_part c.in-AddNode.status) (lookups rows) none).2

pub returns-in-AddNode-clause-ok : goal.returns-in-AddNode-clause-ok
returns-in-AddNode-clause-ok c =
    let rows = contents c.args.rows.now.items in
    let k = c.args.place in
    let x = c.in-AddNode.node in
    let found = (ap (λ e. changed_place e (contents c.args.rows.now.items)) (sym c.in-AddNode.is) ∙ c.requires.place) in
    let there = found_at_position (λ s. bytes_eq s.id x) rows k found in
    let s : NodeRow = there.0 in
    let is : s ≡ get_or rows k s = same_found s (get_or rows k s) (slice_get rows k) there.2 (slice_get-get_or rows k s (below_length (λ t. bytes_eq t.id x) rows k found)) in
    then_ok c.add_node.result _ _ _ (c.add_node.ensures.ok s there.2)
    (inserted_child x (bare_row c.in-AddNode.id c.in-AddNode.kind c.in-AddNode.job_part c.in-AddNode.status) rows rows (drop (k + 1) rows) k (run_length s.depth (drop (k + 1) rows)) s c.requires.valid refl refl found is refl
    ∙ ap (λ e. edited_rows e c.args.at rows) (sym c.in-AddNode.is))

pub returns-in-SetStatus-clause-index : goal.returns-in-SetStatus-clause-index
returns-in-SetStatus-clause-index c =
    index_same (contents c.args.rows.now.items) _ c.args.index.now (ap shapes_of c.set_status.ensures ∙ map-at_place shape_of (λ (r : NodeRow). record r { status = c.in-SetStatus.status }) (contents c.args.rows.now.items) c.args.place (λ r. refl)) c.requires.index

pub returns-in-SetAttr-clause-index : goal.returns-in-SetAttr-clause-index
returns-in-SetAttr-clause-index c =
    let f = λ (r : NodeRow). record r { attrs = with_attr c.in-SetAttr.name c.in-SetAttr.value r.attrs } in
    index_stays c.set_attr.result (contents c.args.rows.now.items) _ (at_place c.args.place f (contents c.args.rows.now.items)) c.args.index.now c.requires.index c.set_attr.ensures.ok (map-at_place shape_of f (contents c.args.rows.now.items) c.args.place (λ r. refl)) c.set_attr.ensures.err

pub returns-in-Note-clause-index : goal.returns-in-Note-clause-index
returns-in-Note-clause-index c =
    let f = λ (r : NodeRow). record r { audits = r.audits ++ Notification c.args.at c.in-Note.text ∷ [] } in
    index_stays c.append.result (contents c.args.rows.now.items) _ (at_place c.args.place f (contents c.args.rows.now.items)) c.args.index.now c.requires.index c.append.ensures.ok (map-at_place shape_of f (contents c.args.rows.now.items) c.args.place (λ r. refl)) c.append.ensures.err

pub returns-clause-index : goal.returns-clause-index
returns-clause-index c =
    let f = λ (r : NodeRow). record r { links = r.links ++ c.in-AddLink.link ∷ [] } in
    index_stays c.add_link.result (contents c.args.rows.now.items) _ (at_place c.args.place f (contents c.args.rows.now.items)) c.args.index.now c.requires.index c.add_link.ensures.ok (map-at_place shape_of f (contents c.args.rows.now.items) c.args.place (λ r. refl)) c.add_link.ensures.err

pub returns-in-SetResStatus-clause-index : goal.returns-in-SetResStatus-clause-index
returns-in-SetResStatus-clause-index c =
    index_same (contents c.args.rows.now.items) _ c.args.index.now (ap shapes_of c.set_resource_status.ensures ∙ shapes-with_resource _ (λ (y : Resource). record y { status = c.in-SetResStatus.status }) (contents c.args.rows.now.items) (λ y. refl)) c.requires.index

pub returns-in-SetResAttr-clause-index : goal.returns-in-SetResAttr-clause-index
returns-in-SetResAttr-clause-index c =
    index_stays c.set_resource_attr.result (contents c.args.rows.now.items) _ _ c.args.index.now c.requires.index c.set_resource_attr.ensures.ok
    (shapes-with_resource _ (λ (y : Resource). record y { attrs = with_attr c.in-SetResAttr.name c.in-SetResAttr.value y.attrs }) (contents c.args.rows.now.items) (λ y. refl)) c.set_resource_attr.ensures.err

pub add_resource-requires-clause-new : goal.add_resource-requires-clause-new
add_resource-requires-clause-new c =
    let rows = contents c.args.rows.now.items in
    let none = ap (λ e. refusal_of e rows) (sym c.in-AddResource.is) ∙ c.requires.open in
    resource_new c.in-AddResource.node c.in-AddResource.resource (lookups rows) none
