-- What is written is read again.
use Rattle.std.specs.Prelude.{◌≡◌, ℕ, List, [], ◌∷◌, Option, Some, refl}
use Rattle.std.specs.Option.{option_map}
use Rattle.std.proofs.Common.{ap, ◌∙◌}
use Rattle.serde_json.specs.Data.{Data, array, string}
use Rattle.serde_json.specs.Find.{as_str}
use Rattle.ticket_items.specs.Attrs.{Pairs}
use Rattle.ticket_items.specs.declared.ancestor.Ancestor.{Ancestor}
use Rattle.ticket_items.specs.declared.audit.Audit.{Audit}
use Rattle.ticket_items.specs.declared.audit.Audit.TheVariants.{Notification, Spawned, Merged}
use Rattle.ticket_items.specs.declared.edit.Edit.{Edit}
use Rattle.ticket_items.specs.declared.edit.Edit.TheVariants.{SetStatus, SetAttr, SetResStatus}
use Rattle.ticket_items.specs.declared.edit.Edit.TheVariants.{SetResAttr, Note, AddNode}
use Rattle.ticket_items.specs.declared.edit.Edit.TheVariants.{AddResource, AddLink}
use Rattle.ticket_items.specs.declared.link.Link.{Link}
use Rattle.ticket_items.specs.declared.resource.Resource.{Resource}
use Rattle.ticket_items.specs.declared.spawn_status.SpawnStatus.{SpawnStatus}
use Rattle.ticket_items.specs.declared.spawn_status.SpawnStatus.TheVariants.{NotSpawned, SpawnedRO}
use Rattle.ticket_items.specs.declared.spawn_status.SpawnStatus.TheVariants.{SpawnedRW}
use Rattle.ticket_items.specs.declared.usage.Usage.{Usage}
use Rattle.ticket_items.specs.declared.usage.Usage.TheVariants.{Input, Output}
use Rattle.json_items.specs.Ancestors.{ancestor_data, ancestor_form}
use Rattle.json_items.specs.Attributes.{attr_members, attrs_data}
use Rattle.json_items.specs.Audits.{audit_form, merge_audit_form, notification_form, spawn_audit_form}
use Rattle.json_items.specs.Audits.{audit_data}
use Rattle.json_items.specs.Edits.{set_attr_form, set_resource_status_form, set_status_form}
use Rattle.json_items.specs.Edits.{add_node_form, note_form, set_resource_attr_form}
use Rattle.json_items.specs.Edits.{add_link_form, add_resource_form, adding_form, setting_form}
use Rattle.json_items.specs.Edits.{edit_data, edit_form}
use Rattle.json_items.specs.Links.{link_data, link_form, usage_data, usage_form}
use Rattle.json_items.specs.Listed.{data_items, items_read, list_form, pool_form, texts_data}
use Rattle.json_source.specs.Read.{◌>>=◌, attrs_form, text_pairs}
use Rattle.json_items.specs.Resources.{own_resource, raw_data, resource_data, resource_form}
use Rattle.json_items.specs.Shown.{shown_form, spawn_status_data, spawn_status_form}
use Rattle.json_items.specs.Resources.{MarkedResource}
use Rattle.json_items.specs.declared.resources.shown_form.Showing.{Showing}

pub text_again : (text : List ℕ) → as_str (string text) ≡ Some text
text_again text = refl

pub more_at : {X : Type 0} (o : Option X) (x : X) (rest : Option (List X)) (xs : List X) → o ≡ Some x
    → rest ≡ Some xs → (o >>= λ y. option_map (λ ys. y ∷ ys) rest) ≡ Some (x ∷ xs)
more_at o x rest xs e f =
    ap (λ p. p >>= λ y. option_map (λ ys. y ∷ ys) rest) e ∙ ap (option_map (λ ys. x ∷ ys)) f

-- each item of a list
pub each_again : {X : Type 0} (form : Data → Option X) (data' : X → Data)
    → ((x : X) → form (data' x) ≡ Some x) → (xs : List X) → items_read form (data_items data' xs)
    ≡ Some xs
each_again form data' again [] = refl
each_again form data' again (x ∷ xs) =
    more_at (form (data' x)) x _ _ (again x) (each_again form data' again xs)

pub list_again : {X : Type 0} (form : Data → Option X) (data' : X → Data)
    → ((x : X) → form (data' x) ≡ Some x) → (xs : List X)
    → list_form form (array (data_items data' xs)) ≡ Some xs
list_again form data' again xs = each_again form data' again xs

-- a list that may be absent
pub pool_again : {X : Type 0} (form : Data → Option X) (data' : X → Data)
    → ((x : X) → form (data' x) ≡ Some x) → (xs : List X)
    → pool_form form (Some (array (data_items data' xs))) ≡ Some xs
pool_again form data' again xs = each_again form data' again xs

-- ---- links

pub usage_again : (u : Usage) → usage_form (usage_data u) ≡ Some u
usage_again Input = refl
usage_again Output = refl

pub link_again : (l : Link) → link_form (link_data l) ≡ Some l
unfolding link_form
link_again l = ap (λ o. o >>= λ u. Some (record { rref = l.rref; usage = u })) (usage_again l.usage)

-- ---- audits

ids_again : (ids : List (List ℕ)) → list_form as_str (texts_data ids) ≡ Some ids
ids_again ids = list_again as_str string text_again ids

pub audit_again : (a : Audit) → audit_form (audit_data a) ≡ Some a
unfolding audit_form notification_form spawn_audit_form merge_audit_form
audit_again (Notification time text) = refl
audit_again (Spawned time jref spawn_id ro changed status) =
    ap (λ o. o >>= λ first. list_form as_str (texts_data changed) >>=
    λ second. Some (Spawned time jref spawn_id first second status)) (ids_again ro)
    ∙ ap (λ o. o >>= λ second. Some (Spawned time jref spawn_id ro second status))
    (ids_again changed)
audit_again (Merged time jref merge_id overwritten) =
    ap (λ o. o >>= λ ids. Some (Merged time jref merge_id ids)) (ids_again overwritten)

-- ---- ancestors

pub ancestor_again : (a : Ancestor) → ancestor_form (ancestor_data a) ≡ Some a
unfolding ancestor_form
ancestor_again a = refl

-- ---- attributes and resources

text_pairs_again : (pairs : Pairs) → text_pairs (attr_members pairs) ≡ Some pairs
text_pairs_again [] = refl
text_pairs_again (p ∷ pairs) = ap (option_map (λ ps. p ∷ ps)) (text_pairs_again pairs)

pub attrs_again : (pairs : Pairs) → attrs_form (attrs_data pairs) ≡ Some pairs
attrs_again pairs = text_pairs_again pairs

pub spawn_status_again : (s : SpawnStatus) → spawn_status_form (spawn_status_data s) ≡ Some s
spawn_status_again NotSpawned = refl
spawn_status_again SpawnedRO = refl
spawn_status_again SpawnedRW = refl

own_again : (shown : Showing) (r : Resource) → own_resource (resource_data shown r) ≡ Some r
unfolding own_resource
own_again shown r =
    ap (λ o. o >>=
    λ attrs. Some
    (record { id = r.id; name = r.name; class = r.class; status = r.status; attrs = attrs }))
    (attrs_again r.attrs)

shown_again : (shown : Showing) (r : Resource) → shown_form (resource_data shown r) ≡ Some shown
unfolding shown_form
shown_again shown r =
    ap (λ o. o >>= λ ids. spawn_status_form (spawn_status_data shown.spawn_status) >>=
    λ s. Some (record { locked = shown.locked; spawn_ids = ids; spawn_status = s }))
    (ids_again shown.spawn_ids)
    ∙ ap (λ o. o >>=
    λ s. Some (record {
      locked = shown.locked;
      spawn_ids = shown.spawn_ids;
      spawn_status = s;
    })) (spawn_status_again shown.spawn_status)

pub marked_again : (m : MarkedResource) → resource_form (raw_data m) ≡ Some m
unfolding resource_form
marked_again m =
    ap (λ o. o >>= λ r. shown_form (raw_data m) >>=
    λ s. Some (record { resource = r; shown = s })) (own_again m.shown m.resource)
    ∙ ap (λ o. o >>= λ s. Some (record { resource = m.resource; shown = s }))
    (shown_again m.shown m.resource)

-- ---- edits

pub edit_again : (e : Edit) → edit_form (edit_data e) ≡ Some e
unfolding edit_form adding_form setting_form set_status_form set_attr_form
    set_resource_status_form set_resource_attr_form note_form add_node_form add_resource_form
    own_resource add_link_form
edit_again (SetStatus node status) = refl
edit_again (SetAttr node name value) = refl
edit_again (SetResStatus resource status) = refl
edit_again (SetResAttr resource name value) = refl
edit_again (Note node text) = refl
edit_again (AddNode node id kind job_part status) = refl
edit_again (AddResource node resource) =
    ap (λ o. (o >>= λ attrs. Some (record resource { attrs = attrs })) >>=
    λ r. Some (AddResource node r)) (attrs_again resource.attrs)
edit_again (AddLink node link) =
    ap (λ o. o >>= λ usage. Some (AddLink node (record { rref = link.rref; usage = usage })))
    (usage_again link.usage)
