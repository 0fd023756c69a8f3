-- What is written has no float.
use Rattle.std.proofs.Common.{◌≡◌, ◌||◌, ℕ, false, List, [], ◌∷◌, refl, ap}
use Rattle.std.proofs.lemmas.Bool.{or_from}
use Rattle.serde_json.specs.Data.{Data, string}
use Rattle.serde_json.specs.Written.{has_float, items_have_float, members_have_float}
use Rattle.ticket_items.specs.Attrs.{Pairs}
use Rattle.ticket_items.specs.declared.ancestor.Ancestor.{Ancestor}
use Rattle.ticket_items.specs.declared.audit.Audit.{Audit}
use Rattle.ticket_items.specs.declared.audit.Audit.TheVariants.{Notification, Spawned, Merged}
use Rattle.ticket_items.specs.declared.link.Link.{Link}
use Rattle.ticket_items.specs.declared.resource.Resource.{Resource}
use Rattle.json_items.specs.Listed.{data_items}
use Rattle.json_items.specs.Resources.{MarkedResource}
use Rattle.json_items.specs.Attributes.{attr_members}
use Rattle.json_items.specs.Resources.{resource_data, raw_data}
use Rattle.json_items.specs.Links.{link_data}
use Rattle.json_items.specs.Audits.{audit_data}
use Rattle.json_items.specs.declared.resources.shown_form.Showing.{Showing}
use Rattle.json_text.specs.PartWritten.{ancestor_data}
use Rattle.json_text.specs.Written.{pool_data}

pub attrs_plain : (pairs : Pairs) → members_have_float (attr_members pairs) ≡ false
attrs_plain [] = refl
attrs_plain (p ∷ pairs) = attrs_plain pairs

pub items_plain : {X : Type 0} (form : X → Data) → ((x : X) → has_float (form x) ≡ false) → (xs : List X) → items_have_float (data_items form xs) ≡ false
items_plain form plain [] = refl
items_plain form plain (x ∷ xs) = or_from _ _ (plain x) (items_plain form plain xs)

pub texts_plain : (texts : List (List ℕ)) → items_have_float (data_items string texts) ≡ false
texts_plain texts = items_plain string (λ s. refl) texts

pub resource_plain : (shown : Showing) (r : Resource) → has_float (resource_data shown r) ≡ false
resource_plain shown r = or_from _ _ (attrs_plain r.attrs) (ap (λ b. b || false) (texts_plain shown.spawn_ids))

pub link_plain : (l : Link) → has_float (link_data l) ≡ false
link_plain l = refl

pub audit_plain : (a : Audit) → has_float (audit_data a) ≡ false
audit_plain (Notification time text) = refl
audit_plain (Spawned time jref spawn_id ro changed status) = or_from _ _ (texts_plain ro) (ap (λ b. b || false) (texts_plain changed))
audit_plain (Merged time jref merge_id overwritten) = ap (λ b. b || false) (texts_plain overwritten)

pub pool_plain : (raws : List MarkedResource) → items_have_float (pool_data raws) ≡ false
pool_plain raws = items_plain raw_data (λ r. resource_plain r.shown r.resource) raws

pub ancestors_plain : (ancestors : List Ancestor) → items_have_float (data_items ancestor_data ancestors) ≡ false
ancestors_plain ancestors = items_plain ancestor_data (λ a. refl) ancestors

pub links_plain : (ls : List Link) → items_have_float (data_items link_data ls) ≡ false
links_plain ls = items_plain link_data link_plain ls

pub audits_plain : (audits : List Audit) → items_have_float (data_items audit_data audits) ≡ false
audits_plain audits = items_plain audit_data audit_plain audits
