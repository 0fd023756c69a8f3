-- Resources, links and audits that are written nest little.
use Rattle.std.proofs.Common.{◌≡◌, ℕ, max, ◌≤◌, List, [], ◌∷◌, refl, ap, arith}
use Rattle.serde_json.specs.Data.{Data, string, depth, items_depth, members_depth}
use Rattle.ticket_items.specs.Attrs.{Pairs}
use Rattle.ticket_items.specs.declared.ancestor.Ancestor.{Ancestor}
use Rattle.ticket_items.specs.declared.audit.Audit.{Audit}
use Rattle.ticket_items.specs.declared.audit.Audit.TheVariants.{Notification, Spawned, Merged}
use Rattle.ticket_items.specs.declared.link.Link.{Link}
use Rattle.ticket_items.specs.declared.resource.Resource.{Resource}
use Rattle.json_items.specs.Listed.{data_items}
use Rattle.json_items.specs.Resources.{MarkedResource}
use Rattle.json_items.specs.Attributes.{attr_members}
use Rattle.json_items.specs.Resources.{resource_data, raw_data}
use Rattle.json_items.specs.Links.{link_data}
use Rattle.json_items.specs.Audits.{audit_data}
use Rattle.json_items.specs.declared.resources.shown_form.Showing.{Showing}
use Rattle.json_text.specs.PartWritten.{ancestor_data}
use Rattle.json_text.specs.Written.{pool_data}

pub attrs_flat : (pairs : Pairs) → members_depth (attr_members pairs) ≡ 0
attrs_flat [] = refl
attrs_flat (p ∷ pairs) = ap (max 0) (attrs_flat pairs)

pub items_low : {X : Type 0} (form : X → Data) (most : ℕ) → ((x : X) → depth (form x) ≤ most) → (xs : List X) → items_depth (data_items form xs) ≤ most
items_low form most low [] = omega arith
items_low form most low (x ∷ xs) = omega (arith, low x, items_low form most low xs)

pub texts_flat : (texts : List (List ℕ)) → items_depth (data_items string texts) ≤ 0
texts_flat texts = items_low string 0 (λ s. omega arith) texts

pub resource_nests : (shown : Showing) (r : Resource) → depth (resource_data shown r) ≡ 2
resource_nests shown r = omega (arith, attrs_flat r.attrs, texts_flat shown.spawn_ids)

-- 1 for a note, else 2
pub audit_nests : (a : Audit) → depth (audit_data a) ≤ 2
audit_nests (Notification time text) = omega arith
audit_nests (Spawned time jref spawn_id ro changed status) = omega (arith, texts_flat ro, texts_flat changed)
audit_nests (Merged time jref merge_id overwritten) = omega (arith, texts_flat overwritten)

pub pool_low : (raws : List MarkedResource) → items_depth (pool_data raws) ≤ 2
pool_low raws = items_low raw_data 2 (λ r. omega (arith, resource_nests r.shown r.resource)) raws

pub ancestors_low : (ancestors : List Ancestor) → items_depth (data_items ancestor_data ancestors) ≤ 1
ancestors_low ancestors = items_low ancestor_data 1 (λ a. omega arith) ancestors

pub links_low : (ls : List Link) → items_depth (data_items link_data ls) ≤ 1
links_low ls = items_low link_data 1 (λ l. omega arith) ls

pub audits_low : (audits : List Audit) → items_depth (data_items audit_data audits) ≤ 2
audits_low audits = items_low audit_data 2 audit_nests audits
