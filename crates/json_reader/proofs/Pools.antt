-- What is found of the resources of a pool.
use Rattle.std.proofs.Common.{◌≡◌, ◌∙◌, ℕ, ◌+◌, ◌<◌, List, [], ◌∷◌, ◌++◌, get_or, length, map, take, Some, Result, Ok, refl, sym, ap, subst}
use Rattle.std.proofs.lemmas.List.{map_push}
use Rattle.std.specs.List.{list_all}
use Rattle.serde_json.specs.Data.{Data}
use Rattle.serde_json.specs.View.{items_of}
use Rattle.ticket_items.specs.declared.refusal.Refusal.{Refusal}
use Rattle.ticket_items.specs.declared.resource.Resource.{Resource}
use Rattle.json_items.proofs.ListLemmas.{items_read-more}
use Rattle.json_items.specs.Validation.{Finds, first_fault}
use Rattle.json_items.specs.Listed.{items_read, one_more}
use Rattle.json_items.specs.Resources.{own_resource, resource_form, resource_has_names, resource_has_texts, resource_members}
use Rattle.json_items.specs.Shown.{shown_form}
use Rattle.json_items.specs.TicketDraft.{resources_of}
use Rattle.json_items.specs.Resources.{MarkedResource}
use Rattle.json_items.specs.declared.resources.shown_form.Showing.{Showing}
use Rattle.json_source.specs.Read.{◌>>=◌, has_only, some_if}
use Rattle.json_reader.specs.Found.{FindsAs, IsMarked, IsPool, showings_of}
use Rattle.json_reader.specs.declared.found_pool.FoundPool.{FoundPool}

-- a resource and what it shows
pub marked_found : (d : Data) (x : Resource) (resource : Result Resource Refusal) (shown : Showing) → some_if (has_only resource_members d) ≡ Some tt → own_resource d ≡ Some x → shown_form d ≡ Some shown
    → Finds (first_fault resource_has_names resource_has_texts) resource (Some x) → (m : MarkedResource) × (resource_form d ≡ Some m) × IsMarked m (resource, shown)
unfolding resource_form
marked_found d x resource shown only own shows judged = (
  record { resource = x; shown = shown },
  ap (λ o. o >>= λ u. own_resource d >>= λ r. shown_form d >>= λ s. Some (record { resource = r; shown = s })) only
      ∙ ap (λ o. o >>= λ r. shown_form d >>= λ s. Some (record { resource = r; shown = s })) own
      ∙ ap (λ o. o >>= λ s. Some (record { resource = x; shown = s })) shows,
  record { resource = judged; shown = refl },
)

-- one more in a pool
pub pool_more : (before : List MarkedResource) (m : MarkedResource) (old new : FoundPool) (resource : Result Resource Refusal) (shown : Showing) → IsPool before old → IsMarked m (resource, shown)
    → Finds (first_fault (list_all resource_has_names) (list_all resource_has_texts)) new.resources (one_more (Some (resources_of before)) (Some m.resource)) → new.shown ≡ old.shown ++ shown ∷ [] → IsPool (before ++ m ∷ []) new
pool_more before m old new resource shown is one judged shows = record {
  resources = subst (λ rs. Finds (first_fault (list_all resource_has_names) (list_all resource_has_texts)) new.resources (Some rs)) (sym (map_push (λ r. r.resource) before m)) judged;
  shown = shows ∙ ap (λ ss. ss ++ shown ∷ []) is.shown ∙ ap (λ s. showings_of before ++ s ∷ []) one.shown ∙ sym (map_push (λ r. r.shown) before m);
}

-- the next item of a list
pub items_more : {V : Type 0} (content : V → Data) (items : List V) (i : ℕ) (v : V) (old new : FoundPool) → i < length items → v ≡ get_or items i v → FindsAs IsPool (Ok old) (items_read resource_form (items_of (map content (take i items))))
    → (m : MarkedResource) → resource_form (content v) ≡ Some m → ((before : List MarkedResource) → IsPool before old → IsPool (before ++ m ∷ []) new)
    → FindsAs IsPool (Ok new) (items_read resource_form (items_of (map content (take (i + 1) items))))
items_more content items i v old new within is so_far m read step = (
  so_far.0 ++ m ∷ [],
  items_read-more content resource_form items i v within is ∙ ap (λ o. one_more o (resource_form (content v))) so_far.1 ∙ ap (one_more (Some so_far.0)) read,
  step so_far.0 so_far.2,
)
