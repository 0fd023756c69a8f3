-- Resources, and lists of them such as a node's pool.
use Rattle.std.specs.Prelude.{ℕ, Bool, ◌&&◌, List, map, if◌then◌else◌}
use Rattle.std.specs.Str.{bytes_eq}
use Rattle.ticket_items.specs.declared.resource.Resource.{Resource}

-- whether two resources have one id, name and Class, as a resource and its copy have
abbrev pub is_alike : Resource → Resource → Bool
is_alike x y = bytes_eq x.id y.id && bytes_eq x.name y.name && bytes_eq x.class y.class

abbrev pub resource_ids : List Resource → List (List ℕ)
resource_ids pool = map (λ x. x.id) pool

-- the resources, with f of each of that id
abbrev pub with_item : List ℕ → (Resource → Resource) → List Resource → List Resource
with_item x f pool = map (λ (y : Resource). if bytes_eq y.id x then f y else y) pool
