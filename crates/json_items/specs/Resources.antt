-- The form of resources (JDF 1.5, 3.8). Their ids, names and texts may be any bytes.
use Rattle.std.specs.Prelude.{ℕ, ◌&&◌, Bool, List, [], ◌∷◌, codes, map, Option, Some}
use Rattle.serde_json.specs.Data.{Data, no_members, member, boolean, string, object}
use Rattle.serde_json.specs.Find.{get}
use Rattle.ticket_items.specs.Names.{is_name}
use Rattle.ticket_items.specs.declared.resource.Resource.{Resource}
use Rattle.json_items.specs.Attributes.{attrs_have_names, attrs_have_texts, attrs_data}
use Rattle.json_items.specs.Listed.{texts_data}
use Rattle.json_source.specs.Read.{◌>>=◌, some_if, has_only, text_under, attrs_of}
use Rattle.json_items.specs.Shown.{shown_form, spawn_status_data}
use Rattle.json_items.specs.declared.resources.shown_form.Showing.{Showing}

-- ---- read

-- a resource by itself, in an object that may have other members
unfoldable pub own_resource : Data → Option Resource
own_resource d = do
  class ← text_under (codes "Class") d
  id ← text_under (codes "ID") d
  name ← text_under (codes "Name") d
  status ← text_under (codes "Status") d
  attrs ← attrs_of (get (codes "Attr") d)
  Some (record { id = id; name = name; class = class; status = status; attrs = attrs })

-- what may stand in a resource
abbrev pub resource_members : List (List ℕ)
resource_members = codes "Attr" ∷ codes "Class" ∷ codes "ID" ∷ codes "Locked" ∷ codes "Name"
    ∷ codes "SpawnIDs" ∷ codes "SpawnStatus" ∷ codes "Status" ∷ []

-- a resource with what it shows of spawns
pub record MarkedResource : Type 0 where
  pub resource : Resource
  pub shown : Showing

-- the resource that data is, with what it shows
unfoldable pub resource_form : Data → Option MarkedResource
resource_form d = do
  _ ← some_if (has_only resource_members d)
  resource ← own_resource d
  shown ← shown_form d
  Some (record { resource = resource; shown = shown })

-- ---- ids, names and texts

-- the id, the names and the names of the attributes
unfoldable pub resource_has_names : Resource → Bool
resource_has_names r = is_name r.class && is_name r.id && is_name r.name && is_name r.status
    && attrs_have_names r.attrs

unfoldable pub resource_has_texts : Resource → Bool
resource_has_texts r = attrs_have_texts r.attrs

-- ---- written

-- a resource that shows this of spawns
abbrev pub resource_data : Showing → Resource → Data
resource_data shown r =
    object (member (codes "Attr") (attrs_data r.attrs)
    (member (codes "Class") (string r.class)
    (member (codes "ID") (string r.id) (member (codes "Locked") (boolean shown.locked)
    (member (codes "Name") (string r.name)
    (member (codes "SpawnIDs") (texts_data shown.spawn_ids)
    (member (codes "SpawnStatus") (spawn_status_data shown.spawn_status)
    (member (codes "Status") (string r.status) no_members))))))))

-- a resource with what it shows
abbrev pub raw_data : MarkedResource → Data
raw_data m = resource_data m.shown m.resource

-- resources that all show the same
abbrev pub all_showing : Showing → List Resource → List MarkedResource
all_showing shown rs = map (λ r. record { resource = r; shown = shown }) rs
