-- The form of edits. Their ids, names and texts may be any bytes.
use Rattle.std.specs.Prelude.{ℕ, ◌&&◌, Bool, true, List, [], ◌∷◌, codes, if◌then◌else◌}
use Rattle.std.specs.Prelude.{Option, Some, None}
use Rattle.std.specs.Str.{bytes_eq}
use Rattle.serde_json.specs.Data.{Data, no_members, member, string, object}
use Rattle.ticket_items.specs.Names.{is_name, is_text}
use Rattle.ticket_items.specs.declared.edit.Edit.{Edit}
use Rattle.ticket_items.specs.declared.edit.Edit.TheVariants.{SetStatus, SetAttr, SetResStatus}
use Rattle.ticket_items.specs.declared.edit.Edit.TheVariants.{SetResAttr, Note, AddNode}
use Rattle.ticket_items.specs.declared.edit.Edit.TheVariants.{AddResource, AddLink}
use Rattle.json_items.specs.Attributes.{attrs_data}
use Rattle.json_items.specs.Links.{usage_named, usage_data, link_has_names}
use Rattle.json_source.specs.Read.{◌>>=◌, some_if, has_only, text_under}
use Rattle.json_items.specs.Resources.{own_resource, resource_has_names, resource_has_texts}

-- ---- read

abbrev pub set_status_members : List (List ℕ)
set_status_members = codes "Edit" ∷ codes "Node" ∷ codes "Status" ∷ []

unfoldable pub set_status_form : Data → Option Edit
set_status_form d = do
  _ ← some_if (has_only set_status_members d)
  node ← text_under (codes "Node") d
  status ← text_under (codes "Status") d
  Some (SetStatus node status)

abbrev pub set_attr_members : List (List ℕ)
set_attr_members = codes "Edit" ∷ codes "Name" ∷ codes "Node" ∷ codes "Value" ∷ []

unfoldable pub set_attr_form : Data → Option Edit
set_attr_form d = do
  _ ← some_if (has_only set_attr_members d)
  name ← text_under (codes "Name") d
  node ← text_under (codes "Node") d
  value ← text_under (codes "Value") d
  Some (SetAttr node name value)

abbrev pub set_resource_status_members : List (List ℕ)
set_resource_status_members = codes "Edit" ∷ codes "Resource" ∷ codes "Status" ∷ []

unfoldable pub set_resource_status_form : Data → Option Edit
set_resource_status_form d = do
  _ ← some_if (has_only set_resource_status_members d)
  resource ← text_under (codes "Resource") d
  status ← text_under (codes "Status") d
  Some (SetResStatus resource status)

abbrev pub set_resource_attr_members : List (List ℕ)
set_resource_attr_members = codes "Edit" ∷ codes "Name" ∷ codes "Resource" ∷ codes "Value" ∷ []

unfoldable pub set_resource_attr_form : Data → Option Edit
set_resource_attr_form d = do
  _ ← some_if (has_only set_resource_attr_members d)
  name ← text_under (codes "Name") d
  resource ← text_under (codes "Resource") d
  value ← text_under (codes "Value") d
  Some (SetResAttr resource name value)

abbrev pub note_members : List (List ℕ)
note_members = codes "Edit" ∷ codes "Node" ∷ codes "Text" ∷ []

unfoldable pub note_form : Data → Option Edit
note_form d = do
  _ ← some_if (has_only note_members d)
  node ← text_under (codes "Node") d
  text ← text_under (codes "Text") d
  Some (Note node text)

abbrev pub add_node_members : List (List ℕ)
add_node_members = codes "Edit" ∷ codes "ID" ∷ codes "JobPartID" ∷ codes "Node" ∷ codes "Status"
    ∷ codes "Type" ∷ []

unfoldable pub add_node_form : Data → Option Edit
add_node_form d = do
  _ ← some_if (has_only add_node_members d)
  id ← text_under (codes "ID") d
  job_part ← text_under (codes "JobPartID") d
  node ← text_under (codes "Node") d
  status ← text_under (codes "Status") d
  kind ← text_under (codes "Type") d
  Some (AddNode node id kind job_part status)

-- a new resource shows nothing of spawns, and has no members for it
abbrev pub add_resource_members : List (List ℕ)
add_resource_members = codes "Attr" ∷ codes "Class" ∷ codes "Edit" ∷ codes "ID" ∷ codes "Name"
    ∷ codes "Node" ∷ codes "Status" ∷ []

unfoldable pub add_resource_form : Data → Option Edit
add_resource_form d = do
  _ ← some_if (has_only add_resource_members d)
  node ← text_under (codes "Node") d
  resource ← own_resource d
  Some (AddResource node resource)

abbrev pub add_link_members : List (List ℕ)
add_link_members = codes "Edit" ∷ codes "Node" ∷ codes "Usage" ∷ codes "rRef" ∷ []

unfoldable pub add_link_form : Data → Option Edit
add_link_form d = do
  _ ← some_if (has_only add_link_members d)
  node ← text_under (codes "Node") d
  word ← text_under (codes "Usage") d
  usage ← usage_named word
  rref ← text_under (codes "rRef") d
  Some (AddLink node (record { rref = rref; usage = usage }))

-- of the kinds that change what is there, the one that a word names
unfoldable pub setting_form : List ℕ → Data → Option Edit
setting_form kind d =
    if bytes_eq kind (codes "SetStatus") then set_status_form d
    else (if bytes_eq kind (codes "SetAttr") then set_attr_form d
    else (if bytes_eq kind (codes "SetResStatus") then set_resource_status_form d
    else (if bytes_eq kind (codes "SetResAttr") then set_resource_attr_form d else None)))

-- of those that add something
unfoldable pub adding_form : List ℕ → Data → Option Edit
adding_form kind d =
    if bytes_eq kind (codes "Note") then note_form d
    else (if bytes_eq kind (codes "AddNode") then add_node_form d
    else (if bytes_eq kind (codes "AddResource") then add_resource_form d
    else (if bytes_eq kind (codes "AddLink") then add_link_form d else setting_form kind d)))

-- an edit, of the kind that its `Edit` names
unfoldable pub edit_form : Data → Option Edit
edit_form d = text_under (codes "Edit") d >>= λ kind. adding_form kind d

-- ---- ids, names and texts

abbrev pub edit_has_names : Edit → Bool
edit_has_names (SetStatus node status) = is_name node && is_name status
edit_has_names (SetAttr node name value) = is_name node && is_name name
edit_has_names (SetResStatus resource status) = is_name resource && is_name status
edit_has_names (SetResAttr resource name value) = is_name resource && is_name name
edit_has_names (Note node text) = is_name node
edit_has_names (AddNode node id kind job_part status) = is_name id && is_name job_part
    && is_name node && is_name status && is_name kind
edit_has_names (AddResource node resource) = is_name node && resource_has_names resource
edit_has_names (AddLink node link) = is_name node && link_has_names link

abbrev pub edit_has_texts : Edit → Bool
edit_has_texts (SetStatus node status) = true
edit_has_texts (SetAttr node name value) = is_text value
edit_has_texts (SetResStatus resource status) = true
edit_has_texts (SetResAttr resource name value) = is_text value
edit_has_texts (Note node text) = is_text text
edit_has_texts (AddNode node id kind job_part status) = true
edit_has_texts (AddResource node resource) = resource_has_texts resource
edit_has_texts (AddLink node link) = true

-- ---- written

abbrev pub edit_data : Edit → Data
edit_data (SetStatus node status) =
    object (member (codes "Edit") (string (codes "SetStatus"))
    (member (codes "Node") (string node) (member (codes "Status") (string status) no_members)))
edit_data (SetAttr node name value) =
    object (member (codes "Edit") (string (codes "SetAttr"))
    (member (codes "Name") (string name)
    (member (codes "Node") (string node) (member (codes "Value") (string value) no_members))))
edit_data (SetResStatus resource status) =
    object (member (codes "Edit") (string (codes "SetResStatus"))
    (member (codes "Resource") (string resource)
    (member (codes "Status") (string status) no_members)))
edit_data (SetResAttr resource name value) =
    object (member (codes "Edit") (string (codes "SetResAttr"))
    (member (codes "Name") (string name)
    (member (codes "Resource") (string resource)
    (member (codes "Value") (string value) no_members))))
edit_data (Note node text) =
    object (member (codes "Edit") (string (codes "Note"))
    (member (codes "Node") (string node) (member (codes "Text") (string text) no_members)))
edit_data (AddNode node id kind job_part status) =
    object (member (codes "Edit") (string (codes "AddNode"))
    (member (codes "ID") (string id)
    (member (codes "JobPartID") (string job_part)
    (member (codes "Node") (string node)
    (member (codes "Status") (string status)
    (member (codes "Type") (string kind) no_members))))))
edit_data (AddResource node resource) =
    object (member (codes "Attr") (attrs_data resource.attrs)
    (member (codes "Class") (string resource.class)
    (member (codes "Edit") (string (codes "AddResource"))
    (member (codes "ID") (string resource.id)
    (member (codes "Name") (string resource.name)
    (member (codes "Node") (string node)
    (member (codes "Status") (string resource.status) no_members)))))))
edit_data (AddLink node link) =
    object (member (codes "Edit") (string (codes "AddLink"))
    (member (codes "Node") (string node)
    (member (codes "Usage") (usage_data link.usage)
    (member (codes "rRef") (string link.rref) no_members))))
