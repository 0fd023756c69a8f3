-- The definitions of parts and of shown tickets, computed on small data.
use Rattle.std.proofs.Common.{◌≡◌, ℕ, true, false, Bool, List, [], ◌∷◌, Some, Ok, Err, refl}
use Rattle.std.specs.Fmt.{digits}
use Rattle.std.specs.Prelude.{codes}
use Rattle.serde_json.specs.Data.{Data, Items, no_items, item, no_members, member, boolean, string, array, object}
use Rattle.ticket_tree.specs.Part.{PartCopy}
use Rattle.ticket_items.specs.declared.marks.Marks.{Marks}
use Rattle.ticket_items.specs.declared.node_row.NodeRow.{NodeRow}
use Rattle.ticket_items.specs.declared.refusal.Refusal.TheVariants.{BadId, NotProfile, ReservedStatus}
use Rattle.ticket_items.specs.declared.resource.Resource.{Resource}
use Rattle.ticket_items.specs.declared.spawn_status.SpawnStatus.TheVariants.{SpawnedRO, SpawnedRW}
use Rattle.ticket_items.specs.declared.usage.Usage.TheVariants.{Input, Output}
use Rattle.json_items.specs.TicketDraft.{own_row}
use Rattle.json_items.specs.TicketForm.{node_has_names, pools_have_names, row_has_texts}
use Rattle.json_items.specs.Ancestors.{ancestor_form}
use Rattle.json_items.specs.PartDraft.{part_form}
use Rattle.json_items.specs.Shown.{shows_change, shows_read, shown_rw, shown_ro}
use Rattle.json_items.specs.Ancestors.{ancestor_has_names}
use Rattle.json_items.specs.PartForm.{part_read}
use Rattle.json_items.specs.Resources.{own_resource, resource_form}
use Rattle.json_items.specs.Shown.{shown_form}
use Rattle.json_items.specs.Links.{link_form}
use Rattle.json_items.specs.Resources.{resource_has_names, resource_has_texts}
use Rattle.json_items.specs.Shown.{nothing_shown}
use Rattle.json_items.specs.Resources.{resource_data}
use Rattle.json_text.specs.Marked.{marked_rows, no_marks, showing_of}
use Rattle.json_text.specs.PartWritten.{part_data}

-- ---- the part of n1, with r2 to change and r1 to read

abbrev media : Resource
media = record { id = codes "r1"; name = codes "Media"; class = codes "Consumable"; status = codes "Available"; attrs = [] }

abbrev component : Resource
component = record { id = codes "r2"; name = codes "Component"; class = codes "Quantity"; status = codes "Unavailable"; attrs = [] }

abbrev printing_row : NodeRow
printing_row =
    record {
      id = codes "n1";
      depth = 1;
      kind = codes "ConventionalPrinting";
      job_part = codes "p1";
      status = codes "Waiting";
      attrs = [];
      resources = [];
      links = record { rref = codes "r1"; usage = Input } ∷ record { rref = codes "r2"; usage = Output } ∷ [];
      audits = [];
    }

abbrev printing : PartCopy
printing =
    record { job_id = codes "J1"; spawn_id = 1; ancestors = record { node_id = codes "n0"; job_part = codes "p0" } ∷ []; rows = printing_row ∷ []; rw = component ∷ []; ro = media ∷ [] }

abbrev link_to : List ℕ → List ℕ → Data
link_to usage x = object (member (codes "Usage") (string usage) (member (codes "rRef") (string x) no_members))

-- a resource's value: {"Attr":{},"Class":..,"ID":..,"Locked":..,"Name":..,"SpawnIDs":[..],"SpawnStatus":..,"Status":..}
abbrev resource_with : List ℕ → List ℕ → List ℕ → List ℕ → Bool → List ℕ → List ℕ → Data
resource_with class id name status locked spawn spawn_status =
    object (member (codes "Attr") (object no_members) (member (codes "Class") (string class) (member (codes "ID") (string id) (member (codes "Locked") (boolean locked) (member (codes "Name") (string name)
    (member (codes "SpawnIDs") (array (item (string spawn) no_items)) (member (codes "SpawnStatus") (string spawn_status) (member (codes "Status") (string status) no_members))))))))

abbrev free : List ℕ → Data
free spawn = resource_with (codes "Quantity") (codes "r2") (codes "Component") (codes "Unavailable") false spawn (codes "SpawnedRW")

abbrev locked : Bool → Data
locked b = resource_with (codes "Consumable") (codes "r1") (codes "Media") (codes "Available") b (codes "S1") (codes "SpawnedRO")

abbrev own_media : Data
own_media = resource_data nothing_shown media

-- the part's value with these resources in its pool, this SpawnID and this Status
abbrev value_with : Items → List ℕ → List ℕ → Data
value_with pool spawn status =
    object (member (codes "AncestorPool") (array (item (object (member (codes "JobPartID") (string (codes "p0")) (member (codes "NodeID") (string (codes "n0")) no_members))) no_items))
    (member (codes "Attr") (object no_members) (member (codes "AuditPool") (array no_items) (member (codes "ID") (string (codes "n1")) (member (codes "JDF") (array no_items) (member (codes "JobID") (string (codes "J1"))
    (member (codes "JobPartID") (string (codes "p1")) (member (codes "ResourceLinkPool") (array (item (link_to (codes "Input") (codes "r1")) (item (link_to (codes "Output") (codes "r2")) no_items)))
    (member (codes "ResourcePool") (array pool) (member (codes "SpawnID") (string spawn) (member (codes "Status") (string status) (member (codes "Type") (string (codes "ConventionalPrinting")) no_members))))))))))))

abbrev whole : Data
whole = value_with (item (free (codes "S1")) (item (locked true) no_items)) (codes "S1") (codes "Waiting")

written : part_data printing ≡ whole
unfolding digits
written = refl

drafted : part_form whole ≡ Some (record { job_id = codes "J1"; spawn = 1; ancestors = printing.ancestors; rows = printing_row ∷ []; rw = component ∷ []; ro = media ∷ [] })
unfolding part_form own_row resource_form own_resource shown_form link_form ancestor_form
drafted = refl

read : part_read whole ≡ Ok printing
unfolding part_form own_row resource_form own_resource shown_form link_form ancestor_form ancestor_has_names node_has_names pools_have_names row_has_texts resource_has_names resource_has_texts
read = refl

-- ---- refused

groups_in_another_order : part_read (value_with (item (locked true) (item (free (codes "S1")) no_items)) (codes "S1") (codes "Waiting")) ≡ Err NotProfile
unfolding part_form own_row resource_form own_resource shown_form link_form ancestor_form
groups_in_another_order = refl

own_behind_a_copy : part_read (value_with (item (free (codes "S1")) (item own_media no_items)) (codes "S1") (codes "Waiting")) ≡ Err NotProfile
unfolding part_form own_row resource_form own_resource shown_form link_form ancestor_form
own_behind_a_copy = refl

copy_to_read_not_locked : part_read (value_with (item (free (codes "S1")) (item (locked false) no_items)) (codes "S1") (codes "Waiting")) ≡ Err NotProfile
unfolding part_form own_row resource_form own_resource shown_form link_form ancestor_form
copy_to_read_not_locked = refl

copy_of_another_spawn : part_read (value_with (item (free (codes "S2")) (item (locked true) no_items)) (codes "S1") (codes "Waiting")) ≡ Err NotProfile
unfolding part_form own_row resource_form own_resource shown_form link_form ancestor_form
copy_of_another_spawn = refl

no_ancestors : part_read (object (member (codes "ID") (string (codes "n1")) (member (codes "JobID") (string (codes "J1")) (member (codes "JobPartID") (string (codes "p1")) (member (codes "SpawnID") (string (codes "S1")) (member (codes "Status") (string (codes "Waiting")) (member (codes "Type") (string (codes "Cutting")) no_members))))))) ≡ Err NotProfile
unfolding part_form
no_ancestors = refl

-- texts that are the same, and no spawn's id
no_spawn : part_read (value_with (item (free (codes "S0")) no_items) (codes "S0") (codes "Spawned")) ≡ Err BadId
unfolding part_form own_row resource_form own_resource shown_form link_form ancestor_form ancestor_has_names node_has_names pools_have_names row_has_texts resource_has_names resource_has_texts
no_spawn = refl

-- before what is wrong with its links
status_spawned : part_read (value_with (item (free (codes "S1")) no_items) (codes "S1") (codes "Spawned")) ≡ Err ReservedStatus
unfolding part_form own_row resource_form own_resource shown_form link_form ancestor_form ancestor_has_names node_has_names pools_have_names row_has_texts resource_has_names resource_has_texts
status_spawned = refl

-- ---- what copies show

change_shown : shows_change (codes "S1") (shown_rw (codes "S1")) ≡ true
change_shown = refl

read_shown : shows_read (codes "S1") (shown_ro (codes "S1")) ≡ true
read_shown = refl

change_is_not_read : shows_read (codes "S1") (shown_rw (codes "S1")) ≡ false
change_is_not_read = refl

no_spawn_ids : shows_change (codes "S1") (record { locked = false; spawn_ids = []; spawn_status = SpawnedRW }) ≡ false
no_spawn_ids = refl

two_spawn_ids : shows_change (codes "S1") (record { locked = false; spawn_ids = codes "S1" ∷ codes "S1" ∷ []; spawn_status = SpawnedRW }) ≡ false
two_spawn_ids = refl

-- ---- what marks show

abbrev marks : Marks
marks =
    record {
      nodes = codes "n1" ∷ codes "n9" ∷ [];
      resources = record { id = codes "r9"; status = SpawnedRW; spawn_ids = 3 ∷ [] } ∷ record { id = codes "r1"; status = SpawnedRO; spawn_ids = 1 ∷ 20 ∷ [] } ∷ record { id = codes "r1"; status = SpawnedRW; spawn_ids = 2 ∷ [] } ∷ [];
    }

-- the first mark counts
media_shown : showing_of marks media ≡ record { locked = false; spawn_ids = codes "S1" ∷ codes "S20" ∷ []; spawn_status = SpawnedRO }
unfolding digits
media_shown = refl

component_shown : showing_of marks component ≡ nothing_shown
component_shown = refl

node_shown : marked_rows marks (printing_row ∷ []) ≡ record { row = record printing_row { status = codes "Spawned" }; pool = [] } ∷ []
node_shown = refl

nothing_marked : marked_rows no_marks (printing_row ∷ []) ≡ record { row = printing_row; pool = [] } ∷ []
nothing_marked = refl
