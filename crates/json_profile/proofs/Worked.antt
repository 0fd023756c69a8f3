-- The definitions, computed on small data.
use Rattle.std.proofs.Common.{◌≡◌, true, false, List, [], ◌∷◌, Some, None, refl}
use Rattle.std.specs.Prelude.{codes}
use Rattle.serde_json.specs.Data.{Data, no_items, item, Members, no_members, member, unsigned, null, boolean, number, string, array, object}
use Rattle.ticket_items.specs.declared.audit.Audit.TheVariants.{Notification, Spawned, Merged}
use Rattle.ticket_items.specs.declared.node_row.NodeRow.{NodeRow}
use Rattle.ticket_items.specs.declared.refusal.Refusal.TheVariants.{NotATree, ReservedStatus}
use Rattle.ticket_items.specs.declared.resource.Resource.{Resource}
use Rattle.ticket_items.specs.declared.spawn_status.SpawnStatus.TheVariants.{NotSpawned, SpawnedRO, SpawnedRW}
use Rattle.ticket_items.specs.declared.usage.Usage.TheVariants.{Input, Output}
use Rattle.json_items.specs.Audits.{audit_form, merge_audit_form, notification_form, spawn_audit_form}
use Rattle.json_items.specs.TicketDraft.{node_members, own_row}
use Rattle.json_items.specs.TicketForm.{built_fault}
use Rattle.json_items.specs.Listed.{pool_form}
use Rattle.json_items.specs.Resources.{own_resource, resource_form}
use Rattle.json_items.specs.Shown.{shown_form}
use Rattle.json_items.specs.Links.{link_form}
use Rattle.json_items.specs.Resources.{resource_has_names}
use Rattle.json_items.specs.Audits.{audit_has_names}
use Rattle.json_items.specs.Shown.{nothing_shown, shows_nothing}
use Rattle.json_items.specs.Links.{link_data}

-- ---- resources

abbrev media : Resource
media = record { id = codes "r1"; name = codes "Media"; class = codes "Consumable"; status = codes "Available"; attrs = [] }

-- {"Class":"Consumable","ID":"r1","Name":"Media",..,"Status":"Available"}
abbrev media_with : Members → Data
media_with more = object (member (codes "Class") (string (codes "Consumable")) (member (codes "ID") (string (codes "r1")) (member (codes "Name") (string (codes "Media")) more)))

abbrev with_status : Members
with_status = member (codes "Status") (string (codes "Available")) no_members

absent_members : resource_form (media_with with_status) ≡ Some (record { resource = media; shown = nothing_shown })
unfolding resource_form own_resource shown_form
absent_members = refl

no_status : resource_form (media_with no_members) ≡ None
unfolding resource_form own_resource
no_status = refl

spawned_for_reading : resource_form (media_with (member (codes "SpawnIDs") (array (item (string (codes "S1")) no_items)) (member (codes "SpawnStatus") (string (codes "SpawnedRO")) with_status)))
    ≡ Some (record { resource = media; shown = record { locked = false; spawn_ids = codes "S1" ∷ []; spawn_status = SpawnedRO } })
unfolding resource_form own_resource shown_form
spawned_for_reading = refl

other_spawn_status : resource_form (media_with (member (codes "SpawnStatus") (string (codes "Spawned")) with_status)) ≡ None
unfolding resource_form own_resource shown_form
other_spawn_status = refl

spawn_ids_of_numbers : resource_form (media_with (member (codes "SpawnIDs") (array (item (number (unsigned 1)) no_items)) with_status)) ≡ None
unfolding resource_form own_resource shown_form
spawn_ids_of_numbers = refl

locked_as_text : resource_form (object (member (codes "Class") (string []) (member (codes "ID") (string []) (member (codes "Locked") (string (codes "true")) (member (codes "Name") (string []) (member (codes "Status") (string []) no_members)))))) ≡ None
unfolding resource_form own_resource shown_form
locked_as_text = refl

unknown_member : resource_form (media_with (member (codes "Number") (number (unsigned 1)) with_status)) ≡ None
unfolding resource_form own_resource shown_form
unknown_member = refl

no_object : resource_form (string (codes "r1")) ≡ None
unfolding resource_form
no_object = refl

media_named : resource_has_names media ≡ true
unfolding resource_has_names
media_named = refl

class_no_name : resource_has_names (record { id = codes "r1"; name = codes "Media"; class = []; status = codes "Available"; attrs = [] }) ≡ false
unfolding resource_has_names
class_no_name = refl

attr_no_name : resource_has_names (record { id = codes "r1"; name = codes "Media"; class = codes "C"; status = codes "Available"; attrs = (codes "a b", []) ∷ [] }) ≡ false
unfolding resource_has_names
attr_no_name = refl

nothing : shows_nothing nothing_shown ≡ true
nothing = refl

locked : shows_nothing (record { locked = true; spawn_ids = []; spawn_status = NotSpawned }) ≡ false
locked = refl

-- an id that isn't one is also something
empty_spawn_id : shows_nothing (record { locked = false; spawn_ids = [] ∷ []; spawn_status = NotSpawned }) ≡ false
empty_spawn_id = refl

for_writing : shows_nothing (record { locked = false; spawn_ids = []; spawn_status = SpawnedRW }) ≡ false
for_writing = refl

-- ---- links and lists

abbrev r2_input : Data
r2_input = object (member (codes "Usage") (string (codes "Input")) (member (codes "rRef") (string (codes "r2")) no_members))

input : link_form r2_input ≡ Some (record { rref = codes "r2"; usage = Input })
unfolding link_form
input = refl

output : link_form (object (member (codes "Usage") (string (codes "Output")) (member (codes "rRef") (string (codes "2")) no_members))) ≡ Some (record { rref = codes "2"; usage = Output })
unfolding link_form
output = refl

other_usage : link_form (object (member (codes "Usage") (string (codes "input")) (member (codes "rRef") (string (codes "r2")) no_members))) ≡ None
unfolding link_form
other_usage = refl

absent_pool : pool_form link_form None ≡ Some []
absent_pool = refl

one_link : pool_form link_form (Some (array (item r2_input no_items))) ≡ Some (record { rref = codes "r2"; usage = Input } ∷ [])
unfolding link_form
one_link = refl

no_link_in_it : pool_form link_form (Some (array (item r2_input (item null no_items)))) ≡ None
unfolding link_form
no_link_in_it = refl

no_list : pool_form link_form (Some r2_input) ≡ None
no_list = refl

link_written : link_data (record { rref = codes "r2"; usage = Input }) ≡ r2_input
link_written = refl

-- ---- audits

abbrev note : Members → Data
note more = object (member (codes "Name") (string (codes "Notification")) (member (codes "Text") (string (codes "late")) more))

a_note : audit_form (note (member (codes "TimeStamp") (number (unsigned 100)) no_members)) ≡ Some (Notification 100 (codes "late"))
unfolding audit_form notification_form
a_note = refl

time_as_text : audit_form (note (member (codes "TimeStamp") (string (codes "100")) no_members)) ≡ None
unfolding audit_form notification_form
time_as_text = refl

note_of_a_node : audit_form (note (member (codes "TimeStamp") (number (unsigned 100)) (member (codes "jRef") (string (codes "n1")) no_members))) ≡ None
unfolding audit_form notification_form
note_of_a_node = refl

abbrev times_and_node : Members → Members
times_and_node more = member (codes "TimeStamp") (number (unsigned 100)) (member (codes "jRef") (string (codes "n1")) more)

spawned : audit_form (object (member (codes "Name") (string (codes "Spawned")) (member (codes "NewSpawnID") (string (codes "S1")) (member (codes "Status") (string (codes "Waiting"))
    (times_and_node (member (codes "rRefsROCopied") (array (item (string (codes "r1")) no_items)) (member (codes "rRefsRWCopied") (array (item (string (codes "r2")) no_items)) no_members)))))))
    ≡ Some (Spawned 100 (codes "n1") (codes "S1") (codes "r1" ∷ []) (codes "r2" ∷ []) (codes "Waiting"))
unfolding audit_form spawn_audit_form
spawned = refl

merged : audit_form (object (member (codes "MergeID") (string (codes "S1")) (member (codes "Name") (string (codes "Merged")) (times_and_node (member (codes "rRefsOverwritten") (array no_items) no_members)))))
    ≡ Some (Merged 100 (codes "n1") (codes "S1") [])
unfolding audit_form merge_audit_form
merged = refl

-- lists of ids may not be absent
merged_without_list : audit_form (object (member (codes "MergeID") (string (codes "S1")) (member (codes "Name") (string (codes "Merged")) (times_and_node no_members)))) ≡ None
unfolding audit_form merge_audit_form
merged_without_list = refl

other_audit : audit_form (object (member (codes "Name") (string (codes "Created")) no_members)) ≡ None
unfolding audit_form
other_audit = refl

copied_no_id : audit_has_names (Spawned 100 (codes "n1") (codes "S1") (codes "r1" ∷ [] ∷ []) [] (codes "Waiting")) ≡ false
unfolding audit_has_names
copied_no_id = refl

note_has_no_name : audit_has_names (Notification 100 []) ≡ true
unfolding audit_has_names
note_has_no_name = refl

-- ---- nodes

-- {..,"ID":"n0",..,"Status":"Waiting","Type":"Product"}
abbrev node_with : Members → Data
node_with pools = object (member (codes "ID") (string (codes "n0")) (member (codes "JobPartID") (string (codes "p0")) pools))

abbrev waiting : Members
waiting = member (codes "Status") (string (codes "Waiting")) (member (codes "Type") (string (codes "Product")) no_members)

abbrev locked_media : Data
locked_media =
    object (member (codes "Class") (string (codes "Consumable")) (member (codes "ID") (string (codes "r1")) (member (codes "Locked") (boolean true) (member (codes "Name") (string (codes "Media")) with_status))))

absent_pools : own_row node_members 1 (node_with waiting)
    ≡ Some (record { row = record { id = codes "n0"; depth = 1; kind = codes "Product"; job_part = codes "p0"; status = codes "Waiting"; attrs = []; resources = []; links = []; audits = [] }; pool = [] })
unfolding own_row
absent_pools = refl

one_locked : own_row node_members 1 (node_with (member (codes "ResourceLinkPool") (array (item r2_input no_items)) (member (codes "ResourcePool") (array (item (media_with with_status) (item locked_media no_items))) waiting)))
    ≡ Some (record {
      row = record { id = codes "n0"; depth = 1; kind = codes "Product"; job_part = codes "p0"; status = codes "Waiting"; attrs = []; resources = media ∷ media ∷ []; links = record { rref = codes "r2"; usage = Input } ∷ []; audits = [] };
      pool = record { resource = media; shown = nothing_shown } ∷ record { resource = media; shown = record { locked = true; spawn_ids = []; spawn_status = NotSpawned } } ∷ [];
    })
unfolding own_row resource_form own_resource shown_form link_form
one_locked = refl

job_id_of_a_child : own_row node_members 2 (object (member (codes "ID") (string (codes "n1")) (member (codes "JobID") (string (codes "J1")) no_members))) ≡ None
unfolding own_row
job_id_of_a_child = refl

-- marks come before what is wrong with the rows
marks_before_rows : (rows : List NodeRow) → built_fault (record { job = record { job_id = codes "J1"; rows = rows }; bare = false }) ≡ Some ReservedStatus
marks_before_rows rows = refl

-- no rows are no tree
no_rows : built_fault (record { job = record { job_id = codes "J1"; rows = [] }; bare = true }) ≡ Some NotATree
no_rows = refl
