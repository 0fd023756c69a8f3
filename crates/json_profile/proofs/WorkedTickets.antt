-- A ticket and edits, computed from value to value and back.
use Rattle.std.proofs.Common.{◌≡◌, ℕ, false, List, [], ◌∷◌, Ok, Err, refl}
use Rattle.std.specs.Prelude.{codes}
use Rattle.serde_json.specs.Data.{Data, no_items, item, no_members, member, boolean, number, string}
use Rattle.serde_json.specs.Data.{array, object, unsigned}
use Rattle.ticket_rows.specs.Ticket.{Job}
use Rattle.ticket_items.specs.declared.edit.Edit.TheVariants.{SetStatus, AddLink}
use Rattle.ticket_items.specs.declared.link.Link.{Link}
use Rattle.ticket_items.specs.declared.node_row.NodeRow.{NodeRow}
use Rattle.ticket_items.specs.declared.refusal.Refusal.TheVariants.{NotProfile, BadId}
use Rattle.ticket_items.specs.declared.resource.Resource.{Resource}
use Rattle.ticket_items.specs.declared.usage.Usage.TheVariants.{Input, Output}
use Rattle.json_items.specs.TicketDraft.{own_row, ticket_form}
use Rattle.json_items.specs.Edits.{adding_form, edit_form, set_status_form, setting_form}
use Rattle.json_items.specs.Edits.{add_link_form, note_form}
use Rattle.json_items.specs.TicketForm.{ticket_read, edit_read, node_has_names, pools_have_names}
use Rattle.json_items.specs.TicketForm.{row_has_texts}
use Rattle.json_items.specs.Resources.{own_resource, resource_form}
use Rattle.json_items.specs.Shown.{shown_form}
use Rattle.json_items.specs.Links.{link_form}
use Rattle.json_items.specs.Resources.{resource_has_names, resource_has_texts}
use Rattle.json_text.specs.Written.{ticket_data, edit_data}

-- ---- a shop's ticket

-- sheets are printed on paper, and cut
abbrev media : Resource
media =
    record {
      id = codes "r1";
      name = codes "Media";
      class = codes "Consumable";
      status = codes "Available";
      attrs = [];
    }

abbrev sheets : Resource
sheets =
    record {
      id = codes "r2";
      name = codes "Component";
      class = codes "Quantity";
      status = codes "Unavailable";
      attrs = [];
    }

abbrev node : List ℕ → ℕ → List ℕ → List ℕ → List Resource → List Link → NodeRow
node id depth kind job_part resources links =
    record {
      id = id;
      depth = depth;
      kind = kind;
      job_part = job_part;
      status = codes "Waiting";
      attrs = [];
      resources = resources;
      links = links;
      audits = [];
    }

abbrev paper_in : Link
paper_in = record { rref = codes "r1"; usage = Input }

abbrev sheets_out : Link
sheets_out = record { rref = codes "r2"; usage = Output }

abbrev sheets_in : Link
sheets_in = record { rref = codes "r2"; usage = Input }

abbrev job : Job
job =
    record {
      job_id = codes "J1";
      rows =
          node (codes "n0") 1 (codes "Product") (codes "p0") (media ∷ sheets ∷ []) []
          ∷ node (codes "n1") 2 (codes "ConventionalPrinting") (codes "p1") [] (paper_in ∷ sheets_out ∷ [])
          ∷ node (codes "n2") 2 (codes "Cutting") (codes "p2") [] (sheets_in ∷ []) ∷ [];
    }

-- ---- its value

abbrev media_data : Data
media_data =
    object (member (codes "Attr") (object no_members) (member (codes "Class") (string (codes
    "Consumable")) (member (codes "ID") (string (codes "r1")) (member (codes "Locked") (boolean
    false) (member (codes "Name") (string (codes "Media")) (member (codes "SpawnIDs") (array
    no_items) (member (codes "SpawnStatus") (string (codes "NotSpawned")) (member (codes
    "Status") (string (codes "Available")) no_members))))))))

abbrev sheets_data : Data
sheets_data =
    object (member (codes "Attr") (object no_members) (member (codes "Class") (string (codes
    "Quantity")) (member (codes "ID") (string (codes "r2")) (member (codes "Locked") (boolean
    false) (member (codes "Name") (string (codes "Component")) (member (codes "SpawnIDs") (array
    no_items) (member (codes "SpawnStatus") (string (codes "NotSpawned")) (member (codes
    "Status") (string (codes "Unavailable")) no_members))))))))

abbrev printing : Data
printing =
    object (member (codes "Attr") (object no_members) (member (codes "AuditPool") (array
    no_items) (member (codes "ID") (string (codes "n1")) (member (codes "JDF") (array no_items)
    (member (codes "JobPartID") (string (codes "p1")) (member (codes "ResourceLinkPool") (array
    (item (object (member (codes "Usage") (string (codes "Input")) (member (codes "rRef") (string
    (codes "r1")) no_members))) (item (object (member (codes "Usage") (string (codes "Output"))
    (member (codes "rRef") (string (codes "r2")) no_members))) no_items))) (member (codes
    "ResourcePool") (array no_items) (member (codes "Status") (string (codes "Waiting")) (member
    (codes "Type") (string (codes "ConventionalPrinting")) no_members)))))))))

abbrev cutting : Data
cutting =
    object (member (codes "Attr") (object no_members) (member (codes "AuditPool") (array
    no_items) (member (codes "ID") (string (codes "n2")) (member (codes "JDF") (array no_items)
    (member (codes "JobPartID") (string (codes "p2")) (member (codes "ResourceLinkPool") (array
    (item (object (member (codes "Usage") (string (codes "Input")) (member (codes "rRef") (string
    (codes "r2")) no_members))) no_items)) (member (codes "ResourcePool") (array no_items)
    (member (codes "Status") (string (codes "Waiting")) (member (codes "Type") (string (codes
    "Cutting")) no_members)))))))))

-- the members of each object in the byte order of their names
abbrev job_data : Data
job_data =
    object (member (codes "Attr") (object no_members) (member (codes "AuditPool") (array
    no_items) (member (codes "ID") (string (codes "n0")) (member (codes "JDF") (array (item
    printing (item cutting no_items))) (member (codes "JobID") (string (codes "J1")) (member
    (codes "JobPartID") (string (codes "p0")) (member (codes "ResourceLinkPool") (array no_items)
    (member (codes "ResourcePool") (array (item media_data (item sheets_data no_items))) (member
    (codes "Status") (string (codes "Waiting")) (member (codes "Type") (string (codes "Product"))
    no_members))))))))))

written : ticket_data job ≡ job_data
written = refl

read_again : ticket_read (ticket_data job) ≡ Ok job
unfolding ticket_form own_row resource_form own_resource shown_form link_form
    node_has_names pools_have_names row_has_texts resource_has_names resource_has_texts
read_again = refl

-- a ticket is no node alone: the job's id is missing
no_job : ticket_read (object no_members) ≡ Err NotProfile
unfolding ticket_form
no_job = refl

-- ---- edits

press_starts : edit_read (object (member (codes "Edit") (string (codes "SetStatus")) (member
    (codes "Node") (string (codes "n1")) (member (codes "Status") (string (codes "InProgress"))
    no_members))))
    ≡ Ok (SetStatus (codes "n1") (codes "InProgress"))
unfolding edit_form adding_form setting_form set_status_form
press_starts = refl

press_starts_written : edit_data (SetStatus (codes "n1") (codes "InProgress")) ≡ object (member
    (codes "Edit") (string (codes "SetStatus")) (member (codes "Node") (string (codes "n1"))
    (member (codes "Status") (string (codes "InProgress")) no_members)))
press_starts_written = refl

sheets_are_cut : edit_read (object (member (codes "Edit") (string (codes "AddLink")) (member
    (codes "Node") (string (codes "n2")) (member (codes "Usage") (string (codes "Input")) (member
    (codes "rRef") (string (codes "r2")) no_members)))))
    ≡ Ok (AddLink (codes "n2") sheets_in)
unfolding edit_form adding_form add_link_form
sheets_are_cut = refl

-- an id doesn't begin with a digit
no_id : edit_read (object (member (codes "Edit") (string (codes "Note")) (member (codes "Node")
    (string (codes "1n")) (member (codes "Text") (string (codes "late")) no_members))))
    ≡ Err BadId
unfolding edit_form adding_form note_form
no_id = refl

-- a member is missing, one is too many, or the kind isn't one of the eight
no_text : edit_read (object (member (codes "Edit") (string (codes "Note")) (member (codes "Node")
    (string (codes "n1")) no_members)))
    ≡ Err NotProfile
unfolding edit_form adding_form note_form
no_text = refl

one_too_many : edit_read (object (member (codes "At") (number (unsigned 1)) (member (codes
    "Edit") (string (codes "Note")) (member (codes "Node") (string (codes "n1")) (member (codes
    "Text") (string (codes "late")) no_members)))))
    ≡ Err NotProfile
unfolding edit_form adding_form note_form
one_too_many = refl

no_kind : edit_read (object (member (codes "Edit") (string (codes "Remove")) (member (codes
    "Node") (string (codes "n1")) no_members)))
    ≡ Err NotProfile
unfolding edit_form adding_form setting_form
no_kind = refl
