-- The definitions, computed on the commands of the shop's example.
use Rattle.std.proofs.Common.{◌≡◌, ℕ, List, [], ◌∷◌, Ok, Err, refl}
use Rattle.std.specs.Fmt.{digits}
use Rattle.std.specs.Prelude.{codes}
use Rattle.serde_json.specs.Data.{Data, no_members, member, null, unsigned, number, string, object}
use Rattle.json_items.specs.TicketDraft.{own_row}
use Rattle.json_items.specs.TicketForm.{node_has_names, pools_have_names, row_has_texts}
use Rattle.json_items.specs.Ancestors.{ancestor_form}
use Rattle.json_items.specs.PartDraft.{part_form}
use Rattle.json_items.specs.Ancestors.{ancestor_has_names}
use Rattle.json_items.specs.Links.{link_form}
use Rattle.json_items.specs.Resources.{own_resource, resource_form}
use Rattle.json_items.specs.Shown.{shown_form}
use Rattle.json_items.specs.Resources.{resource_has_names, resource_has_texts}
use Rattle.json_text.specs.PartWritten.{part_data}
use Rattle.ticket_items.specs.declared.node_row.NodeRow.{NodeRow}
use Rattle.ticket_items.specs.declared.refusal.Refusal.TheVariants.{BadId, NotProfile, ReservedStatus, WrongMessage, WrongVersion}
use Rattle.ticket_items.specs.declared.resource.Resource.{Resource}
use Rattle.ticket_items.specs.declared.usage.Usage.TheVariants.{Input, Output}
use Rattle.ticket_tree.specs.Part.{PartCopy}
use Rattle.jmf_message.specs.Decoded.{message_read}
use Rattle.jmf_message.specs.Form.{document_form, is_command, jmf_form}
use Rattle.controller.specs.Words.{message_id}
use Rattle.jmf_message.specs.Written.{message_data}
use Rattle.controller.specs.declared.body.Body.TheVariants as bodies
use Rattle.controller.specs.declared.message.Message.{Message}

-- ---- the part of n1, with r2 to change and r1 to read

abbrev media : Resource
media = record { id = codes "r1"; name = codes "Media"; class = codes "Consumable"; status = codes "Available"; attrs = [] }

abbrev component : Resource
component = record { id = codes "r2"; name = codes "Component"; class = codes "Quantity"; status = codes "Unavailable"; attrs = [] }

abbrev printing_row : List ℕ → NodeRow
printing_row status =
    record {
      id = codes "n1";
      depth = 1;
      kind = codes "ConventionalPrinting";
      job_part = codes "p1";
      status = status;
      attrs = [];
      resources = [];
      links = record { rref = codes "r1"; usage = Input } ∷ record { rref = codes "r2"; usage = Output } ∷ [];
      audits = [];
    }

abbrev printing : List ℕ → PartCopy
printing status =
    record { job_id = codes "J1"; spawn_id = 1; ancestors = record { node_id = codes "n0"; job_part = codes "p0" } ∷ []; rows = printing_row status ∷ []; rw = component ∷ []; ro = media ∷ [] }

abbrev waiting : PartCopy
waiting = printing (codes "Waiting")

-- ---- the part goes out, and comes back

abbrev first : Message
first = record { sender = codes "mis"; receiver = codes "press"; at = 100; body = bodies.Submit waiting }

abbrev returned : Message
returned = record { sender = codes "press"; receiver = codes "mis"; at = 120; body = bodies.Return waiting }

-- {"JDF":..,"JMF":{"Command":..,"ReceiverID":"press","SenderID":..,"TimeStamp":100,"Version":..}}
abbrev document : Data → Data → List ℕ → List ℕ → Data
document part command sender version =
    object (member (codes "JDF") part (member (codes "JMF") (object (member (codes "Command") command (member (codes "ReceiverID") (string (codes "press"))
    (member (codes "SenderID") (string sender) (member (codes "TimeStamp") (number (unsigned 100)) (member (codes "Version") (string version) no_members)))))) no_members))

abbrev submission : List ℕ → List ℕ → List ℕ → Data
submission id entry return_jmf =
    object (member (codes "ID") (string id) (member (codes "QueueSubmissionParams") (object (member (codes "QueueEntryID") (string entry) (member (codes "ReturnJMF") (string return_jmf)
    (member (codes "ReturnURL") (string (codes "cid:jdf")) (member (codes "URL") (string (codes "cid:jdf")) no_members))))) (member (codes "Type") (string (codes "SubmitQueueEntry")) no_members)))

abbrev of_first : Data
of_first = submission (codes "Q.S1") (codes "S1") (codes "jmf:mis")

first_written : message_data first ≡ document (part_data waiting) of_first (codes "mis") (codes "1.5")
unfolding digits
first_written = refl

first_id : message_id first.body ≡ codes "Q.S1"
unfolding digits
first_id = refl

return_id : message_id returned.body ≡ codes "R.S1"
unfolding digits
return_id = refl

first_read : message_read (message_data first) ≡ Ok first
unfolding digits document_form jmf_form is_command part_form own_row resource_form own_resource shown_form link_form ancestor_form ancestor_has_names node_has_names pools_have_names row_has_texts resource_has_names resource_has_texts
first_read = refl

return_read : message_read (message_data returned) ≡ Ok returned
unfolding digits document_form jmf_form is_command part_form own_row resource_form own_resource shown_form link_form ancestor_form ancestor_has_names node_has_names pools_have_names row_has_texts resource_has_names resource_has_texts
return_read = refl

-- ---- commands that no message gives, each with a fault that comes later

-- the Version comes before the ID
other_version : message_read (document (part_data waiting) (submission (codes "Q.S2") (codes "S1") (codes "jmf:mis")) (codes "mis") (codes "1.4")) ≡ Err WrongVersion
unfolding digits document_form jmf_form is_command part_form own_row resource_form own_resource shown_form link_form ancestor_form
other_version = refl

-- the ID comes before the sender's
id_of_another_spawn : message_read (document (part_data waiting) (submission (codes "Q.S2") (codes "S1") (codes "jmf:1")) (codes "1") (codes "1.5")) ≡ Err WrongMessage
unfolding digits document_form jmf_form is_command part_form own_row resource_form own_resource shown_form link_form ancestor_form
id_of_another_spawn = refl

-- a sender that is no id, at a place that names it, comes before the part's Status
sender_no_id : message_read (document (part_data (printing (codes "Spawned"))) (submission (codes "Q.S1") (codes "S1") (codes "jmf:1")) (codes "1") (codes "1.5")) ≡ Err BadId
unfolding digits document_form jmf_form is_command part_form own_row resource_form own_resource shown_form link_form ancestor_form
sender_no_id = refl

status_spawned : message_read (document (part_data (printing (codes "Spawned"))) of_first (codes "mis") (codes "1.5")) ≡ Err ReservedStatus
unfolding digits document_form jmf_form is_command part_form own_row resource_form own_resource shown_form link_form ancestor_form ancestor_has_names node_has_names pools_have_names row_has_texts resource_has_names resource_has_texts
status_spawned = refl

-- the part has to be one before anything else is asked
no_part : message_read (document null of_first (codes "mis") (codes "1.4")) ≡ Err NotProfile
unfolding document_form jmf_form is_command part_form
no_part = refl
