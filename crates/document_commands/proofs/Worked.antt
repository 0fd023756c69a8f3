-- What `edit` reads and writes, computed on a small document.
use Rattle.std.proofs.Common.{◌≡◌, ℕ, List, [], ◌∷◌, ◌++◌, Ok, Err, refl}
use Rattle.std.specs.Fmt.{digits}
use Rattle.std.specs.Prelude.{codes}
use Rattle.serde_json.specs.Data.{Data, no_items, item, no_members, member, unsigned, number, array}
use Rattle.serde_json.specs.Data.{object}
use Rattle.ticket_rows.specs.Ticket.{Job}
use Rattle.ticket_items.specs.declared.edit.Edit.{Edit}
use Rattle.ticket_items.specs.declared.edit.Edit.TheVariants.{SetStatus, Note}
use Rattle.ticket_items.specs.declared.node_row.NodeRow.{NodeRow}
use Rattle.ticket_items.specs.declared.refusal.Refusal.TheVariants.{BadId, NotProfile}
use Rattle.json_items.specs.TicketDraft.{own_row, ticket_form}
use Rattle.json_items.specs.Edits.{adding_form, edit_form, set_status_form, setting_form}
use Rattle.json_items.specs.Edits.{note_form}
use Rattle.json_items.specs.TicketForm.{node_has_names, pools_have_names, row_has_texts}
use Rattle.json_text.specs.Written.{edit_data, ticket_data}
use Rattle.document_commands.specs.EditCommand.Document.{document_form, document_read}
use Rattle.document_commands.specs.declared.edit_command.document.Document.{Document}
use Rattle.document_commands.specs.EditCommand.Run.{output_of, status_of, ticket_text}

-- a node at a Status
abbrev product : List ℕ → NodeRow
product status =
    record {
      id = codes "n0";
      depth = 1;
      kind = codes "Product";
      job_part = codes "p0";
      status = status;
      attrs = [];
      resources = [];
      links = [];
      audits = [];
    }

abbrev job : Job
job = record { job_id = codes "J1"; rows = product (codes "Waiting") ∷ [] }

abbrev started : Edit
started = SetStatus (codes "n0") (codes "InProgress")

abbrev spawned : Edit
spawned = SetStatus (codes "n0") (codes "Spawned")

abbrev of_edits : List Edit → Document
of_edits edits = record { at = 100; edits = edits; ticket = job }

-- ---- read

-- {"At":100,"Edits":[..],"Ticket":{..}}
abbrev document : Edit → Data
document e =
    object
    (member (codes "At") (number (unsigned 100))
    (member (codes "Edits") (array (item (edit_data e) no_items))
    (member (codes "Ticket") (ticket_data job) no_members)))

one_edit : document_read (document started) ≡ Ok (of_edits (started ∷ []))
unfolding document_form edit_form adding_form setting_form set_status_form
    ticket_form own_row node_has_names pools_have_names row_has_texts
one_edit = refl

-- the names in edits are checked with those of the ticket
no_node : document_read (document (Note (codes "0n") (codes "late"))) ≡ Err BadId
unfolding document_form edit_form adding_form note_form
    ticket_form own_row node_has_names pools_have_names row_has_texts
no_node = refl

no_document : document_read (ticket_data job) ≡ Err NotProfile
unfolding document_form
no_document = refl

-- ---- written

-- the line of the job, with this Status of its node
abbrev job_line : List ℕ → List ℕ
job_line status = ticket_text (record { job_id = codes "J1"; rows = product status ∷ [] })

nothing_done : output_of (of_edits []) ≡ job_line (codes "Waiting")
nothing_done = refl

nothing_refused : status_of (of_edits []) ≡ 0
nothing_refused = refl

-- a refused edit changes nothing, and those behind it are done
second_done : output_of (of_edits (spawned ∷ started ∷ []))
    ≡ codes "Refused 5 ReservedStatus" ++ 10 ∷ codes "Edited" ++ 10 ∷ job_line (codes "InProgress")
unfolding digits
second_done = refl

first_refused : status_of (of_edits (spawned ∷ started ∷ [])) ≡ 1
first_refused = refl
