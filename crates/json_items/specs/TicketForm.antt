-- The value that JSON data is, or the first refusal of it: `NotProfile`, `BadId`, `BadText`, and
-- then what is wrong with a ticket.
use Rattle.std.specs.Prelude.{◌&&◌, Bool, [], ◌∷◌, Option, Result, Err}
use Rattle.std.specs.List.{list_all}
use Rattle.std.specs.Option.{option_map_or}
use Rattle.serde_json.specs.Data.{Data}
use Rattle.ticket_items.specs.Names.{is_name, is_text}
use Rattle.ticket_rows.specs.Ticket.{Job, fault_of, unless, first_of}
use Rattle.ticket_items.specs.declared.node_row.NodeRow.{NodeRow}
use Rattle.ticket_items.specs.declared.edit.Edit.{Edit}
use Rattle.ticket_items.specs.declared.refusal.Refusal.{Refusal}
use Rattle.ticket_items.specs.declared.refusal.Refusal.TheVariants.{NotProfile}
use Rattle.ticket_items.specs.declared.refusal.Refusal.TheVariants.{ReservedStatus}
use Rattle.json_items.specs.Edits.{edit_form, edit_has_names, edit_has_texts}
use Rattle.json_items.specs.Validation.{checked_draft, checked_fault, checked_value, first_fault}
use Rattle.json_items.specs.TicketDraft.{RawTicket, ticket_form}
use Rattle.json_items.specs.Resources.{resource_has_names, resource_has_texts}
use Rattle.json_items.specs.Links.{link_has_names}
use Rattle.json_items.specs.Audits.{audit_has_names, audit_has_texts}

-- ---- names and texts

-- the id and the names of a node itself
unfoldable pub node_has_names : NodeRow → Bool
node_has_names r = is_name r.id && is_name r.kind && is_name r.job_part && is_name r.status
    && list_all (λ p. is_name p.0) r.attrs

-- those in its pools
unfoldable pub pools_have_names : NodeRow → Bool
pools_have_names r = list_all resource_has_names r.resources && list_all link_has_names r.links
    && list_all audit_has_names r.audits

abbrev pub row_has_names : NodeRow → Bool
row_has_names r = node_has_names r && pools_have_names r

-- the texts of a node and of its pools
unfoldable pub row_has_texts : NodeRow → Bool
row_has_texts r = list_all (λ p. is_text p.1) r.attrs && list_all resource_has_texts r.resources
    && list_all audit_has_texts r.audits

abbrev pub job_has_names : Job → Bool
job_has_names t = is_name t.job_id && list_all row_has_names t.rows

abbrev pub job_has_texts : Job → Bool
job_has_texts t = list_all row_has_texts t.rows

-- whether all ids and names are such
abbrev pub has_names : RawTicket → Bool
has_names t = job_has_names t.job

-- whether all texts are such
abbrev pub has_texts : RawTicket → Bool
has_texts t = job_has_texts t.job

-- ---- faults

-- what is wrong with the draft of a ticket whose names and texts are such: marks of spawns, which
-- no original has, then its rows
abbrev pub built_fault : RawTicket → Option Refusal
built_fault t = first_of (unless t.bare ReservedStatus ∷ fault_of t.job.rows ∷ [])

-- what is wrong with the draft of a ticket
abbrev pub ticket_fault : RawTicket → Option Refusal
ticket_fault t = checked_fault (has_names t) (has_texts t) (built_fault t)

-- what is wrong with the draft of an edit
abbrev pub edit_fault : Edit → Option Refusal
edit_fault e = first_fault edit_has_names edit_has_texts e

-- ---- what data is read as

-- the ticket that the data is
abbrev pub ticket_read : Data → Result Job Refusal
ticket_read d = option_map_or (λ t. checked_value (ticket_fault t) t.job) (ticket_form d) (Err NotProfile)

-- the edit that the data is
abbrev pub edit_read : Data → Result Edit Refusal
edit_read d = checked_draft edit_fault (edit_form d)
