-- The form of a master's state. As it is read the ids, names and texts may be any bytes, its rows
-- no tree's, and its resources may show spawns.
use Rattle.std.specs.Prelude.{ℕ, ◌&&◌, Bool, List, [], ◌∷◌, codes, map}
use Rattle.std.specs.Prelude.{Option, Some, Result, Err}
use Rattle.std.specs.List.{list_all}
use Rattle.std.specs.Option.{option_and_then, option_map_or}
use Rattle.serde_json.specs.Data.{Data, no_members, member, string, array, object}
use Rattle.serde_json.specs.Find.{get}
use Rattle.ticket_items.specs.Names.{is_name}
use Rattle.ticket_items.specs.declared.refusal.Refusal.{Refusal}
use Rattle.ticket_items.specs.declared.refusal.Refusal.TheVariants.{BadState}
use Rattle.ticket_items.specs.declared.refusal.Refusal.TheVariants.{NotProfile, ReservedStatus}
use Rattle.ticket_rows.specs.Ticket.{first_of, unless}
use Rattle.json_items.specs.TicketDraft.{RawTicket}
use Rattle.json_items.specs.TicketForm as ticket_form
use Rattle.json_items.specs.Validation.{checked_fault, checked_value}
use Rattle.json_items.specs.Listed.{data_items, list_form, texts_data}
use Rattle.json_source.specs.Read.{◌>>=◌, some_if, has_only, text_under}
use Rattle.json_text.specs.Written.{ticket_data}
use Rattle.master_core.specs.Master.{State, state}
use Rattle.master_core.specs.Stored.{is_master}
use Rattle.controller_form.specs.Openings.ShopForm.{ticket_under, workers_under}
use Rattle.controller_form.specs.States.RecordForm.{record_data, record_form}
use Rattle.controller_form.specs.States.RecordForm.{record_has_names, record_has_texts}
use Rattle.controller_form.specs.States.StateFormat.{controller_under, format_of, read_in_format}
use Rattle.controller_form.specs.States.StateFormat.{state_data, written_format}
use Rattle.controller_form.specs.declared.states.format.Format.{Format}
use Rattle.controller_form.specs.declared.states.stored_record.StoredRecord.{StoredRecord}

-- ---- read, by members and their kinds alone

-- a master's state as it is read
pub record StoredMaster : Type 0 where
  pub name : List ℕ
  pub workers : List (List ℕ)
  pub ticket : RawTicket
  pub records : List StoredRecord

abbrev pub master_members : List (List ℕ)
master_members = codes "Name" ∷ codes "Spawns" ∷ codes "Ticket" ∷ codes "Workers" ∷ []

-- what data is in a format, which has to tell the phases of the records
unfoldable pub master_form : Format → Data → Option StoredMaster
master_form format d = do
  _ ← some_if (has_only master_members d)
  name ← text_under (codes "Name") d
  workers ← workers_under d
  ticket ← ticket_under d
  records ← option_and_then (list_form (record_form format)) (get (codes "Spawns") d)
  Some (record { name = name; workers = workers; ticket = ticket; records = records })

-- the master of a draft
abbrev pub master_in : StoredMaster → State
master_in m = state m.name m.workers m.ticket.job (map (λ r. r.spawn) m.records)

-- ---- faults

-- whether all ids and names, and all texts, are valid
abbrev pub master_has_names : StoredMaster → Bool
master_has_names m = is_name m.name && list_all is_name m.workers && ticket_form.has_names m.ticket
    && list_all record_has_names m.records

abbrev pub master_has_texts : StoredMaster → Bool
master_has_texts m = ticket_form.has_texts m.ticket && list_all record_has_texts m.records

-- whether its records' copies to read show nothing of spawns
abbrev pub records_are_bare : List StoredRecord → Bool
records_are_bare records = list_all (λ r. r.bare) records

-- what is wrong with a draft whose names and texts are valid: a mark of spawns, its ticket, or that
-- no master can have come to it
abbrev pub master_built_fault : StoredMaster → Option Refusal
master_built_fault m =
    first_of
    (unless (records_are_bare m.records) ReservedStatus ∷ ticket_form.built_fault m.ticket
    ∷ unless (is_master (master_in m)) BadState ∷ [])

-- what is wrong with a draft: each fault in all of it before the next one
abbrev pub master_fault : StoredMaster → Option Refusal
master_fault m = checked_fault (master_has_names m) (master_has_texts m) (master_built_fault m)

-- ---- what data is read as

-- the master that a draft is, or its first refusal
abbrev pub judged_master : Option StoredMaster → Result State Refusal
judged_master draft =
    option_map_or (λ m. checked_value (master_fault m) (master_in m)) draft (Err NotProfile)

-- the master whose state the data is, or its first refusal
abbrev pub master_state_read : Data → Result State Refusal
master_state_read d = read_in_format (format_of d) (λ format.
    judged_master (option_and_then (master_form format) (controller_under (codes "Master") d)))

-- ---- written

abbrev pub master_data : State → Data
master_data m =
    object (member (codes "Name") (string m.name)
    (member (codes "Spawns") (array (data_items record_data m.records))
    (member (codes "Ticket") (ticket_data m.ticket)
    (member (codes "Workers") (texts_data m.workers) no_members))))

-- its state in a format
abbrev pub master_state_in : Format → State → Data
master_state_in format m = state_data format (codes "Master") (master_data m)

-- its state as it is stored
abbrev pub master_state_data : State → Data
master_state_data m = master_state_in written_format m
