-- The form of a worker's state. In a draft the ids, names and texts may be any bytes, and the rows
-- of its parts no tree's.
use Rattle.std.specs.Prelude.{ℕ, ◌&&◌, ◌==◌, Bool, false, List, [], ◌∷◌, codes, map, Option}
use Rattle.std.specs.Prelude.{Some, Result, Err}
use Rattle.std.specs.List.{find, list_all, list_any}
use Rattle.std.specs.Option.{option_and_then, option_map_or}
use Rattle.serde_json.specs.Data.{Data, no_members, member, string, array, object}
use Rattle.serde_json.specs.Find.{get}
use Rattle.ticket_items.specs.Names.{is_name}
use Rattle.ticket_items.specs.Refusal.{number_of}
use Rattle.ticket_items.specs.declared.refusal.Refusal.{Refusal}
use Rattle.ticket_items.specs.declared.refusal.Refusal.TheVariants.{BadState}
use Rattle.ticket_items.specs.declared.refusal.Refusal.TheVariants.{NotProfile}
use Rattle.ticket_rows.specs.Ticket.{first_of, unless}
use Rattle.json_items.specs.Validation.{checked_fault, checked_value}
use Rattle.json_items.specs.Listed.{data_items, list_form}
use Rattle.json_source.specs.Read.{◌>>=◌, some_if, has_only, text_under}
use Rattle.worker_core.specs.Stored.{is_worker}
use Rattle.worker_core.specs.Worker.{State, state}
use Rattle.controller_form.specs.States.EntryForm.{entry_data, entry_fault, entry_form}
use Rattle.controller_form.specs.States.EntryForm.{entry_has_names, entry_has_texts, entry_in}
use Rattle.controller_form.specs.States.PartFaults.{part_faults}
use Rattle.controller_form.specs.States.StateFormat.{controller_under, format_of, read_in_format}
use Rattle.controller_form.specs.States.StateFormat.{state_data, written_format}
use Rattle.controller_form.specs.declared.states.format.Format.{Format}
use Rattle.controller_form.specs.declared.states.stored_entry.StoredEntry.{StoredEntry}

-- ---- read, by members and their kinds alone

-- a worker's state as it is read
pub record StoredWorker : Type 0 where
  pub name : List ℕ
  pub master : List ℕ
  pub entries : List StoredEntry

abbrev pub worker_members : List (List ℕ)
worker_members = codes "Entries" ∷ codes "Master" ∷ codes "Name" ∷ []

unfoldable pub worker_form : Format → Data → Option StoredWorker
worker_form format d = do
  _ ← some_if (has_only worker_members d)
  name ← text_under (codes "Name") d
  master ← text_under (codes "Master") d
  entries ← option_and_then (list_form (entry_form format)) (get (codes "Entries") d)
  Some (record { name = name; master = master; entries = entries })

-- the worker of a draft
abbrev pub worker_in : StoredWorker → State
worker_in w = state w.name w.master (map entry_in w.entries)

-- ---- faults

-- whether all ids and names, and all texts, are valid
abbrev pub worker_has_names : StoredWorker → Bool
worker_has_names w = is_name w.name && is_name w.master && list_all entry_has_names w.entries

abbrev pub worker_has_texts : StoredWorker → Bool
worker_has_texts w = list_all entry_has_texts w.entries

-- whether this is what is wrong with the part of an entry
abbrev pub is_fault : Refusal → StoredEntry → Bool
is_fault e entry = option_map_or (λ f. number_of f == number_of e) (entry_fault entry) false

-- what is wrong with parts whose names and texts are valid: the first fault that one of them has,
-- looked for in all of them before the next one is
abbrev pub parts_fault : List StoredEntry → Option Refusal
parts_fault entries = find (λ e. list_any (is_fault e) entries) part_faults

-- what is wrong with a draft whose names and texts are valid: its parts, or that no worker can have
-- come to it
abbrev pub worker_built_fault : StoredWorker → Option Refusal
worker_built_fault w =
    first_of (parts_fault w.entries ∷ unless (is_worker (worker_in w)) BadState ∷ [])

-- what is wrong with a draft: each fault in all of it before the next one
abbrev pub worker_fault : StoredWorker → Option Refusal
worker_fault w = checked_fault (worker_has_names w) (worker_has_texts w) (worker_built_fault w)

-- ---- what data is read as

-- the worker that a draft is, or its first refusal
abbrev pub judged_worker : Option StoredWorker → Result State Refusal
judged_worker draft =
    option_map_or (λ w. checked_value (worker_fault w) (worker_in w)) draft (Err NotProfile)

-- the worker whose state the data is, or its first refusal
abbrev pub worker_state_read : Data → Result State Refusal
worker_state_read d = read_in_format (format_of d) (λ format.
    judged_worker (option_and_then (worker_form format) (controller_under (codes "Worker") d)))

-- ---- written

abbrev pub worker_data : Format → State → Data
worker_data format w =
    object (member (codes "Entries") (array (data_items (entry_data format) w.entries))
    (member (codes "Master") (string w.master) (member (codes "Name") (string w.name) no_members)))

-- its state in a format
abbrev pub worker_state_in : Format → State → Data
worker_state_in format w = state_data format (codes "Worker") (worker_data format w)

-- its state as it is stored
abbrev pub worker_state_data : State → Data
worker_state_data w = worker_state_in written_format w
