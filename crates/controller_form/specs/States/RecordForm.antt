-- The form of a spawn's record as it is stored. As it is read its ids, names and texts may be any
-- bytes, and its id is 0 where the text of it names no spawn.
use Rattle.std.specs.Prelude.{ℕ, ◌&&◌, Bool, true, false, List, [], ◌∷◌, codes, if◌then◌else◌}
use Rattle.std.specs.Prelude.{Option, Some, None}
use Rattle.std.specs.List.{list_all}
use Rattle.std.specs.Option.{option_and_then}
use Rattle.std.specs.Str.{bytes_eq}
use Rattle.serde_json.specs.Data.{Data, no_members, member, number, unsigned, string, array, object}
use Rattle.serde_json.specs.Find.{as_str, get}
use Rattle.ticket_items.specs.Names.{is_name}
use Rattle.ticket_items.specs.SpawnId.{is_spawn_number, spawn_text}
use Rattle.spawn.specs.declared.records.phase.Phase.{Phase}
use Rattle.spawn.specs.declared.records.phase.Phase.TheVariants.{Out, Merged, Withdrawn}
use Rattle.spawn.specs.declared.records.spawn_rec.SpawnRec.{SpawnRec}
use Rattle.json_items.specs.TicketDraft.{are_bare, resources_of}
use Rattle.json_items.specs.Listed.{data_items, list_form, texts_data}
use Rattle.json_items.specs.Resources.{all_showing, raw_data, resource_form}
use Rattle.json_items.specs.Resources.{resource_has_names, resource_has_texts}
use Rattle.json_items.specs.Shown.{nothing_shown}
use Rattle.json_source.specs.Read.{◌>>=◌, some_if, has_only, number_under, text_under}
use Rattle.controller_form.specs.Orders.KnownSpawn.{spawn_under}
use Rattle.controller_form.specs.declared.states.format.Format.{Format}
use Rattle.controller_form.specs.declared.states.format.Format.TheVariants.{First, Second}
use Rattle.controller_form.specs.declared.states.stored_record.StoredRecord.{StoredRecord}

-- ---- read, by members and their kinds alone

abbrev pub phase_named : List ℕ → Option Phase
phase_named word =
    if bytes_eq word (codes "Out") then Some Out
    else (if bytes_eq word (codes "Merged") then Some Merged
    else (if bytes_eq word (codes "Withdrawn") then Some Withdrawn else None))

-- whether a format can tell a phase; the first tells of no spawn that was withdrawn
abbrev pub can_store_phase : Format → Phase → Bool
can_store_phase First Out = true
can_store_phase First Merged = true
can_store_phase First Withdrawn = false
can_store_phase Second phase = true

-- the phase that a format tells
abbrev pub phase_under : Format → Data → Option Phase
phase_under format d = do
  word ← text_under (codes "Phase") d
  phase ← phase_named word
  _ ← some_if (can_store_phase format phase)
  Some phase

abbrev pub record_members : List (List ℕ)
record_members = codes "At" ∷ codes "ID" ∷ codes "Node" ∷ codes "Phase" ∷ codes "RO" ∷ codes "RW"
    ∷ codes "Worker" ∷ []

-- a record, and whether its copies to read show nothing of spawns
unfoldable pub record_form : Format → Data → Option StoredRecord
record_form format d = do
  _ ← some_if (has_only record_members d)
  at ← number_under (codes "At") d
  phase ← phase_under format d
  spawn ← spawn_under (codes "ID") d
  node ← text_under (codes "Node") d
  worker ← text_under (codes "Worker") d
  rw ← option_and_then (list_form as_str) (get (codes "RW") d)
  ro ← option_and_then (list_form resource_form) (get (codes "RO") d)
  Some (record {
    spawn = record {
      id = spawn;
      node = node;
      worker = worker;
      at = at;
      rw = rw;
      ro = resources_of ro;
      phase = phase;
    };
    bare = are_bare ro;
  })

-- whether it can tell each phase of several spawns
abbrev pub can_store_phases : Format → List SpawnRec → Bool
can_store_phases format spawns = list_all (λ r. can_store_phase format r.phase) spawns

-- ---- ids, names and texts

-- whether its id is a spawn's, and all others but those of its copies to read are valid
abbrev pub spawn_has_ids : SpawnRec → Bool
spawn_has_ids r =
    is_spawn_number r.id && is_name r.node && is_name r.worker && list_all is_name r.rw

-- and the names of its copies are too
unfoldable pub spawn_has_names : SpawnRec → Bool
spawn_has_names r = spawn_has_ids r && list_all resource_has_names r.ro

unfoldable pub spawn_has_texts : SpawnRec → Bool
spawn_has_texts r = list_all resource_has_texts r.ro

abbrev pub record_has_names : StoredRecord → Bool
record_has_names r = spawn_has_names r.spawn

abbrev pub record_has_texts : StoredRecord → Bool
record_has_texts r = spawn_has_texts r.spawn

-- ---- written

abbrev pub phase_word : Phase → List ℕ
phase_word Out = codes "Out"
phase_word Merged = codes "Merged"
phase_word Withdrawn = codes "Withdrawn"

-- the copies to read show nothing of spawns
abbrev pub record_data : SpawnRec → Data
record_data r =
    object (member (codes "At") (number (unsigned r.at))
    (member (codes "ID") (string (spawn_text r.id))
    (member (codes "Node") (string r.node)
    (member (codes "Phase") (string (phase_word r.phase))
    (member (codes "RO") (array (data_items raw_data (all_showing nothing_shown r.ro)))
    (member (codes "RW") (texts_data r.rw)
    (member (codes "Worker") (string r.worker) no_members)))))))
