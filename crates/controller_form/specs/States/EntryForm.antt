-- The form of an entry of a worker as it is stored. In a draft the ids, names and texts may be any
-- bytes, the spawn 0 where the text of its id names none, and the rows of its part no tree's.
use Rattle.std.specs.Prelude.{ℕ, ◌&&◌, Bool, true, false, List, [], ◌∷◌, codes, if◌then◌else◌}
use Rattle.std.specs.Prelude.{Option, Some, None, is_some}
use Rattle.std.specs.Option.{option_and_then, option_map, option_map_or}
use Rattle.std.specs.Str.{bytes_eq}
use Rattle.serde_json.specs.Data.{Data, Members, no_members, number, unsigned, string, object, put}
use Rattle.serde_json.specs.Find.{get}
use Rattle.ticket_items.specs.SpawnId.{is_spawn_number, spawn_text}
use Rattle.ticket_items.specs.declared.refusal.Refusal.{Refusal}
use Rattle.ticket_tree.specs.Part.{PartCopy}
use Rattle.json_items.specs.PartDraft.{RawPart, part_form as form_of_part}
use Rattle.json_items.specs.PartForm as part_form
use Rattle.json_source.specs.Read.{◌>>=◌, some_if, has_only, number_under, text_under}
use Rattle.json_text.specs.PartWritten.{part_data}
use Rattle.worker_core.specs.Worker.{end_word}
use Rattle.world_items.specs.declared.end.End.{End}
use Rattle.worker_core.specs.declared.entry.Entry.{Entry}
use Rattle.worker_core.specs.declared.stage.Stage.{Stage}
use Rattle.worker_core.specs.declared.stage.Stage.TheVariants.{Open, Done, Closed, Declined}
use Rattle.controller_form.specs.Orders.EndNamed.{end_named}
use Rattle.controller_form.specs.Orders.KnownSpawn.{spawn_under}
use Rattle.controller_form.specs.declared.states.format.Format.{Format}
use Rattle.controller_form.specs.declared.states.format.Format.TheVariants.{First, Second}
use Rattle.controller_form.specs.declared.states.stored_entry.StoredEntry.{StoredEntry}

-- ---- read, by members and their kinds alone

-- the stage that a word names in which the worker has the part
abbrev pub stage_named : List ℕ → Option Stage
stage_named word =
    if bytes_eq word (codes "Open") then Some Open else option_map Done (end_named word)

abbrev pub stage_under : Data → Option Stage
stage_under d = text_under (codes "Phase") d >>= stage_named

-- the members of an entry with its part: in the first format its id isn't among them
abbrev pub held_members : Format → List (List ℕ)
held_members First = codes "At" ∷ codes "Part" ∷ codes "Phase" ∷ []
held_members Second = codes "At" ∷ codes "ID" ∷ codes "Part" ∷ codes "Phase" ∷ []

-- its spawn, which in the first format the part alone tells
abbrev pub spawn_told : Format → RawPart → Data → Option ℕ
spawn_told First part d = Some part.spawn
spawn_told Second part d = spawn_under (codes "ID") d

-- an entry with its part
unfoldable pub held_form : Format → Data → Option StoredEntry
held_form format d = do
  _ ← some_if (has_only (held_members format) d)
  at ← number_under (codes "At") d
  phase ← stage_under d
  part ← option_and_then form_of_part (get (codes "Part") d)
  spawn ← spawn_told format part d
  Some (record { spawn = spawn; phase = phase; part = Some part; at = at })

-- an entry of which there is no part, in this stage
unfoldable pub partless_form : Stage → Data → Option StoredEntry
partless_form phase d = do
  at ← number_under (codes "At") d
  spawn ← spawn_under (codes "ID") d
  Some (record { spawn = spawn; phase = phase; part = None; at = at })

abbrev pub closed_members : List (List ℕ)
closed_members = codes "At" ∷ codes "End" ∷ codes "ID" ∷ codes "Phase" ∷ []

-- how the work on it ended
abbrev pub end_under : Data → Option End
end_under d = text_under (codes "End") d >>= end_named

-- one whose part was given up
unfoldable pub closed_form : Data → Option StoredEntry
closed_form d = do
  _ ← some_if (has_only closed_members d)
  end ← end_under d
  partless_form (Closed end) d

abbrev pub declined_members : List (List ℕ)
declined_members = codes "At" ∷ codes "ID" ∷ codes "Phase" ∷ []

-- one of a spawn that was declined
unfoldable pub declined_form : Data → Option StoredEntry
declined_form d = some_if (has_only declined_members d) >>= λ _. partless_form Declined d

-- whether data tells of a phase
abbrev pub has_phase : List ℕ → Data → Bool
has_phase word d = option_map_or (bytes_eq word) (text_under (codes "Phase") d) false

-- an entry; the first format tells of no part that was given up, and of none that was declined
unfoldable pub entry_form : Format → Data → Option StoredEntry
entry_form First d = held_form First d
entry_form Second d =
    if has_phase (codes "Closed") d then closed_form d
    else (if has_phase (codes "Declined") d then declined_form d else held_form Second d)

-- the entry of a draft
abbrev pub entry_in : StoredEntry → Entry
entry_in e =
    record {
      spawn_id = e.spawn;
      phase = e.phase;
      part = option_map part_form.part_of_raw e.part;
      at = e.at;
    }

-- ---- faults

-- whether its id is a spawn's, and the ids and names of its part are valid
abbrev pub entry_has_names : StoredEntry → Bool
entry_has_names e =
    is_spawn_number e.spawn && option_map_or part_form.has_names e.part true

abbrev pub entry_has_texts : StoredEntry → Bool
entry_has_texts e = option_map_or part_form.has_texts e.part true

-- what is wrong with its part, where the names and texts of that are valid
abbrev pub entry_fault : StoredEntry → Option Refusal
entry_fault e = option_and_then part_form.built_fault e.part

-- ---- written

abbrev pub stage_word : Stage → List ℕ
stage_word Open = codes "Open"
stage_word (Done how) = end_word how
stage_word (Closed how) = codes "Closed"
stage_word Declined = codes "Declined"

-- members, and the id of a spawn; the first format doesn't tell it
abbrev pub with_id : Format → ℕ → Members → Members
with_id First s members = members
with_id Second s members = put (codes "ID") (string (spawn_text s)) members

-- members, and the end of the work on a part that was given up
abbrev pub with_end : Stage → Members → Members
with_end (Closed how) members = put (codes "End") (string (end_word how)) members
with_end stage members = members

-- members, and the part that there is
abbrev pub with_part : Option PartCopy → Members → Members
with_part (Some p) members = put (codes "Part") (part_data p) members
with_part None members = members

abbrev pub entry_data : Format → Entry → Data
entry_data format e =
    object (with_part e.part (with_end e.phase (with_id format e.spawn_id
    (put (codes "Phase") (string (stage_word e.phase))
    (put (codes "At") (number (unsigned e.at)) no_members)))))

-- whether a format can tell an entry; the first tells of none without its part
abbrev pub is_told_in : Format → Entry → Bool
is_told_in First e = is_some e.part
is_told_in Second e = true
