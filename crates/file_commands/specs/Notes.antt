-- What is noted on standard error beside an output: the parts that are too large to come back soon.
use Rattle.std.specs.Prelude.{◌⊎◌, ℕ, ◌++◌, ◌∷◌, Bool, List, [], codes, decimal, length, nat_le}
use Rattle.std.specs.Prelude.{Option, Some, None, Result, Ok, if◌then◌else◌}
use Rattle.std.specs.List.{flat_map}
use Rattle.serde_json.specs.Written.{compact_text}
use Rattle.ticket_items.specs.SpawnId.{spawn_text}
use Rattle.ticket_items.specs.declared.refusal.Refusal.{Refusal}
use Rattle.ticket_tree.specs.Part.{PartCopy}
use Rattle.json_text.specs.PartWritten.{part_data}
use Rattle.world_items.specs.declared.reply.Reply.{Reply}
use Rattle.world_items.specs.declared.reply.Reply.TheVariants.{Edited}
use Rattle.worker_core.specs.declared.entry.Entry.{Entry}
use Rattle.stored_state.specs.declared.any_controller.AnyController.{AnyController}
use Rattle.stored_state.specs.declared.any_controller.AnyController.TheVariants.{Master as of_master}
use Rattle.stored_state.specs.declared.any_controller.AnyController.TheVariants.{Worker as of_worker}
use Rattle.streams.specs.Ends.{GivesOut}
use Rattle.streams.specs.Streams.{Stream, Traffic, Writes, WritesFront}
use Rattle.file_commands.specs.declared.notes.TheConstants.{LARGE_PART_BYTES, MESSAGE_BYTES}

-- how many bytes the text of a part has
abbrev pub part_size : PartCopy → ℕ
part_size p = length (compact_text (part_data p))

-- the note on the part of a spawn, which has so many bytes
unfoldable pub note_of : ℕ → ℕ → List ℕ
note_of spawn size =
    codes "Note: the part of " ++ spawn_text spawn ++ codes " has " ++ decimal size
    ++ codes " bytes; over HTTP a message has " ++ decimal MESSAGE_BYTES ++ codes " at most" ++ 10 ∷ []

-- the note on the part of a spawn, if there is one, and it is large
abbrev pub part_note : ℕ → Option PartCopy → List ℕ
part_note spawn None = []
part_note spawn (Some p) =
    if nat_le LARGE_PART_BYTES (part_size p) then note_of spawn (part_size p) else []

abbrev pub entry_note : Entry → List ℕ
entry_note e = part_note e.spawn_id e.part

-- those on the parts of entries
abbrev pub notes_on : List Entry → List ℕ
notes_on entries = flat_map entry_note entries

-- those on what a controller keeps: a master keeps no parts
abbrev pub notes_of : AnyController → List ℕ
notes_of (of_master m) = []
notes_of (of_worker w) = notes_on w.entries

-- behind an order's reply: of an edit, those on what the controller keeps then
abbrev pub notes_of_order : Result Reply Refusal → AnyController → List ℕ
notes_of_order (Ok Edited) c = notes_of c
notes_of_order reply c = []

-- behind the reply to a message: none
abbrev pub no_notes : Result Reply Refusal → AnyController → List ℕ
no_notes reply c = []

-- ---- how they are told

-- the notes are told, or a front of them where a write failed
abbrev pub TellsNotes : List ℕ → Traffic → Type 0
TellsNotes notes told = Writes told notes ⊎ WritesFront told notes

-- the output is given out, and the notes are told behind it
abbrev pub GivesOutNoting : List ℕ → Bool → List ℕ → Traffic → Traffic → ℕ → Type 0
GivesOutNoting text refused notes output told status =
    (tells : Stream)
    × GivesOut text refused output (record { before = told.before; after = tells }) status
    × TellsNotes notes (record { before = tells; after = told.after })
