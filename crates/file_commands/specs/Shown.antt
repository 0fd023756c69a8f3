-- What `show` writes of a controller.
use Rattle.std.specs.Prelude.{ℕ, List, [], ◌∷◌, ◌++◌, codes, Option, Some, None}
use Rattle.std.specs.List.{flat_map}
use Rattle.serde_json.specs.Written.{compact_text}
use Rattle.ticket_items.specs.SpawnId.{spawn_text}
use Rattle.ticket_tree.specs.Part.{PartCopy}
use Rattle.json_text.specs.PartWritten.{part_data}
use Rattle.worker_core.specs.Worker as worker
use Rattle.worker_core.specs.declared.entry.Entry.{Entry}
use Rattle.worker_core.specs.declared.stage.Stage.{Stage}
use Rattle.worker_core.specs.declared.stage.Stage.TheVariants.{Open, Done, Closed, Declined}

-- how far the work on a part is, in words
abbrev pub stage_words : Stage → List ℕ
stage_words Open = codes "Open"
stage_words (Done how) = worker.end_word how
stage_words (Closed how) = codes "Closed " ++ worker.end_word how
stage_words Declined = codes "Declined"

-- the id of a spawn and words, with a space between
abbrev pub entry_head : ℕ → List ℕ → List ℕ
entry_head spawn words = spawn_text spawn ++ codes " " ++ words

-- the text of a part, if there is one, with a space before it
abbrev pub part_tail : Option PartCopy → List ℕ
part_tail None = []
part_tail (Some p) = codes " " ++ compact_text (part_data p)

-- the line of a worker's entry: its spawn, how far the work is, and the text of its part
abbrev pub entry_line : Entry → List ℕ
entry_line e = entry_head e.spawn_id (stage_words e.phase) ++ part_tail e.part ++ 10 ∷ []

-- a line for each of several entries
abbrev pub entry_lines : List Entry → List ℕ
entry_lines entries = flat_map entry_line entries

-- what a worker shows: its entries, in the order in which their parts were taken or declined
abbrev pub worker_text : worker.State → List ℕ
worker_text w = entry_lines w.entries
