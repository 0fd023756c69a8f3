-- What a worker shows, as JSON.
use Rattle.std.specs.Prelude.{ℕ, ◌++◌, ◌∷◌, List, [], codes, Option, Some, None}
use Rattle.serde_json.specs.Data.{Data, Members, array, member, no_members, object, string}
use Rattle.serde_json.specs.Written.{compact_text}
use Rattle.ticket_items.specs.SpawnId.{spawn_text}
use Rattle.ticket_tree.specs.Part.{PartCopy}
use Rattle.json_items.specs.Listed.{data_items}
use Rattle.json_text.specs.PartWritten.{part_data}
use Rattle.list_text.specs.JsonLine.{number_data}
use Rattle.worker_core.specs.Worker.{State, end_word}
use Rattle.world_items.specs.declared.end.End.{End}
use Rattle.worker_core.specs.declared.entry.Entry.{Entry}
use Rattle.worker_core.specs.declared.stage.Stage.{Stage}
use Rattle.worker_core.specs.declared.stage.Stage.TheVariants.{Open, Done, Closed, Declined}

-- how the work on a part ended, if it has
abbrev pub end_of : Stage → Option End
end_of Open = None
end_of (Done how) = Some how
end_of (Closed how) = Some how
end_of Declined = None

-- how far the work on a part is, in a word
abbrev pub stage_word : Stage → List ℕ
stage_word Open = codes "Open"
stage_word (Done how) = codes "Done"
stage_word (Closed how) = codes "Closed"
stage_word Declined = codes "Declined"

-- members behind an end, if there is one
abbrev pub with_end : Option End → Members → Members
with_end None more = more
with_end (Some how) more = member (codes "End") (string (end_word how)) more

-- members behind a part, if there is one
abbrev pub with_part : Option PartCopy → Members → Members
with_part None more = more
with_part (Some p) more = member (codes "Part") (part_data p) more

-- an entry of a time: how far it is and how it ended, the part that it keeps, and the spawn
abbrev pub told_entry : ℕ → Stage → Option PartCopy → ℕ → Data
told_entry at stage part spawn =
    object
    (member (codes "At") (number_data at)
    (with_end (end_of stage)
    (with_part part
    (member (codes "Phase") (string (stage_word stage))
    (member (codes "SpawnID") (string (spawn_text spawn)) no_members)))))

abbrev pub entry_data : Entry → Data
entry_data e = told_entry e.at e.phase e.part e.spawn_id

-- the entries of a worker, each once, in the order in which they were taken or declined
abbrev pub worker_data : State → Data
worker_data w = array (data_items entry_data w.entries)

-- the same as a line of text
abbrev pub worker_line : State → List ℕ
worker_line w = compact_text (worker_data w) ++ 10 ∷ []
