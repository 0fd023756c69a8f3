-- What is stored of a worker, when it is read again.
use Rattle.std.specs.Prelude.{◌≡◌, ◌==◌, ◌&&◌, Bool, true, not}
use Rattle.std.specs.List.{list_all}
use Rattle.std.specs.Option.{option_map_or}
use Rattle.std.specs.Str.{bytes_eq}
use Rattle.ticket_tree.specs.Part.{PartCopy, is_sound}
use Rattle.worker_core.specs.Numbers.{are_distinct_numbers}
use Rattle.worker_core.specs.Worker.{IsConsistent, State, has_ended_so, keeps_part, numbers}
use Rattle.worker_core.specs.declared.entry.Entry.{Entry}

-- whether a part can be an entry's: it is of its spawn, is sound, and has the Status of its end
abbrev pub is_part_of : Entry → PartCopy → Bool
is_part_of e p = (p.spawn_id == e.spawn_id) && is_sound p && has_ended_so e.phase p

-- whether an entry can be a worker's: where it keeps a part it has one that can be its, and else
-- none
abbrev pub is_entry : Entry → Bool
is_entry e =
    option_map_or (λ p. keeps_part e.phase && is_part_of e p) e.part (not (keeps_part e.phase))

-- whether this can be a worker: its name is not its master's, no two of its entries are of one
-- spawn, and each can be a worker's
abbrev pub is_worker : State → Bool
is_worker w =
    not (bytes_eq w.name w.master) && are_distinct_numbers (numbers w.entries)
    && list_all is_entry w.entries

-- a worker of which all holds that always does can be one
abbrev pub AKeptWorkerIsStored : Type 0
AKeptWorkerIsStored = (w : State) → IsConsistent w → is_worker w ≡ true
