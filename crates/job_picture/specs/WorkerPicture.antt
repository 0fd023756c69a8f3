-- The picture of a worker: what it keeps, and the nodes of that.
use Rattle.std.specs.Prelude.{ℕ, ◌∷◌, ◌++◌, true, List, [], codes, length, map}
use Rattle.std.specs.Prelude.{Option, Some, None, if◌then◌else◌}
use Rattle.std.specs.Fmt.{decimal}
use Rattle.std.specs.List.{filter, flat_map}
use Rattle.ticket_items.specs.declared.node_row.NodeRow.{NodeRow}
use Rattle.ticket_items.specs.declared.res_mark.ResMark.{ResMark}
use Rattle.ticket_items.specs.declared.spawn_status.SpawnStatus.TheVariants.{SpawnedRO, SpawnedRW}
use Rattle.ticket_tree.specs.Part.{PartCopy}
use Rattle.worker_core.specs.Worker.{State, is_closed, is_declined, is_open}
use Rattle.worker_core.specs.declared.entry.Entry.{Entry}
use Rattle.job_list.specs.Work.{works_of_worker}
use Rattle.job_picture.specs.Cards.{card}
use Rattle.job_picture.specs.Rows.{Line, copy_words, node_line}
use Rattle.job_picture.specs.Wall.{wall}

-- no mark of any resource
abbrev pub no_mark : List ℕ → Option ResMark
no_mark x = None

-- the spawn through which a worker may change what an entry has: its own while that is open
abbrev pub open_spawn : Entry → Option ℕ
open_spawn e = if is_open e then Some e.spawn_id else None

-- the lines of nodes that a spawn holds, or none, the first with copies in words
abbrev pub own_lines : Option ℕ → List ℕ → List NodeRow → List Line
own_lines held copies [] = []
own_lines held copies (r ∷ rs) = node_line no_mark r held copies ∷ own_lines held [] rs

-- the copies of a part, those to change first
abbrev pub part_copies : PartCopy → List ℕ
part_copies p =
    copy_words SpawnedRW p.spawn_id p.rw ++ copy_words SpawnedRO p.spawn_id p.ro

-- the lines of the nodes of a part that is held, the first with the part's copies
abbrev pub part_lines : Option ℕ → Option PartCopy → List Line
part_lines held None = []
part_lines held (Some p) = own_lines held (part_copies p) p.rows

-- the lines of the nodes of an entry, while that keeps its part
abbrev pub entry_lines : Entry → List Line
entry_lines e = part_lines (open_spawn e) e.part

-- how many entries are closed, and how many were declined
unfoldable pub closed_entries : List Entry → List ℕ
closed_entries entries =
    decimal (length (filter is_closed entries)) ++ codes " closed, "
    ++ decimal (length (filter is_declined entries)) ++ codes " declined"

-- a worker and its master
unfoldable pub worker_title : State → List ℕ
worker_title w = codes "Worker " ++ w.name ++ codes ", master " ++ w.master

-- the picture of a worker at a moment
abbrev pub worker_picture_of : ℕ → State → List ℕ
worker_picture_of now w =
    wall now (worker_title w) (closed_entries w.entries) (codes "Here")
    (map (card now) (works_of_worker true w)) (flat_map entry_lines w.entries)
