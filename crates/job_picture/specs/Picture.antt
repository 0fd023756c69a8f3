-- The picture of a master: what is out, and its ticket with who holds what.
use Rattle.std.specs.Prelude.{ℕ, ◌++◌, Bool, true, false, List, [], codes, length, map}
use Rattle.std.specs.Prelude.{Option, Some, None}
use Rattle.std.specs.Fmt.{decimal}
use Rattle.std.specs.List.{filter}
use Rattle.std.specs.Option.{option_and_then}
use Rattle.ticket_items.specs.declared.node_row.NodeRow.{NodeRow}
use Rattle.ticket_items.specs.declared.res_mark.ResMark.{ResMark}
use Rattle.spawn.specs.Marking.{marks}
use Rattle.spawn.specs.declared.records.phase.Phase.{Phase}
use Rattle.spawn.specs.declared.records.phase.Phase.TheVariants.{Out, Merged, Withdrawn}
use Rattle.spawn.specs.declared.records.spawn_rec.SpawnRec.{SpawnRec}
use Rattle.world_items.specs.declared.holder.Holder.{Holder}
use Rattle.world_items.specs.declared.holder.Holder.TheVariants.{Master, Spawn}
use Rattle.master_core.specs.Master.{State, holder}
use Rattle.job_list.specs.Work.{works_of_master}
use Rattle.job_picture.specs.Cards.{card}
use Rattle.job_picture.specs.Marked.{mark_of}
use Rattle.job_picture.specs.Rows.{Line, node_line}
use Rattle.job_picture.specs.Wall.{wall}

-- the spawn that a holder is, if it is one
abbrev pub spawn_in : Holder → Option ℕ
spawn_in Master = None
spawn_in (Spawn s) = Some s

-- the spawn that holds an id, if one does
unfoldable pub spawn_at : State → List ℕ → Option ℕ
spawn_at m x = option_and_then spawn_in (holder m x)

-- the line of a node, by the marks of resources
abbrev pub held_line : State → (List ℕ → Option ResMark) → NodeRow → Line
held_line m mark r = node_line mark r (spawn_at m r.id) []

-- the lines of the ticket, in ticket order
unfoldable pub ticket_lines : State → List Line
ticket_lines m =
    map (held_line m (mark_of (marks m.ticket.rows m.records).resources)) m.ticket.rows

-- whether a spawn was merged, or was withdrawn
abbrev pub is_merged_phase : Phase → Bool
is_merged_phase Out = false
is_merged_phase Merged = true
is_merged_phase Withdrawn = false

abbrev pub is_withdrawn_phase : Phase → Bool
is_withdrawn_phase Out = false
is_withdrawn_phase Merged = false
is_withdrawn_phase Withdrawn = true

abbrev pub is_merged : SpawnRec → Bool
is_merged r = is_merged_phase r.phase

abbrev pub is_withdrawn : SpawnRec → Bool
is_withdrawn r = is_withdrawn_phase r.phase

-- how many spawns came back, and how many were withdrawn
unfoldable pub closed_spawns : List SpawnRec → List ℕ
closed_spawns records =
    decimal (length (filter is_merged records)) ++ codes " came back, "
    ++ decimal (length (filter is_withdrawn records)) ++ codes " withdrawn"

-- the job and its master
unfoldable pub title_of : State → List ℕ
title_of m = codes "Job " ++ m.ticket.job_id ++ codes ", master " ++ m.name

-- the picture of a master at a moment
abbrev pub picture_of : ℕ → State → List ℕ
picture_of now m =
    wall now (title_of m) (closed_spawns m.records) (codes "Out")
    (map (card now) (works_of_master true m)) (ticket_lines m)
