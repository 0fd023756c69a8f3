-- How the ids that spawns hold are kept in step with a ticket and its records.
use Rattle.std.specs.Prelude.{◌≡◌, ℕ, true, false, List, [], ◌∷◌, ◌++◌, Some, None, slice_get}
use Rattle.std.specs.Prelude.{slice_set}
use Rattle.ticket_items.specs.Edit.{target}
use Rattle.ticket_rows.specs.Edit.{edited_rows, refusal_of}
use Rattle.ticket_rows.specs.Place.{places}
use Rattle.ticket_rows.specs.Ticket.{IsValid}
use Rattle.ticket_items.specs.declared.edit.Edit.{Edit}
use Rattle.ticket_items.specs.declared.node_row.NodeRow.{NodeRow}
use Rattle.spawn.specs.Holdings.{Holdings, IsFree, IsGiven, IsTable, claims}
use Rattle.spawn.specs.Laws.{StandApart}
use Rattle.spawn.specs.Records.{is_out}
use Rattle.spawn.specs.Spawning.{new_record, spawn_refusal}
use Rattle.spawn.specs.Table.{holder_of}
use Rattle.world_items.specs.declared.holder.Holder.TheVariants.{Master}
use Rattle.spawn.specs.declared.records.spawn_rec.SpawnRec.{SpawnRec}

-- an edit of what the master holds changes nothing of what spawns hold
abbrev pub EditKeepsTable : Type 0
EditKeepsTable =
    (rows : List NodeRow) (recs : List SpawnRec) (e : Edit) (at : ℕ) (h : Holdings) → IsValid rows
    → StandApart rows recs → refusal_of e rows ≡ None → holder_of rows recs (target e) ≡ Some Master
    → IsTable rows recs h → IsTable (edited_rows e at rows) recs h

-- what a spawn claims that isn't refused no spawn holds
abbrev pub ClaimIsFree : Type 0
ClaimIsFree =
    (rows : List NodeRow) (recs : List SpawnRec) (number : ℕ) (n worker : List ℕ)
    (rw : List (List ℕ)) (at : ℕ) (h : Holdings)
    → spawn_refusal rows recs number n rw ≡ None → IsTable rows recs h
    → IsFree (claims rows (new_record rows number n worker rw at)) h

-- after a spawn, which moves nothing, its claim is given to it, where none held that
abbrev pub SpawnKeepsTable : Type 0
SpawnKeepsTable =
    (rows later : List NodeRow) (recs : List SpawnRec) (r : SpawnRec) (h after : Holdings)
    → places later ≡ places rows → is_out r ≡ true → IsTable rows recs h → IsFree (claims rows r) h
    → IsGiven (claims rows r) (Some r.id) h after → IsTable later (recs ++ r ∷ []) after

-- after a spawn has ended, as its part is merged or it is withdrawn, which moves nothing, no spawn
-- holds its claim
abbrev pub EndKeepsTable : Type 0
EndKeepsTable =
    (rows later : List NodeRow) (recs : List SpawnRec) (k : ℕ) (r ended : SpawnRec)
    (h after : Holdings)
    → places later ≡ places rows → StandApart rows recs
    → slice_get recs k ≡ Some r → is_out r ≡ true → is_out ended ≡ false → IsTable rows recs h
    → IsGiven (claims later r) None h after → IsTable later (slice_set recs k ended) after
