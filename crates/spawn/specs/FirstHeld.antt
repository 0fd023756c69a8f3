-- The first of some ids that a spawn holds, as it is told id by id.
use Rattle.std.specs.Prelude.{ℕ, List, Option, None, IfSome, if◌then◌else◌, slice_get, true}
use Rattle.std.specs.Borrow.{Bor}
use Rattle.std.specs.List.{filter_map}
use Rattle.std.specs.Option.{option_map_or}
use Rattle.ticket_items.specs.Ids.{mem}
use Rattle.ticket_items.specs.declared.node_row.NodeRow.{NodeRow}
use Rattle.spawn.specs.Holdings.{IsTable}
use Rattle.spawn.specs.Table.{spawn_with}
use Rattle.spawn.specs.declared.records.spawn_rec.SpawnRec.{SpawnRec}
use Rattle.spawn.specs.declared.tables.holder_source.HolderSource.{HolderSource}

-- the table of holders, where there is one, is that of the ticket and the records
abbrev pub HasTable : HolderSource → Type 0
HasTable k = IfSome k.holders (λ h. IsTable k.ticket.now.rows k.records.now h.now)

-- the same where the id is asked for: all are, or those among some
abbrev pub spawn_if_asked : List NodeRow → List SpawnRec → Option (Bor (List (List ℕ))) → List ℕ → Option ℕ
spawn_if_asked rows recs some x =
    if option_map_or (λ ids. mem x ids.now) some true then spawn_with rows recs x else None

-- the first answer
abbrev pub first_answer : {X : Type 0} → (X → Option ℕ) → List X → Option ℕ
first_answer h xs = slice_get (filter_map h xs) 0
