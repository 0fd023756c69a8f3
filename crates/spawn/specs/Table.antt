-- Who holds what: the one table of holders, by the records of the spawns that are out.
use Rattle.std.specs.Prelude.{ℕ, ◌&&◌, Bool, true, false, List, Option, Some, None, if◌then◌else◌}
use Rattle.std.specs.List.{find}
use Rattle.std.specs.Option.{option_and_then, option_map, option_map_or}
use Rattle.ticket_rows.specs.Homes.{home_of}
use Rattle.ticket_rows.specs.Place.{Place, places, place_at}
use Rattle.ticket_rows.specs.Ticket.{has_node}
use Rattle.ticket_items.specs.declared.node_row.NodeRow.{NodeRow}
use Rattle.plain_shop.specs.Claim.{is_claimed}
use Rattle.spawn.specs.Records.{is_out}
pub use Rattle.world_items.specs.Holder.{as_spawn, is_masters}
use Rattle.world_items.specs.declared.holder.Holder.{Holder}
use Rattle.world_items.specs.declared.holder.Holder.TheVariants.{Master, Spawn}
use Rattle.spawn.specs.declared.records.spawn_rec.SpawnRec.{SpawnRec}

-- the node that an id names, or in whose pool the resource is that it names
abbrev pub stand_of : List NodeRow → List ℕ → Option (List ℕ)
stand_of rows x = if has_node rows x then Some x else home_of rows x

-- whether a spawn is out and its claim has what stands at the place
abbrev pub holds : Place → SpawnRec → Bool
holds p r = is_out r && is_claimed r.node r.rw p

-- the first spawn that holds what stands at the place
abbrev pub holding_record : List SpawnRec → Place → Option SpawnRec
holding_record recs p = find (holds p) recs

-- who holds what stands at the place: that spawn, or else the master
abbrev pub holder_at : List SpawnRec → Place → Holder
holder_at recs p = option_map_or (λ r. Spawn r.id) (holding_record recs p) Master

-- who holds an id. One that doesn't stand in the ticket has no holder
abbrev pub holder_of : List NodeRow → List SpawnRec → List ℕ → Option Holder
holder_of rows recs x = option_map (holder_at recs) (place_at (places rows) x)

-- the spawn that holds an id, if one does
abbrev pub spawn_with : List NodeRow → List SpawnRec → List ℕ → Option ℕ
spawn_with rows recs x = option_and_then as_spawn (holder_of rows recs x)
