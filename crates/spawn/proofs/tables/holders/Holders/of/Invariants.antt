use Rattle.std.proofs.Common.{◌≡◌, true, take}
use Rattle.ticket_rows.specs.Place.{places}
use Rattle.spawn.specs.Holdings.{IsTable}
use Rattle.spawn.specs.Stored.{are_apart}
use Rattle.spawn.proofs.tables.holders.Holders.of.Given as goal

-- what the spawns so far claim is apart, and these are the holders by them
abbrev pub invariant-loop-spawn : goal.invariant-loop-spawn
invariant-loop-spawn l =
    record {
      table : IsTable l.ticket.rows (take l.spawn-index l.records) l.holders;
      apart : are_apart (places l.ticket.rows) (take l.spawn-index l.records) ≡ true;
    }
