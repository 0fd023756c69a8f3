use Rattle.std.proofs.Common.{None, take}
use Rattle.std.specs.List.{filter}
use Rattle.ticket_items.specs.Ids.{mem}
use Rattle.ticket_rows.specs.Ticket.{ids}
use Rattle.spawn.specs.Holdings.{IsGiven}
use Rattle.spawn.proofs.tables.holders.Holders.free_known.Given as goal

-- those so far that stand in the ticket were taken
abbrev pub invariant-loop-id : goal.invariant-loop-id
invariant-loop-id l = IsGiven (λ x. mem x (filter (λ y. mem y (ids l.ticket.rows)) (take l.id-index l.some))) None l.fn.self l.self
