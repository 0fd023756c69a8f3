use Rattle.std.proofs.Common.{None, take}
use Rattle.ticket_items.specs.Ids.{mem}
use Rattle.ticket_rows.specs.Ticket.{ids}
use Rattle.spawn.specs.Holdings.{IsGiven}
use Rattle.spawn.proofs.tables.holders.Holders.free_rows.Given as goal

-- what stands in the rows so far was taken
abbrev pub invariant-loop-place : goal.invariant-loop-place
invariant-loop-place l = IsGiven (λ x. mem x (ids (take l.place l.rows))) None l.fn.self l.self
