use Rattle.std.proofs.Common.{◌≡◌, [], drop}
use Rattle.ticket_rows.proofs.LinksByRuns.{before_at}
use Rattle.ticket_rows.proofs.LinkWalk.{are_resolved_from}
use Rattle.ticket_rows.specs.Ticket.{are_resolved}
use Rattle.ticket_rows.proofs.indexed_rows.IndexedRows.are_resolved.Given as goal

-- what is left decides
abbrev pub invariant-loop-place : goal.invariant-loop-place
invariant-loop-place l = are_resolved_from l.rows (before_at [] l.rows l.place) (drop l.place l.rows) ≡ are_resolved l.rows
