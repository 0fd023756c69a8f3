use Rattle.std.proofs.Common.{◌≡◌, take}
use Rattle.ticket_rows.specs.Index.{runs_of}
use Rattle.ticket_rows.specs.Ticket.{depths}
use Rattle.ticket_rows.proofs.runs.runs_of.Given as goal

abbrev pub invariant-loop-place : goal.invariant-loop-place
invariant-loop-place l = l.runs.items ≡ take l.place (runs_of (depths l.rows))
