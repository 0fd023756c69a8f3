use Rattle.std.proofs.Common.{◌≡◌, drop}
use Rattle.ticket_rows.specs.Outline as outline
use Rattle.ticket_rows.specs.Ticket.{depths}
use Rattle.ticket_rows.proofs.rows.goes_on.Given as goal

-- what is left may follow exactly if all may
abbrev pub invariant-loop-row : goal.invariant-loop-row
invariant-loop-row l =
    outline.goes_on l.above (depths (drop l.row-index l.rows)) ≡ outline.goes_on 1 (depths l.rows)
