use Rattle.std.proofs.Common.{◌≡◌, ℕ, List, take}
use Rattle.ticket_rows.specs.Homes.{home_of}
use Rattle.ticket_rows.specs.HomeTable.{home_in, or_known}
use Rattle.ticket_rows.proofs.resolved.add_rows.Given as goal

-- the resources of the rows so far are in the table, unless they were there
abbrev pub invariant-loop-row : goal.invariant-loop-row
invariant-loop-row l = (x : List ℕ) → home_in l.homes x ≡ or_known (home_in l.fn.homes x) (home_of (take l.row-index l.rows) x)
