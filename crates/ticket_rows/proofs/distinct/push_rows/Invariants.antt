use Rattle.std.proofs.Common.{◌≡◌, ◌++◌, map, take}
use Rattle.ticket_rows.specs.Ticket as valid
use Rattle.ticket_rows.proofs.distinct.push_rows.Given as goal

-- the ids of the rows so far
abbrev pub invariant-loop-row : goal.invariant-loop-row
invariant-loop-row l = map (λ s. s.now) l.ids.items ≡ map (λ s. s.now) l.fn.ids.items ++ valid.ids (take l.row-index l.rows)
