use Rattle.std.proofs.Common.{◌≡◌, ◌++◌, map, take}
use Rattle.ticket_rows.specs.Ticket.{ids}
use Rattle.spawn.proofs.claims.claimed.push_rows.Given as goal

-- those of the rows so far were added
abbrev pub invariant-loop-place : goal.invariant-loop-place
invariant-loop-place l = map (λ s. s.now) l.all.items ≡ map (λ s. s.now) l.fn.all.items ++ ids (take l.place l.rows)
