use Rattle.std.proofs.Common.{◌≡◌, ◌++◌, map, take}
use Rattle.std.specs.List.{filter}
use Rattle.ticket_items.specs.Ids.{mem}
use Rattle.ticket_rows.specs.Ticket.{ids}
use Rattle.spawn.proofs.claims.claimed.push_known.Given as goal

-- those so far that stand in the ticket were added
abbrev pub invariant-loop-id : goal.invariant-loop-id
invariant-loop-id l = map (λ s. s.now) l.all.items ≡ map (λ s. s.now) l.fn.all.items ++ filter (λ x. mem x (ids l.ticket.rows)) (take l.id-index l.some)
