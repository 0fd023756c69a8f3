use Rattle.std.proofs.Common.{◌≡◌, drop}
use Rattle.ticket_rows.specs.Ticket.{ids}
use Rattle.spawn.specs.FirstHeld.{first_answer, spawn_if_asked}
use Rattle.spawn.proofs.tables.holder_source.HolderSource.first_in_rows.Given as goal

-- no spawn holds what is asked for of those so far
abbrev pub invariant-loop-place : goal.invariant-loop-place
invariant-loop-place l =
    first_answer (spawn_if_asked l.self.ticket.now.rows l.self.records.now l.some) (ids l.rows)
    ≡ first_answer (spawn_if_asked l.self.ticket.now.rows l.self.records.now l.some) (ids (drop l.place l.rows))
