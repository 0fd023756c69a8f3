use Rattle.std.proofs.Common.{◌≡◌, drop}
use Rattle.ticket_items.specs.Resource.{resource_ids}
use Rattle.spawn.specs.FirstHeld.{first_answer, spawn_if_asked}
use Rattle.spawn.proofs.tables.holder_source.HolderSource.first_in_pool.Given as goal

-- no spawn holds one of those so far that are asked for
abbrev pub invariant-loop-resource : goal.invariant-loop-resource
invariant-loop-resource l =
    first_answer (spawn_if_asked l.self.ticket.now.rows l.self.records.now l.some) (resource_ids l.pool)
    ≡ first_answer (spawn_if_asked l.self.ticket.now.rows l.self.records.now l.some) (resource_ids (drop l.resource-index l.pool))
