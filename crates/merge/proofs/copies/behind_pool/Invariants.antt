use Rattle.std.proofs.Common.{◌≡◌, drop}
use Rattle.std.specs.List.{filter}
use Rattle.ticket_items.specs.Ids.{mem}
use Rattle.merge.specs.Alike.{behind}
use Rattle.merge.proofs.copies.behind_pool.Given as goal

-- what is left decides
abbrev pub invariant-loop-resource : goal.invariant-loop-resource
invariant-loop-resource l = behind (filter (λ x. mem x.id l.ids) (drop l.resource-index l.pool)) l.rest ≡ behind (filter (λ x. mem x.id l.ids) l.pool) l.copies
