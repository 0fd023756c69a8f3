use Rattle.std.proofs.Common.{Some, map, take}
use Rattle.ticket_items.specs.Ids.{mem}
use Rattle.spawn.specs.Holdings.{IsGiven}
use Rattle.spawn.proofs.tables.holders.Holders.give_all.Given as goal

-- the ids so far were given
abbrev pub invariant-loop-id : goal.invariant-loop-id
invariant-loop-id l = IsGiven (λ x. mem x (map (λ s. s.now) (take l.id-index l.ids))) (Some l.spawn) l.fn.self l.self
