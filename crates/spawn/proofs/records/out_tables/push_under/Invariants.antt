use Rattle.std.proofs.Common.{◌≡◌, ℕ, List, map, take}
use Rattle.ticket_items.specs.Ids.{mem}
use Rattle.spawn.specs.IdSet.{is_in}
use Rattle.spawn.specs.OutTables.{numbers_in, numbers_with}
use Rattle.spawn.proofs.records.out_tables.push_under.Given as goal

-- the ids so far were seen, and the number stands under each of them
abbrev pub invariant-loop-id : goal.invariant-loop-id
invariant-loop-id l =
    record {
      seen : (x : List ℕ) → is_in l.seen x ≡ mem x (map (λ s. s.now) (take l.id-index l.ids));
      under : (x : List ℕ) → numbers_in l.numbers x ≡ numbers_with (mem x (map (λ s. s.now) (take l.id-index l.ids))) l.number (numbers_in l.fn.numbers x);
    }
