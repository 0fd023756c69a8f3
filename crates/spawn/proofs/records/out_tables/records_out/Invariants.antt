use Rattle.std.proofs.Common.{◌≡◌, map, take}
use Rattle.spawn.specs.Marking.{records_out}
use Rattle.spawn.proofs.records.out_tables.records_out.Given as goal

-- those of the records so far
abbrev pub invariant-loop-spawn : goal.invariant-loop-spawn
invariant-loop-spawn l = map (λ s. s.now) l.out.items ≡ records_out (take l.spawn-index l.records)
