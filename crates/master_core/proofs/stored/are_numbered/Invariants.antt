use Rattle.std.proofs.Common.{◌≡◌, suc, drop}
use Rattle.master_core.specs.Stored.{are_numbered}
use Rattle.master_core.proofs.stored.are_numbered.Given as goal

-- the records so far are numbered: the later ones decide
abbrev pub invariant-loop-place : goal.invariant-loop-place
invariant-loop-place l = are_numbered 1 l.records ≡ are_numbered (suc l.place) (drop l.place l.records)
