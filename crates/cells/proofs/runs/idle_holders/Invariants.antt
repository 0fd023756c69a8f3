-- So many were made so far.
use Rattle.std.proofs.Common.{◌≡◌, length, All}
use Rattle.cells.specs.Keeping.{new_holding}
use Rattle.cells.proofs.runs.idle_holders.Given as goal

abbrev pub invariant-loop : goal.invariant-loop
invariant-loop l = (length l.holders.items ≡ l.counter) × All (λ h. h ≡ new_holding) l.holders.items
