-- The calls so far added to one chain.
use Rattle.std.proofs.Common.{◌≡◌, true, length, take}
use Rattle.cells.specs.Chain.{Swap}
use Rattle.cells.specs.Runs.{IsRising, history_of}
use Rattle.cells.proofs.Chained.{IsSound}
use Rattle.cells.proofs.runs.run.Given as goal

abbrev pub invariant-loop-call : goal.invariant-loop-call
invariant-loop-call g l =
    (length l.told.items ≡ length (take l.call-index l.calls))
    × (length l.holders.items ≡ l.fn.count)
    × (g.C.Cell.is_honest ≡ true → IsRising (g.C.Cell.view l.fn.cell).chain → ((s : Swap) → (g.C.Cell.view l.fn.cell).may_land s → ⊥)
    → IsSound (history_of (take l.call-index l.calls) l.told.items) (g.C.Cell.view l.fn.cell).chain (g.C.Cell.view l.cell) l.holders.items)
