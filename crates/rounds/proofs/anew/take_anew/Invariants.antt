-- Each try so far came to nothing, and never will.
use Rattle.std.proofs.Common.{◌≡◌, ◌≤◌, true}
use Rattle.keepers.specs.Crash.{IsWithin}
use Rattle.cells.specs.Kept.{IsPartOf}
use Rattle.rounds.proofs.anew.take_anew.Given as goal

abbrev pub invariant-loop : goal.invariant-loop
invariant-loop g l =
    record {
      counted : l.fn.keep.count ≤ l.keep.count;
      went : g.C.Cell.is_honest ≡ true → IsPartOf (g.C.Cell.view l.fn.keep.cell).chain (g.C.Cell.view l.keep.cell).chain × IsWithin (g.C.Cell.view l.keep.cell).may_land (g.C.Cell.view l.fn.keep.cell).may_land;
    }
