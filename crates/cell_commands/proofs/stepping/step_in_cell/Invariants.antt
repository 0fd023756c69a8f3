-- Each step so far came to nothing, and never will.
use Rattle.std.proofs.Common.{◌≡◌, ◌≤◌, true}
use Rattle.keepers.specs.Crash.{IsWithin}
use Rattle.cells.specs.Chain.{newest}
use Rattle.cells.specs.Kept.{IsPartOf}
use Rattle.cell_commands.proofs.stepping.step_in_cell.Given as goal

abbrev pub invariant-loop : goal.invariant-loop
invariant-loop g l =
    record {
      came : g.C.Cell.is_honest ≡ true → IsPartOf (g.C.Cell.view l.fn.keep.cell).chain (g.C.Cell.view l.keep.cell).chain;
      sent : g.C.Cell.is_honest ≡ true → IsWithin (g.C.Cell.view l.keep.cell).may_land (g.C.Cell.view l.fn.keep.cell).may_land;
      rises : g.C.Cell.is_honest ≡ true → (newest (g.C.Cell.view l.fn.keep.cell).chain).revision ≤ (newest (g.C.Cell.view l.keep.cell).chain).revision;
    }
