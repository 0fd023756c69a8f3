use Rattle.std.proofs.Common.{◌≡◌, subst}
use Rattle.cells.specs.Chain.{newest}
use Rattle.cells.specs.Keeping.{has_read}
use Rattle.cells.specs.Kept.{IsSwapped, SavesAs}
use Rattle.cells.proofs.cell_keep.CellKeepKeep.save.Goals as goal

pub returns-in-Ok-Made-clause-made : goal.returns-in-Ok-Made-clause-made
returns-in-Ok-Made-clause-made g c honest rests =
    subst (λ k. IsSwapped k.holding c.args.bytes.now (g.C.Cell.view k.cell) (g.C.Cell.view c.save.new.cell) × (c.save.new.holder ≡ has_read (newest (g.C.Cell.view c.save.new.cell).chain))) c.self.view_is
    (subst (SavesAs c.self.inside.holder c.args.bytes.now (g.C.Cell.view c.self.inside.cell) (g.C.Cell.view c.save.new.cell) c.save.new.holder) c.in-Ok-Made.field-0-is (c.in-Ok-Made.ensures.told honest))
