use Rattle.cells.proofs.Following.{goes_join}
use Rattle.cells.proofs.scripted_cell.ScriptedCell.land.Goals as goal

pub loop-self-preserved : goal.loop-self-preserved
loop-self-preserved c = goes_join _ _ _ c.loop-self.invariant c.land_last.ensures.goes
