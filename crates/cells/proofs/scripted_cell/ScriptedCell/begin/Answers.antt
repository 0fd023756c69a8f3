use Rattle.std.proofs.Common.{◌≡◌, ◌∙◌, sym}
use Rattle.cells.proofs.Following.{goes_join, interrupted, taken}
use Rattle.cells.proofs.scripted_cell.ScriptedCell.begin.Goals as goal

pub returns-in-Interrupt : goal.returns-in-Interrupt
returns-in-Interrupt c =
    interrupted c.args.self.now c.take_deed.new.self c.interrupt.new.self c.take_deed.result c.in-Interrupt.bytes c.in-Interrupt.is c.take_deed.ensures.deed c.take_deed.ensures.same c.interrupt.ensures.chain c.interrupt.ensures.same

pub returns-in-Land : goal.returns-in-Land
returns-in-Land c =
    goes_join _ _ _ (taken c.args.self.now c.take_deed.new.self c.take_deed.result c.take_deed.ensures.deed c.take_deed.ensures.same) c.land.ensures.goes
