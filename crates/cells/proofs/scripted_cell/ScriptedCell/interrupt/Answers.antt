use Rattle.std.proofs.Common.{refl}
use Rattle.cells.proofs.Following.{tried}
use Rattle.cells.proofs.scripted_cell.ScriptedCell.interrupt.Goals as goal

pub returns-clause-chain : goal.returns-clause-chain
returns-clause-chain c = tried _ _ refl c.args.self.now c.make.new.self c.make.result c.make.ensures.made c.make.ensures.other c.make.ensures.err
