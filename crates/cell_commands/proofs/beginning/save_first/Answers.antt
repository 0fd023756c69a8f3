use Rattle.std.proofs.Common.{inr}
use Rattle.cell_commands.proofs.beginning.save_first.Goals as goal

pub returns-in-Err-clause-refused : goal.returns-in-Err-clause-refused
returns-in-Err-clause-refused g c = inr c.in-Err.ensures.refused
