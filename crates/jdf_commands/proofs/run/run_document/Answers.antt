use Rattle.std.proofs.Common.{refl}
use Rattle.jdf_commands.proofs.run.run_document.Goals as goal

pub returns-in-Check : goal.returns-in-Check
returns-in-Check g c = rw c.in-Check.is c.run_check.ensures

pub returns-in-Explain : goal.returns-in-Explain
returns-in-Explain g c = rw c.in-Explain.is (refl, c.run_explain.ensures)
