use Rattle.world.proofs.Master.MarksShown.{marks_are_shown}
use Rattle.world.proofs.laws.marks_are_shown.Goals as goal

pub returns : goal.returns
returns c = marks_are_shown
