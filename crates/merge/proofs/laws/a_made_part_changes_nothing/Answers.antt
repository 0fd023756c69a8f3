use Rattle.merge.proofs.Lawful.{made_part_changes_nothing}
use Rattle.merge.proofs.laws.a_made_part_changes_nothing.Goals as goal

pub returns : goal.returns
returns c = made_part_changes_nothing
