use Rattle.std.proofs.Common.{append_assoc, rules}
use Rattle.job_picture.specs.Wall.{tally}
use Rattle.job_picture.proofs.wall.tally.Goals as goal

pub returns : goal.returns
unfolding tally
returns c = simp append_assoc (search rules)
