use Rattle.std.proofs.Common.{rules}
use Rattle.job_picture.specs.Wall.{nodes_heading}
use Rattle.job_picture.proofs.wall.nodes_heading.Goals as goal

pub returns : goal.returns
unfolding nodes_heading
returns c = search rules
