use Rattle.std.proofs.Common.{append_assoc, rules}
use Rattle.job_picture.specs.Picture.{title_of}
use Rattle.job_picture.proofs.master_picture.title_of.Goals as goal

pub returns : goal.returns
unfolding title_of
returns c = simp append_assoc (search rules)
