use Rattle.std.proofs.Common.{append_assoc}
use Rattle.job_picture.specs.Picture.{closed_spawns}
use Rattle.job_picture.proofs.master_picture.closed_spawns.Goals as goal

pub returns : goal.returns
unfolding closed_spawns
returns c = simp append_assoc (rw (← c.count_merged-merged.ensures, ← c.count_withdrawn-withdrawn.ensures) c.format.ensures.ok)
