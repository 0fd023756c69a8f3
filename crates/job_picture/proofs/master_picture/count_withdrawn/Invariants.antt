use Rattle.job_picture.specs.Picture.{is_withdrawn}
use Rattle.job_picture.proofs.Lines.{IsCounted}
use Rattle.job_picture.proofs.master_picture.count_withdrawn.Given as goal

abbrev pub invariant-loop-spawn : goal.invariant-loop-spawn
invariant-loop-spawn l = IsCounted is_withdrawn l.spawns l.spawn-index l.count
