use Rattle.std.proofs.Common.{[], string_bytes}
use Rattle.job_picture.specs.Marked.{mark_in}
use Rattle.job_picture.specs.Rows.{pool_words}
use Rattle.job_picture.proofs.Lines.{IsSoFar}
use Rattle.job_picture.proofs.rows.pool_words.Given as goal

abbrev pub invariant-loop-resource : goal.invariant-loop-resource
invariant-loop-resource l = IsSoFar (pool_words (mark_in l.marked)) l.pool l.resource-index [] (string_bytes l.text)
