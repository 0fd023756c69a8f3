use Rattle.std.proofs.Common.{◌++◌, codes, string_bytes}
use Rattle.ticket_items.specs.SpawnStatus.{status_word}
use Rattle.job_picture.specs.Rows.{spawn_words}
use Rattle.job_picture.proofs.Lines.{IsSoFar}
use Rattle.job_picture.proofs.rows.copies_words.Given as goal

abbrev pub invariant-loop-spawn : goal.invariant-loop-spawn
invariant-loop-spawn l = IsSoFar spawn_words l.spawns l.spawn-index (codes " " ++ status_word l.fn.status) (string_bytes l.text)
