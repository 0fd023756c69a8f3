use Rattle.std.proofs.Common.{◌∷◌, [], string_bytes}
use Rattle.std.specs.List.{flat_map}
use Rattle.job_picture.specs.Rows.{copies_words, resource_words}
use Rattle.job_picture.proofs.Lines.{IsSoFar}
use Rattle.job_picture.proofs.rows.copy_words.Given as goal

abbrev pub invariant-loop-resource : goal.invariant-loop-resource
invariant-loop-resource l = IsSoFar (flat_map (λ x. resource_words x (string_bytes l.words))) l.copies l.resource-index [] (string_bytes l.text)
