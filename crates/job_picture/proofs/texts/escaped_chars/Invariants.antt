use Rattle.std.proofs.Common.{[], string_bytes}
use Rattle.job_picture.specs.Texts.{escaped_chars}
use Rattle.job_picture.proofs.Lines.{IsSoFar}
use Rattle.job_picture.proofs.texts.escaped_chars.Given as goal

abbrev pub invariant-loop-character : goal.invariant-loop-character
invariant-loop-character l = IsSoFar escaped_chars l.characters l.character-index [] (string_bytes l.text)
