use Rattle.std.proofs.Common.{append_assoc, rules}
use Rattle.job_picture.specs.Moments.{span_text}
use Rattle.job_picture.proofs.moments.span_text.Goals as goal

pub returns-then-seconds-lt86400 : goal.returns-then-seconds-lt86400
unfolding span_text
returns-then-seconds-lt86400 c = simp append_assoc (search rules)

pub returns : goal.returns
unfolding span_text
returns c = simp append_assoc (search rules)
