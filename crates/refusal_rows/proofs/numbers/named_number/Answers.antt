use Rattle.std.proofs.Common.{append_assoc, rules}
use Rattle.refusal_rows.proofs.numbers.named_number.Goals as goal

pub returns : goal.returns
returns c = simp append_assoc (search rules)
