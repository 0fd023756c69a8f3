use Rattle.std.proofs.Common.{append_assoc}
use Rattle.rounds.proofs.orders.word_body.Goals as goal

pub returns-in-Some : goal.returns-in-Some
returns-in-Some c = rw c.in-Some.is (simp append_assoc (rw (← c.number-number.ensures.value) c.format.ensures.ok))
