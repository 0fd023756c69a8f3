use Rattle.std.proofs.Common.{append_assoc}
use Rattle.rounds.proofs.orders.held_body.Goals as goal

pub returns : goal.returns
returns c = simp append_assoc (rw (← c.number-spawn.ensures.value) c.format.ensures.ok)
