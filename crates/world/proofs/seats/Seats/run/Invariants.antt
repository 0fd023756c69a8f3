use Rattle.world.proofs.Runs.SoFar.{IsSoFar}
use Rattle.world.specs.Happening.{machine}
use Rattle.world.proofs.seats.Seats.run.Given as goal

abbrev pub invariant-loop-event : goal.invariant-loop-event
invariant-loop-event g l = IsSoFar machine l.fn.events.items l.yielded l.initial.self l.answers.items l.answers.len l.answers.cap l.self
