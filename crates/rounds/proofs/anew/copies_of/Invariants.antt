use Rattle.std.proofs.Common.{take}
use Rattle.rounds.specs.Anew.{AreCopies}
use Rattle.rounds.proofs.anew.copies_of.Given as goal

abbrev pub invariant-loop-coming : goal.invariant-loop-coming
invariant-loop-coming l = AreCopies (take l.coming-index l.all) l.copied.items
