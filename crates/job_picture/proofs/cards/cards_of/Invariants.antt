use Rattle.std.proofs.Common.{[], map, string_bytes}
use Rattle.job_picture.specs.Cards.{card}
use Rattle.job_picture.proofs.Lines.{IsSoFar}
use Rattle.job_picture.proofs.cards.cards_of.Given as goal

abbrev pub invariant-loop-work : goal.invariant-loop-work
invariant-loop-work l = IsSoFar (map (card l.now)) l.works l.work-index [] (map string_bytes l.made.items)
