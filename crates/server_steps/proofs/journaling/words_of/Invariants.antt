use Rattle.std.proofs.Common.{map, take}
use Rattle.std.specs.List.{AllZip}
use Rattle.rounds.specs.Line.{comings_of}
use Rattle.server_steps.specs.OrderLines.{IsNameOf, kept_name}
use Rattle.server_steps.proofs.journaling.words_of.Given as goal

abbrev pub invariant-loop-order : goal.invariant-loop-order
invariant-loop-order g l = AllZip IsNameOf (comings_of (take l.order-index l.orders)) (map kept_name l.words.items)
