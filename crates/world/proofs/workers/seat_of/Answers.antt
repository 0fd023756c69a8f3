use Rattle.std.proofs.Common.{rules, tests}
use Rattle.std.proofs.lemmas.Iterator.{YieldsList-from_slice}
use Rattle.std.proofs.lemmas.Iterator.Search.{find_from_yields_List}
use Rattle.world.specs.State.{is_named}
use Rattle.world.proofs.workers.seat_of.Goals as goal

pub returns : goal.returns
returns g c = find_from_yields_List (λ seat. is_named c.args.name.now (g.W.Seat.kept seat)) _ _ c.find.result c.find.ensures.ran (YieldsList-from_slice c.args.workers.now c.iter.ensures.rest) (λ x b q k. search (rules, tests))
