use Rattle.std.proofs.Common.{rules, tests}
use Rattle.std.proofs.lemmas.Iterator.{YieldsList-from_slice}
use Rattle.std.proofs.lemmas.Iterator.Search.{position_from_yields_List}
use Rattle.world.specs.State.{is_named}
use Rattle.world.proofs.workers.place_of.Goals as goal

pub returns : goal.returns
returns g c = position_from_yields_List (λ seat. is_named c.args.name.now (g.W.Seat.kept seat)) _ _ c.position.result c.position.ensures.ran (YieldsList-from_slice c.args.workers.now c.iter.ensures.rest) (λ x b q k. search (rules, tests))
