use Rattle.spawn.proofs.CutPlaces.{cut_places}
use Rattle.spawn.proofs.laws.rows_below_a_node_have_its_places.Goals as goal

pub returns : goal.returns
returns c = cut_places
