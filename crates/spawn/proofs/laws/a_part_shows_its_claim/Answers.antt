use Rattle.spawn.proofs.PartShows.{part_shows_claim, part_shows_no_more}
use Rattle.spawn.proofs.laws.a_part_shows_its_claim.Goals as goal

pub returns-clause-claimed : goal.returns-clause-claimed
returns-clause-claimed c = part_shows_claim

pub returns-clause-no_more : goal.returns-clause-no_more
returns-clause-no_more c = part_shows_no_more
