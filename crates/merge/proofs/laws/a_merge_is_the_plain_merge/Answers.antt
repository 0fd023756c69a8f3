use Rattle.merge.proofs.PutPlaces.{put_of_places}
use Rattle.merge.proofs.PutRows.{put_of_rows}
use Rattle.merge.proofs.laws.a_merge_is_the_plain_merge.Goals as goal

pub returns-clause-places : goal.returns-clause-places
returns-clause-places c = put_of_places

pub returns-clause-rows : goal.returns-clause-rows
returns-clause-rows c = put_of_rows
