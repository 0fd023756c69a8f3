use Rattle.merge.proofs.PutValid.{put_is_valid}
use Rattle.merge.proofs.laws.a_merge_keeps_a_ticket_valid.Goals as goal

pub returns : goal.returns
returns c = put_is_valid
