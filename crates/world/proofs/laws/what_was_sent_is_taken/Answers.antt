use Rattle.world.proofs.Messages.SentTaken.{sent_is_taken}
use Rattle.world.proofs.laws.what_was_sent_is_taken.Goals as goal

pub returns : goal.returns
returns c = sent_is_taken
