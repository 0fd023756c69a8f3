use Rattle.jmf_message.proofs.IdTexts.{ids_tell_apart}
use Rattle.jmf_message.proofs.laws.ids_tell_messages_apart.Goals as goal

pub returns : goal.returns
returns c = ids_tell_apart
