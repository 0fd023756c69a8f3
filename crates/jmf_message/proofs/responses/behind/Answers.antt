use Rattle.jmf_message.proofs.Fronts.{stripped}
use Rattle.jmf_message.proofs.responses.behind.Goals as goal

pub returns : goal.returns
returns c = stripped c.args.front.now c.args.text.now c.strip_prefix.result c.strip_prefix.ensures.cases
