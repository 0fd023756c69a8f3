use Rattle.http_message.proofs.OneAnswer.{one_answer}
use Rattle.http_message.proofs.laws.an_input_has_one_answer.Goals as goal

pub returns : goal.returns
returns c = one_answer
