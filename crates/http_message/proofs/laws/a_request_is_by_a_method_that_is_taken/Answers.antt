use Rattle.http_message.proofs.TakenMethods.{requests_are_taken}
use Rattle.http_message.proofs.laws.a_request_is_by_a_method_that_is_taken.Goals as goal

pub returns : goal.returns
returns c = requests_are_taken
