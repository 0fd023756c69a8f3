use Rattle.http_message.proofs.response.write_answer.Goals as goal

pub returns-in-Some-clause-front : goal.returns-in-Some-clause-front
returns-in-Some-clause-front g c = rw c.in-Some.is c.write_status.ensures.front
