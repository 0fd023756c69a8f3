use Rattle.server_clients.proofs.GivenBack.{back_with, back_without}
use Rattle.server_clients.proofs.clients.Clients.give_back.Goals as goal

pub returns-in_ok-push-in-Some-clause-clients : goal.returns-in_ok-push-in-Some-clause-clients
returns-in_ok-push-in-Some-clause-clients g c =
    back_with c.args.path c.args.answered c.in-Some.client c.args.self.now.all c.forget_preferred.new.self.all c.note_down.new.self.all c.put_back.new.self.all c.forget_preferred.ensures.clients c.in-Some.is c.note_down.ensures.clients c.put_back.ensures.clients

pub returns-in-None-clause-clients : goal.returns-in-None-clause-clients
returns-in-None-clause-clients g c =
    back_without c.args.path c.args.answered c.args.self.now.all c.forget_preferred.new.self.all c.note_down.new.self.all c.let_go.new.self.all c.forget_preferred.ensures.clients c.in-None.is c.note_down.ensures.clients c.let_go.ensures.clients
