use Rattle.std.proofs.Common.{◌∙◌, None, subst}
use Rattle.mio.specs.declared.net.stream.TcpStream.{TcpStream}
use Rattle.slab.specs.Slab.{Updates}
use Rattle.server_clients.proofs.GivenBack.{one_more}
use Rattle.rounds.specs.declared.errand.Errand.{Errand}
use Rattle.server_clients.proofs.clients.Clients.pass_over_all.Goals as goal

pub loop-one-preserved : goal.loop-one-preserved
loop-one-preserved g c =
    record {
      clients = one_more (λ (e : Errand TcpStream) before after. Updates before after e.waiting.key None) c.loop-one.yielded c.in-Some.one c.args.self.now.all c.loop-one.self.all c.pass_over.new.self.all c.loop-one.invariant.clients (subst (λ key. Updates c.loop-one.self.all c.pass_over.new.self.all key None) c.key_of.ensures c.pass_over.ensures.clients);
      moment = c.pass_over.ensures.moment ∙ c.loop-one.invariant.moment;
    }
