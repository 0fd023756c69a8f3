use Rattle.std.proofs.Common.{◌∙◌, subst}
use Rattle.mio.specs.declared.net.stream.TcpStream.{TcpStream}
use Rattle.rounds.specs.declared.errand.Errand.{Errand}
use Rattle.server_clients.specs.Clients.{IsMissed}
use Rattle.server_clients.proofs.GivenBack.{one_more}
use Rattle.server_clients.proofs.clients.Clients.miss_all.Goals as goal

pub loop-one-preserved : goal.loop-one-preserved
loop-one-preserved g c =
    let missed = subst (λ w. IsMissed c.loop-one.self.now w c.loop-one.self.all c.miss.new.self.all) c.waiting_of.ensures c.in_ok-miss.ensures.clients in
    record {
      clients = one_more (λ (e : Errand TcpStream). IsMissed c.args.self.now.now e.waiting) c.loop-one.yielded c.in-Some.one c.args.self.now.all c.loop-one.self.all c.miss.new.self.all c.loop-one.invariant.clients (subst (λ now. IsMissed now c.in-Some.one.waiting c.loop-one.self.all c.miss.new.self.all) c.loop-one.invariant.moment missed);
      moment = c.miss.ensures.moment ∙ c.loop-one.invariant.moment;
    }
