use Rattle.std.proofs.Common.{◌∙◌, Some, subst}
use Rattle.server_clients.specs.Clients.{IsGivenBack}
use Rattle.server_clients.proofs.GivenBack.{one_more}
use Rattle.server_clients.proofs.clients.Clients.give_back_all.Goals as goal

pub loop-one-preserved : goal.loop-one-preserved
loop-one-preserved g c =
    record {
      clients = one_more (IsGivenBack (Some c.args.path.now)) c.loop-one.yielded c.in-Some.one c.args.self.now.all c.loop-one.self.all c.give_back.new.self.all c.loop-one.invariant.clients (subst (λ path. IsGivenBack (Some path) c.in-Some.one c.loop-one.self.all c.give_back.new.self.all) c.in_ok-from_str.ensures.ok c.in_ok-give_back.ensures.clients);
      moment = c.give_back.ensures.moment ∙ c.loop-one.invariant.moment;
    }
