use Rattle.std.proofs.Common.{IfSome, inl, subst}
use Rattle.std.proofs.lemmas.Result.{on_ok_weaker}
use Rattle.server_steps.specs.Routes.{LeadsTo}
use Rattle.jdf_server.proofs.server.Server.stand_or_miss.Goals as goal

pub returns-in-Some : goal.returns-in-Some
returns-in-Some g c =
    let leads = subst (λ found. IfSome found (LeadsTo c.args.self.now.place c.args.message)) c.in-Some.is c.in_ok-route.ensures.some in
    on_ok_weaker c.stand.result (λ stands. inl (c.in-Some.route, leads, stands)) c.stand.ensures
