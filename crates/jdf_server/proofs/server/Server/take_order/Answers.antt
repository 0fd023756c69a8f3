use Rattle.std.proofs.Common.{IfSome, inl, subst}
use Rattle.std.proofs.lemmas.Result.{on_ok_weaker}
use Rattle.server_steps.specs.Routes.{LeadsByName}
use Rattle.jdf_server.proofs.server.Server.take_order.Goals as goal

pub returns-in_ok-bytes_of-in-Some : goal.returns-in_ok-bytes_of-in-Some
returns-in_ok-bytes_of-in-Some g c =
    let leads = subst (λ found. IfSome found (LeadsByName c.args.self.now.place c.args.name.now)) c.in-Some.is c.in_ok-route.ensures in
    on_ok_weaker c.join_order.result (λ joins. inl (c.in-Some.route, leads, c.in_ok-bytes_of-in-Some.field-0, c.in_ok-bytes_of-in-Some.ensures, joins)) c.join_order.ensures
