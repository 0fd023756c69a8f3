use Rattle.std.proofs.Common.{inl, inr, subst, sym}
use Rattle.std.proofs.lemmas.Result.{on_ok_weaker}
use Rattle.server_clients.specs.Clients.{AreMissed}
use Rattle.jdf_server.proofs.TurnsMade.{none_left, on_ok}
use Rattle.jdf_server.proofs.server.Server.step.Goals as goal

pub returns-then-is_empty : goal.returns-then-is_empty
returns-then-is_empty g c =
    on_ok c.step_beside.result
    (record {
      there = c.in_ok-errands.errands.items;
      gone = c.in_ok-errands.gone.items;
      parted = c.in_ok-errands.ensures;
      mid = record c.args.self.now { clients = c.pass_over_all.new.self };
      moment = c.pass_over_all.ensures.moment;
      let_go = c.in_ok-pass_over_all.ensures.clients;
      steps = inl (none_left c.in_ok-errands.errands c.is_empty.result c.is_empty.ensures c.if-is_empty.true, c.step_beside.ensures);
    })

pub returns-then-missing : goal.returns-then-missing
returns-then-missing g c =
    on_ok c.step_beside-then-missing.result
    (record {
      there = c.in_ok-errands.errands.items;
      gone = c.in_ok-errands.gone.items;
      parted = c.in_ok-errands.ensures;
      mid = record c.args.self.now { clients = c.pass_over_all.new.self };
      moment = c.pass_over_all.ensures.moment;
      let_go = c.in_ok-pass_over_all.ensures.clients;
      steps = inr (inr (subst (λ clients. AreMissed c.pass_over_all.new.self.now c.in_ok-errands.errands.items c.pass_over_all.new.self.all clients) (sym c.step_beside-then-missing.ensures) c.in_ok-miss_all.ensures.clients));
    })

pub returns : goal.returns
returns g c =
    on_ok_weaker c.step_there.result
    (λ stepped. record {
      there = c.in_ok-errands.errands.items;
      gone = c.in_ok-errands.gone.items;
      parted = c.in_ok-errands.ensures;
      mid = record c.args.self.now { clients = c.pass_over_all.new.self };
      moment = c.pass_over_all.ensures.moment;
      let_go = c.in_ok-pass_over_all.ensures.clients;
      steps = inr (inl stepped);
    })
    c.step_there.ensures
