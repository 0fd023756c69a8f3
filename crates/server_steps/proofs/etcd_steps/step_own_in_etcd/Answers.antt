use Rattle.std.proofs.Common.{IfSome, subst}
use Rattle.server_steps.specs.InEtcd.{IsKeepAt}
use Rattle.server_steps.proofs.OwnSteps.{own_in_etcd}
use Rattle.server_steps.proofs.etcd_steps.step_own_in_etcd.Goals as goal

pub returns-after-stepped : goal.returns-after-stepped
returns-after-stepped g c =
    let is_keep = subst (λ found. IfSome found (IsKeepAt c.args.path.now)) c.in-Ok-Some.field-0-is c.in-Ok-Some.ensures in
    (c.in-Some.at, own_in_etcd _ c.args.path.now c.args.to c.in-Some.at c.args.all.items c.args.last c.in-Ok-Some.keep c.step_own_kept-stepped.result is_keep c.step_own_kept-stepped.ensures.steps, c.step_own_kept-stepped.ensures.journaled)
