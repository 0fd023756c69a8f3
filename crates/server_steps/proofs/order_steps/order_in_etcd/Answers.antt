use Rattle.std.proofs.Common.{IfSome, inl, subst}
use Rattle.server_steps.specs.InEtcd.{IsKeepAt}
use Rattle.server_steps.proofs.order_steps.order_in_etcd.Goals as goal

pub returns-clause-steps : goal.returns-clause-steps
returns-clause-steps g c =
    inl (c.in-Some.keep, subst (λ found. IfSome found (IsKeepAt c.args.path.now)) c.in-Some.is c.in_ok-found.ensures, c.order_kept-told.ensures.steps)

pub returns-clause-journaled : goal.returns-clause-journaled
returns-clause-journaled g c honest =
    inl (c.in-Some.keep, subst (λ found. IfSome found (IsKeepAt c.args.path.now)) c.in-Some.is c.in_ok-found.ensures, c.order_kept-told.ensures.journaled honest)
