use Rattle.std.proofs.Common.{◌∙◌, Some, IfSome, is_some, ap, subst, sym}
use Rattle.std.proofs.lemmas.Bool.{true≢false}
use Rattle.server_steps.specs.InEtcd.{IsKeepAt}
use Rattle.server_steps.proofs.etcd_steps.check_path.Goals as goal

pub returns-in-Ok-Some : goal.returns-in-Ok-Some
returns-in-Ok-Some g c etcd none =
    let is_keep = subst (λ found. IfSome found (IsKeepAt c.args.path.now)) c.in-Ok-Some.field-0-is c.in-Ok-Some.ensures in
    absurd (true≢false (ap is_some (sym is_keep.place ∙ none)))
