use Rattle.std.proofs.Common.{ap, is_ok, subst, true≢false}
use Rattle.server_steps.specs.Begun.{Begins}
use Rattle.server_steps.proofs.Beginning.{begun}
use Rattle.server_steps.proofs.stepping.begin_kept.Goals as goal

pub returns-in-Ok-new : goal.returns-in-Ok-new
returns-in-Ok-new g c =
    let held = g.K.Keep.held in
    let place = g.K.Keep.place in
    let honest = g.K.Keep.is_honest in
    λ so.
    subst (λ name. Begins honest held place c.args.keep name c.args.master.now) c.in-Ok.ensures
    (subst (λ master. Begins honest held place c.args.keep c.in-Ok.name master) c.in-Ok-copy.ensures
    (begun honest held place c.args.keep c.in-Ok.name c.in-Ok-copy.master c.in-Ok-new.worker c.create.result (λ kept. kept.keep) c.is_ok.result c.is_ok.ensures.value (λ same. true≢false (ap is_ok (c.in-Ok-new.ensures.refused.1 same))) c.in-Ok-new.ensures.ok c.create.ensures.held c.create.ensures.honest c.create.ensures.place so))
