use Rattle.std.proofs.Common.{IfNone, IfSome, ap, inl, inr, refl, subst}
use Rattle.std.specs.Prelude.{Some}
use Rattle.etcd_place.specs.Folder.{IsBelow}
use Rattle.etcd_place.specs.NamedFolder.{named_folder}
use Rattle.server_steps.specs.Routes.{LeadsInFolder, LeadsNowhereIn}
use Rattle.server_steps.specs.declared.mark.Mark.TheVariants.{Revision}
use Rattle.server_steps.proofs.OtherNames.{unlisted_nowhere}
use Rattle.server_steps.proofs.etcd_folder.push_key.Goals as goal

pub returns-in_ok-push : goal.returns-in_ok-push
returns-in_ok-push c =
    let rest = c.in-Some.rest.now in
    inr (
      record { route = c.in-Some-2.route; mark = Some (Revision c.revision.result) },
      record {
        rest = rest;
        below = subst (λ key. IsBelow (named_folder c.args.folder.now).name key rest) c.key.ensures c.in-Some.ensures;
        leads = subst (λ found. IfSome found (LeadsInFolder c.args.path.now rest)) c.in-Some-2.is c.in_ok-route.ensures.some;
        mark = ap (λ n. Some (Revision n)) c.revision.ensures;
      },
      c.in_ok-push.ensures.items,
    )

pub returns-in_default-2 : goal.returns-in_default-2
returns-in_default-2 c =
    let rest = c.in-Some.rest.now in
    let below = subst (λ key. IsBelow (named_folder c.args.folder.now).name key rest) c.key.ensures c.in-Some.ensures in
    let nowhere = subst (λ found. IfNone found (LeadsNowhereIn c.args.path.now rest)) c.in_default-2.is c.in_ok-route.ensures.none in
    inl (unlisted_nowhere c.args.path.now (named_folder c.args.folder.now).name rest c.args.key.now below nowhere, refl)
