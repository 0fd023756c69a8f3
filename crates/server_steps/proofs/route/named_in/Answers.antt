use Rattle.std.proofs.Common.{◌∙◌, [], ◌∷◌, IfNone, IfSome, None, Option, Some, append_assoc, arith, inl, inr, sym}
use Rattle.std.proofs.lemmas.Result.{IfOk-weaker}
use Rattle.std.proofs.lemmas.Str.Pattern.{split_parts}
use Rattle.server_steps.specs.Routes.{IsWorkerFile, LeadsInFolder, LeadsNowhereIn, LeadsToNamed}
use Rattle.server_steps.specs.declared.route.Route.{Route}
use Rattle.server_steps.proofs.OtherNames.{nowhere_named, nowhere_parted}
use Rattle.server_steps.proofs.route.named_in.Goals as goal

found : (P Q : Route → Type 0) (r : Option Route) → ((it : Route) → P it → Q it) → IfSome r P → IfSome r Q
found P Q (Some it) so is = so it is
found P Q None so is = tt

none : (P Q : Type 0) (r : Option Route) → (P → Q) → IfNone r P → IfNone r Q
none P Q (Some it) so is = tt
none P Q None so is = so is

pub returns-in-Some : goal.returns-in-Some
returns-in-Some c =
    let folder = c.args.folder.now in
    let name = c.args.name.now in
    let worker = c.in-Some.worker.now in
    let master = c.in-Some.master.now in
    let parts = split_parts 47 name (Some (c.in-Some.worker, c.in-Some.master)) c.in-Some.ensures.cases (omega arith) in
    let told = parts.0 ∙ sym (append_assoc worker (47 ∷ []) master) in
    record {
      some = IfOk-weaker c.named_worker.result _ _ (λ route some. found (IsWorkerFile folder worker master) (LeadsInFolder folder name) route (λ it is. inr (worker, master, told, is)) some) c.named_worker.ensures.some;
      none = IfOk-weaker c.named_worker.result _ _ (λ route is. none _ (LeadsNowhereIn folder name) route (nowhere_parted folder name worker master parts.0 parts.1) is) c.named_worker.ensures.none;
    }

pub returns-in-None : goal.returns-in-None
returns-in-None c =
    let folder = c.args.folder.now in
    let name = c.args.name.now in
    let slashless = split_parts 47 name None c.in-None.ensures.cases (omega arith) in
    record {
      some = IfOk-weaker c.named_file.result _ _ (λ route some. found (LeadsToNamed folder name) (LeadsInFolder folder name) route (λ it is. inl is) some) c.named_file.ensures.some;
      none = IfOk-weaker c.named_file.result _ _ (λ route is. none _ (LeadsNowhereIn folder name) route (nowhere_named folder name slashless) is) c.named_file.ensures.none;
    }
