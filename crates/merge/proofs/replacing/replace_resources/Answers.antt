use Rattle.std.proofs.Common.{◌∙◌, ◌++◌, ◌∷◌, [], rules, sym, ap}
use Rattle.std.proofs.lemmas.Iterator.Adapters.{YieldsList-from_vec}
use Rattle.merge.proofs.Replaced.{no_resources, next_of, next_resource_may, next_resource_put}
use Rattle.merge.specs.Putting.{with_resources}
use Rattle.merge.proofs.replacing.replace_resources.Goals as goal

pub loop-resource-init : goal.loop-resource-init
loop-resource-init c = ap (λ rows. record c.args.ticket.now { rows = rows }) (sym (no_resources c.args.ticket.now.rows))

pub replace_resource-requires : goal.replace_resource-requires
replace_resource-requires c =
    let all = YieldsList-from_vec {s = c.into_iter-resource-iterator.result} c.args.resources.items (search rules) (search rules) in
    let next = next_of all c.loop-resource.yielded c.loop-resource.resource-iterator c.loop-resource.yielded_by c.next.result c.next.new.self c.in-Some.resource c.in-Some.is c.next.ensures.steps in
    next_resource_may c.args.resources.items c.loop-resource.yielded c.in-Some.resource c.args.ticket.now.rows c.loop-resource.ticket.rows next (ap (λ t. t.rows) c.loop-resource.invariant) c.requires

pub loop-resource-preserved : goal.loop-resource-preserved
loop-resource-preserved c =
    let all = YieldsList-from_vec {s = c.into_iter-resource-iterator.result} c.args.resources.items (search rules) (search rules) in
    let next = next_of all c.loop-resource.yielded c.loop-resource.resource-iterator c.loop-resource.yielded_by c.next.result c.next.new.self c.in-Some.resource c.in-Some.is c.next.ensures.steps in
    let put = next_resource_put c.args.resources.items c.loop-resource.yielded c.in-Some.resource c.args.ticket.now.rows c.loop-resource.ticket.rows next (ap (λ t. t.rows) c.loop-resource.invariant) c.requires in
    c.replace_resource.ensures ∙ ap (λ rows. record c.loop-resource.ticket { rows = rows }) put ∙ ap (λ t. record c.args.ticket.now { job_id = t.job_id; rows = with_resources (c.loop-resource.yielded ++ c.in-Some.resource ∷ []) c.args.ticket.now.rows }) c.loop-resource.invariant
