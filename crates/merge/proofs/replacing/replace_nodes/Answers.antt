use Rattle.std.proofs.Common.{◌∙◌, ◌++◌, ◌∷◌, [], rules, sym, ap}
use Rattle.std.proofs.lemmas.Iterator.Adapters.{YieldsList-from_vec}
use Rattle.merge.proofs.Replaced.{no_nodes, next_of, next_node_may, next_node_put}
use Rattle.merge.specs.Putting.{with_nodes}
use Rattle.merge.proofs.replacing.replace_nodes.Goals as goal

pub loop-row-init : goal.loop-row-init
loop-row-init c = ap (λ rows. record c.args.ticket.now { rows = rows }) (sym (no_nodes c.args.ticket.now.rows))

pub replace_node-requires : goal.replace_node-requires
replace_node-requires c =
    let all = YieldsList-from_vec {s = c.into_iter-row-iterator.result} c.args.nodes.items (search rules) (search rules) in
    let next = next_of all c.loop-row.yielded c.loop-row.row-iterator c.loop-row.yielded_by c.next.result c.next.new.self c.in-Some.row c.in-Some.is c.next.ensures.steps in
    next_node_may c.args.nodes.items c.loop-row.yielded c.in-Some.row c.args.ticket.now.rows c.loop-row.ticket.rows next (ap (λ t. t.rows) c.loop-row.invariant) c.requires

pub loop-row-preserved : goal.loop-row-preserved
loop-row-preserved c =
    let all = YieldsList-from_vec {s = c.into_iter-row-iterator.result} c.args.nodes.items (search rules) (search rules) in
    let next = next_of all c.loop-row.yielded c.loop-row.row-iterator c.loop-row.yielded_by c.next.result c.next.new.self c.in-Some.row c.in-Some.is c.next.ensures.steps in
    let put = next_node_put c.args.nodes.items c.loop-row.yielded c.in-Some.row c.args.ticket.now.rows c.loop-row.ticket.rows next (ap (λ t. t.rows) c.loop-row.invariant) c.requires in
    c.replace_node.ensures ∙ ap (λ rows. record c.loop-row.ticket { rows = rows }) put ∙ ap (λ t. record c.args.ticket.now { job_id = t.job_id; rows = with_nodes (c.loop-row.yielded ++ c.in-Some.row ∷ []) c.args.ticket.now.rows }) c.loop-row.invariant
