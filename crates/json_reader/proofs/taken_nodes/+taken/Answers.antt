use Rattle.std.proofs.Common.{[], ◌∷◌, Some, arith, codes, length, length-append, map, refl, rules, subst, sym}
use Rattle.std.proofs.lemmas.Iterator.Adapters.{YieldsList-from_vec}
use Rattle.std.proofs.lemmas.Iterator.Consumers.{YieldsList-end, YieldsList-turn}
use Rattle.serde_json.specs.View.{items_of}
use Rattle.json_source.proofs.Entries.{array_items}
use Rattle.json_source.specs.Tree.{tree_data}
use Rattle.json_reader.proofs.Depths.{depth-as_array, depth-get, depth-item}
use Rattle.json_reader.proofs.Gathering.{IsFinding, finding_all, finding_failed, finding_more, gather_failed, list_rows-as_array, node_failed, node_found}
use Rattle.json_reader.specs.Found.{IsFound}
use Rattle.json_reader.specs.Gathered.{Gathers}
use Rattle.json_reader.proofs.taken_nodes.+taken.Goals as goal

pub take_below-take_list-requires : goal.take_below-take_list-requires
take_below-take_list-requires t c =
    let less = depth-get (codes "JDF") (tree_data c.args.tree) (tree_data c.in-Some.children) (sym c.in-Some.ensures) in
    (omega (arith, less, c.decreases), tt)

pub take_list-take_children-requires : goal.take_list-take_children-requires
take_list-take_children-requires t c =
    let less = depth-as_array (tree_data c.args.tree) (items_of (map tree_data c.in-Array.children.items)) (array_items c.args.tree c.in-Array.children c.in-Array.is) in
    (omega (arith, less, c.decreases), tt)

pub take_list-returns-in-Array : goal.take_list-returns-in-Array
take_list-returns-in-Array t c =
    let vs = c.in-Array.children.items in
    subst (Gathers IsFound c.args.found.now c.take_children.new.found c.take_children.result) (sym (list_rows-as_array c.args.depth (tree_data c.args.tree) (items_of (map tree_data vs)) (array_items c.args.tree c.in-Array.children c.in-Array.is)))
    c.take_children.ensures

pub take_node-returns-in_err-push_own : goal.take_node-returns-in_err-push_own
take_node-returns-in_err-push_own t c = node_failed IsFound _ _ c.from_residual.result c.in_err-push_own.field-0.0 (map (λ n. n.now) c.args.names.now) c.args.depth (tree_data c.args.tree) c.from_residual.ensures.1 c.in_err-push_own.ensures

pub take_node-returns : goal.take_node-returns
take_node-returns t c =
    node_found IsFound c.args.found.now c.push_own.new.found c.take_below.new.found c.take_below.result (map (λ n. n.now) c.args.names.now) c.args.depth (tree_data c.args.tree) _ refl
    c.in_ok-push_own.ensures c.take_below.ensures

pub take_children-take_node-requires : goal.take_children-take_node-requires
take_children-take_node-requires t c =
    let vs = c.args.children.items in
    let all = YieldsList-from_vec {s = c.into_iter-child-iterator.result} vs (search rules) (search rules) in
    let turn = YieldsList-turn all c.loop-child.yielded c.loop-child.child-iterator c.loop-child.yielded_by c.next.result c.next.new.self c.in-Some.child c.in-Some.is c.next.ensures.steps in
    let inside = depth-item tree_data vs (length c.loop-child.yielded) c.in-Some.child turn.0 turn.1 in
    (omega (arith, inside, c.decreases), tt)

pub take_children-loop-child-init : goal.take_children-loop-child-init
take_children-loop-child-init t c = record { rest = λ last result adds. adds }

pub take_children-returns-in_err-take_node : goal.take_children-returns-in_err-take_node
take_children-returns-in_err-take_node t c =
    let vs = c.args.children.items in
    let e = c.in_err-take_node.field-0.0 in
    let all = YieldsList-from_vec {s = c.into_iter-child-iterator.result} vs (search rules) (search rules) in
    let turn = YieldsList-turn all c.loop-child.yielded c.loop-child.child-iterator c.loop-child.yielded_by c.next.result c.next.new.self c.in-Some.child c.in-Some.is c.next.ensures.steps in
    gather_failed IsFound _ _ c.from_residual.result e _ c.from_residual.ensures.1
    (finding_failed IsFound tree_data c.args.depth vs (length c.loop-child.yielded) c.in-Some.child _ _ e turn.0 turn.1 c.loop-child.invariant c.in_err-take_node.ensures)

pub take_children-loop-child-preserved : goal.take_children-loop-child-preserved
take_children-loop-child-preserved t c =
    let vs = c.args.children.items in
    let all = YieldsList-from_vec {s = c.into_iter-child-iterator.result} vs (search rules) (search rules) in
    let turn = YieldsList-turn all c.loop-child.yielded c.loop-child.child-iterator c.loop-child.yielded_by c.next.result c.next.new.self c.in-Some.child c.in-Some.is c.next.ensures.steps in
    subst (λ k. IsFinding IsFound tree_data c.args.depth vs k c.args.found.now c.take_node.new.found) (sym (length-append c.loop-child.yielded (c.in-Some.child ∷ [])))
    (finding_more IsFound tree_data c.args.depth vs (length c.loop-child.yielded) c.in-Some.child _ _ _ turn.0 turn.1 c.loop-child.invariant c.in_ok-take_node.ensures)

pub take_children-returns : goal.take_children-returns
take_children-returns t c =
    let vs = c.args.children.items in
    let all = YieldsList-from_vec {s = c.into_iter-child-iterator.result} vs (search rules) (search rules) in
    let end = YieldsList-end all c.loop-child.yielded c.loop-child.child-iterator c.loop-child.yielded_by c.next.result c.next.new.self c.in-None.is c.next.ensures.steps in
    finding_all IsFound tree_data c.args.depth vs (length c.loop-child.yielded) _ _ (omega (arith, end.1)) c.loop-child.invariant
