use Rattle.std.proofs.Common.{◌≡◌, Some, arith, codes, map, refl, rules, sym}
use Rattle.serde_json.specs.Find.{as_array}
use Rattle.serde_json.specs.View.{items_of}
use Rattle.json_reader.proofs.Depths.{depth-child, depth-get}
use Rattle.json_reader.proofs.Gathering.{finding_all, finding_failed, finding_more, gather_failed, list_added, list_failed, node_failed, node_found}
use Rattle.json_reader.specs.Found.{IsFound}
use Rattle.json_reader.proofs.found_nodes.+found.Goals as goal

pub find_below-find_children-requires : goal.find_below-find_children-requires
find_below-find_children-requires g t c =
    let less = depth-get (codes "JDF") (g.S.Source.content c.args.value.now) (g.S.Source.content c.in-Some.children.now) (sym c.in-Some.ensures) in
    λ κs within. (omega (arith, less, c.decreases), within)

pub find_children-find_node-requires : goal.find_children-find_node-requires
find_children-find_node-requires g t c =
    let content = g.S.Source.content in
    let items : as_array (content c.args.value.now) ≡ Some (items_of (map content c.in_ok-children.children.now)) = search rules in
    let less = depth-child content (content c.args.value.now) c.in_ok-children.children.now c.loop-child.child-index c.child-item.result items c.loop-child-test.true c.child-item.is in
    λ κs within. (omega (arith, less, c.decreases), within)

pub find_children-returns-in_err-find_node : goal.find_children-returns-in_err-find_node
find_children-returns-in_err-find_node g t c =
    let content = g.S.Source.content in
    let e = c.in_err-find_node.field-0.0 in
    let items : as_array (content c.args.value.now) ≡ Some (items_of (map content c.in_ok-children.children.now)) = search rules in
    gather_failed IsFound _ _ c.from_residual-in_err-find_node.result e _ c.from_residual-in_err-find_node.ensures.1
    (list_failed IsFound content e c.args.depth (content c.args.value.now) c.in_ok-children.children.now items
    (finding_failed IsFound content c.args.depth c.in_ok-children.children.now c.loop-child.child-index c.child-item.result _ _ e c.loop-child-test.true c.child-item.is c.loop-child.invariant c.in_err-find_node.ensures))

pub find_children-loop-child-preserved : goal.find_children-loop-child-preserved
find_children-loop-child-preserved g t c =
    finding_more IsFound g.S.Source.content c.args.depth c.in_ok-children.children.now c.loop-child.child-index c.child-item.result _ _ _ c.loop-child-test.true c.child-item.is c.loop-child.invariant c.in_ok-find_node.ensures

pub find_children-returns : goal.find_children-returns
find_children-returns g t c =
    let content = g.S.Source.content in
    let items : as_array (content c.args.value.now) ≡ Some (items_of (map content c.in_ok-children.children.now)) = search rules in
    list_added IsFound content _ _ c.args.depth (content c.args.value.now) c.in_ok-children.children.now items
    (finding_all IsFound content c.args.depth c.in_ok-children.children.now c.loop-child.child-index _ _ c.loop-child-test.false c.loop-child.invariant)

pub find_node-returns-in_err-push_own : goal.find_node-returns-in_err-push_own
find_node-returns-in_err-push_own g t c = node_failed IsFound _ _ c.from_residual.result c.in_err-push_own.field-0.0 (map (λ n. n.now) c.args.names.now) c.args.depth (g.S.Source.content c.args.value.now) c.from_residual.ensures.1 c.in_err-push_own.ensures

pub find_node-returns : goal.find_node-returns
find_node-returns g t c =
    node_found IsFound c.args.found.now c.push_own.new.found c.find_below.new.found c.find_below.result (map (λ n. n.now) c.args.names.now) c.args.depth (g.S.Source.content c.args.value.now) _ refl
    c.in_ok-push_own.ensures c.find_below.ensures
