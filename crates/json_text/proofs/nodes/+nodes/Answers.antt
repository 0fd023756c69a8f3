use Rattle.std.proofs.Common.{codes, arith, refl}
use Rattle.json_text.proofs.Known.{row_names, row_texts}
use Rattle.json_text.proofs.MemberLaws.{open_more}
use Rattle.json_text.proofs.PrintedObjects.{opened, one_member, closed}
use Rattle.json_text.proofs.Walks.{printed_none, printed_more, printed_all, again_all, walked_all}
use Rattle.json_text.proofs.nodes.+nodes.Goals as goal

pub print_children-loop-row-init : goal.print_children-loop-row-init
print_children-loop-row-init t c =
    printed_none c.args.marks.now c.args.depth c.args.rows.now c.args.from c.args.out.now c.key.new.self c.begin_array.new.self
    (record { tokens = c.in_ok-key.ensures.ok; before = c.key.ensures.room.0 }) (record { tokens = c.in_ok-begin_array.ensures.ok; before = c.begin_array.ensures.room.0 })

pub print_children-print_node-requires : goal.print_children-print_node-requires
print_children-print_node-requires t c = (omega (arith, c.decreases, c.in-Some.ensures.row.within), tt)

pub print_children-loop-row-smaller : goal.print_children-loop-row-smaller
print_children-loop-row-smaller t c = omega (arith, c.in_ok-at.ensures.end.behind.forward, c.in-Some.ensures.row.within)

pub print_children-loop-row-preserved : goal.print_children-loop-row-preserved
print_children-loop-row-preserved t c =
    printed_more c.args.marks.now c.args.depth c.args.rows.now c.args.from c.loop-row.at c.in_ok-at.at c.in-Some.row.now c.args.out.now c.loop-row.out c.print_node.new.out c.loop-row.invariant c.in-Some.ensures.row
    c.in_ok-at.ensures.printed c.in_ok-at.ensures.end c.in_ok-at.ensures.names c.in_ok-at.ensures.texts

pub print_children-returns-clause-printed : goal.print_children-returns-clause-printed
print_children-returns-clause-printed t c =
    printed_all c.args.marks.now c.args.depth c.args.rows.now c.args.from c.loop-row.at c.args.out.now c.loop-row.out c.end_array.new.self c.loop-row.invariant c.in_default.ensures.row (record { tokens = c.in_ok-end_array.ensures.ok; before = c.end_array.ensures.room.0 })

pub print_children-returns-clause-again : goal.print_children-returns-clause-again
print_children-returns-clause-again t c = again_all c.args.marks.now c.args.depth c.args.rows.now c.args.from c.loop-row.at c.args.out.now c.loop-row.out c.loop-row.invariant c.in_default.ensures.row

pub print_children-returns-clause-end : goal.print_children-returns-clause-end
print_children-returns-clause-end t c = walked_all c.args.marks.now c.args.depth c.args.rows.now c.args.from c.loop-row.at c.args.out.now c.loop-row.out c.loop-row.invariant c.in_default.ensures.row

pub print_node-print_children-requires : goal.print_node-print_children-requires
print_node-print_children-requires t c = (omega (arith, c.decreases), tt)

pub print_node-returns-clause-printed : goal.print_node-returns-clause-printed
print_node-returns-clause-printed t c =
    let begun = opened c.begin_object.result c.args.out.now c.begin_object.new.self c.begin_object.ensures c.in_ok-begin_object.ensures.ok in
    let front = open_more c.print_front.new.out begun c.in_ok-print_front.ensures.printed in
    let kids = one_member (codes "JDF") _ c.print_children.new.out front c.in_ok-end.ensures.printed c.in_ok-end.ensures.again in
    let last = open_more c.print_last.new.out kids c.in_ok-print_last.ensures.printed in
    closed _ c.end_object.new.self last c.in_ok-end_object.ensures refl

pub print_node-returns-clause-names : goal.print_node-returns-clause-names
print_node-returns-clause-names t c = row_names c.args.row.now c.in_ok-print_front.ensures.valid c.in_ok-print_last.ensures.valid

pub print_node-returns-clause-texts : goal.print_node-returns-clause-texts
print_node-returns-clause-texts t c = row_texts c.args.row.now c.in_ok-print_front.ensures.valid c.in_ok-print_last.ensures.valid.pool_texts
