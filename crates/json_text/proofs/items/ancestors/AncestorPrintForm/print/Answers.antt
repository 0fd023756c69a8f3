use Rattle.std.proofs.Common.{refl}
use Rattle.json_text.proofs.PrintedObjects.{opened, one_member, closed}
use Rattle.json_text.proofs.items.ancestors.AncestorPrintForm.print.Goals as goal

pub returns-clause-printed : goal.returns-clause-printed
returns-clause-printed c =
    let o0 = opened c.begin_object.result c.args.out.now c.begin_object.new.self c.begin_object.ensures c.in_ok-begin_object.ensures.ok in
    let o1 = one_member _ _ c.print_member.new.out o0 c.in_ok-print_member.ensures.printed c.in_ok-print_member.ensures.again in
    let o2 = one_member _ _ c.print_member-2.new.out o1 c.in_ok-print_member-2.ensures.printed c.in_ok-print_member-2.ensures.again in
    closed c.end_object.result c.end_object.new.self o2 c.end_object.ensures refl
