use Rattle.std.proofs.Common.{◌≡◌, ◌∙◌, OnOk, ap, subst, sym}
use Rattle.std.proofs.lemmas.List.{drop_all}
use Rattle.serde_json.specs.Data.{no_members, object}
use Rattle.json_text.specs.Printed.{AreMembersPrinted, IsPrinted}
use Rattle.json_text.proofs.MemberLaws.{members_more, members_none, open_more}
use Rattle.json_text.proofs.PrintedObjects.{closed, keyed, opened}
use Rattle.jmf_message.specs.Items.{AreOrdered, IsOrdered, item_data, members_data}
use Rattle.jmf_message.proofs.ItemData.{data_object, members_at, put_again}
use Rattle.jmf_message.proofs.items.+printing.Goals as goal

pub print_item-returns-in_ok-print_members-in-Object :
    goal.print_item-returns-in_ok-print_members-in-Object
print_item-returns-in_ok-print_members-in-Object t c =
    let ms = members_data c.as_slice.result.now in
    let seen : object ms ≡ item_data c.args.item.now = ap (λ xs. object (members_data xs)) c.as_slice.ensures.value ∙ sym (ap item_data c.in-Object.is ∙ data_object c.in-Object.members) in
    let ordered : IsOrdered (object ms) = subst IsOrdered (sym seen) c.requires in
    let o0 = opened c.begin_object.result c.args.out.now c.begin_object.new.self c.begin_object.ensures c.in_ok-begin_object-in-Object.ensures.ok in
    let o1 = open_more c.print_members.new.out o0 c.in_ok-print_members-in-Object.ensures in
    subst (λ d. OnOk c.end_object.result (IsPrinted d c.args.out.now c.end_object.new.self)) seen
    (closed c.end_object.result c.end_object.new.self o1 c.end_object.ensures (put_again ms no_members ∙ ordered.0))

pub print_members-loop-name-preserved : goal.print_members-loop-name-preserved
print_members-loop-name-preserved t c =
    let m = c.loop-name-item.result in
    let left = members_at c.args.members.now c.loop-name.name-index m c.loop-name-test.true c.loop-name-item.is in
    let first = keyed m.0.now c.loop-name.out c.key.new.self c.print_item.new.out c.in_ok-key.ensures.ok c.key.ensures.room.0 c.in_ok-print_item.ensures in (
      (subst AreOrdered left c.loop-name.invariant.0).1,
      λ new rest. c.loop-name.invariant.1 new
          (subst (λ ms. AreMembersPrinted ms c.loop-name.out new) (sym left) (members_more m.0.now (item_data m.1) c.loop-name.out first c.in_ok-print_item.ensures.again rest)),
    )

pub print_members-returns : goal.print_members-returns
print_members-returns t c =
    let none = ap members_data (drop_all c.loop-name.name-index c.args.members.now c.loop-name-test.false) in
    c.loop-name.invariant.1 c.loop-name.out (subst (λ ms. AreMembersPrinted ms c.loop-name.out c.loop-name.out) (sym none) (members_none c.loop-name.out))
