use Rattle.std.proofs.Common.{◌∙◌, ap, refl, sym}
use Rattle.std.proofs.lemmas.List.{take_all}
use Rattle.std.specs.List.{list_all}
use Rattle.json_items.proofs.Tests.{list_all-more}
use Rattle.json_text.proofs.PrintedLists.{none_printed, one_more, all_printed, list_printed}
use Rattle.json_text.proofs.PrintedObjects.{on_any}
use Rattle.json_text.proofs.lists.print_list.Goals as goal

pub loop-item-init : goal.loop-item-init
loop-item-init g c = (none_printed g.T.PrintForm.written c.args.items.now c.begin_array.new.self, refl, refl)

pub loop-item-preserved : goal.loop-item-preserved
loop-item-preserved g c =
    let i = c.loop-item.item-index in
    let x = c.item-item.result in (
      one_more g.T.PrintForm.written c.args.items.now i x c.begin_array.new.self c.loop-item.out c.print.new.out c.loop-item-test.true c.item-item.is c.loop-item.invariant.0 c.in_ok-print.ensures.printed,
      list_all-more g.T.Form.has_names c.args.items.now i x c.loop-item-test.true c.item-item.is c.in_ok-print.ensures.names c.loop-item.invariant.1,
      list_all-more g.T.Form.has_texts c.args.items.now i x c.loop-item-test.true c.item-item.is c.in_ok-print.ensures.texts c.loop-item.invariant.2,
    )

pub returns : goal.returns
returns g c =
    let all = take_all c.loop-item.item-index c.args.items.now c.loop-item-test.false in
    let printed = all_printed g.T.PrintForm.written c.args.items.now c.loop-item.item-index c.begin_array.new.self c.loop-item.out c.loop-item-test.false c.loop-item.invariant.0 in
    record {
      printed = list_printed g.T.PrintForm.written c.args.items.now c.end_array.result c.args.out.now c.begin_array.new.self c.loop-item.out c.end_array.new.self c.in_ok-begin_array.ensures.ok c.begin_array.ensures.room.0 printed c.end_array.ensures;
      names = on_any c.end_array.result (ap (list_all g.T.Form.has_names) (sym all) ∙ c.loop-item.invariant.1);
      texts = on_any c.end_array.result (ap (list_all g.T.Form.has_texts) (sym all) ∙ c.loop-item.invariant.2);
    }
