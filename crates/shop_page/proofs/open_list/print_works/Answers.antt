use Rattle.shop_page.specs.ListJson.{open_data}
use Rattle.json_text.proofs.PrintedLists.{none_printed, one_more, all_printed, list_printed}
use Rattle.shop_page.proofs.open_list.print_works.Goals as goal

pub loop-one-init : goal.loop-one-init
loop-one-init c = none_printed (open_data c.args.now) c.args.works.now c.begin_array.new.self

pub loop-one-preserved : goal.loop-one-preserved
loop-one-preserved c =
    one_more (open_data c.args.now) c.args.works.now c.loop-one.one-index c.one-item.result c.begin_array.new.self c.loop-one.out c.print_work.new.out c.loop-one-test.true c.one-item.is c.loop-one.invariant c.in_ok-print_work.ensures

pub returns : goal.returns
returns c =
    let printed = all_printed (open_data c.args.now) c.args.works.now c.loop-one.one-index c.begin_array.new.self c.loop-one.out c.loop-one-test.false c.loop-one.invariant in
    list_printed (open_data c.args.now) c.args.works.now c.end_array.result c.args.out.now c.begin_array.new.self c.loop-one.out c.end_array.new.self c.in_ok-begin_array.ensures.ok c.begin_array.ensures.room.0 printed c.end_array.ensures
