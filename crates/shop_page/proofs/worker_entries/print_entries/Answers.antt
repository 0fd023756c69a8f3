use Rattle.shop_page.specs.WorkerJson.{entry_data}
use Rattle.json_text.proofs.PrintedLists.{none_printed, one_more, all_printed, list_printed}
use Rattle.shop_page.proofs.worker_entries.print_entries.Goals as goal

pub loop-entry-init : goal.loop-entry-init
loop-entry-init c = none_printed entry_data c.args.entries.now c.begin_array.new.self

pub loop-entry-preserved : goal.loop-entry-preserved
loop-entry-preserved c =
    one_more entry_data c.args.entries.now c.loop-entry.entry-index c.entry-item.result c.begin_array.new.self c.loop-entry.out c.print_entry.new.out c.loop-entry-test.true c.entry-item.is c.loop-entry.invariant c.in_ok-print_entry.ensures

pub returns : goal.returns
returns c =
    let printed = all_printed entry_data c.args.entries.now c.loop-entry.entry-index c.begin_array.new.self c.loop-entry.out c.loop-entry-test.false c.loop-entry.invariant in
    list_printed entry_data c.args.entries.now c.end_array.result c.args.out.now c.begin_array.new.self c.loop-entry.out c.end_array.new.self c.in_ok-begin_array.ensures.ok c.begin_array.ensures.room.0 printed c.end_array.ensures
