use Rattle.json_items.specs.Resources.{all_showing, raw_data}
use Rattle.json_text.proofs.ItemLaws.{under_name}
use Rattle.json_text.proofs.MemberLaws.{on_ok}
use Rattle.json_text.proofs.PrintedLists.{list_printed}
use Rattle.json_text.proofs.pools.print_showing.Goals as goal

pub returns-clause-printed : goal.returns-clause-printed
returns-clause-printed c =
    let pool = all_showing c.args.shown.now c.args.resources.now in
    under_name c.args.name.now raw_data pool c.end_array.result c.args.out.now c.key.new.self c.begin_array.new.self c.print_each.new.out c.end_array.new.self (record { tokens = c.in_ok-key.ensures.ok; before = c.key.ensures.room.0 }) c.in_ok-begin_array.ensures.ok c.begin_array.ensures.room.0 c.in_ok-print_each.ensures.printed c.end_array.ensures

pub returns-clause-again : goal.returns-clause-again
returns-clause-again c =
    let pool = all_showing c.args.shown.now c.args.resources.now in
    on_ok c.end_array.result (list_printed raw_data pool c.end_array.result c.key.new.self c.begin_array.new.self c.print_each.new.out c.end_array.new.self c.in_ok-begin_array.ensures.ok c.begin_array.ensures.room.0 c.in_ok-print_each.ensures.printed c.end_array.ensures) (λ list. list.again)
