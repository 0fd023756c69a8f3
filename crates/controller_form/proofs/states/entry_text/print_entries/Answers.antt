use Rattle.std.proofs.Common.{codes}
use Rattle.json_text.proofs.ItemLaws.{under_name}
use Rattle.json_text.proofs.MemberLaws.{on_ok}
use Rattle.json_text.proofs.PrintedLists.{list_printed}
use Rattle.controller_form.specs.States.EntryForm.{entry_data}
use Rattle.controller_form.specs.States.StateFormat.{written_format}
use Rattle.controller_form.proofs.states.entry_text.print_entries.Goals as goal

pub returns-clause-printed : goal.returns-clause-printed
returns-clause-printed c =
    under_name (codes "Entries") (entry_data written_format) c.args.entries.now c.end_array.result c.args.out.now c.key.new.self c.begin_array.new.self c.print_each_entry.new.out c.end_array.new.self (record { tokens = c.in_ok-key.ensures.ok; before = c.key.ensures.room.0 }) c.in_ok-begin_array.ensures.ok c.begin_array.ensures.room.0 c.in_ok-print_each_entry.ensures.printed c.end_array.ensures

pub returns-clause-again : goal.returns-clause-again
returns-clause-again c =
    on_ok c.end_array.result (list_printed (entry_data written_format) c.args.entries.now c.end_array.result c.key.new.self c.begin_array.new.self c.print_each_entry.new.out c.end_array.new.self c.in_ok-begin_array.ensures.ok c.begin_array.ensures.room.0 c.in_ok-print_each_entry.ensures.printed c.end_array.ensures) (λ list. list.again)
