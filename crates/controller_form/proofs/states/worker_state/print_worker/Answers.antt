use Rattle.std.proofs.Common.{ap, codes, refl}
use Rattle.serde_json.specs.Data.{array, string}
use Rattle.json_items.specs.Listed.{data_items}
use Rattle.json_text.proofs.PrintedObjects.{opened, same_member, closed}
use Rattle.controller_form.specs.States.EntryForm.{entry_data}
use Rattle.controller_form.specs.States.StateFormat.{written_format}
use Rattle.controller_form.proofs.states.worker_state.print_worker.Goals as goal

pub returns-clause-printed : goal.returns-clause-printed
returns-clause-printed c =
    let w = c.args.worker.now in
    let o0 = opened c.begin_object.result c.args.out.now c.begin_object.new.self c.begin_object.ensures c.in_ok-begin_object.ensures.ok in
    let o1 = same_member (codes "Entries") _ (array (data_items (entry_data written_format) w.entries)) c.print_entries.new.out o0 c.in_ok-print_entries.ensures.printed c.in_ok-print_entries.ensures.again (ap (λ es. array (data_items (entry_data written_format) es)) c.entries.ensures.entries) in
    let o2 = same_member (codes "Master") _ (string w.master) c.print_member.new.out o1 c.in_ok-print_member.ensures.printed c.in_ok-print_member.ensures.again (ap string c.master.ensures) in
    let o3 = same_member (codes "Name") _ (string w.name) c.print_member-2.new.out o2 c.in_ok-print_member-2.ensures.printed c.in_ok-print_member-2.ensures.again (ap string c.name.ensures) in
    closed c.end_object.result c.end_object.new.self o3 c.end_object.ensures refl
