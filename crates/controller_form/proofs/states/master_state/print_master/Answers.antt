use Rattle.std.proofs.Common.{ap, codes, refl}
use Rattle.serde_json.specs.Data.{array, string}
use Rattle.json_items.specs.Listed.{data_items, texts_data}
use Rattle.json_text.proofs.PrintedObjects.{opened, same_member, keyed, closed}
use Rattle.json_text.specs.Written.{ticket_data}
use Rattle.controller_form.specs.States.RecordForm.{record_data}
use Rattle.controller_form.proofs.states.master_state.print_master.Goals as goal

pub returns-clause-printed : goal.returns-clause-printed
returns-clause-printed c =
    let m = c.args.master.now in
    let o0 = opened c.begin_object.result c.args.out.now c.begin_object.new.self c.begin_object.ensures c.in_ok-begin_object.ensures.ok in
    let o1 = same_member (codes "Name") _ (string m.name) c.print_member.new.out o0 c.in_ok-print_member.ensures.printed c.in_ok-print_member.ensures.again (ap string c.name.ensures) in
    let o2 = same_member (codes "Spawns") _ (array (data_items record_data m.records)) c.print_records.new.out o1 c.in_ok-print_records.ensures.printed c.in_ok-print_records.ensures.again (ap (λ rs. array (data_items record_data rs)) c.records.ensures.records) in
    let o3 = same_member (codes "Ticket") _ (ticket_data m.ticket) c.print_ticket.new.out o2 (keyed (codes "Ticket") c.print_records.new.out c.key.new.self c.print_ticket.new.out c.in_ok-key.ensures.ok c.key.ensures.room.0 c.in_ok-print_ticket.ensures.printed) c.in_ok-print_ticket.ensures.printed.again (ap ticket_data c.ticket.ensures) in
    let o4 = same_member (codes "Workers") _ (texts_data m.workers) c.print_items.new.out o3 c.in_ok-print_items.ensures.printed c.in_ok-print_items.ensures.again (ap texts_data c.workers.ensures) in
    closed c.end_object.result c.end_object.new.self o4 c.end_object.ensures refl
