use Rattle.std.proofs.Common.{◌∙◌, ap, codes, refl}
use Rattle.serde_json.specs.Data.{array, string}
use Rattle.ticket_items.specs.SpawnId.{spawn_text}
use Rattle.json_items.specs.Listed.{data_items}
use Rattle.json_items.specs.Resources.{all_showing, raw_data}
use Rattle.json_items.specs.Shown.{nothing_shown}
use Rattle.json_text.proofs.PrintedObjects.{opened, one_member, same_member, closed}
use Rattle.controller_form.specs.States.RecordForm.{phase_word}
use Rattle.controller_form.proofs.states.record_text.print_record.Goals as goal

pub returns-clause-printed : goal.returns-clause-printed
returns-clause-printed c =
    let spawn = c.args.spawn.now in
    let o0 = opened c.begin_object.result c.args.out.now c.begin_object.new.self c.begin_object.ensures c.in_ok-begin_object.ensures.ok in
    let o1 = one_member _ _ c.print_member.new.out o0 c.in_ok-print_member.ensures.printed c.in_ok-print_member.ensures.again in
    let o2 = same_member (codes "ID") _ (string (spawn_text spawn.id)) c.print_member-2.new.out o1 c.in_ok-print_member-2.ensures.printed c.in_ok-print_member-2.ensures.again (ap string c.in_ok-id.ensures.id) in
    let o3 = one_member _ _ c.print_member-3.new.out o2 c.in_ok-print_member-3.ensures.printed c.in_ok-print_member-3.ensures.again in
    let o4 = same_member (codes "Phase") _ (string (phase_word spawn.phase)) c.print_text.new.out o3 c.in_ok-print_text.ensures refl (ap string c.phase_word.ensures) in
    let o5 = same_member (codes "RO") _ _ c.print_showing.new.out o4 c.in_ok-print_showing.ensures.printed c.in_ok-print_showing.ensures.again (ap (λ s. array (data_items raw_data (all_showing s c.as_slice.result.now))) c.nothing.ensures ∙ ap (λ rs. array (data_items raw_data (all_showing nothing_shown rs))) c.as_slice.ensures) in
    let o6 = one_member _ _ c.print_member-4.new.out o5 c.in_ok-print_member-4.ensures.printed c.in_ok-print_member-4.ensures.again in
    let o7 = one_member _ _ c.print_member-5.new.out o6 c.in_ok-print_member-5.ensures.printed c.in_ok-print_member-5.ensures.again in
    closed c.end_object.result c.end_object.new.self o7 c.end_object.ensures refl
