use Rattle.std.proofs.Common.{ap, codes, refl, subst}
use Rattle.std.proofs.lemmas.Result.{on_ok_weaker}
use Rattle.serde_json.specs.Data.{no_members, object, string}
use Rattle.ticket_items.specs.SpawnId.{spawn_text}
use Rattle.json_text.specs.Printed.{IsPrinted}
use Rattle.json_text.proofs.PrintedObjects.{opened, one_member, same_member, more_members, closed}
use Rattle.controller_form.specs.States.EntryForm.{stage_word, with_end, with_part}
use Rattle.controller_form.proofs.EntryMembers.{same_members}
use Rattle.controller_form.proofs.states.entry_text.print_entry.Goals as goal

pub returns-clause-printed : goal.returns-clause-printed
returns-clause-printed c =
    let e = c.args.entry.now in
    let word = stage_word e.phase in
    let same = same_members e.at e.phase e.spawn_id e.part word in
    let o0 = opened c.begin_object.result c.args.out.now c.begin_object.new.self c.begin_object.ensures c.in_ok-begin_object.ensures.ok in
    let o1 = one_member _ _ c.print_member.new.out o0 c.in_ok-print_member.ensures.printed c.in_ok-print_member.ensures.again in
    let o2 = more_members (with_end e.phase no_members) c.print_end.new.out o1 c.in_ok-print_end.ensures.appended c.in_ok-print_end.ensures.again in
    let o3 = same_member (codes "ID") _ (string (spawn_text e.spawn_id)) c.print_member-2.new.out o2 c.in_ok-print_member-2.ensures.printed c.in_ok-print_member-2.ensures.again (ap string c.in_ok-id.ensures.id) in
    let o4 = more_members (with_part e.part no_members) c.print_some_part.new.out o3 c.in_ok-print_some_part.ensures.printed.appended c.in_ok-print_some_part.ensures.printed.again in
    let o5 = same_member (codes "Phase") _ (string word) c.print_text.new.out o4 c.in_ok-print_text.ensures refl (ap string c.stage_word.ensures) in
    on_ok_weaker c.end_object.result (λ printed. subst (λ ms. IsPrinted (object ms) c.args.out.now c.end_object.new.self) same.0 printed) (closed c.end_object.result c.end_object.new.self o5 c.end_object.ensures same.1)
