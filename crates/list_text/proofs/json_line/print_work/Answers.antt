use Rattle.std.proofs.Common.{ap, codes, refl}
use Rattle.serde_json.specs.Data.{string}
use Rattle.ticket_items.specs.SpawnId.{spawn_text}
use Rattle.job_list.specs.Work.{phase_word}
use Rattle.json_text.proofs.PrintedObjects.{opened, one_member, same_member, closed}
use Rattle.list_text.specs.JsonLine.{number_data}
use Rattle.list_text.proofs.json_line.print_work.Goals as goal

pub returns : goal.returns
returns c =
    let w = c.args.work.now in
    let o0 = opened c.begin_object.result c.args.out.now c.begin_object.new.self c.begin_object.ensures c.in_ok-begin_object.ensures.ok in
    let o1 = one_member _ _ c.print_member.new.out o0 c.in_ok-print_member.ensures.printed c.in_ok-print_member.ensures.again in
    let o2 = one_member _ _ c.print_known.new.out o1 c.in_ok-print_known.ensures.printed c.in_ok-print_known.ensures.again in
    let o3 = one_member _ _ c.print_member-2.new.out o2 c.in_ok-print_member-2.ensures.printed c.in_ok-print_member-2.ensures.again in
    let o4 = one_member _ _ c.print_known-2.new.out o3 c.in_ok-print_known-2.ensures.printed c.in_ok-print_known-2.ensures.again in
    let o5 = one_member _ _ c.print_known-3.new.out o4 c.in_ok-print_known-3.ensures.printed c.in_ok-print_known-3.ensures.again in
    let o6 = one_member _ _ c.print_known-4.new.out o5 c.in_ok-print_known-4.ensures.printed c.in_ok-print_known-4.ensures.again in
    let o7 = same_member (codes "Phase") _ (string (phase_word w.phase)) c.print_text.new.out o6 c.in_ok-print_text.ensures refl (ap string c.word.ensures) in
    let o8 = same_member (codes "Seconds") _ _ c.print_member-3.new.out o7 c.in_ok-print_member-3.ensures.printed c.in_ok-print_member-3.ensures.again (ap number_data c.saturating_sub-seconds.ensures) in
    let o9 = same_member (codes "SpawnID") _ (string (spawn_text w.spawn_id)) c.print_member-4.new.out o8 c.in_ok-print_member-4.ensures.printed c.in_ok-print_member-4.ensures.again (ap string c.in_ok-spawn.ensures.id) in
    let o10 = one_member _ _ c.print_known-5.new.out o9 c.in_ok-print_known-5.ensures.printed c.in_ok-print_known-5.ensures.again in
    let o11 = one_member _ _ c.print_member-5.new.out o10 c.in_ok-print_member-5.ensures.printed c.in_ok-print_member-5.ensures.again in
    closed c.end_object.result c.end_object.new.self o11 c.end_object.ensures refl
