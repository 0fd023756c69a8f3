use Rattle.std.proofs.Common.{ap, codes, refl, subst}
use Rattle.serde_json.specs.Data.{no_members, string}
use Rattle.ticket_items.specs.SpawnId.{spawn_text}
use Rattle.json_text.specs.Printed.{AreMembersPrinted}
use Rattle.json_text.proofs.PrintedObjects.{more_members, one_member, opened, same_member}
use Rattle.list_text.specs.JsonLine.{number_data}
use Rattle.shop_page.specs.WorkerJson.{end_of, stage_word, with_end, with_part}
use Rattle.shop_page.proofs.Entries.{ended}
use Rattle.shop_page.proofs.worker_entries.print_entry.Goals as goal

pub returns : goal.returns
returns c =
    let e = c.args.entry.now in
    let o0 = opened c.begin_object.result c.args.out.now c.begin_object.new.self c.begin_object.ensures c.in_ok-begin_object.ensures.ok in
    let o1 = one_member (codes "At") (number_data e.at) c.print_member.new.out o0 c.in_ok-print_member.ensures.printed c.in_ok-print_member.ensures.again in
    let ended_so = subst (λ end. AreMembersPrinted (with_end end no_members) c.print_member.new.out c.print_end.new.out) c.end_of.ensures c.in_ok-print_end.ensures in
    let o2 = more_members (with_end (end_of e.phase) no_members) c.print_end.new.out o1 ended_so.appended ended_so.again in
    let o3 = more_members (with_part e.part no_members) c.print_kept.new.out o2 c.in_ok-print_kept.ensures.appended c.in_ok-print_kept.ensures.again in
    let o4 = same_member (codes "Phase") _ (string (stage_word e.phase)) c.print_text.new.out o3 c.in_ok-print_text.ensures refl (ap string c.stage_word.ensures) in
    let o5 = same_member (codes "SpawnID") _ (string (spawn_text e.spawn_id)) c.print_member-2.new.out o4 c.in_ok-print_member-2.ensures.printed c.in_ok-print_member-2.ensures.again (ap string c.in_ok-spawn.ensures.id) in
    ended e.at e.phase e.part e.spawn_id c.end_object.result c.end_object.new.self o5 c.end_object.ensures
