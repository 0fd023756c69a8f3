use Rattle.std.proofs.Common.{ap, codes, refl, subst}
use Rattle.serde_json.specs.Data.{no_members, string}
use Rattle.ticket_items.specs.SpawnId.{spawn_text}
use Rattle.json_text.specs.Printed.{AreMembersPrinted}
use Rattle.json_text.proofs.PrintedObjects.{more_members, one_member, opened, same_member}
use Rattle.list_text.specs.JsonLine.{number_data}
use Rattle.shop_page.specs.Delays.{refusal_of}
use Rattle.shop_page.specs.ListJson.{with_refusal}
use Rattle.shop_page.proofs.Deliveries.{ended}
use Rattle.shop_page.proofs.open_list.print_delivery.Goals as goal

pub returns : goal.returns
returns c =
    let w = c.args.one.now in
    let o0 = opened c.begin_object.result c.args.out.now c.begin_object.new.self c.begin_object.ensures c.in_ok-begin_object.ensures.ok in
    let o1 = one_member (codes "Controller") (string w.controller.now) c.print_text.new.out o0 c.in_ok-print_text.ensures refl in
    let refused = subst (λ refusal. AreMembersPrinted (with_refusal refusal no_members) c.print_text.new.out c.print_refusal.new.out) c.refusal.ensures c.in_ok-print_refusal.ensures in
    let o2 = more_members (with_refusal (refusal_of w.delivery) no_members) c.print_refusal.new.out o1 refused.appended refused.again in
    let o3 = same_member (codes "Seconds") _ _ c.print_member.new.out o2 c.in_ok-print_member.ensures.printed c.in_ok-print_member.ensures.again (ap number_data c.saturating_sub-seconds.ensures) in
    let o4 = same_member (codes "SpawnID") _ (string (spawn_text w.work.now.spawn_id)) c.print_member-2.new.out o3 c.in_ok-print_member-2.ensures.printed c.in_ok-print_member-2.ensures.again (ap string c.in_ok-spawn.ensures.id) in
    ended w.controller.now (refusal_of w.delivery) _ w.work.now.spawn_id c.end_object.result c.end_object.new.self o4 c.end_object.ensures
