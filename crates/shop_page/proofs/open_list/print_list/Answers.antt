use Rattle.std.proofs.Common.{◌∙◌, List, ap, codes, refl}
use Rattle.std.specs.List.{filter}
use Rattle.serde_json.specs.Data.{Data, array}
use Rattle.json_items.specs.Listed.{data_items}
use Rattle.json_text.proofs.PrintedObjects.{closed, keyed, one_member, opened, same_member}
use Rattle.list_text.specs.JsonLine.{number_data}
use Rattle.shop_page.specs.Delays.{is_late, is_refused}
use Rattle.shop_page.specs.ListJson.{delivery_data, open_data}
use Rattle.shop_page.specs.declared.open_work.OpenWork.{OpenWork}
use Rattle.shop_page.proofs.open_list.print_list.Goals as goal

pub returns : goal.returns
returns c =
    let s = c.args.shop.now in
    let works = c.args.works.now in
    let told : List OpenWork → Data = λ found. array (data_items (delivery_data s.now) found) in
    let o0 = opened c.begin_object.result c.args.out.now c.begin_object.new.self c.begin_object.ensures c.in_ok-begin_object.ensures.ok in
    let o1 = one_member (codes "At") (number_data s.now) c.print_member.new.out o0 c.in_ok-print_member.ensures.printed c.in_ok-print_member.ensures.again in
    let o2 = one_member (codes "Controllers") (number_data s.controllers) c.print_member-2.new.out o1 c.in_ok-print_member-2.ensures.printed c.in_ok-print_member-2.ensures.again in
    let listed = keyed (codes "Open") c.print_member-2.new.out c.key.new.self c.print_works.new.out c.in_ok-key.ensures.ok c.key.ensures.room.0 c.in_ok-print_works.ensures in
    let o3 = one_member (codes "Open") (array (data_items (open_data s.now) works)) c.print_works.new.out o2 listed c.in_ok-print_works.ensures.again in
    let refused = keyed (codes "Refused") c.print_works.new.out c.key-2.new.self c.print_deliveries.new.out c.in_ok-key-2.ensures.ok c.key-2.ensures.room.0 c.in_ok-print_deliveries.ensures in
    let o4 = same_member (codes "Refused") _ (told (filter is_refused works)) c.print_deliveries.new.out o3 refused c.in_ok-print_deliveries.ensures.again (ap told (c.as_slice.ensures.value ∙ c.in_ok-refused.ensures)) in
    let late = keyed (codes "Waiting") c.print_deliveries.new.out c.key-3.new.self c.print_deliveries-2.new.out c.in_ok-key-3.ensures.ok c.key-3.ensures.room.0 c.in_ok-print_deliveries-2.ensures in
    let o5 = same_member (codes "Waiting") _ (told (filter (is_late s.now) works)) c.print_deliveries-2.new.out o4 late c.in_ok-print_deliveries-2.ensures.again (ap told (c.as_slice-2.ensures.value ∙ c.in_ok-late.ensures)) in
    closed c.end_object.result c.end_object.new.self o5 c.end_object.ensures refl
