use Rattle.std.proofs.Common.{◌∙◌, ap, codes, refl, subst, sym}
use Rattle.std.proofs.lemmas.List.{take_all}
use Rattle.std.specs.List.{list_all}
use Rattle.json_items.proofs.Tests.{list_all-more}
use Rattle.json_items.specs.Resources.{raw_data, resource_data, resource_has_names, resource_has_texts}
use Rattle.json_text.specs.Marked.{marked_pool, showing_of}
use Rattle.json_text.specs.Printed.{IsPrinted}
use Rattle.json_text.proofs.ItemLaws.{made_more, made_all, under_name}
use Rattle.json_text.proofs.MemberLaws.{on_ok}
use Rattle.json_text.proofs.PrintedLists.{list_printed, none_printed}
use Rattle.json_text.proofs.PrintedObjects.{on_any}
use Rattle.json_text.proofs.pools.print_pool.Goals as goal

pub loop-resource-init : goal.loop-resource-init
loop-resource-init c = (none_printed raw_data (marked_pool c.args.marks.now c.args.resources.now) c.begin_array.new.self, refl, refl)

pub loop-resource-preserved : goal.loop-resource-preserved
loop-resource-preserved c =
    let rs = c.args.resources.now in
    let i = c.loop-resource.resource-index in
    let r = c.resource-item.result in
    let printed = subst (λ s. IsPrinted (resource_data s r) c.loop-resource.out c.print_marked.new.out) c.in_ok-shown.ensures c.in_ok-print_marked.ensures.printed in (
      made_more (λ x. record { resource = x; shown = showing_of c.args.marks.now x }) raw_data rs i r c.begin_array.new.self c.loop-resource.out c.print_marked.new.out c.loop-resource-test.true c.resource-item.is c.loop-resource.invariant.0 printed,
      list_all-more resource_has_names rs i r c.loop-resource-test.true c.resource-item.is c.in_ok-print_marked.ensures.names c.loop-resource.invariant.1,
      list_all-more resource_has_texts rs i r c.loop-resource-test.true c.resource-item.is c.in_ok-print_marked.ensures.texts c.loop-resource.invariant.2,
    )

pub returns : goal.returns
returns c =
    let rs = c.args.resources.now in
    let i = c.loop-resource.resource-index in
    let all = take_all i rs c.loop-resource-test.false in
    let pool = marked_pool c.args.marks.now rs in
    let printed = made_all (λ x. record { resource = x; shown = showing_of c.args.marks.now x }) raw_data rs i c.begin_array.new.self c.loop-resource.out c.loop-resource-test.false c.loop-resource.invariant.0 in
    record {
      printed = under_name (codes "ResourcePool") raw_data pool c.end_array.result c.args.out.now c.key.new.self c.begin_array.new.self c.loop-resource.out c.end_array.new.self (record { tokens = c.in_ok-key.ensures.ok; before = c.key.ensures.room.0 }) c.in_ok-begin_array.ensures.ok c.begin_array.ensures.room.0 printed c.end_array.ensures;
      again = on_ok c.end_array.result (list_printed raw_data pool c.end_array.result c.key.new.self c.begin_array.new.self c.loop-resource.out c.end_array.new.self c.in_ok-begin_array.ensures.ok c.begin_array.ensures.room.0 printed c.end_array.ensures) (λ list. list.again);
      names = on_any c.end_array.result (ap (list_all resource_has_names) (sym all) ∙ c.loop-resource.invariant.1);
      texts = on_any c.end_array.result (ap (list_all resource_has_texts) (sym all) ∙ c.loop-resource.invariant.2);
    }
