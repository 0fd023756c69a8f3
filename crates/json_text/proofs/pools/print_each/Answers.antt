use Rattle.std.proofs.Common.{◌∙◌, ap, refl, sym}
use Rattle.std.proofs.lemmas.List.{take_all}
use Rattle.std.specs.List.{list_all}
use Rattle.json_items.proofs.Tests.{list_all-more}
use Rattle.json_items.specs.Resources.{all_showing, raw_data, resource_has_names, resource_has_texts}
use Rattle.json_text.proofs.ItemLaws.{made_more, made_all}
use Rattle.json_text.proofs.PrintedLists.{none_printed}
use Rattle.json_text.proofs.pools.print_each.Goals as goal

pub loop-resource-init : goal.loop-resource-init
loop-resource-init c = (none_printed raw_data (all_showing c.args.shown.now c.args.resources.now) c.args.out.now, refl, refl)

pub loop-resource-preserved : goal.loop-resource-preserved
loop-resource-preserved c =
    let rs = c.args.resources.now in
    let i = c.loop-resource.resource-index in
    let r = c.resource-item.result in (
      made_more (λ x. record { resource = x; shown = c.args.shown.now }) raw_data rs i r c.args.out.now c.loop-resource.out c.print_marked.new.out c.loop-resource-test.true c.resource-item.is c.loop-resource.invariant.0 c.in_ok-print_marked.ensures.printed,
      list_all-more resource_has_names rs i r c.loop-resource-test.true c.resource-item.is c.in_ok-print_marked.ensures.names c.loop-resource.invariant.1,
      list_all-more resource_has_texts rs i r c.loop-resource-test.true c.resource-item.is c.in_ok-print_marked.ensures.texts c.loop-resource.invariant.2,
    )

pub returns : goal.returns
returns c =
    let rs = c.args.resources.now in
    let i = c.loop-resource.resource-index in
    let all = take_all i rs c.loop-resource-test.false in
    record {
      printed = made_all (λ x. record { resource = x; shown = c.args.shown.now }) raw_data rs i c.args.out.now c.loop-resource.out c.loop-resource-test.false c.loop-resource.invariant.0;
      names = ap (list_all resource_has_names) (sym all) ∙ c.loop-resource.invariant.1;
      texts = ap (list_all resource_has_texts) (sym all) ∙ c.loop-resource.invariant.2;
    }
