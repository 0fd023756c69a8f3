use Rattle.std.proofs.Common.{◌∙◌, ap, refl, sym}
use Rattle.std.proofs.lemmas.List.{take_all}
use Rattle.std.specs.List.{list_all}
use Rattle.json_items.proofs.Tests.{list_all-more}
use Rattle.json_text.proofs.PrintedLists.{none_printed, one_more, all_printed}
use Rattle.controller_form.specs.States.RecordForm.{record_data, spawn_has_names, spawn_has_texts}
use Rattle.controller_form.proofs.states.record_text.print_each_record.Goals as goal

pub loop-spawn-init : goal.loop-spawn-init
loop-spawn-init c = (none_printed record_data c.args.records.now c.args.out.now, refl, refl)

pub loop-spawn-preserved : goal.loop-spawn-preserved
loop-spawn-preserved c =
    let rs = c.args.records.now in
    let i = c.loop-spawn.spawn-index in
    let r = c.spawn-item.result in (
      one_more record_data rs i r c.args.out.now c.loop-spawn.out c.print_record.new.out c.loop-spawn-test.true c.spawn-item.is c.loop-spawn.invariant.0 c.in_ok-print_record.ensures.printed,
      list_all-more spawn_has_names rs i r c.loop-spawn-test.true c.spawn-item.is c.in_ok-print_record.ensures.names c.loop-spawn.invariant.1,
      list_all-more spawn_has_texts rs i r c.loop-spawn-test.true c.spawn-item.is c.in_ok-print_record.ensures.texts c.loop-spawn.invariant.2,
    )

pub returns : goal.returns
returns c =
    let rs = c.args.records.now in
    let i = c.loop-spawn.spawn-index in
    let all = take_all i rs c.loop-spawn-test.false in
    record {
      printed = all_printed record_data rs i c.args.out.now c.loop-spawn.out c.loop-spawn-test.false c.loop-spawn.invariant.0;
      names = ap (list_all spawn_has_names) (sym all) ∙ c.loop-spawn.invariant.1;
      texts = ap (list_all spawn_has_texts) (sym all) ∙ c.loop-spawn.invariant.2;
    }
