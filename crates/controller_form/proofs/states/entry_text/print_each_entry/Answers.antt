use Rattle.std.proofs.Common.{arith, subst}
use Rattle.std.proofs.lemmas.List.{take_all}
use Rattle.std.proofs.lemmas.List.Elements.{All-more}
use Rattle.std.specs.List.{All}
use Rattle.json_text.proofs.PrintedLists.{none_printed, one_more, all_printed}
use Rattle.controller_form.specs.States.EntryForm.{entry_data}
use Rattle.controller_form.specs.States.StateFormat.{written_format}
use Rattle.controller_form.specs.States.Writable.{IsWritableEntry}
use Rattle.controller_form.proofs.states.entry_text.print_each_entry.Goals as goal

pub loop-entry-init : goal.loop-entry-init
loop-entry-init c = (none_printed (entry_data written_format) c.args.entries.now c.args.out.now, λ k d h. absurd (omega arith))

pub loop-entry-preserved : goal.loop-entry-preserved
loop-entry-preserved c =
    let es = c.args.entries.now in
    let i = c.loop-entry.entry-index in
    let e = c.entry-item.result in (
      one_more (entry_data written_format) es i e c.args.out.now c.loop-entry.out c.print_entry.new.out c.loop-entry-test.true c.entry-item.is c.loop-entry.invariant.0 c.in_ok-print_entry.ensures.printed,
      All-more IsWritableEntry es i e c.loop-entry-test.true c.loop-entry.invariant.1 (subst IsWritableEntry c.entry-item.is c.in_ok-print_entry.ensures.known),
    )

pub returns : goal.returns
returns c =
    let es = c.args.entries.now in
    let i = c.loop-entry.entry-index in
    record {
      printed = all_printed (entry_data written_format) es i c.args.out.now c.loop-entry.out c.loop-entry-test.false c.loop-entry.invariant.0;
      known = subst (All IsWritableEntry) (take_all i es c.loop-entry-test.false) c.loop-entry.invariant.1;
    }
