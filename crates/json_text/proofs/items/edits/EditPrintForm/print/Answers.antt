use Rattle.std.proofs.Common.{OnOk, subst, sym}
use Rattle.json_items.specs.Edits.{edit_data}
use Rattle.json_text.specs.Printed.{IsPrinted}
use Rattle.json_text.proofs.items.edits.EditPrintForm.print.Goals as goal

pub returns-in-SetStatus-clause-printed : goal.returns-in-SetStatus-clause-printed
returns-in-SetStatus-clause-printed c =
    subst (λ e. OnOk c.print_two.result (IsPrinted (edit_data e) c.args.out.now c.print_two.new.out)) (sym c.in-SetStatus.is) c.print_two.ensures.printed

pub returns-in-SetResAttr-clause-printed : goal.returns-in-SetResAttr-clause-printed
returns-in-SetResAttr-clause-printed c =
    subst (λ e. OnOk c.print_set_attr-in-SetResAttr.result (IsPrinted (edit_data e) c.args.out.now c.print_set_attr-in-SetResAttr.new.out)) (sym c.in-SetResAttr.is) c.print_set_attr-in-SetResAttr.ensures.printed
