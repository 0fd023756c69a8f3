use Rattle.std.proofs.Common.{◌≡◌, sym, subst, Err, IfErr, IfNone, IfSome}
use Rattle.ticket_items.specs.declared.refusal.Refusal.TheVariants.{Memory}
use Rattle.ticket_rows.proofs.Reasons.{ok_needs_none}
use Rattle.ticket_rows.specs.PartEdit.{part_refusal}
use Rattle.ticket_rows.proofs.edit.part_edits.apply.Goals as goal

pub returns-in-SetStatus-clause-refused : goal.returns-in-SetStatus-clause-refused
returns-in-SetStatus-clause-refused c =
    subst (λ e. IfSome (part_refusal e c.args.rows.now.items c.args.copies.now) (λ r. c.set_status.result ≡ Err r)) (sym c.in-SetStatus.is) c.set_status.ensures.refused

pub returns-in-SetStatus-clause-memory : goal.returns-in-SetStatus-clause-memory
returns-in-SetStatus-clause-memory c =
    subst (λ e. IfNone (part_refusal e c.args.rows.now.items c.args.copies.now) (IfErr c.set_status.result (λ r. r ≡ Memory))) (sym c.in-SetStatus.is) (ok_needs_none _ c.set_status.result c.set_status.ensures.memory)

pub returns-in-SetAttr-clause-refused : goal.returns-in-SetAttr-clause-refused
returns-in-SetAttr-clause-refused c =
    subst (λ e. IfSome (part_refusal e c.args.rows.now.items c.args.copies.now) (λ r. c.set_attr.result ≡ Err r)) (sym c.in-SetAttr.is) c.set_attr.ensures.refused

pub returns-in-SetResAttr-clause-refused : goal.returns-in-SetResAttr-clause-refused
returns-in-SetResAttr-clause-refused c =
    subst (λ e. IfSome (part_refusal e c.args.rows.now.items c.args.copies.now) (λ r. c.set_attr_of.result ≡ Err r)) (sym c.in-SetResAttr.is) c.set_attr_of.ensures.refused

pub returns-in-Note-clause-refused : goal.returns-in-Note-clause-refused
returns-in-Note-clause-refused c =
    subst (λ e. IfSome (part_refusal e c.args.rows.now.items c.args.copies.now) (λ r. c.note.result ≡ Err r)) (sym c.in-Note.is) c.note.ensures.refused
