use Rattle.std.proofs.Common.{◌∙◌, ap, slice_set}
use Rattle.ticket_items.proofs.AttrPlaces.{replaced, inserted, with_attr-in_order}
use Rattle.ticket_items.specs.Attrs.{with_attr}
use Rattle.ticket_items.proofs.few_attrs.FewAttrs.set.Goals as goal

-- the text is put in the place of the one that is there
pub returns-in-Ok-clause-ok : goal.returns-in-Ok-clause-ok
returns-in-Ok-clause-ok c =
    ap (λ p. slice_set c.self.inside.pairs.items c.in-Ok.place (p.0, c.args.text)) c.index_mut.ensures.value
    ∙ replaced c.args.name c.args.text _ c.in-Ok.place _ (rw c.self.view_is c.in-Ok.ensures.found) ∙ ap (with_attr c.args.name c.args.text) c.self.view_is

pub invariant_of-self : goal.invariant_of-self
invariant_of-self c = rw (returns-in-Ok-clause-ok c, ← c.self.view_is) (with_attr-in_order c.args.name c.args.text _ c.self.invariant)

-- the pair is put in where its name belongs
pub returns-in_ok-insert-in-Err-clause-ok : goal.returns-in_ok-insert-in-Err-clause-ok
returns-in_ok-insert-in-Err-clause-ok c = c.in_ok-insert-in-Err.ensures.items ∙ inserted c.args.name c.args.text _ c.in-Err.place (rw c.self.view_is c.in-Err.ensures.missing) ∙ ap (with_attr c.args.name c.args.text) c.self.view_is

pub invariant_of-self-in-Err : goal.invariant_of-self-in-Err
invariant_of-self-in-Err c = rw (returns-in_ok-insert-in-Err-clause-ok c, ← c.self.view_is) (with_attr-in_order c.args.name c.args.text _ c.self.invariant)
