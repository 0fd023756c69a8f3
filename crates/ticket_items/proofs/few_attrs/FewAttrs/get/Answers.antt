use Rattle.std.proofs.Common.{◌∙◌, Some, get_or, sym, ap}
use Rattle.ticket_items.proofs.AttrPlaces.{text_there, no_text}
use Rattle.ticket_items.proofs.few_attrs.FewAttrs.get.Goals as goal

pub returns-in-Ok : goal.returns-in-Ok
returns-in-Ok c = ap (λ p. Some p.1) c.index.ensures ∙ ap (λ pairs. Some (get_or pairs c.in-Ok.place c.index.result.now).1) c.self.view_is ∙ sym (text_there c.args.name.now c.args.self.now c.in-Ok.place _ c.in-Ok.ensures.found)

pub returns-in-Err : goal.returns-in-Err
returns-in-Err c = sym (no_text c.args.name.now c.args.self.now _ c.in-Err.ensures.missing)
