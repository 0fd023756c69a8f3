use Rattle.std.proofs.Common.{◌∙◌, ◌<◌, get_or, length, ap, ap₂, subst}
use Rattle.ticket_items.proofs.Ordered.{with_attr-more}
use Rattle.ticket_items.specs.Attrs.{IsInOrder, with_attr}
use Rattle.ticket_items.proofs.few_attrs.FewAttrs.to_map.Goals as goal

pub loop-name-preserved : goal.loop-name-preserved
loop-name-preserved c =
    let pair = c.loop-name-item.result in
    let place = c.loop-name.name-index in
    let whole = c.deref-name-items.ensures.value ∙ c.self.view_is in
    c.in_ok-insert.ensures.entries ∙ ap₂ (λ name text. with_attr name text c.loop-name.map.entries) c.in_ok-clone.ensures.cases c.in_ok-clone-2.ensures.cases ∙ ap (with_attr pair.0 pair.1) c.loop-name.invariant
    ∙ with_attr-more c.args.self.now place pair (subst (λ ps. place < length ps) whole c.loop-name-test.true) (c.loop-name-item.is ∙ ap (λ ps. get_or ps place pair) whole) (subst IsInOrder c.self.view_is c.self.invariant)
