use Rattle.std.proofs.Common.{◌∙◌, ◌<◌, ℕ, List, Bor, length, ap, sym, arith}
use Rattle.std.proofs.lemmas.List.{get_or-map, length-map}
use Rattle.json_source.specs.Read.{lent_pairs}
use Rattle.ticket_items.proofs.Ordered.{with_attr-more}
use Rattle.ticket_items.specs.Attrs.{with_attr}
use Rattle.ticket_items.specs.Names.{is_name, is_text}
use Rattle.json_items.proofs.Tests.{list_all-at}
use Rattle.json_items.proofs.resources.attrs_form.build_attrs.Goals as goal

abbrev lent : Bor (List ℕ) × Bor (List ℕ) → List ℕ × List ℕ
lent p = (p.0.now, p.1.now)

pub set_attr-requires-clause-name : goal.set_attr-requires-clause-name
set_attr-requires-clause-name c = list_all-at (λ p. is_name p.0.now) c.args.pairs.now c.loop-name.name-index _ c.loop-name-test.true c.requires.names

pub set_attr-requires-clause-text : goal.set_attr-requires-clause-text
set_attr-requires-clause-text c = list_all-at (λ p. is_text p.1.now) c.args.pairs.now c.loop-name.name-index _ c.loop-name-test.true c.requires.texts

-- the next pair is set
pub loop-name-preserved : goal.loop-name-preserved
loop-name-preserved c =
    let place = c.loop-name.name-index in
    let pairs = c.args.pairs.now in
    let within : place < length (lent_pairs pairs) = omega (arith, length-map pairs lent, c.loop-name-test.true) in
    c.in_ok-set_attr.ensures.ok ∙ ap (with_attr _ _) c.loop-name.invariant ∙ with_attr-more (lent_pairs pairs) place _ within (sym (get_or-map lent pairs place _ _ c.loop-name-test.true)) c.requires.ordered
