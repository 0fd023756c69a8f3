use Rattle.std.proofs.Common.{◌∙◌, ◌≡◌, Bor, List, ℕ, Bool, false, true, Some, ap, sym}
use Rattle.std.specs.List.{list_all}
use Rattle.ticket_items.specs.Names.{is_name, is_text}
use Rattle.json_source.specs.Read.{attrs_form, lent_pairs}
use Rattle.json_items.proofs.Faults.{bad_names, bad_texts, no_fault}
use Rattle.json_items.proofs.Tests.{all_mapped}
use Rattle.json_items.specs.Attributes.{attrs_have_names, attrs_have_texts}
use Rattle.json_items.proofs.resources.attrs_form.AttrsForm.find.Goals as goal

-- a test of lent pairs, of which it was asked where they lie
names_so : (pairs lent : List (Bor (List ℕ) × Bor (List ℕ))) (b : Bool) → lent ≡ pairs → b ≡ list_all (λ p. is_name p.0.now) lent → attrs_have_names (lent_pairs pairs) ≡ b
names_so pairs lent b at told = all_mapped (λ p. is_name p.0) (λ p. (p.0.now, p.1.now)) pairs ∙ ap (list_all (λ p. is_name p.0.now)) (sym at) ∙ sym told

texts_so : (pairs lent : List (Bor (List ℕ) × Bor (List ℕ))) (b : Bool) → lent ≡ pairs → b ≡ list_all (λ p. is_text p.1.now) lent → attrs_have_texts (lent_pairs pairs) ≡ b
texts_so pairs lent b at told = all_mapped (λ p. is_text p.1) (λ p. (p.0.now, p.1.now)) pairs ∙ ap (list_all (λ p. is_text p.1.now)) (sym at) ∙ sym told

pub returns-then-not-are_names : goal.returns-then-not-are_names
returns-then-not-are_names g c =
    bad_names attrs_have_names attrs_have_texts (attrs_form (g.S.Source.content c.args.value.now)) _ c.in_ok-pairs.ensures.texts
    (names_so c.in_ok-pairs.pairs.items c.as_slice.result.now false c.as_slice.ensures.value c.if-not-are_names.ensures)

pub returns-then-not-are_texts : goal.returns-then-not-are_texts
returns-then-not-are_texts g c =
    bad_texts attrs_have_names attrs_have_texts (attrs_form (g.S.Source.content c.args.value.now)) _ c.in_ok-pairs.ensures.texts
    (names_so c.in_ok-pairs.pairs.items c.as_slice.result.now true c.as_slice.ensures.value c.if-not-are_names.ensures)
    (texts_so c.in_ok-pairs.pairs.items c.as_slice-2.result.now false c.as_slice-2.ensures.value c.if-not-are_texts.ensures)

pub returns : goal.returns
returns g c =
    let same = c.in_ok-build_attrs.ensures.ok ∙ ap lent_pairs c.as_slice-3.ensures.value in
    let right = names_so c.in_ok-pairs.pairs.items c.as_slice.result.now true c.as_slice.ensures.value c.if-not-are_names.ensures in
    let also = texts_so c.in_ok-pairs.pairs.items c.as_slice-2.result.now true c.as_slice-2.ensures.value c.if-not-are_texts.ensures in (
      c.in_ok-pairs.ensures.texts ∙ ap Some (sym same),
      no_fault attrs_have_names attrs_have_texts c.in_ok-build_attrs.field-0 (ap attrs_have_names same ∙ right) (ap attrs_have_texts same ∙ also),
    )
