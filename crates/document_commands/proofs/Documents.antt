-- What is wrong with the ticket of a document whose names and texts are valid.
use Rattle.std.proofs.Common.{◌≡◌, ◌∙◌, ◌⊎◌, Bool, true, false, ℕ, List, Option, Some, None, Result, Ok, Err, IfErr, ap, inl, inr, ⊎_elim, subst, sym}
use Rattle.std.specs.Prelude.{IsErrAnd}
use Rattle.ticket_items.specs.declared.refusal.Refusal.{Refusal}
use Rattle.ticket_items.specs.declared.refusal.Refusal.TheVariants.{Memory}
use Rattle.json_items.specs.Validation.{built_value, checked_draft, checked_fault, checked_value, first_fault}
use Rattle.document_commands.specs.EditCommand.Document.{IsReadRaw, IsRefusalOf, document_form, document_has_names, document_has_texts, document_of, late_fault}
use Rattle.document_commands.specs.declared.edit_command.raw_document.RawDocument.{RawDocument}

late_at : {X Y : Type 0} (named written : Bool) (late : X → Option Refusal) (made : X → Y) (x y : X) (e : Refusal) → checked_value (checked_fault named written None) x ≡ Ok y → late y ≡ Some e → checked_value (checked_fault named written (late x)) (made x) ≡ Err e
late_at true true late made x y e valid wrong =
    let same : x ≡ y = cc in
    ap (λ f. checked_value (checked_fault true true f) (made x)) (ap late same ∙ wrong)
late_at false written late made x y e valid wrong = cc
late_at true false late made x y e valid wrong = cc

late_refused : {X Y : Type 0} (names texts : X → Bool) (late : X → Option Refusal) (made : X → Y) (read : Option X) (y : X) (e : Refusal) → checked_draft (first_fault names texts) read ≡ Ok y → late y ≡ Some e → built_value names texts late made read ≡ Err e
late_refused names texts late made None y e valid wrong = cc
late_refused names texts late made (Some x) y e valid wrong = late_at (names x) (texts x) late made x y e valid wrong

-- why the ticket isn't built is why its document is refused
pub refused_late : {X : Type 0} (result : Result X Refusal) (input : List ℕ) (raw : RawDocument) (e : Refusal) → IsErrAnd result (λ f. f ≡ e) → IsReadRaw input (Ok raw) → (e ≡ Memory) ⊎ (late_fault raw ≡ Some e) → IfErr result (IsRefusalOf input)
refused_late (Ok x) input raw e same here wrong = absurd same
refused_late (Err f) input raw e same here wrong =
    subst (IsRefusalOf input) (sym same)
    (⊎_elim (λ memory. inr (inr memory))
    (λ is. inr (inl (record {
      value = here.value;
      utf8 = here.utf8;
      json = here.json;
      form = late_refused document_has_names document_has_texts late_fault document_of (document_form here.value) raw e here.form is;
    }))) wrong)
