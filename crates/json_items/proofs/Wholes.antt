-- A whole whose names and texts are valid is read.
use Rattle.std.proofs.Common.{◌≡◌, Bool, true, false, Option, Some, None, Ok, refl, sym, subst}
use Rattle.serde_json.specs.Data.{Data}
use Rattle.json_items.specs.Validation.{checked_draft, checked_fault, checked_value, first_fault}

sound_at : {X : Type 0} (named written : Bool) (x : X) → named ≡ true → written ≡ true → checked_value (checked_fault named written None) x ≡ Ok x
sound_at true true x p q = refl
sound_at false written x p q = cc
sound_at true false x p q = cc

pub whole_again : {X : Type 0} (form : Data → Option X) (has_names has_texts : X → Bool) (d : Data) (x : X) → form d ≡ Some x → has_names x ≡ true → has_texts x ≡ true → checked_draft (first_fault has_names has_texts) (form d) ≡ Ok x
whole_again {X = X} form has_names has_texts d x read names texts =
    let P : Option X → Type 0 = λ o. checked_draft (first_fault has_names has_texts) o ≡ Ok x in
    subst P (sym read) (sound_at (has_names x) (has_texts x) x names texts)
