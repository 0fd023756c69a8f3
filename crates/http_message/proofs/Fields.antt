-- The values under a name, one field after the other.
use Rattle.std.proofs.Common.{◌≡◌, ℕ, Bool, true, false, List, [], ◌∷◌, ◌++◌, refl, ap, ◌∙◌, if◌then◌else◌}
use Rattle.std.proofs.lemmas.List.{append-nil}
use Rattle.http_message.specs.Fields.{NamedValue, is_same_name, values_of, summary, more, with_value}

pub summary-push : (vs : List (List ℕ)) (v : List ℕ) → summary (vs ++ v ∷ []) ≡ more (summary vs) v
summary-push [] v = refl
summary-push (w ∷ []) v = refl
summary-push (w ∷ x ∷ vs) v = refl

pub values_of-append : (name : List ℕ) (fs gs : List NamedValue)
    → values_of name (fs ++ gs) ≡ values_of name fs ++ values_of name gs
values_of-append name [] gs = refl
values_of-append name (f ∷ fs) gs =
    elim (is_same_name f.0 name)
    as (λ b. (if b then f.1 ∷ values_of name (fs ++ gs) else values_of name (fs ++ gs))
    ≡ (if b then f.1 ∷ values_of name fs else values_of name fs) ++ values_of name gs)
    [ true ↦ ap (λ l. f.1 ∷ l) (values_of-append name fs gs) | false ↦ values_of-append name fs gs ]

pub with_one : (name : List ℕ) (fs : List NamedValue) (f : NamedValue)
    → summary (values_of name (fs ++ f ∷ [])) ≡ with_value (summary (values_of name fs)) name f
with_one name fs f = ap summary (values_of-append name fs (f ∷ [])) ∙ one (is_same_name f.0 name)
  where
    one : (b : Bool) → summary (values_of name fs ++ (if b then f.1 ∷ [] else []))
        ≡ (if b then more (summary (values_of name fs)) f.1 else summary (values_of name fs))
    one true = summary-push (values_of name fs) f.1
    one false = ap summary (append-nil (values_of name fs))
