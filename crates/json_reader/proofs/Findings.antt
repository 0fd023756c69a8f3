-- What is found of one thing, of several together, and of what is made of them.
use Rattle.std.proofs.Common.{◌≡◌, ◌∙◌, Bool, Option, Some, None, Result, Ok, Err, refl, sym, ap, subst}
use Rattle.std.specs.Option.{option_map}
use Rattle.std.specs.Prelude.{⊤, IsErrAnd, IsOkAnd, MatchResult, OnOk}
use Rattle.ticket_items.specs.declared.refusal.Refusal.{Refusal}
use Rattle.json_items.specs.Validation.{Finds, checked_fault, first_fault}
use Rattle.json_items.proofs.ListLemmas.{Fails-weaker}
use Rattle.json_source.specs.Read.{Fails}
use Rattle.json_reader.specs.Found.{FindsAs}

-- what is found is found of something that is read
pub found_of : {X : Type 0} (fault : X → Option Refusal) (r : Result X Refusal) (o : Option X) → Finds fault r o → (x : X) × (o ≡ Some x) × Finds fault r (Some x)
found_of fault (Ok x) o h = (x, h.0, (refl, h.1))
found_of fault (Err e) None h = cc
found_of fault (Err e) (Some x) h = (x, refl, h)

-- what was found, where it is a value
pub found_value : {X : Type 0} (fault : X → Option Refusal) (r : Result X Refusal) (x : X) (o : Option X) → r ≡ Ok x → Finds fault r o → o ≡ Some x
found_value fault r x o was h = (subst (λ s. Finds fault s o) was h).0

-- what is made of what was found has the same faults
pub found_made : {X Y : Type 0} (f : X → Option Refusal) (g : Y → Option Refusal) (made : X → Y) (post : X → Y → Type 0) (r : Result X Refusal) (s : Result Y Refusal) (x : X) → ((x : X) → f x ≡ g (made x)) → ((v : X) (y : Y) → post v y → y ≡ made v)
    → MatchResult r (λ v. IsOkAnd s (post v)) (λ e. s ≡ Err e) → Finds f r (Some x) → Finds g s (Some (made x))
found_made f g made post (Ok v) (Ok y) x same makes is h = let made_so = makes v y is in (ap (option_map made) h.0 ∙ ap Some (sym made_so), ap g made_so ∙ sym (same v) ∙ h.1)
found_made f g made post (Ok v) (Err e) x same makes is h = absurd is
found_made f g made post (Err e) s x same makes is h = subst (λ t. Finds g t (Some (made x))) (sym is) (ap Some (sym (same x)) ∙ h)

pub same_faults : {X Y : Type 0} (names texts : X → Bool) (names2 texts2 : Y → Bool) (x : X) (y : Y) → names x ≡ names2 y → texts x ≡ texts2 y → first_fault names texts x ≡ first_fault names2 texts2 y
same_faults names texts names2 texts2 x y n t = λ i. checked_fault (n i) (t i) None

-- a refusal that is handed on
pub FindsAs-failed : {X Y : Type 0} (is_of : X → Y → Type 0) (r : Result Y Refusal) (e : Refusal) (o : Option X) → IsErrAnd r (λ f. f ≡ e) → Fails e o → FindsAs is_of r o
FindsAs-failed is_of (Ok y) e o same fails = absurd same
FindsAs-failed is_of (Err f) e o same fails = subst (λ g. Fails g o) (sym same) fails

pub FindsAs-weaker : {X Y Z : Type 0} (is_of : X → Y → Type 0) (r : Result Y Refusal) (e : Refusal) (part : Option Z) (o : Option X) → IsErrAnd r (λ f. f ≡ e) → (part ≡ None → o ≡ None) → Fails e part → FindsAs is_of r o
FindsAs-weaker is_of r e part o same none fails = FindsAs-failed is_of r e o same (Fails-weaker e part o none fails)

-- what follows of a step that went well
pub on_ok : (r : Result ⊤ Refusal) (A B : Type 0) → (A → B) → OnOk r A → OnOk r B
on_ok (Ok u) A B f h = f h
on_ok (Err e) A B f h = tt
