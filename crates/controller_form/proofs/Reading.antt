-- What was read without a fault.
use Rattle.std.proofs.Common.{◌≡◌, Bool, true, false, [], ◌∷◌, Option, Some, None, Result, Ok, Err, OnOk, refl}
use Rattle.std.specs.Option.{option_map_or}
use Rattle.ticket_items.specs.declared.refusal.Refusal.{Refusal}
use Rattle.ticket_items.specs.declared.refusal.Refusal.TheVariants.{BadId, BadText, NotProfile}
use Rattle.ticket_rows.specs.Ticket.{first_of, unless}
use Rattle.json_items.specs.Validation.{checked_value}

-- a draft of which this is made, and which has no fault
pub record IsSoundDraft {R X : Type 0} (fault : R → Option Refusal) (made : R → X) (o : Option R) (x : X) : Type 0 where
  pub draft : R
  pub there : o ≡ Some draft
  pub sound : fault draft ≡ None
  pub same : made draft ≡ x

of_sound : {R X : Type 0} (fault : R → Option Refusal) (made : R → X) (r : R) (x : X) (f : Option Refusal) → fault r ≡ f → checked_value f (made r) ≡ Ok x → IsSoundDraft fault made (Some r) x
of_sound fault made r x None is e = record { draft = r; there = refl; sound = is; same = cc }
of_sound fault made r x (Some f) is e = cc

pub sound_draft : {R X : Type 0} (fault : R → Option Refusal) (made : R → X) (o : Option R) (x : X) → option_map_or (λ r. checked_value (fault r) (made r)) o (Err NotProfile) ≡ Ok x → IsSoundDraft fault made o x
sound_draft fault made None x e = cc
sound_draft fault made (Some r) x e = of_sound fault made r x (fault r) refl e

-- where nothing is wrong, each test passes
pub record AllPass (a b : Bool) (f : Option Refusal) : Type 0 where
  pub names : a ≡ true
  pub texts : b ≡ true
  pub none : f ≡ None

pub all_pass : (a b : Bool) (f : Option Refusal) → first_of (unless a BadId ∷ unless b BadText ∷ f ∷ []) ≡ None → AllPass a b f
all_pass true true None e = record { names = refl; texts = refl; none = refl }
all_pass true true (Some x) e = cc
all_pass true false f e = cc
all_pass false b f e = cc

-- and where each passes, nothing is wrong
pub nothing_wrong : (a b : Bool) (f : Option Refusal) → a ≡ true → b ≡ true → f ≡ None → first_of (unless a BadId ∷ unless b BadText ∷ f ∷ []) ≡ None
nothing_wrong true true None p q r = refl
nothing_wrong true true (Some e) p q r = cc
nothing_wrong true false f p q r = cc
nothing_wrong false b f p q r = cc

-- what always holds does so where there is a value
pub on_any : {A E P : Type 0} (r : Result A E) → P → OnOk r P
on_any (Ok a) p = p
on_any (Err e) p = tt
