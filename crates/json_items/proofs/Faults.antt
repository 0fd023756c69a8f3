-- What is wrong with something of which only names and texts may be wrong.
use Rattle.std.proofs.Common.{◌≡◌, ◌∙◌, Bool, true, false, [], ◌∷◌, Option, Some, None, Result, Ok, Err, ap, sym, subst, refl}
use Rattle.std.specs.Bool.{⊤}
use Rattle.std.specs.Option.{option_map}
use Rattle.ticket_items.specs.FirstFault.{first_of, unless}
use Rattle.ticket_items.specs.declared.refusal.Refusal.{Refusal}
use Rattle.ticket_items.specs.declared.refusal.Refusal.TheVariants.{BadId, BadText}
use Rattle.json_items.specs.Validation.{Finds, both_read, checked_fault, first_fault}
use Rattle.json_source.specs.Read.{◌>>=◌}

pub bad_names : {X : Type 0} (names texts : X → Bool) (o : Option X) (x : X) → o ≡ Some x → names x ≡ false → option_map (first_fault names texts) o ≡ Some (Some BadId)
bad_names names texts o x is wrong = ap (option_map (first_fault names texts)) is ∙ ap (λ b. Some (first_of (unless b BadId ∷ unless (texts x) BadText ∷ None ∷ []))) wrong

pub bad_texts : {X : Type 0} (names texts : X → Bool) (o : Option X) (x : X) → o ≡ Some x → names x ≡ true → texts x ≡ false → option_map (first_fault names texts) o ≡ Some (Some BadText)
bad_texts names texts o x is right wrong =
    ap (option_map (first_fault names texts)) is
    ∙ ap (λ b. Some (first_of (unless b BadId ∷ unless (texts x) BadText ∷ None ∷ []))) right
    ∙ ap (λ b. Some (first_of (unless b BadText ∷ None ∷ []))) wrong

pub no_fault : {X : Type 0} (names texts : X → Bool) (x : X) → names x ≡ true → texts x ≡ true → first_fault names texts x ≡ None
no_fault names texts x right also =
    ap (λ b. first_of (unless b BadId ∷ unless (texts x) BadText ∷ None ∷ [])) right
    ∙ ap (λ b. first_of (unless b BadText ∷ None ∷ [])) also

-- a fault of names or texts stays the first, whatever comes behind
pub early : (named written : Bool) (late : Option Refusal) (e : Refusal) → checked_fault named written None ≡ Some e → checked_fault named written late ≡ Some e
early false written late e h = h
early true false late e h = h
early true true late e h = cc

-- and where there is none, what comes behind is the first
pub at_last : (named written : Bool) (late : Option Refusal) → checked_fault named written None ≡ None → checked_fault named written late ≡ late
at_last true true None h = refl
at_last true true (Some e) h = refl
at_last true false late h = cc
at_last false written late h = cc

-- what is found of one thing is found of what is made of it
pub made_ok : {X Y : Type 0} (fault : X → Option Refusal) (made_fault : Y → Option Refusal) (make : X → Y) (o : Option X) (p : Option Y) (found : Result X Refusal) (x : X) (y : Y)
    → p ≡ option_map make o → ((x : X) → made_fault (make x) ≡ fault x) → found ≡ Ok x → Finds fault found o → y ≡ make x → Finds made_fault (Ok y) p
made_ok fault made_fault make o p found x y parts same is finds made =
    let both = subst (λ f. Finds fault f o) is finds in
    (parts ∙ ap (option_map make) both.0 ∙ ap Some (sym made), ap made_fault made ∙ same x ∙ both.1)

mapped_faults : {X Y : Type 0} (fault : X → Option Refusal) (made_fault : Y → Option Refusal) (make : X → Y) (o : Option X) → ((x : X) → made_fault (make x) ≡ fault x) → option_map made_fault (option_map make o) ≡ option_map fault o
mapped_faults fault made_fault make None same = refl
mapped_faults fault made_fault make (Some x) same = ap Some (same x)

pub made_err : {X Y : Type 0} (fault : X → Option Refusal) (made_fault : Y → Option Refusal) (make : X → Y) (o : Option X) (p : Option Y) (found : Result X Refusal) (e : Refusal)
    → p ≡ option_map make o → ((x : X) → made_fault (make x) ≡ fault x) → found ≡ Err e → Finds fault found o → Finds made_fault (Err e) p
made_err fault made_fault make o p found e parts same is finds =
    ap (option_map made_fault) parts ∙ mapped_faults fault made_fault make o same ∙ subst (λ f. Finds fault f o) is finds

-- two in turn, behind a test that passes, are what the two are together
pub two_together : {A B Y : Type 0} (make : A → B → Y) (t : Option ⊤) (a : Option A) (b : Option B) → t ≡ Some tt
    → (t >>= λ _. a >>= λ v. b >>= λ w. Some (make v w)) ≡ option_map (λ p. make p.0 p.1) (both_read a b)
two_together make None a b passed = cc
two_together make (Some u) None b passed = refl
two_together make (Some u) (Some v) None passed = refl
two_together make (Some u) (Some v) (Some w) passed = refl

-- five in turn are what the five are together
pub five_together : {A B C D E Y : Type 0} (make : A → B → C → D → E → Y) (a : Option A) (b : Option B) (c : Option C) (d : Option D) (e : Option E)
    → (a >>= λ v. b >>= λ w. c >>= λ x. d >>= λ y. e >>= λ z. Some (make v w x y z)) ≡ option_map (λ p. make p.0.0.0.0 p.0.0.0.1 p.0.0.1 p.0.1 p.1) (both_read (both_read (both_read (both_read a b) c) d) e)
five_together make None b c d e = refl
five_together make (Some v) None c d e = refl
five_together make (Some v) (Some w) None d e = refl
five_together make (Some v) (Some w) (Some x) None e = refl
five_together make (Some v) (Some w) (Some x) (Some y) None = refl
five_together make (Some v) (Some w) (Some x) (Some y) (Some z) = refl
