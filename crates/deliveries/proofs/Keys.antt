-- Spawns and things as they are found by their numbers.
use Rattle.std.proofs.Common.{◌≡◌, ⊎_elim, ℕ, ◌==◌, true, List, [], ◌∷◌, ◌++◌, Option, Some, None, IsSome, is_some, slice_get, get_or, length, position, refl, sym, ap, ap₂, ◌∙◌, subst, if◌then◌else◌}
use Rattle.std.proofs.lemmas.Bool.{and_from, and_parts, cases_eq, eqb-true, eq-eqb, ne_eqb}
use Rattle.std.proofs.lemmas.List.Quantifiers.{position-Some}
use Rattle.std.proofs.lemmas.Option.{slice_get-get_or}
use Rattle.std.specs.Option.{option_and_then}
use Rattle.deliveries.specs.Outbox.{Outbox, progress_after, progress_in}
use Rattle.deliveries.specs.Routes.{Routes, is_thing, thing_at}
use Rattle.deliveries.specs.declared.progress.Progress.{Progress}
use Rattle.deliveries.specs.declared.thing.Thing.{Thing}

-- ---- spawns

then-some : (o : Option Progress) (to : Progress) → IsSome o → Some to ≡ option_and_then (λ _. Some to) o
then-some (Some p) to some = refl
then-some None to some = absurd (cc)

pub progress_after-some : (box : Outbox) (one spawn : ℕ) (to : Progress) (new : Option Progress) → IsSome (progress_in box one) → new ≡ (if one == spawn then Some to else progress_in box spawn) → new ≡ progress_after box one (Some to) spawn
progress_after-some box one spawn to new some now =
    ⊎_elim
    (λ here.
    let test = eq-eqb one spawn here in
    let there = subst (λ s. IsSome (progress_in box s)) here some in
    now ∙ ap (λ b. if b then Some to else progress_in box spawn) test
    ∙ then-some (progress_in box spawn) to there
    ∙ sym (ap (λ b. if b then option_and_then (λ _. Some to) (progress_in box spawn) else progress_in box spawn) test))
    (λ other.
    let test = ne_eqb one spawn other in
    now ∙ ap (λ b. if b then Some to else progress_in box spawn) test
    ∙ sym (ap (λ b. if b then option_and_then (λ _. Some to) (progress_in box spawn) else progress_in box spawn) test))
    (cases_eq one spawn)

-- ---- things

pub same-thing : (a b : Thing) → is_thing a b ≡ true → a ≡ b
same-thing a b same =
    let parts = and_parts (a.controller == b.controller) (a.spawn == b.spawn) same in
    ap₂ (λ c s. record { controller = c; spawn = s }) (eqb-true _ _ parts.0) (eqb-true _ _ parts.1)

pub is_thing-refl : (a : Thing) → is_thing a a ≡ true
is_thing-refl a = and_from (a.controller == a.controller) (a.spawn == a.spawn) (eq-eqb a.controller _ refl) (eq-eqb a.spawn _ refl)

pub there-position : (keys : List Thing) (thing : Thing) (item : ℕ) → position (is_thing thing) keys ≡ Some item → slice_get keys item ≡ Some thing
there-position keys thing item found =
    let first = position-Some (is_thing thing) keys item thing found in
    slice_get-get_or keys item thing first.0 ∙ ap Some (sym (same-thing thing (get_or keys item thing) first.1))

pub thing_at-last : (routes : Routes) (thing : Thing) (line : ℕ) → thing_at (routes ++ (thing, line) ∷ []) (length routes) ≡ Some thing
thing_at-last [] thing line = refl
thing_at-last (r ∷ routes) thing line = thing_at-last routes thing line

pub none-if : {X Y : Type 0} (o : Option X) (p : Option Y) → is_some o ≡ is_some p → ((x : X) → o ≡ Some x → ⊥) → p ≡ None
none-if None None same none = refl
none-if None (Some y) same none = absurd (cc)
none-if (Some x) p same none = absurd (none x refl)

pub none-of : {X : Type 0} (o : Option X) → ((x : X) → o ≡ Some x → ⊥) → o ≡ None
none-of None none = refl
none-of (Some x) none = absurd (none x refl)
