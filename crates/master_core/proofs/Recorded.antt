-- Records of spawns, by their places and by their numbers.
use Rattle.std.proofs.Common.{◌≡◌, ◌∙◌, ◌⊎◌, ℕ, zero, suc, ◌==◌, ◌<◌, Bool, true, false, cond, List, [], ◌∷◌, ◌++◌, length, map, Option, Some, None, slice_get, slice_set, inl, inr, refl, sym, ap, arith, eq-eqb}
use Rattle.std.proofs.lemmas.Bool.{true≢false, eqb-true}
use Rattle.std.proofs.lemmas.Option.{slice_get_within}
use Rattle.std.proofs.lemmas.List.Folds.{find-append}
use Rattle.std.specs.Option.{option_map, option_map_or, option_or}
use Rattle.ticket_rows.proofs.AtHome.{find-passes}
use Rattle.spawn.proofs.Lawful.{placed}
use Rattle.spawn.specs.declared.records.phase.Phase.{Phase}
use Rattle.spawn.specs.declared.records.spawn_rec.SpawnRec.{SpawnRec}
use Rattle.master_core.specs.Master.{IsNumbered, in_phase, is_of, next_number, record_of, with_phase}

same_some : (x y : SpawnRec) → Some x ≡ Some y → x ≡ y
same_some x y e = ap (λ o. option_map_or (λ z. z) o x) e

-- ---- one record more

-- a record stands among the first, or is the last
pub last_or : (xs : List SpawnRec) (y : SpawnRec) (k : ℕ) (r : SpawnRec)
    → slice_get (xs ++ y ∷ []) k ≡ Some r → (slice_get xs k ≡ Some r) ⊎ ((k ≡ length xs) × (r ≡ y))
last_or [] y zero r e = inr (refl, same_some r y (sym e))
last_or [] y (suc k) r e = cc
last_or (x ∷ xs) y zero r e = inl e
last_or (x ∷ xs) y (suc k) r e =
    elim (last_or xs y k r e) [
      | inl here ↦ inl here
      | inr last ↦ inr (ap suc last.0, last.1)
    ]

-- the next is numbered as the others are
pub numbered_more : (xs : List SpawnRec) (y : SpawnRec) → IsNumbered xs → y.id ≡ next_number xs → IsNumbered (xs ++ y ∷ [])
numbered_more xs y numbered next k r at =
    elim (last_or xs y k r at) [
      | inl old ↦ numbered k r old
      | inr last ↦ ap (λ (s : SpawnRec). s.id) last.1 ∙ next ∙ ap suc (sym last.0)
    ]

-- ---- one record in a phase

-- a record, in this phase if it is of this number
abbrev pub phase_if : Phase → ℕ → SpawnRec → SpawnRec
phase_if ph s r = cond (is_of s r) (in_phase ph r) r

-- a record of that number is in it
pub phase_own : (ph : Phase) (t : ℕ) (r : SpawnRec) → r.id ≡ t → phase_if ph t r ≡ in_phase ph r
phase_own ph t r e = ap (λ b. cond b (in_phase ph r) r) (eq-eqb r.id t e)

-- what is the same of a record in the phase is the same
kept : {X : Type 0} (b : Bool) (ph : Phase) (f : SpawnRec → X) (r : SpawnRec) → f (in_phase ph r) ≡ f r → f (cond b (in_phase ph r) r) ≡ f r
kept true ph f r same = same
kept false ph f r same = refl

phase_id : (ph : Phase) (s : ℕ) (r : SpawnRec) → (phase_if ph s r).id ≡ r.id
phase_id ph s r = kept (is_of s r) ph (λ q. q.id) r refl

pub phase_worker : (ph : Phase) (s : ℕ) (r : SpawnRec) → (phase_if ph s r).worker ≡ r.worker
phase_worker ph s r = kept (is_of s r) ph (λ q. q.worker) r refl

mapped_there : (f : SpawnRec → SpawnRec) (xs : List SpawnRec) (k : ℕ) (r : SpawnRec) → slice_get (map f xs) k ≡ Some r → (q : SpawnRec) × (slice_get xs k ≡ Some q) × (r ≡ f q)
mapped_there f [] k r at = cc
mapped_there f (x ∷ xs) zero r at = (x, refl, same_some r (f x) (sym at))
mapped_there f (x ∷ xs) (suc k) r at = mapped_there f xs k r at

pub phase_numbered : (ph : Phase) (s : ℕ) (xs : List SpawnRec) → IsNumbered xs → IsNumbered (with_phase ph s xs)
phase_numbered ph s xs numbered k r at =
    let old = mapped_there (phase_if ph s) xs k r at in
    ap (λ (q : SpawnRec). q.id) old.2 ∙ phase_id ph s old.0 ∙ numbered k old.0 old.1

not_own : (b : Bool) (ph : Phase) (s : ℕ) (r : SpawnRec) → is_of s r ≡ b → (r.id ≡ s → ⊥) → cond b (in_phase ph r) r ≡ r
not_own true ph s r e out = absurd (out (eqb-true r.id s e))
not_own false ph s r e out = refl

-- where none has the number nothing is changed
none_own : (ph : Phase) (s : ℕ) (xs : List SpawnRec) → ((j : ℕ) (q : SpawnRec) → slice_get xs j ≡ Some q → q.id ≡ s → ⊥) → with_phase ph s xs ≡ xs
none_own ph s [] none = refl
none_own ph s (x ∷ xs) none = ap (λ q. q ∷ with_phase ph s xs) (not_own (is_of s x) ph s x refl (none 0 x refl)) ∙ ap (λ ys. x ∷ ys) (none_own ph s xs (λ j q at. none (suc j) q at))

-- to change the record that has a number alone is to change it at its place
phase_alone : (ph : Phase) (s : ℕ) (xs : List SpawnRec) (k : ℕ) (r : SpawnRec) → slice_get xs k ≡ Some r → r.id ≡ s → ((j : ℕ) (q : SpawnRec) → slice_get xs j ≡ Some q → q.id ≡ s → j ≡ k)
    → with_phase ph s xs ≡ slice_set xs k (in_phase ph r)
phase_alone ph s [] k r at is alone = cc
phase_alone ph s (x ∷ xs) zero r at is alone =
    let same : x ≡ r = same_some x r at in
    ap (λ q. phase_if ph s q ∷ with_phase ph s xs) same ∙ ap (λ q. q ∷ with_phase ph s xs) (phase_own ph s r is) ∙ ap (λ ys. in_phase ph r ∷ ys) (none_own ph s xs (λ j q there e. absurd (omega (arith, alone (suc j) q there e))))
phase_alone ph s (x ∷ xs) (suc k) r at is alone =
    ap (λ q. q ∷ with_phase ph s xs) (not_own (is_of s x) ph s x refl (λ e. omega (arith, alone 0 x refl e))) ∙ ap (λ ys. x ∷ ys) (phase_alone ph s xs k r at is (λ j q there e. omega (arith, alone (suc j) q there e)))

pub phase_at_place : (ph : Phase) (xs : List SpawnRec) (k : ℕ) (r : SpawnRec) → IsNumbered xs → slice_get xs k ≡ Some r → with_phase ph r.id xs ≡ slice_set xs k (in_phase ph r)
phase_at_place ph xs k r numbered at = phase_alone ph r.id xs k r at refl (λ j q there e. omega (arith, numbered k r at, numbered j q there, e))

-- ---- the record of a number

pub number_is : (xs : List SpawnRec) (s : ℕ) (r : SpawnRec) → record_of xs s ≡ Some r → r.id ≡ s
number_is xs s r found = eqb-true r.id s (find-passes (is_of s) xs r found)

-- one record more leaves those that are there
pub found_still : (xs : List SpawnRec) (y : SpawnRec) (s : ℕ) (r : SpawnRec) → record_of xs s ≡ Some r → record_of (xs ++ y ∷ []) s ≡ Some r
found_still xs y s r found = find-append (is_of s) xs (y ∷ []) ∙ ap (λ o. option_or o (record_of (y ∷ []) s)) found

no_next : (xs : List SpawnRec) (o : Option SpawnRec) → IsNumbered xs → record_of xs (next_number xs) ≡ o → o ≡ None
no_next xs None numbered e = refl
no_next xs (Some q) numbered e =
    let place = placed (is_of (next_number xs)) xs q e in
    let within : place.place < length xs = slice_get_within xs place.place q place.there in
    absurd (omega (arith, numbered place.place q place.there, number_is xs (next_number xs) q e))

-- and is found by its own number
pub found_last : (xs : List SpawnRec) (y : SpawnRec) → IsNumbered xs → y.id ≡ next_number xs → record_of (xs ++ y ∷ []) (next_number xs) ≡ Some y
found_last xs y numbered next =
    let s = next_number xs in
    find-append (is_of s) xs (y ∷ []) ∙ ap (λ o. option_or o (record_of (y ∷ []) s)) (no_next xs (record_of xs s) numbered refl) ∙ ap (λ b. cond b (Some y) None) (eq-eqb y.id s next)

-- the place of a record among the first
pub get_front : (xs ys : List SpawnRec) (k : ℕ) (r : SpawnRec) → slice_get xs k ≡ Some r → slice_get (xs ++ ys) k ≡ Some r
get_front [] ys k r at = cc
get_front (x ∷ xs) ys zero r at = at
get_front (x ∷ xs) ys (suc k) r at = get_front xs ys k r at

pub get_last : (xs : List SpawnRec) (y : SpawnRec) → slice_get (xs ++ y ∷ []) (length xs) ≡ Some y
get_last [] y = refl
get_last (x ∷ xs) y = get_last xs y

-- each record is found after a change of phase, in the phase if it is of that number
pub found_phase : (ph : Phase) (t : ℕ) (xs : List SpawnRec) (s : ℕ) → record_of (with_phase ph t xs) s ≡ option_map (phase_if ph t) (record_of xs s)
found_phase ph t [] s = refl
found_phase ph t (x ∷ xs) s =
    ap (λ i. cond (i == s) (Some (phase_if ph t x)) (record_of (with_phase ph t xs) s)) (phase_id ph t x) ∙ by (is_of s x) (record_of (with_phase ph t xs) s) (record_of xs s) (found_phase ph t xs s)
  where
    by : (b : Bool) (o later : Option SpawnRec) → o ≡ option_map (phase_if ph t) later → cond b (Some (phase_if ph t x)) o ≡ option_map (phase_if ph t) (cond b (Some x) later)
    by true o later e = refl
    by false o later e = e

-- a record is in the phase if it is of that number, and else as it was
pub phase_or : (ph : Phase) (t : ℕ) (r : SpawnRec) → ((r.id ≡ t) × (phase_if ph t r ≡ in_phase ph r)) ⊎ ((r.id ≡ t → ⊥) × (phase_if ph t r ≡ r))
phase_or ph t r = by (is_of t r) refl
  where
    by : (b : Bool) → is_of t r ≡ b → ((r.id ≡ t) × (phase_if ph t r ≡ in_phase ph r)) ⊎ ((r.id ≡ t → ⊥) × (phase_if ph t r ≡ r))
    by true e = inl (eqb-true r.id t e, phase_own ph t r (eqb-true r.id t e))
    by false e = inr (λ same. true≢false (sym (eq-eqb r.id t same) ∙ e), ap (λ b. cond b (in_phase ph r) r) e)
