-- A list of numbers that is walked from the front, each changed by its place.
use Rattle.std.proofs.Common.{◌≡◌, ℕ, zero, suc, ◌+◌, ◌<◌, ◌≤◌, List, [], ◌∷◌, length, set, Option}
use Rattle.std.proofs.Common.{Some, None, Bool, true, false, ◌⊎◌, inl, inr, leb, refl, sym, ap, ◌∙◌}
use Rattle.std.proofs.Common.{arith, slice_get}
use Rattle.std.proofs.lemmas.Bool.{leb-true, leb-false}
use Rattle.std.specs.Option.{option_map}

-- the numbers in front of n are changed by f, and those behind are what they were
pub record Walked (f : ℕ → ℕ → ℕ) (old new : List ℕ) (n : ℕ) : Type 0 where
  pub done : (m : ℕ) → m < n → slice_get new m ≡ option_map (f m) (slice_get old m)
  pub rest : (m : ℕ) → n ≤ m → slice_get new m ≡ slice_get old m
  pub long : length new ≡ length old

pub get_set : (xs : List ℕ) (n m v w : ℕ) → slice_get xs n ≡ Some v
    → ((m ≡ n) × (slice_get (set xs n w) m ≡ Some w))
    ⊎ ((m < n) × (slice_get (set xs n w) m ≡ slice_get xs m))
    ⊎ ((n < m) × (slice_get (set xs n w) m ≡ slice_get xs m))
get_set [] n m v w at = cc
get_set (x ∷ xs) zero zero v w at = inl (refl, refl)
get_set (x ∷ xs) zero (suc m) v w at = inr (inr (omega arith, refl))
get_set (x ∷ xs) (suc n) zero v w at = inr (inl (omega arith, refl))
get_set (x ∷ xs) (suc n) (suc m) v w at = by (get_set xs n m v w at)
  where
    by : ((m ≡ n) × (slice_get (set xs n w) m ≡ Some w))
        ⊎ ((m < n) × (slice_get (set xs n w) m ≡ slice_get xs m))
        ⊎ ((n < m) × (slice_get (set xs n w) m ≡ slice_get xs m))
        → ((suc m ≡ suc n) × (slice_get (set xs n w) m ≡ Some w))
        ⊎ ((suc m < suc n) × (slice_get (set xs n w) m ≡ slice_get xs m))
        ⊎ ((suc n < suc m) × (slice_get (set xs n w) m ≡ slice_get xs m))
    by (inl h) = inl (ap suc h.0, h.1)
    by (inr (inl h)) = let low : m < n = h.0 in inr (inl (omega arith, h.1))
    by (inr (inr h)) = let low : n < m = h.0 in inr (inr (omega arith, h.1))

pub set-long : (xs : List ℕ) (n w : ℕ) → length (set xs n w) ≡ length xs
set-long [] n w = refl
set-long (x ∷ xs) zero w = refl
set-long (x ∷ xs) (suc n) w = omega (arith, set-long xs n w)

pub walked_start : (f : ℕ → ℕ → ℕ) (old : List ℕ) → Walked f old old 0
walked_start f old = record { done = λ m low. absurd (omega arith); rest = λ m high. refl; long = refl }

pub walked_write : (f : ℕ → ℕ → ℕ) (old new : List ℕ) (n v w : ℕ) → Walked f old new n
    → slice_get new n ≡ Some v → f n v ≡ w → Walked f old (set new n w) (n + 1)
walked_write f old new n v w h at is =
    record {
      done = λ m low. done m low (get_set new n m v w at);
      rest = λ m high. rest m high (get_set new n m v w at);
      long = set-long new n w ∙ h.long;
    }
  where
    here : slice_get old n ≡ Some v
    here = sym (h.rest n (omega arith)) ∙ at

    done : (m : ℕ) → m < n + 1
        → ((m ≡ n) × (slice_get (set new n w) m ≡ Some w))
        ⊎ ((m < n) × (slice_get (set new n w) m ≡ slice_get new m))
        ⊎ ((n < m) × (slice_get (set new n w) m ≡ slice_get new m))
        → slice_get (set new n w) m ≡ option_map (f m) (slice_get old m)
    done m low (inl e) = e.1 ∙ ap Some (sym is) ∙ sym (ap (λ i. option_map (f i) (slice_get old i)) e.0 ∙ ap (option_map (f n)) here)
    done m low (inr (inl e)) = e.1 ∙ h.done m e.0
    done m low (inr (inr e)) = let high : n < m = e.0 in absurd (omega arith)

    rest : (m : ℕ) → n + 1 ≤ m
        → ((m ≡ n) × (slice_get (set new n w) m ≡ Some w))
        ⊎ ((m < n) × (slice_get (set new n w) m ≡ slice_get new m))
        ⊎ ((n < m) × (slice_get (set new n w) m ≡ slice_get new m))
        → slice_get (set new n w) m ≡ slice_get old m
    rest m high (inl e) = let same : m ≡ n = e.0 in absurd (omega arith)
    rest m high (inr (inl e)) = let low : m < n = e.0 in absurd (omega arith)
    rest m high (inr (inr e)) = e.1 ∙ h.rest m (omega arith)

pub walked_keep : (f : ℕ → ℕ → ℕ) (old new : List ℕ) (n v : ℕ) → Walked f old new n
    → slice_get new n ≡ Some v → f n v ≡ v → Walked f old new (n + 1)
walked_keep f old new n v h at is =
    record { done = λ m low. by m (leb n m) refl low; rest = λ m high. h.rest m (omega arith); long = h.long }
  where
    here : slice_get old n ≡ Some v
    here = sym (h.rest n (omega arith)) ∙ at

    by : (m : ℕ) (b : Bool) → leb n m ≡ b → m < n + 1
        → slice_get new m ≡ option_map (f m) (slice_get old m)
    by m true e low =
        let high : n ≤ m = leb-true n m e in
        let same : m ≡ n = omega arith in
        ap (slice_get new) same ∙ at ∙ ap Some (sym is) ∙ sym (ap (λ i. option_map (f i) (slice_get old i)) same ∙ ap (option_map (f n)) here)
    by m false e low = h.done m (leb-false n m e)

pub walked_end : (f : ℕ → ℕ → ℕ) (old new : List ℕ) (n : ℕ) → Walked f old new n
    → ((m v : ℕ) → n ≤ m → slice_get old m ≡ Some v → f m v ≡ v)
    → (m : ℕ) → slice_get new m ≡ option_map (f m) (slice_get old m)
walked_end f old new n h stay m = by (leb n m) refl
  where
    same : (o : Option ℕ) → slice_get old m ≡ o → n ≤ m → o ≡ option_map (f m) o
    same None e high = refl
    same (Some v) e high = ap Some (sym (stay m v high e))

    by : (b : Bool) → leb n m ≡ b → slice_get new m ≡ option_map (f m) (slice_get old m)
    by true e = let high : n ≤ m = leb-true n m e in h.rest m high ∙ same (slice_get old m) refl high
    by false e = h.done m (leb-false n m e)
