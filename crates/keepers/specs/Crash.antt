-- What a crash may leave, now and at the moments since one.
use Rattle.std.specs.Prelude.{◌≡◌, ◌⊎◌, ℕ, ◌≤◌, List, Option}

-- each of the first is one of the second
abbrev pub IsWithin : {A : Type 0} → (A → Type 0) → (A → Type 0) → Type 0
IsWithin {A} new old = (c : A) → new c → old c

-- this alone is one of them
abbrev pub Only : {A : Type 0} → A → (A → Type 0) → Type 0
Only {A} a outcomes = (c : A) → outcomes c → c ≡ a

-- time goes on: what a crash since a moment might have left is what it might have left before, or
-- what it may leave now
pub record Elapses (before now : ℕ) (past since : ℕ → Option (List ℕ) → Type 0)
    (may_leave : Option (List ℕ) → Type 0) : Type 0 where
  pub later : before ≤ now
  pub nothing_else : (t : ℕ) (c : Option (List ℕ)) → t ≤ before → since t c → past t c ⊎ may_leave c
  pub keeps : (t : ℕ) (c : Option (List ℕ)) → t ≤ before → past t c → since t c

-- a crash at any moment since the old one leaves what has P
pub record LeavesOnly {D : Type 0} (moment : D → ℕ) (left_since : D → ℕ → Option (List ℕ) → Type 0)
    (old new : D) (P : Option (List ℕ) → Type 0) : Type 0 where
  pub later : moment old ≤ moment new
  pub each : (c : Option (List ℕ)) → left_since new (moment old) c → P c
  -- and so for a run that began earlier
  pub before : (t : ℕ) (c : Option (List ℕ)) → t ≤ moment old → left_since new t c
      → left_since old t c ⊎ P c
