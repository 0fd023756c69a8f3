-- Lines that are appended one after another, and elements that are counted.
use Rattle.std.proofs.Common.{◌≡◌, ℕ, ◌+◌, ◌≤◌, Bool, List, ◌++◌, drop, filter, length, map}
use Rattle.std.specs.List.{enumerate_from, flat_map}

-- what was appended so far, and what comes of the rest in its places, is what comes of all
abbrev pub IsPlaced : {X Y : Type 0} → (X → Y) → (ℕ × Y → List ℕ) → List X → ℕ → List ℕ → List ℕ → Type 0
IsPlaced view place xs k old now =
    now ++ flat_map place (enumerate_from k (map view (drop k xs))) ≡ old ++ flat_map place (enumerate_from 0 (map view xs))

-- what was appended so far, and what comes of the rest, is what comes of all
abbrev pub IsSoFar : {X A : Type 0} → (List X → List A) → List X → ℕ → List A → List A → Type 0
IsSoFar all xs k old now = now ++ all (drop k xs) ≡ old ++ all xs

-- how many were counted so far, and how many of the rest pass, are how many pass; and they are no
-- more than were looked at
abbrev pub IsCounted : {X : Type 0} → (X → Bool) → List X → ℕ → ℕ → Type 0
IsCounted is xs k count =
    (count ≤ k) × (count + length (filter is (drop k xs)) ≡ length (filter is xs))

-- the same of how they are seen
abbrev pub IsCountedIn : {X Y : Type 0} → (X → Y) → (Y → Bool) → List X → ℕ → ℕ → Type 0
IsCountedIn view is xs k count =
    (count ≤ k) × (count + length (filter is (map view (drop k xs))) ≡ length (filter is (map view xs)))
