-- The nodes above others, as told by how many stand below each. What stands below a node is its run.
use Rattle.std.specs.Prelude.{◌≡◌, ◌+◌, ◌<◌, ◌≤◌, ℕ, List, Some, length, slice_get}

-- each run ends where rows stand, and none behind that of one above it
pub record Nest (runs : List ℕ) : Type 0 where
  pub within : (k n : ℕ) → slice_get runs k ≡ Some n → k + n < length runs
  pub nested : (j k m n : ℕ) → j < k → k ≤ j + m → slice_get runs j ≡ Some m
      → slice_get runs k ≡ Some n → k + n ≤ j + m

-- the runs from one place up to another end in front of that one
abbrev pub EndBefore : List ℕ → ℕ → ℕ → Type 0
EndBefore runs from place =
    (i n : ℕ) → from ≤ i → i < place → slice_get runs i ≡ Some n → i + n < place

-- the node above the one at a place stands at another: it is the last in front whose run has the
-- place. Where there is none, that other is the place itself.
pub record IsAbove (runs : List ℕ) (place above : ℕ) : Type 0 where
  pub front : above ≤ place
  pub has : (n : ℕ) → slice_get runs above ≡ Some n → place ≤ above + n
  pub last : EndBefore runs (above + 1) place
  pub none : above ≡ place → EndBefore runs 0 place

-- above each place stands what these say
abbrev pub EachAbove : List ℕ → List ℕ → Type 0
EachAbove runs parents = (n m : ℕ) → slice_get parents n ≡ Some m → IsAbove runs n m

-- the same of nodes at these places, where each is told by how many came before it
pub record AreParents (runs places parents : List ℕ) : Type 0 where
  pub above : (n m k : ℕ) → slice_get parents n ≡ Some m → slice_get places n ≡ Some k
      → (j : ℕ) × (slice_get places m ≡ Some j) × IsAbove runs k j
  pub count : length parents ≡ length places
