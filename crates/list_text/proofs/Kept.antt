-- Lines of what passes a test, one after another.
use Rattle.std.proofs.Common.{◌≡◌, ◌<◌, ◌+◌, ◌++◌, ◌∷◌, ℕ, Bool, List, true, false, arith, drop, filter, get_or, length}
use Rattle.std.specs.List.{flat_map}
use Rattle.std.proofs.lemmas.Grind.{common_steps}

-- an element that passes has its line
pub passed : {X : Type 0} (f : X → List ℕ) (p : X → Bool) (xs : List X) (k : ℕ) (x : X) (now all : List ℕ) → k < length xs → x ≡ get_or xs k x → p x ≡ true → now ++ flat_map f (filter p (drop k xs)) ≡ all → (now ++ f x) ++ flat_map f (filter p (drop (k + 1) xs)) ≡ all
passed f p xs k x now all within is passes so = grind (arith, common_steps)

-- another has none
pub left_out : {X : Type 0} (f : X → List ℕ) (p : X → Bool) (xs : List X) (k : ℕ) (x : X) (now all : List ℕ) → k < length xs → x ≡ get_or xs k x → p x ≡ false → now ++ flat_map f (filter p (drop k xs)) ≡ all → now ++ flat_map f (filter p (drop (k + 1) xs)) ≡ all
left_out f p xs k x now all within is passes so = grind (arith, common_steps)
