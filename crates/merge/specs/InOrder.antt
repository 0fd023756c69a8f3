-- What is met in ticket order: going over the ticket's resources once, each takes what stands in
-- front of a list, if that is its own.
use Rattle.std.specs.Prelude.{Bool, true, false, List, [], ◌∷◌, unwrap_or}
use Rattle.spawn.specs.OfResource.{behind}

-- the list without its first, if that passes a test with x
abbrev pub without_first : {X Y : Type 0} → (X → Y → Bool) → X → List Y → List Y
without_first test x ys = unwrap_or (behind (test x) ys) ys

-- what is left of the second list behind the first, each of which takes what passes a test with it
-- from the front
abbrev pub rest_behind : {X Y : Type 0} → (X → Y → Bool) → List X → List Y → List Y
rest_behind test [] ys = ys
rest_behind test (x ∷ xs) ys = rest_behind test xs (without_first test x ys)

-- whether nothing is left of the second list
abbrev pub are_met : {X Y : Type 0} → (X → Y → Bool) → List X → List Y → Bool
are_met test [] [] = true
are_met test [] (y ∷ ys) = false
are_met test (x ∷ xs) ys = are_met test xs (without_first test x ys)
