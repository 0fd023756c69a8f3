-- Lists of numbers.
use Rattle.std.specs.Prelude.{ℕ, ◌==◌, ◌&&◌, Bool, true, not, List, [], ◌∷◌}
use Rattle.std.specs.List.{list_any}

-- whether the number stands in the list
abbrev pub has_number : ℕ → List ℕ → Bool
has_number n numbers = list_any (λ m. m == n) numbers

-- whether no number stands twice
abbrev pub are_distinct_numbers : List ℕ → Bool
are_distinct_numbers [] = true
are_distinct_numbers (n ∷ numbers) = not (has_number n numbers) && are_distinct_numbers numbers
