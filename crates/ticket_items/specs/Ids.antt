-- Lists of ids.
use Rattle.std.specs.Prelude.{ℕ, ◌&&◌, Bool, true, not, List, [], ◌∷◌}
use Rattle.std.specs.List.{list_any}
use Rattle.std.specs.Str.{bytes_eq}

-- whether the id stands in the list
abbrev pub mem : List ℕ → List (List ℕ) → Bool
mem x ids = list_any (λ y. bytes_eq y x) ids

-- whether no id stands twice
abbrev pub are_distinct : List (List ℕ) → Bool
are_distinct [] = true
are_distinct (x ∷ ids) = not (mem x ids) && are_distinct ids
