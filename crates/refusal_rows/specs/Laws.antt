-- What holds of the table of refusals.
use Rattle.std.specs.Prelude.{◌≡◌, ◌++◌, ◌∷◌, ℕ, List, [], IsSomeAnd, codes, decimal, length, take}
use Rattle.streams.specs.Refused.{name_of, number_of}
use Rattle.streams.specs.declared.refused.Refused.{Refused}
use Rattle.refusal_rows.specs.Rows.{text_of}

-- the first line of a refusal's text: its number and its name
abbrev pub first_line : Refused → List ℕ
first_line refused = decimal (number_of refused) ++ codes " " ++ name_of refused ++ 10 ∷ []

-- each refusal has a text under its number, and that begins with its first line
abbrev pub EachHasItsRow : Type 0
EachHasItsRow = (refused : Refused)
    → IsSomeAnd (text_of (decimal (number_of refused)))
    (λ text. take (length (first_line refused)) text ≡ first_line refused)
