-- The table of refusals.
use Rattle.std.specs.Prelude.{ℕ, List, Option, find, map, option_map}
use Rattle.std.specs.Str.{bytes_eq}
use Rattle.refusal_rows.specs.declared.rows.TheConstants.{ROWS}

-- the numbers and texts of the rows
abbrev pub spelled_rows : List (List ℕ × List ℕ)
spelled_rows = map (λ row. (row.0.now, row.1.now)) ROWS.now

-- the text of a number, where one of these rows has it
abbrev pub text_in : List (List ℕ × List ℕ) → List ℕ → Option (List ℕ)
text_in table number = option_map (λ row. row.1) (find (λ row. bytes_eq row.0 number) table)

-- the text of the refusal of a number, written in digits
abbrev pub text_of : List ℕ → Option (List ℕ)
text_of number = text_in spelled_rows number
