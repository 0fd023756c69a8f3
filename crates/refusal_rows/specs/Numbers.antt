-- The number of a refusal beside its name.
use Rattle.std.specs.Prelude.{ℕ, List, ◌++◌, codes, decimal}

-- a number and a name, with a space between
abbrev pub named_number : ℕ → List ℕ → List ℕ
named_number number name = decimal number ++ codes " " ++ name
