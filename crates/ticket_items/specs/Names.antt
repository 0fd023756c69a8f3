-- What an id, a name and a text are.
use Rattle.std.specs.Prelude.{ℕ, ◌&&◌, ◌||◌, ◌==◌, Bool, false, List, [], ◌∷◌, length, nat_lt}
use Rattle.std.specs.Prelude.{nat_le}
use Rattle.std.specs.List.{list_all}

-- `A` to `Z` and `a` to `z`
abbrev pub is_letter : ℕ → Bool
is_letter c = (nat_le 65 c && nat_le c 90) || (nat_le 97 c && nat_le c 122)

-- `0` to `9`
abbrev pub is_digit : ℕ → Bool
is_digit c = nat_le 48 c && nat_le c 57

-- what a name may begin with: a letter or `_`
abbrev pub is_name_start : ℕ → Bool
is_name_start c = is_letter c || c == 95

-- what may follow: a letter, a digit, `_`, `.` or `-`
abbrev pub is_name_part : ℕ → Bool
is_name_part c = is_letter c || is_digit c || c == 95 || c == 46 || c == 45

-- an id or a name: 1 to 64 characters, all of ASCII
abbrev pub is_name : List ℕ → Bool
is_name [] = false
is_name (c ∷ cs) = is_name_start c && list_all is_name_part cs && nat_lt (length cs) 64

-- a text has at most 1,024 bytes
abbrev pub is_text : List ℕ → Bool
is_text bytes = nat_le (length bytes) 1024
