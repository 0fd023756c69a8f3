-- The fields of a head by their names.
use Rattle.std.specs.Prelude.{ℕ, Bool, true, false, List, [], ◌∷◌, map, if◌then◌else◌, bytes_eq}
use Rattle.std.specs.Prelude.{Option, Some, None}
use Rattle.std.specs.Char.{to_ascii_lowercase}

-- a name and its value
abbrev pub NamedValue : Type 0
NamedValue = List ℕ × List ℕ

-- two names are one, in either case
abbrev pub is_same_name : List ℕ → List ℕ → Bool
is_same_name a b = bytes_eq (map to_ascii_lowercase a) (map to_ascii_lowercase b)

-- the values that stand under a name
abbrev pub values_of : List ℕ → List NamedValue → List (List ℕ)
values_of name [] = []
values_of name (f ∷ fs) =
    if is_same_name f.0 name then f.1 ∷ values_of name fs else values_of name fs

-- no value, one, or more
pub data Summary : Type 0 where
  absent : Summary
  once : List ℕ → Summary
  often : Summary

-- how many values there are, and the one that stands alone
abbrev pub summary : List (List ℕ) → Summary
summary [] = absent
summary (v ∷ []) = once v
summary (v ∷ w ∷ vs) = often

-- whether there is one, and whether there is none
abbrev pub is_once : Summary → Bool
is_once absent = false
is_once (once v) = true
is_once often = false

abbrev pub is_absent : Summary → Bool
is_absent absent = true
is_absent (once v) = false
is_absent often = false

-- the value that stands alone, if one does
abbrev pub lone_value : Summary → Option (List ℕ)
lone_value absent = None
lone_value (once v) = Some v
lone_value often = None

-- the values and one more
abbrev pub more : Summary → List ℕ → Summary
more absent v = once v
more (once w) v = often
more often v = often

-- the values under a name, and those of one more field
abbrev pub with_value : Summary → List ℕ → NamedValue → Summary
with_value s name f = if is_same_name f.0 name then more s f.1 else s
