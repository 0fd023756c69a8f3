-- Attributes: pairs of a name and a text, in the byte order of the names, each name once.
use Rattle.std.specs.Prelude.{ℕ, List, Option}
use Rattle.std.specs.Ordering.{nat_cmp}
use Rattle.std.specs.Cmp.Lexicographic.{slice_cmp}
use Rattle.std.specs.List.Sorted.{IsStrictlySortedBy}
use Rattle.std.specs.BTreeMap.{insert_entry, is_at}
use Rattle.std.specs.Map.{keys_of, lookup}

abbrev pub Pairs : Type 0
Pairs = List (List ℕ × List ℕ)

-- the names rise in byte order
abbrev pub IsInOrder : Pairs → Type 0
IsInOrder pairs = IsStrictlySortedBy (slice_cmp nat_cmp) (keys_of pairs)

-- the text of a name
abbrev pub text_at : List ℕ → Pairs → Option (List ℕ)
text_at name pairs = lookup (is_at (slice_cmp nat_cmp name)) pairs

-- the pairs with the text at the name, in place of one that is there
abbrev pub with_attr : List ℕ → List ℕ → Pairs → Pairs
with_attr name text pairs = insert_entry (slice_cmp nat_cmp) pairs name text
