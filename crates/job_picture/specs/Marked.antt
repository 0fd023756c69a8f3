-- Marks of resources, and a table of them under the resources' ids, all borrowed.
use Rattle.std.specs.Prelude.{ℕ, List, Option}
use Rattle.std.specs.Borrow.{Bor}
use Rattle.std.specs.BTreeMap.{BTreeMap, get_by}
use Rattle.std.specs.Cmp.Lexicographic.{slice_cmp}
use Rattle.std.specs.List.{find}
use Rattle.std.specs.Option.{option_map}
use Rattle.std.specs.Ordering.{nat_cmp}
use Rattle.std.specs.Str.{bytes_eq}
use Rattle.ticket_items.specs.declared.res_mark.ResMark.{ResMark}

-- the mark of a resource: the first of its id
abbrev pub mark_of : List ResMark → List ℕ → Option ResMark
mark_of marks x = find (λ k. bytes_eq k.id x) marks

abbrev pub Marked : Type 0
Marked = BTreeMap (Bor (List ℕ)) (Bor ResMark)

-- the mark that stands in a table under an id
abbrev pub mark_in : Marked → List ℕ → Option ResMark
mark_in table x = option_map (λ k. k.now) (get_by (λ y. slice_cmp nat_cmp x y.now) table)
