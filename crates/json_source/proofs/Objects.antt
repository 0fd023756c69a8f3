-- Objects of a tree, by their members.
use Rattle.std.proofs.Common.{◌≡◌, ℕ, List, Bor, Vec, Global, rules}
use Rattle.json.specs.Json as json
use Rattle.json.specs.Value.{members_view, value_view}
use Rattle.json.specs.declared.value.Value.{Value as Tree, Object, the_lemmas}

abbrev pub Member : Type 0
Member = Bor (List ℕ) × Tree Global

-- an object by its members
pub tree-Object : (ms : Vec Member Global) → value_view (Object ms) ≡ json.object (members_view ms.items)
tree-Object ms = search (rules, the_lemmas)
