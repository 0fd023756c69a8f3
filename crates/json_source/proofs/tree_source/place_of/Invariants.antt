use Rattle.std.proofs.Common.{◌≡◌, false, take}
use Rattle.std.specs.List.{list_any}
use Rattle.std.specs.Str.{bytes_eq}
use Rattle.json_source.proofs.tree_source.place_of.Given as goal

-- it stands at none of the places that were looked at
abbrev pub invariant-loop-at : goal.invariant-loop-at
invariant-loop-at l = list_any (λ other. bytes_eq other.now l.name) (take l.at l.names) ≡ false
