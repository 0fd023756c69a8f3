use Rattle.std.proofs.Common.{◌≡◌, ◌-◌, drop}
use Rattle.json.specs.Value.{members_view}
use Rattle.json_source.specs.Tree.{names_rise}
use Rattle.json_source.proofs.tree_source.names_rise.Given as goal

-- those from the one before on decide
abbrev pub invariant-loop-at : goal.invariant-loop-at
invariant-loop-at l = names_rise (members_view (drop (l.at - 1) l.members)) ≡ names_rise (members_view l.members)
