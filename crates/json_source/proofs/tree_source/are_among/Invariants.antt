use Rattle.std.proofs.Common.{◌≡◌, map, drop}
use Rattle.json.specs.Value.{members_view}
use Rattle.json_source.specs.Tree.{names_among}
use Rattle.json_source.proofs.tree_source.are_among.Given as goal

-- what is left decides
abbrev pub invariant-loop-name : goal.invariant-loop-name
invariant-loop-name l =
    names_among (map (λ n. n.now) l.names) (members_view (drop l.name-index l.members)) ≡ names_among (map (λ n. n.now) l.names) (members_view l.members)
