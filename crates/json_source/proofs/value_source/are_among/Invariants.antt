use Rattle.std.proofs.Common.{◌≡◌, map}
use Rattle.serde_json.specs.View.{members_view}
use Rattle.json_source.specs.Read.{are_among}
use Rattle.json_source.proofs.value_source.are_among.Given as goal

-- what is left decides
abbrev pub invariant-loop-name : goal.invariant-loop-name
invariant-loop-name l =
    are_among (map (λ n. n.now) l.names) (members_view l.name-iterator) ≡ are_among (map (λ n. n.now) l.names) (members_view l.members.entries)
