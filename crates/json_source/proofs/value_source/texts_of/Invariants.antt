use Rattle.std.proofs.Common.{◌≡◌}
use Rattle.serde_json.specs.View.{members_view}
use Rattle.json_source.specs.Read.{text_pairs}
use Rattle.json_source.proofs.Pairs.{texts_from}
use Rattle.json_source.proofs.value_source.texts_of.Given as goal

-- the pairs so far, and those of what is left
abbrev pub invariant-loop-name : goal.invariant-loop-name
invariant-loop-name l = texts_from l.pairs.items (members_view l.name-iterator) ≡ text_pairs (members_view l.members.entries)
