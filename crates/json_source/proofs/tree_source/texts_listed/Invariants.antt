use Rattle.std.proofs.Common.{◌≡◌, drop}
use Rattle.json.specs.Value.{members_view}
use Rattle.json_source.specs.Read.{text_pairs}
use Rattle.json_source.specs.Tree.{listed_data}
use Rattle.json_source.proofs.Pairs.{texts_from}
use Rattle.json_source.proofs.tree_source.texts_listed.Given as goal

-- the pairs so far, and those of what is left
abbrev pub invariant-loop-name : goal.invariant-loop-name
invariant-loop-name l = texts_from l.pairs.items (listed_data (members_view (drop l.name-index l.members))) ≡ text_pairs (listed_data (members_view l.members))
