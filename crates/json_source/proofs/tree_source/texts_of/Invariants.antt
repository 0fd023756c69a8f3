use Rattle.std.proofs.Common.{◌≡◌}
use Rattle.json_source.specs.Read.{text_pairs}
use Rattle.json_source.specs.Tree.{entries_data}
use Rattle.json_source.proofs.Pairs.{texts_from}
use Rattle.json_source.proofs.tree_source.texts_of.Given as goal

-- the pairs so far, and those of what is left
abbrev pub invariant-loop-name : goal.invariant-loop-name
invariant-loop-name l = texts_from l.pairs.items (entries_data l.name-iterator) ≡ text_pairs (entries_data l.members.entries)
