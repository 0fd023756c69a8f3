use Rattle.std.proofs.Common.{◌≡◌, drop}
use Rattle.json.specs.Value.{members_view}
use Rattle.serde_json.specs.Data.{no_members}
use Rattle.json_source.specs.Tree.{entries_data, members_data}
use Rattle.json_source.proofs.tree_source.by_name.Given as goal

-- with the members behind them, those found so far are all
abbrev pub invariant-loop-name : goal.invariant-loop-name
invariant-loop-name l =
    members_data (members_view (drop l.name-index l.members)) (entries_data l.found.entries) ≡ members_data (members_view l.members) no_members
