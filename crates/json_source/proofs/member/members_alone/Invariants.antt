use Rattle.std.proofs.Common.{◌≡◌, false, vec_len}
use Rattle.std.specs.Str.{bytes_eq}
use Rattle.serde_json.specs.Find.{get}
use Rattle.json_source.specs.Tree.{tree_data}
use Rattle.json_source.proofs.LastMember.{among, found_or}
use Rattle.json_source.proofs.member.members_alone.Given as goal

-- what was found under a name, or else stands there among the members that are left, is what the
-- object has under it
abbrev pub invariant-loop-name : goal.invariant-loop-name
invariant-loop-name l =
    (found_or l.one (among l.first l.members.items) ≡ get l.fn.first (tree_data l.fn.tree))
    × (bytes_eq l.first l.second ≡ false
    → found_or l.other (among l.second l.members.items) ≡ get l.fn.second (tree_data l.fn.tree))

abbrev pub decreases-loop-name : goal.decreases-loop-name
decreases-loop-name l = vec_len l.members
