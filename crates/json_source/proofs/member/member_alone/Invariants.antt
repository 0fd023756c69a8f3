use Rattle.std.proofs.Common.{◌≡◌, vec_len}
use Rattle.serde_json.specs.Find.{get}
use Rattle.json_source.specs.Tree.{tree_data}
use Rattle.json_source.proofs.LastMember.{among}
use Rattle.json_source.proofs.member.member_alone.Given as goal

-- what stands there is among the members that are left
abbrev pub invariant-loop-own : goal.invariant-loop-own
invariant-loop-own l = among l.name l.members.items ≡ get l.fn.name (tree_data l.fn.tree)

abbrev pub decreases-loop-own : goal.decreases-loop-own
decreases-loop-own l = vec_len l.members
