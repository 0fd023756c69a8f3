use Rattle.std.proofs.Common.{◌≡◌, drop}
use Rattle.jmf_message.specs.Items.{members_data}
use Rattle.jmf_message.specs.Family.{says_all}
use Rattle.jmf_message.proofs.items.+saying.Given as goal

-- what is left decides
abbrev pub invariant-says_all-loop-name : goal.invariant-says_all-loop-name
invariant-says_all-loop-name g l =
    says_all (members_data (drop l.name-index l.members)) (g.S.Source.content l.value) ≡ says_all (members_data l.members) (g.S.Source.content l.value)
