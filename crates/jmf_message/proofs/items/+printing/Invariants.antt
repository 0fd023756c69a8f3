use Rattle.std.proofs.Common.{drop}
use Rattle.json.specs.Written.{Written}
use Rattle.json_text.specs.Printed.{AreMembersPrinted}
use Rattle.jmf_message.specs.Items.{AreOrdered, members_data}
use Rattle.jmf_message.proofs.items.+printing.Given as goal

-- what is left is in order, and whatever prints it has printed all
abbrev pub invariant-print_members-loop-name : goal.invariant-print_members-loop-name
invariant-print_members-loop-name l =
    AreOrdered (members_data (drop l.name-index l.members)) × ((new : Written) → AreMembersPrinted (members_data (drop l.name-index l.members)) l.out new → AreMembersPrinted (members_data l.members) l.fn.out new)
