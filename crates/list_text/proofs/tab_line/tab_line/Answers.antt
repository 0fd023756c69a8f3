use Rattle.std.proofs.Common.{append_assoc, rules}
use Rattle.list_text.specs.TabLine.{tab_line}
use Rattle.list_text.proofs.tab_line.tab_line.Goals as goal

pub returns : goal.returns
unfolding tab_line
returns c = simp append_assoc (search rules)
