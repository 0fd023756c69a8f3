use Rattle.std.proofs.Common.{◌∙◌, ◌-◌, arith, sym}
use Rattle.json_source.proofs.Rising.{rise_end}
use Rattle.json_source.proofs.tree_source.names_rise.Goals as goal

pub returns : goal.returns
returns c = sym (rise_end c.args.members.now (c.loop-at.at - 1) (omega arith)) ∙ c.loop-at.invariant
