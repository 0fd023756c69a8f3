use Rattle.std.proofs.Common.{rules}
use Rattle.list_text.specs.TabLine.{work_part}
use Rattle.list_text.proofs.tab_line.work_part.Goals as goal

pub returns : goal.returns
unfolding work_part
returns c = rw (← c.known_name-job.ensures, ← c.number-number.ensures.value, ← c.word-phase.ensures, ← c.as_str-other.ensures.value, ← c.known_id-node.ensures, ← c.in_ok-name.ensures) c.format.ensures.ok
