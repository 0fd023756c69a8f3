use Rattle.std.proofs.Common.{rules}
use Rattle.list_text.specs.TabLine.{rest_part}
use Rattle.list_text.proofs.tab_line.rest_part.Goals as goal

pub returns : goal.returns
unfolding rest_part
returns c = rw (← c.known_name-status.ensures, ← c.saturating_sub-seconds.ensures, ← c.in_ok-size.ensures) c.format.ensures.ok
