use Rattle.std.proofs.Common.{◌≡◌}
use Rattle.merge.specs.Putting.{with_nodes}
use Rattle.merge.proofs.replacing.replace_nodes.Given as goal

-- those so far are put in
abbrev pub invariant-loop-row : goal.invariant-loop-row
invariant-loop-row l = l.ticket ≡ record l.fn.ticket { rows = with_nodes l.yielded l.fn.ticket.rows }
