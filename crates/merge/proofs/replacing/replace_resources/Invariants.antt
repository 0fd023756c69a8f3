use Rattle.std.proofs.Common.{◌≡◌}
use Rattle.merge.specs.Putting.{with_resources}
use Rattle.merge.proofs.replacing.replace_resources.Given as goal

-- those so far are put in
abbrev pub invariant-loop-resource : goal.invariant-loop-resource
invariant-loop-resource l = l.ticket ≡ record l.fn.ticket { rows = with_resources l.yielded l.fn.ticket.rows }
