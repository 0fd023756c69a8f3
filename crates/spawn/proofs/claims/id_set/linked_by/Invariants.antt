use Rattle.std.proofs.Common.{take}
use Rattle.ticket_tree.specs.Part.{is_linked}
use Rattle.spawn.specs.IdSet.{IsSetOf}
use Rattle.spawn.proofs.claims.id_set.linked_by.Given as goal

-- those that the rows so far link
abbrev pub invariant-loop-place : goal.invariant-loop-place
invariant-loop-place l = IsSetOf (is_linked (take l.place l.rows)) l.set
