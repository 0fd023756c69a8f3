use Rattle.std.proofs.Common.{◌≡◌, drop}
use Rattle.ticket_tree.specs.Part.{is_linked}
use Rattle.ticket_tree.proofs.linked.is_linked.Given as goal

-- what is left decides
abbrev pub invariant-loop-place : goal.invariant-loop-place
invariant-loop-place l = is_linked (drop l.place l.rows) l.id ≡ is_linked l.rows l.id
