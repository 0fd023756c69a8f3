use Rattle.std.proofs.Common.{◌≡◌, take}
use Rattle.std.specs.List.{filter}
use Rattle.ticket_rows.specs.Ticket.{node_ids}
use Rattle.spawn.specs.IdSet.{is_in}
use Rattle.spawn.proofs.tables.marking.marked_nodes.Given as goal

-- those of the rows so far
abbrev pub invariant-loop-place : goal.invariant-loop-place
invariant-loop-place l = l.nodes.items ≡ filter (is_in l.spawned) (node_ids (take l.place l.rows))
