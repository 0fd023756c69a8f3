use Rattle.std.proofs.Common.{◌≡◌, drop, reverse}
use Rattle.ticket_items.proofs.Apart.{texts_of}
use Rattle.ticket_rows.specs.Copies.{with_copies}
use Rattle.ticket_rows.specs.Ticket.{are_resolved}
use Rattle.ticket_rows.proofs.LinkWalk.{are_resolved_from}
use Rattle.ticket_rows.proofs.resolved.are_resolved_with.Given as goal

-- what is left resolves exactly if all does. The path is kept from the root on
abbrev pub invariant-loop-row : goal.invariant-loop-row
invariant-loop-row l =
    are_resolved_from (with_copies l.rows l.rw l.ro) (reverse (texts_of l.path.items)) (drop l.row-index l.rows) ≡ are_resolved (with_copies l.rows l.rw l.ro)
