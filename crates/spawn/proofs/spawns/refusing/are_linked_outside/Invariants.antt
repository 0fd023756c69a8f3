use Rattle.std.proofs.Common.{◌≡◌, drop}
use Rattle.std.specs.List.{list_all}
use Rattle.ticket_items.specs.Ids.{mem}
use Rattle.ticket_rows.specs.Place.{places}
use Rattle.plain_shop.specs.Claim.{ids_of, linked_outside}
use Rattle.spawn.proofs.spawns.refusing.are_linked_outside.Given as goal

-- those so far are
abbrev pub invariant-loop-id : goal.invariant-loop-id
invariant-loop-id l =
    list_all (λ x. mem x (ids_of (linked_outside (places l.ticket.rows) l.node))) l.ids ≡ list_all (λ x. mem x (ids_of (linked_outside (places l.ticket.rows) l.node))) (drop l.id-index l.ids)
