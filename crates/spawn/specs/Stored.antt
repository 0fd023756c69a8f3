-- Tests of records that were stored beside a ticket: whether they stand well beside it.
use Rattle.std.specs.Prelude.{◌≡◌, ◌↔◌, ◌&&◌, ◌||◌, Bool, true, false, not, List, length, nat_le}
use Rattle.std.specs.Prelude.{is_some}
use Rattle.std.specs.Cmp.Lexicographic.{pointwise}
use Rattle.std.specs.List.{filter, list_all}
use Rattle.std.specs.Str.{bytes_eq}
use Rattle.ticket_items.specs.declared.node_row.NodeRow.{NodeRow}
use Rattle.ticket_items.specs.declared.resource.Resource.{Resource}
use Rattle.ticket_rows.specs.Homes.{has_resource}
use Rattle.ticket_rows.specs.Place.{Place, Thing, node, resource, places, node_places, up}
use Rattle.ticket_rows.specs.Ticket.{IsValid}
use Rattle.plain_shop.specs.Claim.{ids_of, linked_rw, linked_ro}
use Rattle.spawn.specs.Laws.{StandApart}
use Rattle.spawn.specs.Records.{is_out}
use Rattle.spawn.specs.Table.{holds}
use Rattle.spawn.specs.declared.records.spawn_rec.SpawnRec.{SpawnRec}

-- whether a record stands in a ticket, also once it is merged or withdrawn: its node stands below
-- another, and each of its copies is that of a resource of the ticket
abbrev pub stands_in : List NodeRow → SpawnRec → Bool
stands_in rows r =
    is_some (up (node_places rows) r.node) && list_all (has_resource rows) r.rw
    && list_all (λ x. has_resource rows x.id) r.ro

-- whether a copy has the name and the Class of a thing
abbrev pub is_thing : Resource → Thing → Bool
is_thing x (node kind job_part links) = false
is_thing x (resource name class) = bytes_eq x.name name && bytes_eq x.class class

-- whether a copy is that of the resource at a place
abbrev pub is_copy : Resource → Place → Bool
is_copy x p = bytes_eq x.id p.id && is_thing x p.thing

-- whether a record is good in a ticket
abbrev pub is_good : List NodeRow → SpawnRec → Bool
is_good rows r =
    is_some (up (node_places rows) r.node)
    && pointwise bytes_eq r.rw (ids_of (linked_rw (places rows) r.node r.rw))
    && pointwise is_copy r.ro (linked_ro (places rows) r.node r.rw)

-- whether each record that is out is good
abbrev pub are_good : List NodeRow → List SpawnRec → Bool
are_good rows recs = list_all (λ r. not (is_out r) || is_good rows r) recs

-- whether at most one spawn holds what stands at a place
abbrev pub is_held_once : List SpawnRec → Place → Bool
is_held_once recs p = nat_le (length (filter (holds p) recs)) 1

-- whether no two spawns that are out claim one place
abbrev pub are_apart : List Place → List SpawnRec → Bool
are_apart tree recs = list_all (is_held_once recs) tree

-- the tests of the records that are out pass just where they stand well beside the ticket
abbrev pub StandingIsATest : Type 0
StandingIsATest =
    (rows : List NodeRow) (recs : List SpawnRec) → IsValid rows
    → ((are_good rows recs && are_apart (places rows) recs) ≡ true) ↔ StandApart rows recs
