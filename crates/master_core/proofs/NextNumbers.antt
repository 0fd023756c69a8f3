-- Why a spawn of the next number is refused, by a number that tells as much.
use Rattle.std.proofs.Common.{◌≡◌, ℕ, List, [], ◌∷◌, is_some, ap}
use Rattle.std.specs.List.{list_all}
use Rattle.ticket_items.specs.Ids.{mem}
use Rattle.ticket_items.specs.SpawnId.{is_spawn_number}
use Rattle.ticket_items.specs.declared.node_row.NodeRow.{NodeRow}
use Rattle.ticket_items.specs.declared.refusal.Refusal.TheVariants.{UnknownNode, IsRoot, UnknownResource, NotLinked, TooManySpawns}
use Rattle.ticket_rows.specs.Homes.{has_resource}
use Rattle.ticket_rows.specs.Place.{places, node_places, up}
use Rattle.ticket_rows.specs.Ticket.{has_node, unless, first_of}
use Rattle.plain_shop.specs.Claim.{ids_of, linked_outside}
use Rattle.spawn.specs.Spawning.{not_held, spawn_refusal}
use Rattle.spawn.specs.declared.records.spawn_rec.SpawnRec.{SpawnRec}

pub refused_alike : (rows : List NodeRow) (recs : List SpawnRec) (m n : ℕ) (node : List ℕ) (rw : List (List ℕ)) → is_spawn_number m ≡ is_spawn_number n → spawn_refusal rows recs m node rw ≡ spawn_refusal rows recs n node rw
refused_alike rows recs m n node copies same =
    ap (λ b. first_of
    (unless (has_node rows node) UnknownNode ∷ unless (is_some (up (node_places rows) node)) IsRoot
    ∷ unless (list_all (has_resource rows) copies) UnknownResource
    ∷ unless (list_all (λ x. mem x (ids_of (linked_outside (places rows) node))) copies) NotLinked
    ∷ not_held (places rows) recs node copies ∷ unless b TooManySpawns ∷ [])) same
