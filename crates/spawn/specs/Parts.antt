-- The part that goes out with a spawn: the ticket's rows and resources of the claim as they stand,
-- and what was copied to be read alone.
use Rattle.std.specs.Prelude.{ℕ, ◌-◌, List, [], ◌∷◌, ◌++◌, length, map, drop, take, reverse}
use Rattle.std.specs.List.{filter}
use Rattle.std.specs.Option.{option_map_or}
use Rattle.ticket_rows.specs.Homes.{homes}
use Rattle.ticket_items.specs.Ids.{mem}
use Rattle.ticket_tree.specs.At.{rows_below}
use Rattle.ticket_tree.specs.Part.{PartCopy, part_copy}
use Rattle.ticket_rows.specs.Place.{place_at, node_places}
use Rattle.ticket_rows.specs.Ticket.{Job, row_of}
use Rattle.ticket_items.specs.declared.ancestor.Ancestor.{Ancestor}
use Rattle.ticket_items.specs.declared.node_row.NodeRow.{NodeRow}
use Rattle.ticket_items.specs.declared.resource.Resource.{Resource}
use Rattle.spawn.specs.declared.records.spawn_rec.SpawnRec.{SpawnRec}

-- the nodes above n, from the root to n's parent
abbrev pub above : List NodeRow → List ℕ → List (List ℕ)
above rows n = reverse (option_map_or (λ p. drop 1 p.path) (place_at (node_places rows) n) [])

-- a node above, with its part in the job
abbrev pub ancestor : List NodeRow → List ℕ → Ancestor
ancestor rows a =
    record { node_id = a; job_part = option_map_or (λ r. r.job_part) (row_of rows a) [] }

abbrev pub ancestors : List NodeRow → List ℕ → List Ancestor
ancestors rows n = map (ancestor rows) (above rows n)

-- the rows on the way to the last one, from the root on, behind those that led to the first
abbrev pub way_from : List NodeRow → List NodeRow → List NodeRow
way_from before [] = before
way_from before (r ∷ rows) = way_from (take (r.depth - 1) before ++ r ∷ []) rows

-- a row as an ancestor
abbrev pub as_ancestor : NodeRow → Ancestor
as_ancestor r = record { node_id = r.id; job_part = r.job_part }

-- a row so many levels higher
abbrev pub lifted_row : ℕ → NodeRow → NodeRow
lifted_row levels r = record r { depth = r.depth - levels }

-- all resources, in ticket order
abbrev pub resources : List NodeRow → List Resource
resources rows = map (λ e. e.0) (homes rows)

-- the resources of these ids, in ticket order
abbrev pub resources_among : List (List ℕ) → List NodeRow → List Resource
resources_among ids rows = filter (λ x. mem x.id ids) (resources rows)

-- the part of a spawn
abbrev pub part_for : Job → SpawnRec → PartCopy
part_for t r =
    part_copy t.job_id r.id (ancestors t.rows r.node)
    (map (lifted_row (length (above t.rows r.node))) (rows_below t.rows r.node))
    (resources_among r.rw t.rows) r.ro
