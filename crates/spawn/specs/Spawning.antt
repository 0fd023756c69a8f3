-- A spawn: why it is refused, and what it makes of the ticket and of the records.
use Rattle.std.specs.Prelude.{◌≡◌, ◌++◌, ℕ, List, [], ◌∷◌, map, Option, is_some, slice_get}
use Rattle.std.specs.Prelude.{Result, Err, IfSome, IfNone, IfOk, IfErr, OnOk, OnErr}
use Rattle.std.specs.List.{filter_map, list_all}
use Rattle.std.specs.Option.{option_map, option_map_or}
use Rattle.ticket_rows.specs.Homes.{has_resource}
use Rattle.ticket_items.specs.Ids.{mem}
use Rattle.ticket_rows.specs.OneRow.{rows_with_audit}
use Rattle.ticket_rows.specs.Place.{Place, places, node_places, up}
use Rattle.ticket_items.specs.SpawnId.{is_spawn_number, spawn_text}
use Rattle.ticket_rows.specs.Ticket.{Job, has_node, row_of, unless, first_of}
use Rattle.ticket_items.specs.declared.audit.Audit.{Audit}
use Rattle.ticket_items.specs.declared.audit.Audit.TheVariants.{Spawned}
use Rattle.ticket_items.specs.declared.node_row.NodeRow.{NodeRow}
use Rattle.ticket_items.specs.declared.refusal.Refusal.{Refusal}
use Rattle.ticket_items.specs.declared.refusal.Refusal.TheVariants.{UnknownNode, IsRoot}
use Rattle.ticket_items.specs.declared.refusal.Refusal.TheVariants.{UnknownResource, NotLinked}
use Rattle.ticket_items.specs.declared.refusal.Refusal.TheVariants.{Memory, NotHeld, TooManySpawns}
use Rattle.ticket_tree.specs.Part.{PartCopy}
use Rattle.plain_shop.specs.Claim.{ids_of, claim, linked_outside, linked_rw, linked_ro}
use Rattle.spawn.specs.Parts.{part_for, resources_among}
use Rattle.spawn.specs.Records.{IsGood}
use Rattle.spawn.specs.Table.{holding_record}
use Rattle.spawn.specs.declared.records.phase.Phase.TheVariants.{Out}
use Rattle.spawn.specs.declared.records.spawn_rec.SpawnRec.{SpawnRec}

-- ---- why it is refused

-- the spawns that hold something of the claim, in ticket order of what they hold
abbrev pub holding_claimed : List Place → List SpawnRec → List ℕ → List (List ℕ) → List SpawnRec
holding_claimed tree recs n rw = filter_map (holding_record recs) (claim tree n rw)

-- the refusal for the first of the claim that the master doesn't hold
abbrev pub not_held : List Place → List SpawnRec → List ℕ → List (List ℕ) → Option Refusal
not_held tree recs n rw =
    option_map (λ r. NotHeld r.id) (slice_get (holding_claimed tree recs n rw) 0)

-- why a spawn of the node n is refused, with copies of these resources that may be changed
abbrev pub spawn_refusal : List NodeRow → List SpawnRec → ℕ → List ℕ → List (List ℕ)
    → Option Refusal
spawn_refusal rows recs number n rw =
    first_of
    (unless (has_node rows n) UnknownNode ∷ unless (is_some (up (node_places rows) n)) IsRoot
    ∷ unless (list_all (has_resource rows) rw) UnknownResource
    ∷ unless (list_all (λ x. mem x (ids_of (linked_outside (places rows) n))) rw) NotLinked
    ∷ not_held (places rows) recs n rw ∷ unless (is_spawn_number number) TooManySpawns ∷ [])

-- ---- what it makes

-- the record of a new spawn: `rw` as a set, in ticket order, and copies of the other resources
-- linked outside the node
abbrev pub new_record : List NodeRow → ℕ → List ℕ → List ℕ → List (List ℕ) → ℕ → SpawnRec
new_record rows number n worker rw at =
    record {
      id = number;
      node = n;
      worker = worker;
      at = at;
      rw = ids_of (linked_rw (places rows) n rw);
      ro = resources_among (ids_of (linked_ro (places rows) n rw)) rows;
      phase = Out;
    }

-- the Status of a node
abbrev pub status_of : List NodeRow → List ℕ → List ℕ
status_of rows n = option_map_or (λ r. r.status) (row_of rows n) []

-- the parent of a node
abbrev pub parent_of : List NodeRow → List ℕ → List ℕ
parent_of rows n = option_map_or (λ u. u) (up (node_places rows) n) []

-- the audit that tells of a spawn (JDF 1.5, 3.11)
abbrev pub spawned_audit : List NodeRow → SpawnRec → Audit
spawned_audit rows r =
    Spawned r.at r.node (spawn_text r.id) (map (λ x. x.id) r.ro) r.rw (status_of rows r.node)

-- the ticket after a spawn: its audit stands last at the node's parent
abbrev pub job_after_spawn : Job → SpawnRec → Job
job_after_spawn t r = record t { rows = rows_with_audit (parent_of t.rows r.node) (spawned_audit t.rows r) t.rows }

-- ---- a spawn, done or refused

-- a spawn by a new record, unless something is against it: its result, and the ticket and the
-- records before and after
pub record Spawns (why : Option Refusal) (r : SpawnRec) (old : Job) (before : List SpawnRec)
    (result : Result (ℕ × PartCopy) Refusal) (new : Job) (after : List SpawnRec) : Type 0 where
  -- the ticket tells of a spawn, and its record is the last
  pub ticket : OnOk result (new ≡ job_after_spawn old r)
  pub records : OnOk result (after ≡ before ++ r ∷ [])
  -- its number is answered, with its part of the ticket that tells of it
  pub id : IfOk result (λ s. s.0 ≡ r.id)
  pub part : IfOk result (λ s. s.1 ≡ part_for new r)
  -- the record is good there
  pub good : OnOk result (IsGood new.rows r)
  -- what is against it refuses it; where nothing is, the want of memory alone does
  pub refused : IfSome why (λ e. result ≡ Err e)
  pub memory : IfNone why (IfErr result (λ e. e ≡ Memory))
  -- a refusal changes neither the ticket nor the records
  pub ticket_stays : OnErr result (new ≡ old)
  pub records_stay : OnErr result (after ≡ before)
