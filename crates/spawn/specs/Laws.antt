-- Laws of spawning, in the words of the plain ticket.
use Rattle.std.specs.Prelude.{◌≡◌, ℕ, true, false, List, [], ◌∷◌, ◌++◌, length, map, Some, None}
use Rattle.std.specs.Prelude.{slice_get, slice_set}
use Rattle.std.specs.List.{filter}
use Rattle.std.specs.Option.{option_map_or}
use Rattle.ticket_items.specs.Edit.{target}
use Rattle.ticket_rows.specs.Edit.{edited_rows, refusal_of}
use Rattle.ticket_items.specs.Ids.{mem}
use Rattle.ticket_tree.specs.Part.{is_sound}
use Rattle.ticket_tree.specs.PartView.{cut_place, part_row, part_thing}
use Rattle.ticket_rows.specs.Place.{Place, below, places, place_at, row_in}
use Rattle.ticket_rows.specs.Ticket.{Job, IsValid, has_node}
use Rattle.ticket_items.specs.declared.edit.Edit.{Edit}
use Rattle.ticket_items.specs.declared.node_row.NodeRow.{NodeRow}
use Rattle.plain_shop.specs.Claim.{claim, ids_of, is_claimed, linked_outside}
use Rattle.spawn.specs.Parts.{above, ancestors, lifted_row, part_for}
use Rattle.ticket_tree.specs.At.{rows_below}
use Rattle.spawn.specs.Records.{IsGood, is_out}
use Rattle.spawn.specs.Spawning.{job_after_spawn, new_record, parent_of, spawn_refusal}
use Rattle.spawn.specs.Table.{holder_of, holding_record, holds}
use Rattle.world_items.specs.declared.holder.Holder.TheVariants.{Master}
use Rattle.spawn.specs.declared.records.spawn_rec.SpawnRec.{SpawnRec}

-- the records stand well beside the rows of a ticket: each spawn that is out is good, and no two of
-- them claim one place
pub record StandApart (rows : List NodeRow) (recs : List SpawnRec) : Type 0 where
  pub good : (k : ℕ) (r : SpawnRec) → slice_get recs k ≡ Some r → is_out r ≡ true → IsGood rows r
  pub apart : (x : List ℕ) (p : Place) (j k : ℕ) (r q : SpawnRec)
      → place_at (places rows) x ≡ Some p → slice_get recs j ≡ Some r → slice_get recs k ≡ Some q
      → holds p r ≡ true → holds p q ≡ true → j ≡ k

-- what a spawn that is out claims it holds
abbrev pub ClaimIsHeld : Type 0
ClaimIsHeld =
    (rows : List NodeRow) (recs : List SpawnRec) → StandApart rows recs
    → (k : ℕ) (r : SpawnRec) (x : List ℕ) (p : Place) → slice_get recs k ≡ Some r → is_out r ≡ true
    → place_at (places rows) x ≡ Some p → is_claimed r.node r.rw p ≡ true
    → holding_record recs p ≡ Some r

-- and what a spawn holds it claims, and it is out
abbrev pub HeldIsClaimed : Type 0
HeldIsClaimed =
    (recs : List SpawnRec) (r : SpawnRec) (p : Place) → holding_record recs p ≡ Some r
    → (is_out r ≡ true) × (is_claimed r.node r.rw p ≡ true)

-- the parent of a node that is out is held by the master
abbrev pub ParentIsMasters : Type 0
ParentIsMasters =
    (rows : List NodeRow) (recs : List SpawnRec) → IsValid rows → StandApart rows recs
    → (k : ℕ) (r : SpawnRec) → slice_get recs k ≡ Some r → is_out r ≡ true
    → holder_of rows recs (parent_of rows r.node) ≡ Some Master

-- the claims of spawns that are out share nothing, also once one more is
abbrev pub SpawnKeepsApart : Type 0
SpawnKeepsApart =
    (t : Job) (recs : List SpawnRec) (number : ℕ) (n worker : List ℕ) (rw : List (List ℕ)) (at : ℕ)
    → IsValid t.rows → StandApart t.rows recs → spawn_refusal t.rows recs number n rw ≡ None
    → StandApart (job_after_spawn t (new_record t.rows number n worker rw at)).rows
    (recs ++ new_record t.rows number n worker rw at ∷ [])

-- as a spawn that is out ends, so that its record isn't out, and nothing moves, the records go on
-- to stand well beside the ticket
abbrev pub EndKeepsApart : Type 0
EndKeepsApart =
    (rows later : List NodeRow) (recs : List SpawnRec) (k : ℕ) (r ended : SpawnRec)
    → places later ≡ places rows → StandApart rows recs → slice_get recs k ≡ Some r
    → is_out r ≡ true → is_out ended ≡ false
    → StandApart later (slice_set recs k ended)

-- the master then holds what the spawn claimed
abbrev pub EndedClaimIsMasters : Type 0
EndedClaimIsMasters =
    (rows later : List NodeRow) (recs : List SpawnRec) (k : ℕ) (r ended : SpawnRec)
    → places later ≡ places rows → StandApart rows recs → slice_get recs k ≡ Some r
    → is_out r ≡ true → is_out ended ≡ false
    → (x : List ℕ) (p : Place) → place_at (places rows) x ≡ Some p
    → is_claimed r.node r.rw p ≡ true
    → holder_of later (slice_set recs k ended) x ≡ Some Master

-- and all else has the holder that it had
abbrev pub EndKeepsOthers : Type 0
EndKeepsOthers =
    (rows later : List NodeRow) (recs : List SpawnRec) (k : ℕ) (r ended : SpawnRec)
    → places later ≡ places rows → slice_get recs k ≡ Some r → is_out r ≡ true
    → is_out ended ≡ false
    → (x : List ℕ)
    → option_map_or (is_claimed r.node r.rw) (place_at (places rows) x) false ≡ false
    → holder_of later (slice_set recs k ended) x ≡ holder_of rows recs x

-- the part of a good record is sound
abbrev pub PartIsSound : Type 0
PartIsSound =
    (t : Job) (r : SpawnRec) → IsValid t.rows → IsGood t.rows r → is_sound (part_for t r) ≡ true

-- a part stays the same while nothing of its claim moves and nothing is added to it, no row of it
-- changes, and the nodes above keep their job parts
abbrev pub PartStays : Type 0
PartStays =
    (t u : Job) (r : SpawnRec) → IsValid t.rows → IsValid u.rows → u.job_id ≡ t.job_id
    → claim (places u.rows) r.node r.rw ≡ claim (places t.rows) r.node r.rw
    → ((x : List ℕ) → mem x (ids_of (claim (places t.rows) r.node r.rw)) ≡ true
    → row_in u.rows x ≡ row_in t.rows x)
    → ancestors u.rows r.node ≡ ancestors t.rows r.node
    → part_for u r ≡ part_for t r

-- what the master may edit changes no claim of a good record that is out, and nothing that is
-- linked outside its node
abbrev pub EditKeepsClaims : Type 0
EditKeepsClaims =
    (rows : List NodeRow) (recs : List SpawnRec) (e : Edit) (at : ℕ) → IsValid rows
    → refusal_of e rows ≡ None → holder_of rows recs (target e) ≡ Some Master
    → (k : ℕ) (r : SpawnRec) → slice_get recs k ≡ Some r → is_out r ≡ true → IsGood rows r
    → (claim (places (edited_rows e at rows)) r.node r.rw ≡ claim (places rows) r.node r.rw)
    × (linked_outside (places (edited_rows e at rows)) r.node ≡ linked_outside (places rows) r.node)

-- so the records go on to stand well beside the ticket
abbrev pub EditKeepsApart : Type 0
EditKeepsApart =
    (rows : List NodeRow) (recs : List SpawnRec) (e : Edit) (at : ℕ) → IsValid rows
    → refusal_of e rows ≡ None → holder_of rows recs (target e) ≡ Some Master
    → StandApart rows recs → StandApart (edited_rows e at rows) recs

-- the part of a good record shows what the spawn claims, as it stands in the ticket
abbrev pub PartShowsClaim : Type 0
PartShowsClaim =
    (t : Job) (r : SpawnRec) → IsValid t.rows → IsGood t.rows r → (x : List ℕ) (p : Place)
    → place_at (places t.rows) x ≡ Some p → is_claimed r.node r.rw p ≡ true
    → (part_row (part_for t r) x ≡ row_in t.rows x) × (part_thing (part_for t r) x ≡ Some p.thing)

-- and nothing else
abbrev pub PartShowsNoMore : Type 0
PartShowsNoMore =
    (t : Job) (r : SpawnRec) → IsValid t.rows → IsGood t.rows r → (x : List ℕ)
    → option_map_or (is_claimed r.node r.rw) (place_at (places t.rows) x) false ≡ false
    → (part_row (part_for t r) x ≡ None) × (part_thing (part_for t r) x ≡ None)

-- the rows below a node, so many levels higher that it is the root, have the places that they had,
-- with their paths cut at the node
abbrev pub CutPlaces : Type 0
CutPlaces =
    (rows : List NodeRow) (n : List ℕ) → IsValid rows → has_node rows n ≡ true
    → places (map (lifted_row (length (above rows n))) (rows_below rows n))
    ≡ map (cut_place (length (above rows n))) (filter (below n) (places rows))
