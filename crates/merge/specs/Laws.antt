-- Laws of merging.
use Rattle.std.specs.Prelude.{◌≡◌, ◌↔◌, ℕ, true, false, List, [], ◌∷◌, ◌++◌, Some, slice_get}
use Rattle.std.specs.Option.{option_map_or}
use Rattle.ticket_rows.specs.OneRow.{rows_with_audit}
use Rattle.ticket_rows.specs.Place.{Place, places, place_at, row_in}
use Rattle.ticket_rows.specs.Ticket.{Job, IsValid, are_unreserved}
use Rattle.ticket_tree.specs.Part.{PartCopy}
use Rattle.ticket_tree.specs.PlainEdit.{with_row_changed}
use Rattle.plain_shop.specs.Claim.{is_claimed}
use Rattle.spawn.specs.Laws.{StandApart}
use Rattle.spawn.specs.Parts.{part_for}
use Rattle.spawn.specs.Records.{IsGood, is_out}
use Rattle.spawn.specs.Spawning.{parent_of}
use Rattle.spawn.specs.Table.{holder_of}
use Rattle.world_items.specs.declared.holder.Holder.TheVariants.{Master}
use Rattle.spawn.specs.declared.records.spawn_rec.SpawnRec.{SpawnRec}
use Rattle.merge.specs.Alike.{is_fit}
use Rattle.merge.specs.PlainPut.{merged_rows, merged_recs}
use Rattle.merge.specs.Put.{merged_audit, put}
use Rattle.merge.specs.Shape.{Fits}

-- whether a part fits can be computed
abbrev pub FitsIsTested : Type 0
FitsIsTested = (t : Job) (r : SpawnRec) (p : PartCopy) → (is_fit t r p ≡ true) ↔ Fits t r p

-- the part that is made of a ticket fits it
abbrev pub MadePartFits : Type 0
MadePartFits = (t : Job) (r : SpawnRec) → Fits t r (part_for t r)

-- and putting it back changes nothing but that the audit tells of it
abbrev pub MadePartChangesNothing : Type 0
MadePartChangesNothing =
    (t : Job) (r : SpawnRec) (at : ℕ) → IsValid t.rows
    → put t r (part_for t r) at
    ≡ record t { rows = rows_with_audit (parent_of t.rows r.node) (merged_audit r at) t.rows }

-- a part that fits moves nothing as it is put back
abbrev pub PutOfPlaces : Type 0
PutOfPlaces =
    (t : Job) (r : SpawnRec) (p : PartCopy) (at : ℕ) → IsValid t.rows → IsGood t.rows r → Fits t r p
    → places (put t r p at).rows ≡ places t.rows

-- and the rows of the claim are then the part's, and the parent of the node has an audit more
abbrev pub PutOfRows : Type 0
PutOfRows =
    (t : Job) (r : SpawnRec) (p : PartCopy) (at : ℕ) → IsValid t.rows → IsGood t.rows r → Fits t r p
    → (x : List ℕ)
    → row_in (put t r p at).rows x
    ≡ with_row_changed (parent_of t.rows r.node)
    (λ row. record row { audits = row.audits ++ merged_audit r at ∷ [] }) (merged_rows t r p) x

-- the ticket stays valid, where no Status in the part is reserved
abbrev pub PutIsValid : Type 0
PutIsValid =
    (t : Job) (r : SpawnRec) (p : PartCopy) (at : ℕ) → IsValid t.rows → IsGood t.rows r → Fits t r p
    → are_unreserved p.rows ≡ true
    → IsValid (put t r p at).rows

-- the records go on to stand well beside the ticket
abbrev pub MergeKeepsApart : Type 0
MergeKeepsApart =
    (t : Job) (recs : List SpawnRec) (k : ℕ) (r : SpawnRec) (p : PartCopy) (at : ℕ) → IsValid t.rows
    → StandApart t.rows recs → slice_get recs k ≡ Some r → is_out r ≡ true → Fits t r p
    → StandApart (put t r p at).rows (merged_recs recs k r)

-- the master then holds what the spawn claimed
abbrev pub MergedClaimIsMasters : Type 0
MergedClaimIsMasters =
    (t : Job) (recs : List SpawnRec) (k : ℕ) (r : SpawnRec) (p : PartCopy) (at : ℕ) → IsValid t.rows
    → StandApart t.rows recs → slice_get recs k ≡ Some r → is_out r ≡ true → Fits t r p
    → (x : List ℕ) (q : Place) → place_at (places t.rows) x ≡ Some q
    → is_claimed r.node r.rw q ≡ true
    → holder_of (put t r p at).rows (merged_recs recs k r) x ≡ Some Master

-- and all else has the holder that it had
abbrev pub MergeKeepsOthers : Type 0
MergeKeepsOthers =
    (t : Job) (recs : List SpawnRec) (k : ℕ) (r : SpawnRec) (p : PartCopy) (at : ℕ) → IsValid t.rows
    → StandApart t.rows recs → slice_get recs k ≡ Some r → is_out r ≡ true → Fits t r p
    → (x : List ℕ)
    → option_map_or (is_claimed r.node r.rw) (place_at (places t.rows) x) false ≡ false
    → holder_of (put t r p at).rows (merged_recs recs k r) x ≡ holder_of t.rows recs x
