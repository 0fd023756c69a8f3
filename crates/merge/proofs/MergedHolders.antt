-- Who holds what after a merge: the master what the spawn claimed, and all else is held as before.
use Rattle.std.proofs.Common.{◌≡◌, ℕ, true, List, Some, slice_get, refl}
use Rattle.ticket_rows.specs.Place.{places}
use Rattle.ticket_rows.specs.Ticket.{Job, IsValid}
use Rattle.ticket_tree.specs.Part.{PartCopy}
use Rattle.spawn.proofs.Ended.{end_keeps_apart, end_keeps_others, ended_claim_is_masters}
use Rattle.spawn.specs.Laws.{StandApart}
use Rattle.spawn.specs.Records.{is_out}
use Rattle.spawn.specs.declared.records.phase.Phase.TheVariants.{Merged}
use Rattle.spawn.specs.declared.records.spawn_rec.SpawnRec.{SpawnRec}
use Rattle.merge.proofs.PutPlaces.{put_of_places}
use Rattle.merge.specs.Laws.{MergeKeepsApart, MergeKeepsOthers, MergedClaimIsMasters}
use Rattle.merge.specs.Put.{put}
use Rattle.merge.specs.Shape.{Fits}

abbrev as_merged : SpawnRec → SpawnRec
as_merged r = record r { phase = Merged }

still : (t : Job) (recs : List SpawnRec) (k : ℕ) (r : SpawnRec) (p : PartCopy) (time : ℕ)
    → IsValid t.rows → StandApart t.rows recs → slice_get recs k ≡ Some r → is_out r ≡ true
    → Fits t r p → places (put t r p time).rows ≡ places t.rows
still t recs k r p time valid apart there out fits = put_of_places t r p time valid (apart.good k r there out) fits

pub merge_keeps_apart : MergeKeepsApart
merge_keeps_apart t recs k r p time valid apart there out fits =
    end_keeps_apart t.rows (put t r p time).rows recs k r (as_merged r) (still t recs k r p time valid apart there out fits) apart there out refl

pub merged_claim_is_masters : MergedClaimIsMasters
merged_claim_is_masters t recs k r p time valid apart there out fits x q stands claims =
    ended_claim_is_masters t.rows (put t r p time).rows recs k r (as_merged r) (still t recs k r p time valid apart there out fits) apart there out refl x q stands claims

pub merge_keeps_others : MergeKeepsOthers
merge_keeps_others t recs k r p time valid apart there out fits x claims =
    end_keeps_others t.rows (put t r p time).rows recs k r (as_merged r) (still t recs k r p time valid apart there out fits) there out refl x claims
