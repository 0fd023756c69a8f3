-- A master goes on to be in order, and the table of holders beside it to be that of its ticket and its
-- records.
use Rattle.std.proofs.Common.{◌≡◌, ℕ, false, None, slice_set, refl, sym, subst}
use Rattle.ticket_items.specs.declared.edit.Edit.{Edit}
use Rattle.ticket_rows.specs.Copies.{with_copies}
use Rattle.ticket_rows.specs.Place.{places}
use Rattle.ticket_rows.specs.Ticket.{IsValid, Job}
use Rattle.ticket_tree.specs.Part.{PartCopy}
use Rattle.ticket_tree.proofs.PlainOneRow.{append_of_places}
use Rattle.spawn.proofs.HoldingsEdited.{edit_keeps_table}
use Rattle.spawn.proofs.HoldingsKept.{end_keeps_table}
use Rattle.spawn.specs.Holdings.{Holdings, IsGiven, claims}
use Rattle.spawn.specs.Records.{is_out}
use Rattle.spawn.specs.Spawning.{parent_of}
use Rattle.spawn.specs.declared.records.spawn_rec.SpawnRec.{SpawnRec}
use Rattle.merge.proofs.PutPlaces.{put_of_places}
use Rattle.merge.specs.Put.{put}
use Rattle.merge.specs.Shape.{Fits}
use Rattle.merge.specs.Withdrawal.{job_after_withdrawal, withdrawn_audit}
use Rattle.master_core.proofs.MessageKept.{freed_kept, merged_kept}
use Rattle.master_core.proofs.Merging.{free_there, put_there}
use Rattle.master_core.proofs.OrderKept.{ordered_kept}
use Rattle.master_core.proofs.RecordPlaces.{IsOutAt}
use Rattle.master_core.proofs.Refusals.{edit_free}
use Rattle.master_core.specs.Master.{IsConsistent, IsInStep, State, merged_record, state, withdrawn_record}
use Rattle.master_core.specs.Orders.{allowed_step, edit_refusal}
use Rattle.world_items.specs.declared.master_order.Order.TheVariants as order

-- ---- a spawn that ends

-- no spawn holds the claim of one that ended
ended : (w : State) (h after : Holdings) (s k : ℕ) (r made : SpawnRec) (later : Job) → IsInStep w h → IsOutAt w.records s k r → is_out made ≡ false → places later.rows ≡ places w.ticket.rows
    → IsConsistent (state w.name w.workers later (slice_set w.records k made)) → IsGiven (claims later.rows r) None h after → IsInStep (state w.name w.workers later (slice_set w.records k made)) after
ended w h after s k r made later step own off still kept given =
    record {
      kept = kept;
      table = end_keeps_table w.ticket.rows later.rows w.records k r made h after still step.kept.apart own.there own.out off step.table given;
    }

-- that of a spawn whose part was put in
pub put_in_step : (w : State) (h after : Holdings) (p : PartCopy) (at k : ℕ) (r : SpawnRec) → IsInStep w h → IsOutAt w.records p.spawn_id k r → Fits w.ticket r p → IsValid (with_copies p.rows p.rw p.ro)
    → IsGiven (claims (put w.ticket r p at).rows r) None h after
    → IsInStep (state w.name w.workers (put w.ticket r p at) (slice_set w.records k (merged_record r))) after
put_in_step w h after p at k r step own fits part given =
    let kept = merged_kept p at w r part step.kept (record { place = k; there = own.there }) own.out fits in
    let still = put_of_places w.ticket r p at step.kept.valid (step.kept.apart.good k r own.there own.out) fits in
    ended w h after p.spawn_id k r (merged_record r) (put w.ticket r p at) step own refl still (subst IsConsistent (sym (put_there w p at k r step.kept.numbered own)) kept) given

-- and that of one that was withdrawn
pub free_in_step : (w : State) (h after : Holdings) (s at k : ℕ) (r : SpawnRec) → IsInStep w h → IsOutAt w.records s k r
    → IsGiven (claims (job_after_withdrawal w.ticket r at).rows r) None h after
    → IsInStep (state w.name w.workers (job_after_withdrawal w.ticket r at) (slice_set w.records k (withdrawn_record r))) after
free_in_step w h after s at k r step own given =
    let kept = freed_kept at w r step.kept (record { place = k; there = own.there }) own.out in
    let still = append_of_places (parent_of w.ticket.rows r.node) (withdrawn_audit r at) w.ticket.rows in
    ended w h after s k r (withdrawn_record r) (job_after_withdrawal w.ticket r at) step own refl still (subst IsConsistent (sym (free_there w s at k r step.kept.numbered own)) kept) given

-- ---- an order

-- the table is that of the edited ticket
pub edit_in_step : (e : Edit) (at : ℕ) (w : State) (h : Holdings) → IsInStep w h → edit_refusal e w ≡ None → IsInStep (allowed_step (order.Edit e) at w).next h
edit_in_step e at w h step none =
    let free = edit_free e w none in
    record {
      kept = ordered_kept (order.Edit e) at w step.kept none;
      table = edit_keeps_table w.ticket.rows w.records e at h step.kept.valid step.kept.apart free.rows free.held step.table;
    }
