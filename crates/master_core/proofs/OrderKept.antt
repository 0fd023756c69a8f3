-- What always holds of a master holds after an order.
use Rattle.std.proofs.Common.{◌≡◌, ℕ, true, List, Option, Some, None, get_or, refl}
use Rattle.std.proofs.lemmas.List.Elements.{All-push}
use Rattle.ticket_items.specs.Ids.{mem}
use Rattle.ticket_items.specs.declared.edit.Edit.{Edit}
use Rattle.ticket_items.specs.declared.refusal.Refusal.{Refusal}
use Rattle.ticket_rows.specs.Place.{places}
use Rattle.ticket_tree.proofs.PlainOneRow.{append_of_places}
use Rattle.ticket_tree.proofs.StaysValid.{append_is_valid, edit_is_valid}
use Rattle.controller.specs.Step.{unless_refused}
use Rattle.spawn.proofs.EditApart.{edit_keeps_apart}
use Rattle.spawn.proofs.KeptApart.{spawn_keeps_apart}
use Rattle.spawn.proofs.NewRecord.{new_is_good}
use Rattle.spawn.proofs.PartKept.{allowed}
use Rattle.spawn.specs.Spawning.{job_after_spawn, parent_of, spawned_audit}
use Rattle.spawn.specs.Stored.{stands_in}
use Rattle.spawn.specs.declared.records.spawn_rec.SpawnRec.{SpawnRec}
use Rattle.master_core.proofs.Recorded.{numbered_more}
use Rattle.master_core.proofs.Refusals.{edit_free, spawn_free}
use Rattle.master_core.proofs.StandsIn.{edit_stands, good_stands, still_stands}
use Rattle.master_core.specs.Laws.{OrderIsKept}
use Rattle.master_core.specs.Master.{IsConsistent, State, next_number}
use Rattle.master_core.specs.Orders.{allowed_step, next_record, order_refusal}
use Rattle.world_items.specs.declared.master_order.Order.{Order}
use Rattle.world_items.specs.declared.master_order.Order.TheVariants as order

edit_kept : (e : Edit) (at : ℕ) (w : State) → IsConsistent w → order_refusal (order.Edit e) w ≡ None → IsConsistent (allowed_step (order.Edit e) at w).next
edit_kept e at w kept none =
    let free = edit_free e w none in
    record {
      names = kept.names;
      valid = edit_is_valid e at w.ticket.rows kept.valid free.rows;
      numbered = kept.numbered;
      sent = kept.sent;
      recorded = λ k d within. edit_stands w.ticket.rows e at (get_or w.records k d) kept.valid free.rows (kept.recorded k d within);
      apart = edit_keeps_apart w.ticket.rows w.records e at kept.valid free.rows free.held kept.apart;
    }

spawn_kept : (node worker : List ℕ) (rw : List (List ℕ)) (at : ℕ) (w : State) → IsConsistent w → order_refusal (order.Spawn node worker rw) w ≡ None → IsConsistent (allowed_step (order.Spawn node worker rw) at w).next
spawn_kept node worker copies at w kept none =
    let free = spawn_free w node worker copies none in
    let new : SpawnRec = next_record w node worker copies at in
    let may = allowed w.ticket.rows w.records (next_number w.records) node copies free.1 in
    let good = new_is_good w.ticket.rows (next_number w.records) node worker copies at kept.valid may.0 may.1 in
    let same : places (job_after_spawn w.ticket new).rows ≡ places w.ticket.rows = append_of_places (parent_of w.ticket.rows node) (spawned_audit w.ticket.rows new) w.ticket.rows in
    record {
      names = kept.names;
      valid = append_is_valid (parent_of w.ticket.rows node) (spawned_audit w.ticket.rows new) w.ticket.rows kept.valid;
      numbered = numbered_more w.records new kept.numbered refl;
      sent = All-push (λ (r : SpawnRec). mem r.worker w.workers ≡ true) w.records new kept.sent free.0;
      recorded = All-push (λ (r : SpawnRec). stands_in (job_after_spawn w.ticket new).rows r ≡ true) w.records new (λ k d within. still_stands w.ticket.rows (job_after_spawn w.ticket new).rows (get_or w.records k d) same (kept.recorded k d within)) (still_stands w.ticket.rows (job_after_spawn w.ticket new).rows new same (good_stands w.ticket.rows new good));
      apart = spawn_keeps_apart w.ticket w.records (next_number w.records) node worker copies at kept.valid kept.apart free.1;
    }

pub ordered_kept : (o : Order) (at : ℕ) (w : State) → IsConsistent w → order_refusal o w ≡ None → IsConsistent (allowed_step o at w).next
ordered_kept (order.Edit e) at w kept none = edit_kept e at w kept none
ordered_kept (order.Spawn node worker rw) at w kept none = spawn_kept node worker rw at w kept none
ordered_kept (order.Resend s) at w kept none = kept
ordered_kept (order.Withdraw s) at w kept none = kept

kept_either : (refusal : Option Refusal) (o : Order) (at : ℕ) (w : State) → order_refusal o w ≡ refusal → IsConsistent w → IsConsistent (unless_refused refusal w (allowed_step o at w)).next
kept_either None o at w none kept = ordered_kept o at w kept none
kept_either (Some r) o at w refused kept = kept

pub order_is_kept : OrderIsKept
order_is_kept o at w kept = kept_either (order_refusal o w) o at w refl kept
