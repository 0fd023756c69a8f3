-- What always holds of a master holds after a message.
use Rattle.std.proofs.Common.{◌≡◌, ◌∙◌, ℕ, Bool, true, false, cond, List, [], ◌∷◌, Option, Some, None, get_or, refl, sym, ap, subst}
use Rattle.std.proofs.lemmas.List.Elements.{All-map}
use Rattle.std.specs.List.{All}
use Rattle.ticket_items.specs.Ids.{mem}
use Rattle.ticket_items.specs.declared.node_row.NodeRow.{NodeRow}
use Rattle.ticket_items.specs.declared.refusal.Refusal.{Refusal}
use Rattle.ticket_items.specs.declared.resource.Resource.{Resource}
use Rattle.ticket_rows.specs.Copies.{with_copies}
use Rattle.ticket_rows.specs.Place.{places}
use Rattle.ticket_rows.specs.Ticket.{IsValid, are_unreserved}
use Rattle.ticket_tree.proofs.PlainOneRow.{append_of_places}
use Rattle.ticket_tree.proofs.StaysValid.{append_is_valid}
use Rattle.ticket_tree.specs.Part.{PartCopy}
use Rattle.controller.specs.Reply.{spawn_in}
use Rattle.controller.specs.Step.{message_step}
use Rattle.controller.specs.declared.body.Body.{Body}
use Rattle.controller.specs.declared.body.Body.TheVariants.{Submit, Return, Abort, Answer}
use Rattle.controller.specs.declared.message.Message.{Message}
use Rattle.spawn.proofs.Ended.{end_keeps_apart}
use Rattle.spawn.proofs.Lawful.{Placed, placed}
use Rattle.spawn.specs.Laws.{StandApart}
use Rattle.spawn.specs.Records.{is_out}
use Rattle.spawn.specs.Spawning.{parent_of}
use Rattle.spawn.specs.Stored.{stands_in}
use Rattle.spawn.specs.declared.records.phase.Phase.{Phase}
use Rattle.spawn.specs.declared.records.phase.Phase.TheVariants.{Merged, Withdrawn}
use Rattle.spawn.specs.declared.records.spawn_rec.SpawnRec.{SpawnRec}
use Rattle.merge.proofs.Fitting.{part_fits}
use Rattle.merge.proofs.MergedHolders.{merge_keeps_apart}
use Rattle.merge.proofs.PutPlaces.{put_of_places}
use Rattle.merge.proofs.PutValid.{put_is_valid}
use Rattle.merge.specs.Put.{put}
use Rattle.merge.specs.Shape.{Fits}
use Rattle.merge.specs.Withdrawal.{job_after_withdrawal, withdrawn_audit}
use Rattle.master_core.proofs.Recorded.{phase_at_place, phase_if, phase_numbered, phase_worker}
use Rattle.master_core.proofs.Refusals.{part_free, take_free}
use Rattle.master_core.proofs.StandsIn.{still_stands}
use Rattle.master_core.specs.Laws.{MessageIsKept}
use Rattle.master_core.specs.Master.{IsConsistent, State, in_phase, is_of, record_of, with_phase}
use Rattle.master_core.specs.Messages.{IsValidBody, body_refusal, is_declined, merge_taking, note_taking, on_body, on_decline, on_return, repeat_taking, state_after_merge, state_after_withdrawal, take_refusal, while_out, withdrawal_taking}

-- ---- what a valid part says

-- no Status of a part is reserved
pub unreserved_rows : (rows : List NodeRow) (rw ro : List Resource) → are_unreserved (with_copies rows rw ro) ≡ true → are_unreserved rows ≡ true
unreserved_rows [] rw ro e = e
unreserved_rows (r ∷ rows) rw ro e = e

-- ---- a record in a phase

phase_sent : (ph : Phase) (s : ℕ) (workers : List (List ℕ)) (records : List SpawnRec) → All (λ (r : SpawnRec). mem r.worker workers ≡ true) records → All (λ (r : SpawnRec). mem r.worker workers ≡ true) (with_phase ph s records)
phase_sent ph s workers records sent =
    All-map (λ (r : SpawnRec). mem r.worker workers ≡ true) (phase_if ph s) records (λ k d within. ap (λ x. mem x workers) (phase_worker ph s (get_or records k d)) ∙ sent k d within)

phase_recorded : (ph : Phase) (s : ℕ) (rows later : List NodeRow) (records : List SpawnRec) → places later ≡ places rows → All (λ (r : SpawnRec). stands_in rows r ≡ true) records → All (λ (r : SpawnRec). stands_in later r ≡ true) (with_phase ph s records)
phase_recorded ph s rows later records same recorded =
    All-map (λ (r : SpawnRec). stands_in later r ≡ true) (phase_if ph s) records
    (λ k d within. still (is_of s (get_or records k d)) later (get_or records k d) ∙ still_stands rows later (get_or records k d) same (recorded k d within))
  where
    still : (b : Bool) (rows : List NodeRow) (r : SpawnRec) → stands_in rows (cond b (in_phase ph r) r) ≡ stands_in rows r
    still true rows r = refl
    still false rows r = refl

-- ---- a part put in

pub merged_kept : (p : PartCopy) (at : ℕ) (w : State) (r : SpawnRec) → IsValid (with_copies p.rows p.rw p.ro) → IsConsistent w → Placed w.records r → is_out r ≡ true → Fits w.ticket r p → IsConsistent (state_after_merge p at w r)
merged_kept p at w r valid kept place out fits =
    let good = kept.apart.good place.place r place.there out in
    record {
      names = kept.names;
      valid = put_is_valid w.ticket r p at kept.valid good fits (unreserved_rows p.rows p.rw p.ro valid.unreserved);
      numbered = phase_numbered Merged r.id w.records kept.numbered;
      sent = phase_sent Merged r.id w.workers w.records kept.sent;
      recorded = phase_recorded Merged r.id w.ticket.rows (put w.ticket r p at).rows w.records (put_of_places w.ticket r p at kept.valid (kept.apart.good place.place r place.there out) fits) kept.recorded;
      apart = subst (StandApart (put w.ticket r p at).rows) (sym (phase_at_place Merged w.records place.place r kept.numbered place.there)) (merge_keeps_apart w.ticket w.records place.place r p at kept.valid kept.apart place.there out fits);
    }

out_kept : (out : Bool) (p : PartCopy) (at : ℕ) (w : State) (r : SpawnRec) → is_out r ≡ out → IsValid (with_copies p.rows p.rw p.ro) → IsConsistent w → Placed w.records r → body_refusal (Return p) w r ≡ None → IsConsistent (cond out (merge_taking p at w r) (repeat_taking p w)).next
out_kept true p at w r out valid kept place none = merged_kept p at w r valid kept place out (part_fits w.ticket r p (part_free p w r none out))
out_kept false p at w r out valid kept place none = kept

taken_kept : (p : PartCopy) (at : ℕ) (w : State) (r : SpawnRec) → IsValid (with_copies p.rows p.rw p.ro) → IsConsistent w → record_of w.records p.spawn_id ≡ Some r → body_refusal (Return p) w r ≡ None → IsConsistent (on_return p at w).next
taken_kept p at w r valid kept found none =
    subst (λ o. IsConsistent (while_out (merge_taking p at w) (repeat_taking p w) o).next) (sym found) (out_kept (is_out r) p at w r refl valid kept (placed (is_of p.spawn_id) w.records r found) none)

-- ---- a spawn withdrawn

pub freed_kept : (at : ℕ) (w : State) (r : SpawnRec) → IsConsistent w → Placed w.records r → is_out r ≡ true → IsConsistent (state_after_withdrawal at w r)
freed_kept at w r kept place out =
    let rows = w.ticket.rows in
    let above = parent_of rows r.node in
    let audit = withdrawn_audit r at in
    let later = (job_after_withdrawal w.ticket r at).rows in
    let still : places later ≡ places rows = append_of_places above audit rows in
    record {
      names = kept.names;
      valid = append_is_valid above audit rows kept.valid;
      numbered = phase_numbered Withdrawn r.id w.records kept.numbered;
      sent = phase_sent Withdrawn r.id w.workers w.records kept.sent;
      recorded = phase_recorded Withdrawn r.id rows later w.records still kept.recorded;
      apart = subst (StandApart later) (sym (phase_at_place Withdrawn w.records place.place r kept.numbered place.there)) (end_keeps_apart rows later w.records place.place r (in_phase Withdrawn r) still kept.apart place.there out refl);
    }

free_if_out : (out : Bool) (s at : ℕ) (w : State) (r : SpawnRec) → is_out r ≡ out → IsConsistent w → Placed w.records r → IsConsistent (cond out (withdrawal_taking s at w r) (note_taking s w)).next
free_if_out true s at w r out kept place = freed_kept at w r kept place out
free_if_out false s at w r out kept place = kept

answered_kept : (says : Bool) (s at : ℕ) (w : State) (r : SpawnRec) → IsConsistent w → record_of w.records s ≡ Some r → IsConsistent (cond says (on_decline s at w) (note_taking s w)).next
answered_kept false s at w r kept found = kept
answered_kept true s at w r kept found =
    subst (λ o. IsConsistent (while_out (withdrawal_taking s at w) (note_taking s w) o).next) (sym found) (free_if_out (is_out r) s at w r refl kept (placed (is_of s) w.records r found))

-- ---- messages

kept_at : (body : Body) (at : ℕ) (w : State) → IsValidBody body → IsConsistent w → (r : SpawnRec) → record_of w.records (spawn_in body) ≡ Some r → body_refusal body w r ≡ None → IsConsistent (on_body body at w).next
kept_at (Submit p) at w valid kept r found none = kept
kept_at (Return p) at w valid kept r found none = taken_kept p at w r valid kept found none
kept_at (Abort s) at w valid kept r found none = kept
kept_at (Answer c s told) at w valid kept r found none = answered_kept (is_declined c told) s at w r kept found

kept_either : (refusal : Option Refusal) (m : Message) (at : ℕ) (w : State) → take_refusal m w ≡ refusal → IsValidBody m.body → IsConsistent w → IsConsistent (message_step w.name m at refusal w (on_body m.body at w)).next
kept_either (Some e) m at w refused valid kept = kept
kept_either None m at w none valid kept =
    let there = take_free m w none in
    kept_at m.body at w valid kept there.0 there.1 there.2

pub message_is_kept : MessageIsKept
message_is_kept m at w valid kept = kept_either (take_refusal m w) m at w refl valid kept
