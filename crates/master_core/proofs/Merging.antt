-- A master whose ticket and records were merged, or of whom a spawn was withdrawn.
use Rattle.std.proofs.Common.{◌≡◌, ℕ, sym, ap, slice_set}
use Rattle.ticket_tree.specs.Part.{PartCopy}
use Rattle.controller.specs.Step.{Taking}
use Rattle.spawn.specs.declared.records.phase.Phase.TheVariants.{Merged, Withdrawn}
use Rattle.spawn.specs.declared.records.spawn_rec.SpawnRec.{SpawnRec}
use Rattle.merge.specs.Put.{put}
use Rattle.merge.specs.Withdrawal.{job_after_withdrawal}
use Rattle.master_core.proofs.RecordPlaces.{IsOutAt}
use Rattle.master_core.proofs.Recorded.{phase_at_place}
use Rattle.master_core.proofs.WhileOut.{made_out}
use Rattle.master_core.specs.Master.{IsNumbered, State, merged_record, record_of, state, withdrawn_record}
use Rattle.master_core.specs.Messages.{merge_taking, note_taking, on_decline, on_return, repeat_taking, state_after_merge, state_after_withdrawal, withdrawal_taking}

-- to put in the part of a spawn that is out is to change the record at its place
pub put_there : (w : State) (p : PartCopy) (at k : ℕ) (r : SpawnRec) → IsNumbered w.records → IsOutAt w.records p.spawn_id k r
    → state w.name w.workers (put w.ticket r p at) (slice_set w.records k (merged_record r)) ≡ state_after_merge p at w r
put_there w p at k r numbered own = ap (state w.name w.workers (put w.ticket r p at)) (sym (phase_at_place Merged w.records k r numbered own.there))

-- and it is what comes of the part
pub put_is : (w : State) (p : PartCopy) (at k : ℕ) (r : SpawnRec) → IsOutAt w.records p.spawn_id k r → state_after_merge p at w r ≡ (on_return p at w).next
put_is w p at k r own = sym (ap (λ (t : Taking State). t.next) (made_out (merge_taking p at w) (repeat_taking p w) (record_of w.records p.spawn_id) r own.found own.out))

-- to withdraw a spawn that is out is the same, and what comes of it that its worker declines it
pub free_there : (w : State) (s at k : ℕ) (r : SpawnRec) → IsNumbered w.records → IsOutAt w.records s k r
    → state w.name w.workers (job_after_withdrawal w.ticket r at) (slice_set w.records k (withdrawn_record r)) ≡ state_after_withdrawal at w r
free_there w s at k r numbered own = ap (state w.name w.workers (job_after_withdrawal w.ticket r at)) (sym (phase_at_place Withdrawn w.records k r numbered own.there))

pub free_is : (w : State) (s at k : ℕ) (r : SpawnRec) → IsOutAt w.records s k r → state_after_withdrawal at w r ≡ (on_decline s at w).next
free_is w s at k r own = sym (ap (λ (t : Taking State). t.next) (made_out (withdrawal_taking s at w) (note_taking s w) (record_of w.records s) r own.found own.out))
