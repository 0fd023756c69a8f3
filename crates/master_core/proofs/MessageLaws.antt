-- What a message changes, and that a spawn ends once.
use Rattle.std.proofs.Common.{◌≡◌, ◌∙◌, ◌⊎◌, ℕ, Bool, true, false, Option, Some, None, Result, Ok, Err, IfOk, cond, inl, inr, refl, sym, ap, subst}
use Rattle.std.proofs.lemmas.Bool.{true≢false, eqb-true}
use Rattle.std.specs.Option.{option_map, option_map_or}
use Rattle.ticket_items.proofs.Places.{same_found}
use Rattle.ticket_items.specs.Refusal.{number_of}
use Rattle.ticket_items.specs.declared.refusal.Refusal.{Refusal}
use Rattle.ticket_items.specs.declared.refusal.Refusal.TheVariants.{Declined}
use Rattle.ticket_tree.specs.Part.{PartCopy}
use Rattle.controller.proofs.Answered.{free_answers}
use Rattle.controller.specs.Reply.{is_answer, is_freed}
use Rattle.controller.specs.Step.{Step, Taking, message_step}
use Rattle.controller.specs.declared.body.Body.{Body}
use Rattle.controller.specs.declared.body.Body.TheVariants.{Submit, Return, Abort, Answer}
use Rattle.controller.specs.declared.command.Command.{Command}
use Rattle.controller.specs.declared.command.Command.TheVariants as command
use Rattle.controller.specs.declared.message.Message.{Message}
use Rattle.controller.specs.declared.queue_status.QueueStatus.{QueueStatus}
use Rattle.world_items.specs.declared.reply.Reply.{Reply}
use Rattle.world_items.specs.declared.reply.Reply.TheVariants as reply
use Rattle.spawn.specs.Records.{is_out}
use Rattle.spawn.specs.declared.records.phase.Phase.{Phase}
use Rattle.spawn.specs.declared.records.phase.Phase.TheVariants.{Merged, Withdrawn}
use Rattle.spawn.specs.declared.records.spawn_rec.SpawnRec.{SpawnRec}
use Rattle.master_core.proofs.OrderLaws.{records_stay}
use Rattle.master_core.proofs.Recorded.{found_phase, number_is, phase_if, phase_or, phase_own}
use Rattle.master_core.proofs.WhileOut.{either_so, made_in, made_out, out_record, while_out_so}
use Rattle.master_core.specs.Laws.{AnswerFreesAlone, Frees, InStaysIn, MergedIsIn, Merges, MessageEndsSpawns}
use Rattle.master_core.specs.Master.{State, is_spawn_out, record_of, with_phase}
use Rattle.master_core.specs.Messages.{is_declined, merge_taking, note_taking, on_body, on_decline, on_return, repeat_taking, state_after_merge, take_refusal, take_step, while_out, withdrawal_taking}

-- ---- what a message changes

-- what comes of what a message says
abbrev Comes : Body → ℕ → State → Taking State → Type 0
Comes body at w t =
    (t.next ≡ w)
    ⊎ (((p : PartCopy) × (r : SpawnRec) × (body ≡ Return p) × (record_of w.records p.spawn_id ≡ Some r) × (is_out r ≡ true) × (t ≡ merge_taking p at w r))
    ⊎ ((s : ℕ) × (r : SpawnRec) × (body ≡ Answer command.Abort s (Err (number_of Declined))) × (record_of w.records s ≡ Some r) × (is_out r ≡ true) × (t ≡ withdrawal_taking s at w r)))

part_comes : (out : Bool) (p : PartCopy) (at : ℕ) (w : State) → is_spawn_out w.records p.spawn_id ≡ out → Comes (Return p) at w (on_return p at w)
part_comes false p at w out = inl (ap (λ (t : Taking State). t.next) (made_in (merge_taking p at w) (repeat_taking p w) (record_of w.records p.spawn_id) out))
part_comes true p at w out =
    let o = record_of w.records p.spawn_id in
    let there = out_record o out in
    inr (inl (p, there.0, refl, there.1, there.2, made_out (merge_taking p at w) (repeat_taking p w) o there.0 there.1 there.2))

-- the answer that tells that a spawn is declined
declined_is : (c : Command) (s : ℕ) (told : Result QueueStatus ℕ) → is_declined c told ≡ true → Answer c s told ≡ Answer command.Abort s (Err (number_of Declined))
declined_is command.Submit s told e = cc
declined_is command.Return s told e = cc
declined_is command.Abort s (Ok status) e = cc
declined_is command.Abort s (Err reason) e = ap (λ n. Answer command.Abort s (Err n)) (eqb-true reason (number_of Declined) e)

answer_comes : (says out : Bool) (c : Command) (s : ℕ) (told : Result QueueStatus ℕ) (at : ℕ) (w : State) → is_declined c told ≡ says → is_spawn_out w.records s ≡ out → Comes (Answer c s told) at w (cond says (on_decline s at w) (note_taking s w))
answer_comes false out c s told at w d o = inl refl
answer_comes true false c s told at w d o = inl (ap (λ (t : Taking State). t.next) (made_in (withdrawal_taking s at w) (note_taking s w) (record_of w.records s) o))
answer_comes true true c s told at w d o =
    let found = record_of w.records s in
    let there = out_record found o in
    inr (inr (s, there.0, declined_is c s told d, there.1, there.2, made_out (withdrawal_taking s at w) (note_taking s w) found there.0 there.1 there.2))

comes : (body : Body) (at : ℕ) (w : State) → Comes body at w (on_body body at w)
comes (Submit p) at w = inl refl
comes (Return p) at w = part_comes (is_spawn_out w.records p.spawn_id) p at w refl
comes (Abort s) at w = inl refl
comes (Answer c s told) at w = answer_comes (is_declined c told) (is_spawn_out w.records s) c s told at w refl refl

-- a master after a message
abbrev Changes : Message → ℕ → State → State → Type 0
Changes m at w later = (later ≡ w) ⊎ (Merges m at w later ⊎ Frees m at w later)

changed_either : (refusal : Option Refusal) (m : Message) (at : ℕ) (w : State) → take_refusal m w ≡ refusal → Changes m at w (message_step w.name m at refusal w (on_body m.body at w)).next
changed_either (Some e) m at w refused = inl refl
changed_either None m at w none =
    elim (comes m.body at w) [
      | inl same ↦ inl same
      | inr ends ↦
          elim ends [
            | inl put ↦
                let step = free_answers w.name m at (take_refusal m w) w (on_body m.body at w) (merge_taking put.0 at w put.1) none put.5 in
                inr (inl (put.0, put.1, put.2, none, put.3, put.4, ap (λ (s : Step State Message). s.reply) step, ap (λ (t : Taking State). t.next) put.5))
            | inr free ↦
                let step = free_answers w.name m at (take_refusal m w) w (on_body m.body at w) (withdrawal_taking free.0 at w free.1) none free.5 in
                inr (inr (free.0, free.1, free.2, none, free.3, free.4, ap (λ (s : Step State Message). s.reply) step, ap (λ (t : Taking State). t.next) free.5))
          ]
    ]

pub message_ends_spawns : MessageEndsSpawns
message_ends_spawns m at w = changed_either (take_refusal m w) m at w refl

pub answer_frees_alone : AnswerFreesAlone
answer_frees_alone m at w is told =
    elim (message_ends_spawns m at w) [
      | inl same ↦ same
      | inr ends ↦
          elim ends [
            | inl put ↦ absurd (true≢false (sym is ∙ ap is_answer put.2))
            | inr free ↦ absurd (true≢false (subst (λ r. IfOk r (λ q. is_freed q ≡ false)) free.6 told))
          ]
    ]

-- ---- ended once

-- once a spawn is merged it isn't out
in_once : (p : PartCopy) (at : ℕ) (w : State) (r : SpawnRec) → record_of w.records p.spawn_id ≡ Some r → is_spawn_out (state_after_merge p at w r).records p.spawn_id ≡ false
in_once p at w r found =
    ap (λ o. option_map_or is_out o false) (found_phase Merged r.id w.records p.spawn_id ∙ ap (option_map (phase_if Merged r.id)) found) ∙ ap is_out (phase_own Merged r.id r refl)

-- what is out before and not after
abbrev ComesIn : State → State → ℕ → Type 0
ComesIn w later s = (is_spawn_out w.records s ≡ true) × (is_spawn_out later.records s ≡ false)

part_by : (out : Bool) (p : PartCopy) (at : ℕ) (w : State) (r : SpawnRec) (s : ℕ) → record_of w.records p.spawn_id ≡ Some r → is_out r ≡ out → (cond out (merge_taking p at w r) (repeat_taking p w)).reply ≡ reply.Merged s
    → ComesIn w (cond out (merge_taking p at w r) (repeat_taking p w)).next s
part_by false p at w r s found out e = cc
part_by true p at w r s found out e =
    let same : p.spawn_id ≡ s = cc in (
      ap (is_spawn_out w.records) (sym same) ∙ ap (λ o. option_map_or is_out o false) found ∙ out,
      ap (is_spawn_out (state_after_merge p at w r).records) (sym same) ∙ in_once p at w r found,
    )

part_in : (o : Option SpawnRec) (p : PartCopy) (at : ℕ) (w : State) (s : ℕ) → record_of w.records p.spawn_id ≡ o → (while_out (merge_taking p at w) (repeat_taking p w) o).reply ≡ reply.Merged s → ComesIn w (while_out (merge_taking p at w) (repeat_taking p w) o).next s
part_in None p at w s found e = cc
part_in (Some r) p at w s found e = part_by (is_out r) p at w r s found refl e

-- an answer merges none
abbrev MergesNone : ℕ → Taking State → Type 0
MergesNone s t = t.reply ≡ reply.Merged s → ⊥

answer_merges_none : (says : Bool) (n at : ℕ) (w : State) (s : ℕ) → MergesNone s (cond says (on_decline n at w) (note_taking n w))
answer_merges_none says n at w s =
    either_so (MergesNone s) says (on_decline n at w) (note_taking n w) (while_out_so (MergesNone s) (withdrawal_taking n at w) (note_taking n w) (record_of w.records n) (λ r e. cc) (λ e. cc)) (λ e. cc)

comes_in : (body : Body) (at : ℕ) (w : State) (s : ℕ) → (on_body body at w).reply ≡ reply.Merged s → ComesIn w (on_body body at w).next s
comes_in (Submit p) at w s e = cc
comes_in (Abort n) at w s e = cc
comes_in (Answer c n told) at w s e = absurd (answer_merges_none (is_declined c told) n at w s e)
comes_in (Return p) at w s e = part_in (record_of w.records p.spawn_id) p at w s refl e

same_reply : (x y : Reply) → ◌≡◌ {A = Result Reply Refusal} (Ok x) (Ok y) → x ≡ y
same_reply x y e = cc

comes_either : (refusal : Option Refusal) (m : Message) (at : ℕ) (w : State) (s : ℕ) → (message_step w.name m at refusal w (on_body m.body at w)).reply ≡ Ok (reply.Merged s) → ComesIn w (message_step w.name m at refusal w (on_body m.body at w)).next s
comes_either None m at w s e = comes_in m.body at w s (same_reply (on_body m.body at w).reply (reply.Merged s) e)
comes_either (Some r) m at w s e = cc

pub merged_is_in : MergedIsIn
merged_is_in m at w s e = comes_either (take_refusal m w) m at w s e

-- a record that isn't out stays as another changes its phase
in_still : (ph : Phase) (w : State) (s t : ℕ) (r q : SpawnRec) → record_of w.records s ≡ Some r → is_out r ≡ false → record_of w.records t ≡ Some q → is_out q ≡ true → record_of (with_phase ph q.id w.records) s ≡ Some r
in_still ph w s t r q found isn't there out =
    elim (phase_or ph q.id r) [
      | inl own ↦
          let same : s ≡ t = sym (number_is w.records s r found) ∙ own.0 ∙ number_is w.records t q there in
          absurd (true≢false (sym out ∙ ap is_out (same_found q r (record_of w.records s) (ap (record_of w.records) same ∙ there) found) ∙ isn't))
      | inr other ↦ found_phase ph q.id w.records s ∙ ap (option_map (phase_if ph q.id)) found ∙ ap Some other.1
    ]

in_after : (m : Message) (at : ℕ) (w : State) (s : ℕ) (r : SpawnRec) → record_of w.records s ≡ Some r → is_out r ≡ false → record_of (take_step m at w).next.records s ≡ Some r
in_after m at w s r found isn't =
    elim (message_ends_spawns m at w) [
      | inl same ↦ ap (λ (v : State). record_of v.records s) same ∙ found
      | inr ends ↦
          elim ends [
            | inl put ↦ ap (λ (v : State). record_of v.records s) put.7 ∙ in_still Merged w s put.0.spawn_id r put.1 found isn't put.4 put.5
            | inr free ↦ ap (λ (v : State). record_of v.records s) free.7 ∙ in_still Withdrawn w s free.0 r free.1 found isn't free.4 free.5
          ]
    ]

pub in_stays_in : InStaysIn
in_stays_in w s r found isn't = (λ o at. records_stay o at w s r found, λ m at. in_after m at w s r found isn't)
