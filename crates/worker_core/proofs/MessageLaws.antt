-- What a message changes, and what it is taken as.
use Rattle.std.proofs.Common.{◌≡◌, ℕ, ◌==◌, ◌&&◌, ◌||◌, Bool, true, false, cond, List, [], ◌∷◌, ◌++◌, Option, Some, None, Result, Ok, Err, is_none, is_ok, is_some, refl, sym, ap, ◌∙◌}
use Rattle.std.proofs.lemmas.Bool.{eq-eqb, eqb-true}
use Rattle.std.specs.Option.{option_map, option_map_or}
use Rattle.ticket_items.specs.Refusal.{number_of}
use Rattle.ticket_items.specs.declared.refusal.Refusal.{Refusal}
use Rattle.ticket_items.specs.declared.refusal.Refusal.TheVariants as refusals
use Rattle.ticket_items.specs.declared.refusal.Refusal.TheVariants.{BadPart, WrongMessage, WrongSender}
use Rattle.ticket_rows.specs.Ticket.{first_of, unless}
use Rattle.ticket_tree.specs.Part.{PartCopy, is_sound}
use Rattle.controller.proofs.Answered.{answering_stays, free_answers}
use Rattle.controller.specs.Reply.{answer_to}
use Rattle.controller.specs.Step.{Step, message_step}
use Rattle.controller.specs.declared.body.Body.{Body}
use Rattle.controller.specs.declared.body.Body.TheVariants.{Submit, Return, Abort, Answer}
use Rattle.controller.specs.declared.message.Message.{Message}
use Rattle.controller.specs.declared.queue_status.QueueStatus.{QueueStatus}
use Rattle.controller.specs.declared.queue_status.QueueStatus.TheVariants as queue
use Rattle.worker_core.proofs.AtNumber.{find-at_number, find-behind, find-push}
use Rattle.worker_core.proofs.Closing.{aborted_number, aborted_shut, closed_declined, declined_shut, found_aborted, found_closed, told_closed}
use Rattle.worker_core.proofs.OrderLaws.{order_keeps_entries}
use Rattle.worker_core.proofs.Refusals.{for_free, from_free, is_from}
use Rattle.worker_core.specs.Laws.{AbortIsDeclined, DeclinedStays, MessageKeepsEntries, RefusalChangesNothing, SubmitIsAgain, SubmitIsTaken, entry_after}
use Rattle.worker_core.specs.Messages.{abort_taking, aborted_entry, body_refusal, decline_taking, entry_taking, on_answer, on_body, on_submit, repeat_taking, take_refusal, take_step}
use Rattle.worker_core.specs.Worker.{State, closed_entry, declined_entry, entry_of, is_declined, is_of, new_entry, response_in, response_of_stage, with_entry}
use Rattle.worker_core.specs.declared.entry.Entry.{Entry}

-- ---- entries

push_either : (found : Option Entry) (p : PartCopy) (at : ℕ) (w : State) (s : ℕ) (e : Entry) → entry_of w.entries s ≡ Some e → entry_of (option_map_or (repeat_taking p.spawn_id w) found (entry_taking p at w)).next.entries s ≡ Some e
push_either None p at w s e here = find-push (is_of s) w.entries (new_entry p at ∷ []) e here
push_either (Some x) p at w s e here = here

abort_either : (found : Option Entry) (same : Bool) (t at : ℕ) (w : State) (s : ℕ) (e : Entry) → entry_of w.entries t ≡ found → (t == s) ≡ same → entry_of w.entries s ≡ Some e
    → entry_of (option_map_or (abort_taking t at w) found (decline_taking t at w)).next.entries s ≡ Some (cond same (aborted_entry at e) e)
abort_either (Some x) same t at w s e there is here = found_aborted same t at w.entries s e is here
abort_either None false t at w s e there is here = find-push (is_of s) w.entries (declined_entry t at ∷ []) e here
abort_either None true t at w s e there is here =
    let one : t ≡ s = eqb-true t s is in
    let none : entry_of w.entries s ≡ None = ap (entry_of w.entries) (sym one) ∙ there in
    absurd (some_none (sym here ∙ none))
  where
    some_none : {X : Type 0} {x : X} → ◌≡◌ {A = Option X} (Some x) None → ⊥
    some_none e = cc

taken_keeps : (body : Body) (at : ℕ) (w : State) (s : ℕ) (e : Entry) → entry_of w.entries s ≡ Some e → entry_of (on_body body at w).next.entries s ≡ Some (entry_after s body at e)
taken_keeps (Submit p) at w s e here = push_either (entry_of w.entries p.spawn_id) p at w s e here
taken_keeps (Return p) at w s e here = here
taken_keeps (Abort t) at w s e here = abort_either (entry_of w.entries t) (t == s) t at w s e refl refl here
taken_keeps (Answer c t (Ok status)) at w s e here = found_closed true (t == s) t w.entries s e refl here
taken_keeps (Answer c t (Err reason)) at w s e here = found_closed false (t == s) t w.entries s e refl here

either_keeps : (refusal : Option Refusal) (m : Message) (at : ℕ) (w : State) (s : ℕ) (e : Entry) → entry_of w.entries s ≡ Some e
    → entry_of (message_step w.name m at refusal w (on_body m.body at w)).next.entries s ≡ Some (cond (is_none refusal) (entry_after s m.body at e) e)
either_keeps None m at w s e here = taken_keeps m.body at w s e here
either_keeps (Some r) m at w s e here = here

pub message_keeps_entries : MessageKeepsEntries
message_keeps_entries m at w s e here = either_keeps (take_refusal m w) m at w s e here

-- and nothing else is changed
pub entries_alone : (body : Body) (at : ℕ) (w : State) → (on_body body at w).next ≡ record w { entries = (on_body body at w).next.entries }
entries_alone (Submit p) at w = by (entry_of w.entries p.spawn_id)
  where
    by : (found : Option Entry) → let t = option_map_or (repeat_taking p.spawn_id w) found (entry_taking p at w) in t.next ≡ record w { entries = t.next.entries }
    by None = refl
    by (Some e) = refl
entries_alone (Return p) at w = refl
entries_alone (Abort s) at w = by (entry_of w.entries s)
  where
    by : (found : Option Entry) → let t = option_map_or (abort_taking s at w) found (decline_taking s at w) in t.next ≡ record w { entries = t.next.entries }
    by None = refl
    by (Some e) = refl
entries_alone (Answer c s (Ok status)) at w = refl
entries_alone (Answer c s (Err reason)) at w = refl

-- ---- what is told

new_is_of : (p : PartCopy) (at : ℕ) → entry_of (new_entry p at ∷ []) p.spawn_id ≡ Some (new_entry p at)
new_is_of p at = ap (λ b. cond b (Some (new_entry p at)) None) (eq-eqb p.spawn_id p.spawn_id refl)

declined_is_of : (s at : ℕ) → entry_of (declined_entry s at ∷ []) s ≡ Some (declined_entry s at)
declined_is_of s at = ap (λ b. cond b (Some (declined_entry s at)) None) (eq-eqb s s refl)

-- what is told of the spawn of an entry
pub told_found : (s : ℕ) (entries : List Entry) (e : Entry) → entry_of entries s ≡ Some e → response_in entries s ≡ response_of_stage e.phase
told_found s entries e here = ap (λ o. option_map_or (λ (x : Entry). response_of_stage x.phase) o (Ok queue.Running)) here

-- of a part that is new, of a spawn that is declined, and of one that is given up, as its entry is then
pub told_new : (p : PartCopy) (at : ℕ) (entries : List Entry) → entry_of entries p.spawn_id ≡ None → response_in (entries ++ new_entry p at ∷ []) p.spawn_id ≡ Ok queue.Running
told_new p at entries none = told_found p.spawn_id (entries ++ new_entry p at ∷ []) (new_entry p at) (find-behind (is_of p.spawn_id) entries (new_entry p at ∷ []) none ∙ new_is_of p at)

pub told_declined : (s at : ℕ) (entries : List Entry) → entry_of entries s ≡ None → response_in (entries ++ declined_entry s at ∷ []) s ≡ Err (number_of refusals.Declined)
told_declined s at entries none = told_found s (entries ++ declined_entry s at ∷ []) (declined_entry s at) (find-behind (is_of s) entries (declined_entry s at ∷ []) none ∙ declined_is_of s at)

pub told_aborted : (s at : ℕ) (entries : List Entry) (x : Entry) → entry_of entries s ≡ Some x → response_in (with_entry s (aborted_entry at) entries) s ≡ response_of_stage (aborted_entry at x).phase
told_aborted s at entries x here =
    told_found s (with_entry s (aborted_entry at) entries) (aborted_entry at x) (find-at_number (λ (e : Entry). e.spawn_id) s (aborted_entry at) entries (aborted_number at) ∙ ap (option_map (aborted_entry at)) here)

-- an answer leaves what is told
pub told_answered : (response : Result QueueStatus ℕ) (s : ℕ) (w : State) → (on_answer s response w).response ≡ response_in w.entries s
told_answered (Ok status) s w = told_closed s w.entries
told_answered (Err reason) s w = refl

-- ---- answers

pub refusal_changes_nothing : RefusalChangesNothing
refusal_changes_nothing m at w c s reason says =
    answering_stays w.name m at (take_refusal m w) w (on_body m.body at w) (ap (λ body. (on_body body at w).next) says)

-- ---- a part that came again

pub submit_is_again : SubmitIsAgain
submit_is_again m at w p e says none here =
    let comes = ap (λ body. on_body body at w) says ∙ ap (λ o. option_map_or (repeat_taking p.spawn_id w) o (entry_taking p at w)) here in
    let step = free_answers w.name m at (take_refusal m w) w (on_body m.body at w) (repeat_taking p.spawn_id w e) none comes in
    record {
      state = ap (λ (t : Step State Message). t.next) step;
      reply = ap (λ (t : Step State Message). t.reply) step;
      response = ap (λ (t : Step State Message). t.sent) step ∙ ap (answer_to w.name m at) (told_found p.spawn_id w.entries e here);
    }

-- ---- a part that was taken

submit_has : (found : Option Entry) (p : PartCopy) (at : ℕ) (w : State) → entry_of w.entries p.spawn_id ≡ found
    → (e : Entry) × (entry_of (option_map_or (repeat_taking p.spawn_id w) found (entry_taking p at w)).next.entries p.spawn_id ≡ Some e)
submit_has None p at w none = (new_entry p at, find-behind (is_of p.spawn_id) w.entries (new_entry p at ∷ []) none ∙ new_is_of p at)
submit_has (Some x) p at w here = (x, here)

free_again : (p : PartCopy) (entries : List Entry) (e : Entry) → entry_of entries p.spawn_id ≡ Some e → body_refusal (Submit p) entries ≡ None
free_again p entries e here = ap (λ o. unless (is_some o || is_sound p) BadPart) here

pub submit_is_taken : SubmitIsTaken
submit_is_taken m at w p says none =
    let next : State = record w { entries = (on_submit p at w).next.entries } in
    let step = free_answers w.name m at (take_refusal m w) w (on_body m.body at w) (on_submit p at w) none (ap (λ body. on_body body at w) says) in
    let after : (take_step m at w).next ≡ next = ap (λ (t : Step State Message). t.next) step ∙ entries_alone (Submit p) at w in
    let has = submit_has (entry_of w.entries p.spawn_id) p at w refl in
    let e : Entry = has.0 in (
      e,
      ap (λ (v : State). entry_of v.entries p.spawn_id) after ∙ has.1,
      ap (take_refusal m) after
          ∙ ap (λ b. first_of (unless b WrongMessage ∷ unless (is_from m w) WrongSender ∷ body_refusal m.body next.entries ∷ [])) (for_free m w none)
          ∙ ap (λ b. first_of (None ∷ unless b WrongSender ∷ body_refusal m.body next.entries ∷ [])) (from_free m w none)
          ∙ ap (λ body. first_of (None ∷ None ∷ body_refusal body next.entries ∷ [])) says
          ∙ ap (λ o. first_of (None ∷ None ∷ o ∷ [])) (free_again p next.entries e has.1),
    )

-- ---- a spawn that is declined

pub abort_is_declined : AbortIsDeclined
abort_is_declined m at w s says free none =
    let comes = ap (λ body. on_body body at w) says ∙ ap (λ o. option_map_or (abort_taking s at w) o (decline_taking s at w)) none in
    let step = free_answers w.name m at (take_refusal m w) w (on_body m.body at w) (decline_taking s at w) free comes in
    let new = declined_entry s at in (
      ap (λ (t : Step State Message). t.reply) step,
      (new, ap (λ (t : Step State Message). entry_of t.next.entries s) step ∙ find-behind (is_of s) w.entries (new ∷ []) none ∙ declined_is_of s at, refl),
    )

same_if : (b : Bool) (new old : Entry) → new ≡ old → cond b new old ≡ old
same_if true new old e = e
same_if false new old e = refl

-- a message makes nothing of an entry that was declined
declined_after : (s : ℕ) (body : Body) (at : ℕ) (e : Entry) → is_declined e ≡ true → entry_after s body at e ≡ e
declined_after s (Submit p) at e is = refl
declined_after s (Return p) at e is = refl
declined_after s (Abort t) at e is = same_if (t == s) (aborted_entry at e) e (aborted_shut at e (declined_shut e is))
declined_after s (Answer c t response) at e is = same_if ((t == s) && is_ok response) (closed_entry e) e (closed_declined e is)

pub declined_stays : DeclinedStays
declined_stays w s e here is = (
  λ o at kept.
      let next = order_keeps_entries o at w s e kept here in
      next.1 ∙ ap Some (next.2.finished (declined_shut e is)),
  λ m at.
      message_keeps_entries m at w s e here
      ∙ ap Some (same_if (is_none (take_refusal m w)) (entry_after s m.body at e) e (declined_after s m.body at e is)),
)
