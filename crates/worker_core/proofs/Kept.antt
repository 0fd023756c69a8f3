-- What always holds of a worker holds after an order and after a message.
use Rattle.std.proofs.Common.{◌≡◌, ℕ, ◌||◌, Bool, true, false, cond, List, [], ◌∷◌, Option, Some, None, IfSome, Result, Ok, Err, OnOk, OnErr, is_some, refl, sym, ap, ◌∙◌, subst}
use Rattle.std.proofs.lemmas.Bool.{true≢false}
use Rattle.std.proofs.lemmas.List.{map-append}
use Rattle.std.proofs.lemmas.List.Elements.{All-push}
use Rattle.std.specs.Option.{option_map, option_map_or}
use Rattle.ticket_items.proofs.Places.{is_some-find}
use Rattle.ticket_items.specs.declared.edit.Edit.{Edit}
use Rattle.ticket_items.specs.declared.refusal.Refusal.{Refusal}
use Rattle.ticket_items.specs.declared.refusal.Refusal.TheVariants.{BadPart, NotOpen}
use Rattle.ticket_rows.specs.Copies.{with_copies}
use Rattle.ticket_rows.specs.Ticket.{IsValid, unless}
use Rattle.ticket_tree.proofs.PartEdits.{part_edit_is_valid}
use Rattle.ticket_tree.specs.Part.{PartCopy, edited_part, is_sound}
use Rattle.controller.specs.declared.body.Body.{Body}
use Rattle.controller.specs.declared.body.Body.TheVariants.{Submit, Return, Abort, Answer}
use Rattle.controller.specs.Step.{Step, message_step, unless_refused}
use Rattle.controller.specs.declared.done.Done.{Done as Did}
use Rattle.controller.specs.declared.message.Message.{Message}
use Rattle.controller.specs.declared.queue_status.QueueStatus.{QueueStatus}
use Rattle.worker_core.proofs.AtNumber.{All-at_number, All-each_at_number, any_number, distinct-push, found_holds, numbers_stay}
use Rattle.worker_core.proofs.Closing.{aborted_number, aborted_shut, closed_kept, closed_number}
use Rattle.worker_core.proofs.EditedPart.{edited_sound, ending_free, root_ended}
use Rattle.worker_core.proofs.Refusals.{body_free, edit_free, of_open, open_free, ordered_on}
use Rattle.worker_core.specs.Laws.{MessageIsKept, OrderIsKept}
use Rattle.worker_core.specs.Messages.{IsValidBody, abort_taking, aborted_entry, body_refusal, decline_taking, entry_taking, on_answer, on_body, repeat_taking, take_refusal, take_step}
use Rattle.worker_core.specs.Numbers.{are_distinct_numbers, has_number}
use Rattle.worker_core.specs.Orders.{Does, allowed_step, edit_refusal, edited_entry, end_edit, ended_part, finished_entry, order_refusal}
use Rattle.worker_core.specs.Worker.{IsConsistent, IsKeptEntry, IsKeptPart, State, closed_entry, declined_entry, entry_of, has_ended_so, is_of, is_open, is_open_stage, keeps_part, new_entry, numbers, open_part, state}
use Rattle.world_items.specs.declared.end.End.TheVariants.{Aborted}
use Rattle.world_items.specs.declared.end.End.{End}
use Rattle.worker_core.specs.declared.entry.Entry.{Entry}
use Rattle.world_items.specs.declared.worker_order.Order.{Order}
use Rattle.world_items.specs.declared.worker_order.Order.TheVariants as order
use Rattle.worker_core.specs.declared.stage.Stage.{Stage}
use Rattle.worker_core.specs.declared.stage.Stage.TheVariants.{Open, Done, Closed, Declined}

-- the spawn's number of an entry
abbrev pub number_of : Entry → ℕ
number_of e = e.spawn_id

-- ---- one entry

open_ended : (stage : Stage) (p : PartCopy) → is_open_stage stage ≡ true → has_ended_so stage p ≡ true
open_ended Open p e = refl
open_ended (Done how) p e = absurd (true≢false (sym e))
open_ended (Closed how) p e = absurd (true≢false (sym e))
open_ended Declined p e = absurd (true≢false (sym e))

open_keeps : (stage : Stage) → is_open_stage stage ≡ true → keeps_part stage ≡ true
open_keeps Open e = refl
open_keeps (Done how) e = refl
open_keeps (Closed how) e = absurd (true≢false (sym e))
open_keeps Declined e = absurd (true≢false (sym e))

-- the part of an entry
pub kept_part : (x : Entry) (p : PartCopy) → x.part ≡ Some p → IsKeptEntry x → IsKeptPart x p
kept_part x p has kept = subst (λ o. IfSome o (IsKeptPart x)) has kept.part

-- an entry that keeps a part and has one that is kept
with_part : (x : Entry) (p : PartCopy) → x.part ≡ Some p → keeps_part x.phase ≡ true → IsKeptPart x p → IsKeptEntry x
with_part x p has keeps own = record { held = ap is_some has ∙ sym keeps; part = subst (λ o. IfSome o (IsKeptPart x)) (sym has) own }

kept_edit : (e : Edit) (at : ℕ) (x : Entry) → IsKeptEntry x → edit_refusal e x ≡ None → IsKeptEntry (edited_entry e at x)
kept_edit e at x kept none =
    let free = edit_free e x none in
    let p = free.part in
    let of = of_open x p free.opened in
    let own = kept_part x p of.1 kept in
    with_part (edited_entry e at x) (edited_part e at p) (ap (option_map (edited_part e at)) of.1) (open_keeps x.phase of.0)
    (record {
      own = own.own;
      valid = part_edit_is_valid e at p own.valid free.plain free.free;
      sound = edited_sound e at p free.plain free.free ∙ own.sound;
      ended = open_ended x.phase (edited_part e at p) of.0;
    })

kept_finish : (how : End) (at : ℕ) (x : Entry) → IsKeptEntry x → unless (is_some (open_part x)) NotOpen ≡ None → IsKeptEntry (finished_entry how at x)
kept_finish how at x kept none =
    let on = open_free x none in
    let p : PartCopy = on.0 in
    let of = of_open x p on.1 in
    let own = kept_part x p of.1 kept in
    let free = ending_free p how own.valid in
    with_part (finished_entry how at x) (ended_part how at p) (ap (option_map (ended_part how at)) of.1) refl
    (record {
      own = own.own;
      valid = part_edit_is_valid (end_edit p how) at p own.valid refl free;
      sound = edited_sound (end_edit p how) at p refl free ∙ own.sound;
      ended = root_ended p how at own.valid;
    })

-- ---- orders

pub kept_ordered : (o : Order) (at : ℕ) (w : State) → IsConsistent w → order_refusal o w.entries ≡ None → IsConsistent (allowed_step o at w).next
kept_ordered (order.Edit s e) at w kept none =
    let on = ordered_on (order.Edit s e) w.entries none in
    let own : IsKeptEntry on.0 = found_holds IsKeptEntry (is_of s) w.entries on.0 on.1 kept.each in
    record {
      apart = kept.apart;
      once = ap are_distinct_numbers (numbers_stay number_of s (edited_entry e at) w.entries (λ y. refl)) ∙ kept.once;
      each = All-at_number IsKeptEntry number_of s (edited_entry e at) w.entries on.0 kept.once on.1 (kept_edit e at on.0 own on.2) kept.each;
    }
kept_ordered (order.Finish s how) at w kept none =
    let on = ordered_on (order.Finish s how) w.entries none in
    let own : IsKeptEntry on.0 = found_holds IsKeptEntry (is_of s) w.entries on.0 on.1 kept.each in
    record {
      apart = kept.apart;
      once = ap are_distinct_numbers (numbers_stay number_of s (finished_entry how at) w.entries (λ y. refl)) ∙ kept.once;
      each = All-at_number IsKeptEntry number_of s (finished_entry how at) w.entries on.0 kept.once on.1 (kept_finish how at on.0 own on.2) kept.each;
    }
kept_ordered (order.Resend s) at w kept none = kept

order_either : (refusal : Option Refusal) (o : Order) (at : ℕ) (w : State) → order_refusal o w.entries ≡ refusal → IsConsistent w → IsConsistent (unless_refused refusal w (allowed_step o at w)).next
order_either None o at w e kept = kept_ordered o at w kept e
order_either (Some r) o at w e kept = kept

pub order_is_kept : OrderIsKept
order_is_kept o at w kept = order_either (order_refusal o w.entries) o at w refl kept

-- a worker that does an order is kept
pub kept_done : (result : Result Did Refusal) (o : Order) (at : ℕ) (w new : State) → Does o at w result new → IsConsistent w → IsConsistent new
kept_done (Ok done) o at w new does kept = subst IsConsistent (sym (ap (λ (s : Step State Message). s.next) does.ok)) (order_is_kept o at w kept)
kept_done (Err e) o at w new does kept = subst IsConsistent (sym does.err) kept

-- ---- messages

-- a number of which there is no entry
pub no_number : (entries : List Entry) (s : ℕ) → entry_of entries s ≡ None → has_number s (numbers entries) ≡ false
no_number entries s none = sym (any_number number_of s entries) ∙ sym (is_some-find (is_of s) entries) ∙ ap is_some none

sound_part : (b : Bool) → unless (false || b) BadPart ≡ None → b ≡ true
sound_part true e = refl
sound_part false e = cc

submit_kept : (found : Option Entry) (p : PartCopy) (at : ℕ) (w : State) → entry_of w.entries p.spawn_id ≡ found → IsValid (with_copies p.rows p.rw p.ro) → IsConsistent w → unless (is_some found || is_sound p) BadPart ≡ None
    → IsConsistent (option_map_or (repeat_taking p.spawn_id w) found (entry_taking p at w)).next
submit_kept (Some x) p at w e valid kept none = record { apart = kept.apart; once = kept.once; each = kept.each }
submit_kept None p at w e valid kept none =
    record {
      apart = kept.apart;
      once = ap are_distinct_numbers (map-append number_of w.entries (new_entry p at ∷ [])) ∙ distinct-push p.spawn_id (numbers w.entries) kept.once (no_number w.entries p.spawn_id e);
      each = All-push IsKeptEntry w.entries (new_entry p at) kept.each (record { held = refl; part = record { own = refl; valid = valid; sound = sound_part (is_sound p) none; ended = refl } });
    }

-- an open entry has a part
opened_part : (o : Option PartCopy) (x : Entry) → x.part ≡ o → is_some o ≡ true → is_open x ≡ true → unless (is_some (open_part x)) NotOpen ≡ None
opened_part (Some p) x has some open' = ap (λ b. unless (is_some (cond b x.part None)) NotOpen) open' ∙ ap (λ o. unless (is_some o) NotOpen) has
opened_part None x has some open' = absurd (true≢false (sym some))

aborted_by : (b : Bool) (at : ℕ) (x : Entry) → is_open x ≡ b → IsKeptEntry x → IsKeptEntry (aborted_entry at x)
aborted_by true at x open' kept =
    subst (λ b. IsKeptEntry (cond b (finished_entry Aborted at x) x)) (sym open') (kept_finish Aborted at x kept (opened_part x.part x refl (kept.held ∙ open_keeps x.phase open') open'))
aborted_by false at x shut kept = subst IsKeptEntry (sym (aborted_shut at x shut)) kept

pub aborted_kept : (at : ℕ) (x : Entry) → IsKeptEntry x → IsKeptEntry (aborted_entry at x)
aborted_kept at x kept = aborted_by (is_open x) at x refl kept

abort_kept : (found : Option Entry) (s at : ℕ) (w : State) → entry_of w.entries s ≡ found → IsConsistent w → IsConsistent (option_map_or (abort_taking s at w) found (decline_taking s at w)).next
abort_kept (Some x) s at w e kept =
    record {
      apart = kept.apart;
      once = ap are_distinct_numbers (numbers_stay number_of s (aborted_entry at) w.entries (aborted_number at)) ∙ kept.once;
      each = All-each_at_number IsKeptEntry number_of s (aborted_entry at) w.entries (λ y is own. aborted_kept at y own) kept.each;
    }
abort_kept None s at w e kept =
    record {
      apart = kept.apart;
      once = ap are_distinct_numbers (map-append number_of w.entries (declined_entry s at ∷ [])) ∙ distinct-push s (numbers w.entries) kept.once (no_number w.entries s e);
      each = All-push IsKeptEntry w.entries (declined_entry s at) kept.each (record { held = refl; part = tt });
    }

answer_kept : (response : Result QueueStatus ℕ) (s : ℕ) (w : State) → IsConsistent w → IsConsistent (on_answer s response w).next
answer_kept (Err reason) s w kept = record { apart = kept.apart; once = kept.once; each = kept.each }
answer_kept (Ok status) s w kept =
    record {
      apart = kept.apart;
      once = ap are_distinct_numbers (numbers_stay number_of s closed_entry w.entries closed_number) ∙ kept.once;
      each = All-each_at_number IsKeptEntry number_of s closed_entry w.entries (λ e own. closed_kept e) kept.each;
    }

pub kept_taken : (body : Body) (at : ℕ) (w : State) → IsValidBody body → IsConsistent w → body_refusal body w.entries ≡ None → IsConsistent (on_body body at w).next
kept_taken (Submit p) at w valid kept none = submit_kept (entry_of w.entries p.spawn_id) p at w refl valid kept none
kept_taken (Return p) at w valid kept none = record { apart = kept.apart; once = kept.once; each = kept.each }
kept_taken (Abort s) at w valid kept none = abort_kept (entry_of w.entries s) s at w refl kept
kept_taken (Answer c s response) at w valid kept none = answer_kept response s w kept

message_either : (refusal : Option Refusal) (m : Message) (at : ℕ) (w : State) → take_refusal m w ≡ refusal → (refusal ≡ None → IsValidBody m.body) → IsConsistent w → IsConsistent (message_step w.name m at refusal w (on_body m.body at w)).next
message_either None m at w e valid kept = kept_taken m.body at w (valid refl) kept (body_free m w e)
message_either (Some r) m at w e valid kept = kept

pub message_is_kept : MessageIsKept
message_is_kept m at w valid kept = message_either (take_refusal m w) m at w refl (λ _. valid) kept

-- a worker whose entries are what a message makes of them, or that had no memory for it, is kept
pub kept_told : {X E : Type 0} (result : Result X E) (m : Message) (at : ℕ) (w : State) (entries : List Entry) → OnOk result (state w.name w.master entries ≡ (take_step m at w).next) → OnErr result (entries ≡ w.entries) → OnOk result (take_refusal m w ≡ None → IsValidBody m.body) → IsConsistent w
    → IsConsistent (state w.name w.master entries)
kept_told (Ok x) m at w entries made stays valid kept = subst IsConsistent (sym made) (message_either (take_refusal m w) m at w refl valid kept)
kept_told (Err e) m at w entries made stays valid kept = subst (λ es. IsConsistent (state w.name w.master es)) (sym stays) kept
