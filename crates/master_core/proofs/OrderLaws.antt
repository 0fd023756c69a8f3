-- What a master may change, and what an order changes and sends.
use Rattle.std.proofs.Common.{◌≡◌, ℕ, true, false, Option, Some, None, Ok, refl, sym, ap, subst}
use Rattle.std.specs.Option.{option_map, option_map_or}
use Rattle.ticket_items.specs.declared.refusal.Refusal.{Refusal}
use Rattle.controller.specs.Step.{Step, unless_refused}
use Rattle.controller.specs.declared.message.Message.{Message}
use Rattle.spawn.specs.Records.{is_out}
use Rattle.spawn.specs.declared.records.spawn_rec.SpawnRec.{SpawnRec}
use Rattle.master_core.proofs.Recorded.{found_last, found_still}
use Rattle.master_core.proofs.Refusals.{done_order, edit_free, resend_free, withdraw_free}
use Rattle.master_core.specs.Laws.{AbortIsOfRecord, EditIsOfHeld, NothingIsSent, SubmitIsOfRecord}
use Rattle.world_items.specs.declared.reply.Reply.TheVariants as reply
use Rattle.master_core.specs.Master.{IsConsistent, State, next_number, record_of}
use Rattle.spawn.specs.Table.{is_masters}
use Rattle.master_core.specs.Orders.{abort_of, allowed_step, next_record, order_refusal, order_step, spawn_sent, spawn_to_give_up, submit_of}
use Rattle.world_items.specs.declared.master_order.Order.{Order}
use Rattle.world_items.specs.declared.master_order.Order.TheVariants as order

-- ---- what may be changed

pub edit_is_of_held : EditIsOfHeld
edit_is_of_held w e none = ap (λ o. option_map_or is_masters o false) (edit_free e w none).held

-- ---- records

ordered_still : (o : Order) (at : ℕ) (w : State) (s : ℕ) (r : SpawnRec) → record_of w.records s ≡ Some r → record_of (allowed_step o at w).next.records s ≡ Some r
ordered_still (order.Edit e) at w s r found = found
ordered_still (order.Spawn node worker copies) at w s r found = found_still w.records (next_record w node worker copies at) s r found
ordered_still (order.Resend t) at w s r found = found
ordered_still (order.Withdraw t) at w s r found = found

still_either : (refusal : Option Refusal) (o : Order) (at : ℕ) (w : State) (s : ℕ) (r : SpawnRec) → record_of w.records s ≡ Some r → record_of (unless_refused refusal w (allowed_step o at w)).next.records s ≡ Some r
still_either None o at w s r found = ordered_still o at w s r found
still_either (Some e) o at w s r found = found

-- an order changes the record of no spawn
pub records_stay : (o : Order) (at : ℕ) (w : State) (s : ℕ) (r : SpawnRec) → record_of w.records s ≡ Some r → record_of (order_step o at w).next.records s ≡ Some r
records_stay o at w s r found = still_either (order_refusal o w) o at w s r found

-- ---- what goes out

-- a step sends what is made of the record of a spawn
abbrev pub Sends : State → ℕ → Step State Message → Type 0
Sends w s step =
    (r : SpawnRec) × (record_of step.next.records s ≡ Some r) × (is_out r ≡ true)
    × (step.sent ≡ Some (submit_of w.name step.next.ticket r))

sent_again : (o : Option SpawnRec) (s : ℕ) (w : State) → record_of w.records s ≡ o
    → option_map_or is_out o false ≡ true
    → Sends w s (record { reply = Ok (reply.Sent s); sent = option_map (submit_of w.name w.ticket) o; next = w })
sent_again None s w found out = cc
sent_again (Some r) s w found out = (r, found, out, refl)

same_spawn : (s t : ℕ) → Some s ≡ Some t → s ≡ t
same_spawn s t e = cc

pub submits : (o : Order) (at : ℕ) (w : State) (s : ℕ) → IsConsistent w → order_refusal o w ≡ None → spawn_sent o w ≡ Some s → Sends w s (allowed_step o at w)
submits (order.Edit e) at w s kept none sent = cc
submits (order.Spawn node worker copies) at w s kept none sent =
    let new : SpawnRec = next_record w node worker copies at in
    subst (λ n. Sends w n (allowed_step (order.Spawn node worker copies) at w)) (same_spawn (next_number w.records) s sent)
    (new, found_last w.records new kept.numbered refl, refl, refl)
submits (order.Resend t) at w s kept none sent =
    subst (λ n. Sends w n (allowed_step (order.Resend t) at w)) (same_spawn t s sent)
    (sent_again (record_of w.records t) t w refl (resend_free w t none))
submits (order.Withdraw t) at w s kept none sent = cc

pub submit_is_of_record : SubmitIsOfRecord
submit_is_of_record o at w s kept none sent = subst (Sends w s) (sym (done_order o at w none)) (submits o at w s kept none sent)

-- what asks for it
abbrev pub Asks : State → ℕ → Option Message → Type 0
Asks w s sent =
    (r : SpawnRec) × (record_of w.records s ≡ Some r) × (is_out r ≡ true)
    × (sent ≡ Some (abort_of w.name r))

asked : (o : Option SpawnRec) (s : ℕ) (w : State) → record_of w.records s ≡ o
    → option_map_or is_out o false ≡ true → Asks w s (option_map (abort_of w.name) o)
asked None s w found out = cc
asked (Some r) s w found out = (r, found, out, refl)

pub asks : (o : Order) (at : ℕ) (w : State) (s : ℕ) → order_refusal o w ≡ None → spawn_to_give_up o ≡ Some s → Asks w s (allowed_step o at w).sent
asks (order.Edit e) at w s none is = cc
asks (order.Spawn node worker copies) at w s none is = cc
asks (order.Resend t) at w s none is = cc
asks (order.Withdraw t) at w s none is =
    subst (λ n. Asks w n (allowed_step (order.Withdraw t) at w).sent) (same_spawn t s is)
    (asked (record_of w.records t) t w refl (withdraw_free w t none))

pub abort_is_of_record : AbortIsOfRecord
abort_is_of_record o at w s none is = subst (λ (step : Step State Message). Asks w s step.sent) (sym (done_order o at w none)) (asks o at w s none is)

unsent : (refusal : Option Refusal) (o : Order) (at : ℕ) (w : State) → spawn_sent o w ≡ None → spawn_to_give_up o ≡ None → (unless_refused refusal w (allowed_step o at w)).sent ≡ None
unsent (Some e) o at w none unasked = refl
unsent None (order.Edit e) at w none unasked = refl
unsent None (order.Spawn node worker copies) at w none unasked = cc
unsent None (order.Resend s) at w none unasked = cc
unsent None (order.Withdraw s) at w none unasked = cc

pub nothing_is_sent : NothingIsSent
nothing_is_sent o at w none unasked = unsent (order_refusal o w) o at w none unasked
