-- What a master sends may be sent: a part, that one is to be given up, or an answer with the number
-- of a refusal.
use Rattle.std.proofs.Common.{◌≡◌, ℕ, List, true, Option, Some, None, refl}
use Rattle.std.specs.Option.{option_map}
use Rattle.std.specs.Prelude.{IfSome}
use Rattle.controller.proofs.Answered.{sends_so}
use Rattle.controller.proofs.Sendable.{answering_sends}
use Rattle.controller.specs.Words.{is_told, may_be_sent}
use Rattle.controller.specs.declared.body.Body.{Body}
use Rattle.controller.specs.declared.body.Body.TheVariants.{Submit, Return, Abort, Answer}
use Rattle.controller.specs.declared.message.Message.{Message}
use Rattle.ticket_rows.specs.Ticket.{Job}
use Rattle.spawn.specs.declared.records.spawn_rec.SpawnRec.{SpawnRec}
use Rattle.master_core.proofs.WhileOut.{either_so, while_out_so}
use Rattle.master_core.specs.Master.{State, record_of}
use Rattle.master_core.specs.Messages.{is_declined, merge_taking, note_taking, on_body, on_decline, repeat_taking, take_refusal, take_step, withdrawal_taking}
use Rattle.master_core.specs.Orders.{abort_of, allowed_step, order_refusal, order_step, submit_of}
use Rattle.world_items.specs.declared.master_order.Order.{Order}
use Rattle.world_items.specs.declared.master_order.Order.TheVariants.{Edit, Spawn, Resend, Withdraw}

-- these may
abbrev pub IsSendable : Option Message → Type 0
IsSendable sent = IfSome sent (λ m. may_be_sent m.body ≡ true)

again : (name : List ℕ) (t : Job) (r : Option SpawnRec) → IsSendable (option_map (submit_of name t) r)
again name t None = tt
again name t (Some r) = refl

asked : (name : List ℕ) (r : Option SpawnRec) → IsSendable (option_map (abort_of name) r)
asked name None = tt
asked name (Some r) = refl

ordered_sends : (o : Order) (at' : ℕ) (w : State) → IsSendable (allowed_step o at' w).sent
ordered_sends (Edit e) at' w = tt
ordered_sends (Spawn node worker rw) at' w = refl
ordered_sends (Resend s) at' w = again w.name w.ticket _
ordered_sends (Withdraw s) at' w = asked w.name _

pub by_order : (o : Order) (at' : ℕ) (w : State) → IsSendable (order_step o at' w).sent
by_order o at' w = sends_so (order_refusal o w) w (allowed_step o at' w) (λ m. may_be_sent m.body ≡ true) (ordered_sends o at' w)

-- what is told is no number of a refusal
taken_told : (body : Body) (at' : ℕ) (w : State) → is_told (on_body body at' w).response ≡ true
taken_told (Submit p) at' w = refl
taken_told (Return p) at' w = while_out_so (λ t. is_told t.response ≡ true) (merge_taking p at' w) (repeat_taking p w) (record_of w.records p.spawn_id) (λ r. refl) refl
taken_told (Abort s) at' w = refl
taken_told (Answer c s told) at' w =
    either_so (λ t. is_told t.response ≡ true) (is_declined c told) (on_decline s at' w) (note_taking s w) (while_out_so (λ t. is_told t.response ≡ true) (withdrawal_taking s at' w) (note_taking s w) (record_of w.records s) (λ r. refl) refl) refl

pub by_message : (m : Message) (at' : ℕ) (w : State) → IsSendable (take_step m at' w).sent
by_message m at' w = answering_sends w.name m at' (take_refusal m w) w (on_body m.body at' w) (taken_told m.body at' w)
