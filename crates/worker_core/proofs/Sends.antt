-- What a worker sends may be sent: a part, or an answer with the number of a refusal.
use Rattle.std.proofs.Common.{◌≡◌, ℕ, List, true, Option, Some, None, Ok, Err, refl}
use Rattle.std.specs.Option.{option_and_then, option_map, option_map_or}
use Rattle.std.specs.Prelude.{IfSome}
use Rattle.ticket_tree.specs.Part.{PartCopy}
use Rattle.controller.proofs.Answered.{sends_so}
use Rattle.controller.proofs.Sendable.{answering_sends}
use Rattle.controller.specs.Words.{is_told, may_be_sent}
use Rattle.controller.specs.declared.body.Body.{Body}
use Rattle.controller.specs.declared.body.Body.TheVariants.{Submit, Return, Abort, Answer}
use Rattle.controller.specs.declared.message.Message.{Message}
use Rattle.controller.specs.declared.queue_status.QueueStatus.TheVariants as queue
use Rattle.worker_core.specs.Messages.{abort_taking, decline_taking, entry_taking, on_answer, on_body, repeat_taking, take_refusal, take_step}
use Rattle.worker_core.specs.Orders.{allowed_step, finished_entry, order_refusal, order_step, part_return, return_of}
use Rattle.worker_core.specs.Worker.{State, entry_of, response_of_stage}
use Rattle.worker_core.specs.declared.entry.Entry.{Entry}
use Rattle.world_items.specs.declared.worker_order.Order.{Order}
use Rattle.world_items.specs.declared.worker_order.Order.TheVariants.{Edit, Finish, Resend}
use Rattle.worker_core.specs.declared.stage.Stage.{Stage}
use Rattle.worker_core.specs.declared.stage.Stage.TheVariants.{Open, Done, Closed, Declined}

-- these may
abbrev pub IsSendable : Option Message → Type 0
IsSendable sent = IfSome sent (λ m. may_be_sent m.body ≡ true)

part_returned : (name master : List ℕ) (at' : ℕ) (p : Option PartCopy) → IsSendable (option_map (part_return name master at') p)
part_returned name master at' None = tt
part_returned name master at' (Some p) = refl

returned : (name master : List ℕ) (f : Entry → Entry) (e : Option Entry) → IsSendable (option_and_then (λ entry. return_of name master (f entry)) e)
returned name master f None = tt
returned name master f (Some e) = let new = f e in part_returned name master new.at new.part

ordered_sends : (o : Order) (at' : ℕ) (w : State) → IsSendable (allowed_step o at' w).sent
ordered_sends (Edit s e) at' w = tt
ordered_sends (Finish s how) at' w = returned w.name w.master (finished_entry how at') (entry_of w.entries s)
ordered_sends (Resend s) at' w = returned w.name w.master (λ entry. entry) (entry_of w.entries s)

pub by_order : (o : Order) (at' : ℕ) (w : State) → IsSendable (order_step o at' w).sent
by_order o at' w = sends_so (order_refusal o w.entries) w (allowed_step o at' w) (λ m. may_be_sent m.body ≡ true) (ordered_sends o at' w)

told_of : (stage : Stage) → is_told (response_of_stage stage) ≡ true
told_of Open = refl
told_of (Done how) = refl
told_of (Closed how) = refl
told_of Declined = refl

told_found : (found : Option Entry) → is_told (option_map_or (λ e. response_of_stage e.phase) found (Ok queue.Running)) ≡ true
told_found None = refl
told_found (Some e) = told_of e.phase

submit_told : (found : Option Entry) (p : PartCopy) (at' : ℕ) (w : State) → is_told (option_map_or (repeat_taking p.spawn_id w) found (entry_taking p at' w)).response ≡ true
submit_told None p at' w = told_found (entry_of (entry_taking p at' w).next.entries p.spawn_id)
submit_told (Some e) p at' w = told_found (entry_of w.entries p.spawn_id)

abort_told : (found : Option Entry) (s at' : ℕ) (w : State) → is_told (option_map_or (abort_taking s at' w) found (decline_taking s at' w)).response ≡ true
abort_told None s at' w = told_found (entry_of (decline_taking s at' w).next.entries s)
abort_told (Some e) s at' w = told_found (entry_of (abort_taking s at' w e).next.entries s)

taken_told : (body : Body) (at' : ℕ) (w : State) → is_told (on_body body at' w).response ≡ true
taken_told (Submit p) at' w = submit_told (entry_of w.entries p.spawn_id) p at' w
taken_told (Return p) at' w = told_found (entry_of w.entries p.spawn_id)
taken_told (Abort s) at' w = abort_told (entry_of w.entries s) s at' w
taken_told (Answer c s (Ok status)) at' w = told_found (entry_of (on_answer s (Ok status) w).next.entries s)
taken_told (Answer c s (Err reason)) at' w = told_found (entry_of w.entries s)

pub by_message : (m : Message) (at' : ℕ) (w : State) → IsSendable (take_step m at' w).sent
by_message m at' w = answering_sends w.name m at' (take_refusal m w) w (on_body m.body at' w) (taken_told m.body at' w)
