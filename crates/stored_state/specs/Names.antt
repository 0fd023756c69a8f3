-- A step changes no name: not a controller's, nor those that it knows.
use Rattle.std.proofs.Common.{◌≡◌, ℕ, Option, Some, None, refl, ap}
use Rattle.ticket_items.specs.declared.refusal.Refusal.{Refusal}
use Rattle.controller.specs.Step.{Step, Taking, message_step, unless_refused}
use Rattle.controller.specs.declared.body.Body.{Body}
use Rattle.controller.specs.declared.body.Body.TheVariants.{Submit, Return, Abort, Answer}
use Rattle.controller.specs.declared.message.Message.{Message}
use Rattle.master_core.proofs.WhileOut.{either_so, while_out_so}
use Rattle.master_core.specs.Master as master
use Rattle.master_core.specs.Messages as master_messages
use Rattle.master_core.specs.Orders as master_orders
use Rattle.world_items.specs.declared.master_order.Order as master_order
use Rattle.world_items.specs.declared.master_order.Order.TheVariants as order
use Rattle.worker_core.proofs.MessageLaws.{entries_alone}
use Rattle.worker_core.specs.Worker as worker
use Rattle.worker_core.specs.Messages as worker_messages
use Rattle.worker_core.specs.Orders as worker_orders
use Rattle.world_items.specs.declared.worker_order.Order as worker_order
use Rattle.world_items.specs.declared.worker_order.Order.TheVariants as to_worker
use Rattle.master_core.specs.Messages.{take_step as taken_by_master}
use Rattle.worker_core.specs.Messages.{take_step as taken_by_worker}

-- ---- the master

-- the names that a master has after a step are those that it had
pub record HasNames (old next : master.State) : Type 0 where
  pub own : next.name ≡ old.name
  pub workers : next.workers ≡ old.workers

same : (m : master.State) → HasNames m m
same m = record { own = refl; workers = refl }

pub ordered_names : (o : master_order.Order) (at : ℕ) (m : master.State) → HasNames m (master_orders.allowed_step o at m).next
ordered_names (order.Edit e) at m = record { own = refl; workers = refl }
ordered_names (order.Spawn node to rw) at m = record { own = refl; workers = refl }
ordered_names (order.Resend s) at m = same m
ordered_names (order.Withdraw s) at m = same m

taken_names : (body : Body) (at : ℕ) (m : master.State) → HasNames m (master_messages.on_body body at m).next
taken_names (Submit p) at m = same m
taken_names (Return p) at m =
    while_out_so (λ t. HasNames m t.next) (master_messages.merge_taking p at m) (master_messages.repeat_taking p m) (master.record_of m.records p.spawn_id) (λ r. record { own = refl; workers = refl }) (same m)
taken_names (Abort s) at m = same m
taken_names (Answer c s told) at m =
    either_so (λ t. HasNames m t.next) (master_messages.is_declined c told) (master_messages.on_decline s at m) (master_messages.note_taking s m)
    (while_out_so (λ t. HasNames m t.next) (master_messages.withdrawal_taking s at m) (master_messages.note_taking s m) (master.record_of m.records s) (λ r. record { own = refl; workers = refl }) (same m))
    (same m)

if_refused : (why : Option Refusal) (message : Message) (at : ℕ) (m : master.State) (t : Taking master.State) → HasNames m t.next → HasNames m (message_step m.name message at why m t).next
if_refused (Some e) message at m t names = same m
if_refused None message at m t names = names

pub taken_by_master_names : (message : Message) (at : ℕ) (m : master.State) → HasNames m (taken_by_master message at m).next
taken_by_master_names message at m = if_refused (master_messages.take_refusal message m) message at m (master_messages.on_body message.body at m) (taken_names message.body at m)

unless_so : (why : Option Refusal) (m : master.State) (step : Step master.State Message) → HasNames m step.next → HasNames m (unless_refused why m step).next
unless_so (Some e) m step names = same m
unless_so None m step names = names

pub ordered_by_master_names : (o : master_order.Order) (at : ℕ) (m : master.State) → HasNames m (master_orders.order_step o at m).next
ordered_by_master_names o at m = unless_so (master_orders.order_refusal o m) m (master_orders.allowed_step o at m) (ordered_names o at m)

-- ---- a worker

pub record HasItsNames (old next : worker.State) : Type 0 where
  pub own : next.name ≡ old.name
  pub masters : next.master ≡ old.master

pub worker_ordered_names : (o : worker_order.Order) (at : ℕ) (w : worker.State) → HasItsNames w (worker_orders.allowed_step o at w).next
worker_ordered_names (to_worker.Edit s e) at w = record { own = refl; masters = refl }
worker_ordered_names (to_worker.Finish s how) at w = record { own = refl; masters = refl }
worker_ordered_names (to_worker.Resend s) at w = record { own = refl; masters = refl }

if_worker_refused : (why : Option Refusal) (message : Message) (at : ℕ) (w : worker.State) (t : Taking worker.State) → t.next ≡ record w { entries = t.next.entries } → HasItsNames w (message_step w.name message at why w t).next
if_worker_refused (Some e) message at w t alone = record { own = refl; masters = refl }
if_worker_refused None message at w t alone = record { own = ap (λ (v : worker.State). v.name) alone; masters = ap (λ (v : worker.State). v.master) alone }

pub taken_by_worker_names : (message : Message) (at : ℕ) (w : worker.State) → HasItsNames w (taken_by_worker message at w).next
taken_by_worker_names message at w = if_worker_refused (worker_messages.take_refusal message w) message at w (worker_messages.on_body message.body at w) (entries_alone message.body at w)

unless_worker : (why : Option Refusal) (w : worker.State) (step : Step worker.State Message) → HasItsNames w step.next → HasItsNames w (unless_refused why w step).next
unless_worker (Some e) w step names = record { own = refl; masters = refl }
unless_worker None w step names = names

pub ordered_by_worker_names : (o : worker_order.Order) (at : ℕ) (w : worker.State) → HasItsNames w (worker_orders.order_step o at w).next
ordered_by_worker_names o at w = unless_worker (worker_orders.order_refusal o w.entries) w (worker_orders.allowed_step o at w) (worker_ordered_names o at w)

-- ---- a controller's own name

pub master_order_names : (o : master_order.Order) (at : ℕ) (m : master.State) → (master_orders.order_step o at m).next.name ≡ m.name
master_order_names o at m = (ordered_by_master_names o at m).own

pub master_take_names : (message : Message) (at : ℕ) (m : master.State) → (taken_by_master message at m).next.name ≡ m.name
master_take_names message at m = (taken_by_master_names message at m).own

pub worker_order_names : (o : worker_order.Order) (at : ℕ) (w : worker.State) → (worker_orders.order_step o at w).next.name ≡ w.name
worker_order_names o at w = (ordered_by_worker_names o at w).own

pub worker_take_names : (message : Message) (at : ℕ) (w : worker.State) → (taken_by_worker message at w).next.name ≡ w.name
worker_take_names message at w = (taken_by_worker_names message at w).own
