-- That memory runs out is no refusal of a worker's order, and what is refused changes nothing.
use Rattle.std.proofs.Common.{◌≡◌, ◌≢◌, ℕ, Bool, true, false, [], ◌∷◌, Option, Some, None, refl}
use Rattle.std.specs.Option.{option_map_or}
use Rattle.std.specs.Prelude.{◌||◌, IfErr, not}
use Rattle.ticket_items.specs.declared.edit.Edit.{Edit}
use Rattle.ticket_items.specs.declared.refusal.Refusal.{Refusal}
use Rattle.ticket_items.specs.declared.refusal.Refusal.TheVariants.{Memory}
use Rattle.ticket_items.specs.declared.refusal.Refusal.TheVariants as refusals
use Rattle.ticket_items.specs.Act.{act_of}
use Rattle.ticket_items.specs.Edit.{is_structural}
use Rattle.ticket_rows.specs.EditRefusal.{later_refusal}
use Rattle.ticket_rows.specs.PartEdit.{part_lookups}
use Rattle.ticket_rows.specs.Ticket.{first_of, unless}
use Rattle.ticket_tree.specs.Part.{PartCopy}
use Rattle.controller.proofs.Answered.{is_idle, replies_so}
use Rattle.controller.proofs.NeverMemory.{IsOther, later, other, test}
use Rattle.controller.specs.Step.{refused_step}
use Rattle.worker_core.specs.Orders as worker_orders
use Rattle.worker_core.specs.Worker as worker
use Rattle.worker_core.specs.declared.entry.Entry.{Entry}
use Rattle.world_items.specs.declared.worker_order.Order as worker_order
use Rattle.world_items.specs.declared.worker_order.Order.TheVariants as to_worker

works : (b c d : Bool) (h : Option Refusal) → IsOther h → IsOther (first_of (unless b refusals.NotForWorkers ∷ unless c refusals.NotInPart ∷ unless d refusals.ReadOnly ∷ h ∷ []))
works false c d h isnt = other refusals.NotForWorkers refl
works true false d h isnt = other refusals.NotInPart refl
works true true false h isnt = other refusals.ReadOnly refl
works true true true (Some e) isnt = isnt
works true true true None isnt = tt

edits : (edit : Edit) (o : Option PartCopy) → IsOther (option_map_or (worker_orders.part_edit_refusal edit) o (Some refusals.NotOpen))
edits edit None = other refusals.NotOpen refl
edits edit (Some p) =
    works (not (is_structural edit)) (worker_orders.is_here edit p || worker_orders.is_to_read edit p) (not (worker_orders.is_to_read edit p)) (later_refusal edit (part_lookups p.rows p.rw)) (later (act_of edit) (part_lookups p.rows p.rw))

resends : (a b : Bool) → IsOther (first_of (unless a refusals.NotDone ∷ unless b refusals.Acknowledged ∷ []))
resends false b = other refusals.NotDone refl
resends true false = other refusals.Acknowledged refl
resends true true = tt

in_work : (o : worker_order.Order) (e : Entry) → IsOther (worker_orders.work_refusal o e)
in_work (to_worker.Edit s edit) e = edits edit (worker.open_part e)
in_work (to_worker.Finish s how) e = test _ _ (other refusals.NotOpen refl)
in_work (to_worker.Resend s) e =
    resends (not (worker.is_open e)) (not (worker.is_closed e))

-- one, and another where that isn't
after_test : (b : Bool) (l : Option Refusal) → IsOther l → IsOther (first_of (unless b refusals.UnknownEntry ∷ l ∷ []))
after_test false l isnt = other refusals.UnknownEntry refl
after_test true (Some e) isnt = isnt
after_test true None isnt = tt

in_entry : (o : worker_order.Order) (e : Entry) → IsOther (worker_orders.entry_refusal o e)
in_entry o e = after_test (not (worker.is_declined e)) (worker_orders.work_refusal o e) (in_work o e)

found : (o : worker_order.Order) (e : Option Entry) → IsOther (option_map_or (worker_orders.entry_refusal o) e (Some refusals.UnknownEntry))
found o None = other refusals.UnknownEntry refl
found o (Some e) = in_entry o e

pub never_memory : (o : worker_order.Order) (w : worker.State) → IsOther (worker_orders.order_refusal o w.entries)
never_memory o w = found o (worker.entry_of w.entries (worker_orders.spawn_of_order o))

-- ---- what a step tells of a refusal

-- what isn't refused is done
done : (o : worker_order.Order) (at' : ℕ) (w : worker.State) (P : Refusal → Type 0) → IfErr (worker_orders.allowed_step o at' w).reply P
done (to_worker.Edit s e) at' w P = tt
done (to_worker.Finish s how) at' w P = tt
done (to_worker.Resend s) at' w P = tt

pub order_known : (o : worker_order.Order) (at' : ℕ) (w : worker.State) → IfErr (worker_orders.order_step o at' w).reply (λ e. e ≢ Memory)
order_known o at' w = replies_so (worker_orders.order_refusal o w.entries) w (worker_orders.allowed_step o at' w) (λ e. e ≢ Memory) (done o at' w _) (never_memory o w)

pub order_idle : (o : worker_order.Order) (at' : ℕ) (w : worker.State) → IfErr (worker_orders.order_step o at' w).reply (λ e. worker_orders.order_step o at' w ≡ refused_step e w)
order_idle o at' w = is_idle (worker_orders.order_refusal o w.entries) w (worker_orders.allowed_step o at' w) (done o at' w _)
