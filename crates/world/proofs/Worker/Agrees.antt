-- A worker's step and the shop's agree: where it is refused, and where it isn't.
use Rattle.std.proofs.Common.{◌≡◌, ◌∙◌, ℕ, false, Option, Some, None, refl, sym, ap, subst}
use Rattle.std.specs.Option.{option_map_or}
use Rattle.ticket_items.specs.declared.refusal.Refusal.{Refusal}
use Rattle.ticket_items.specs.declared.refusal.Refusal.TheVariants.{UnknownEntry}
use Rattle.controller.specs.declared.message.Message.{Message}
use Rattle.worker_core.proofs.Refusals.{of_declined, of_taken, refused_on}
use Rattle.worker_core.specs.Orders as orders
use Rattle.worker_core.specs.Worker as worker
use Rattle.worker_core.specs.declared.entry.Entry.{Entry}
use Rattle.world_items.specs.declared.worker_order.Order.{Order}
use Rattle.world.proofs.Shop.Agreeing.{Agrees}
use Rattle.world.proofs.Runs.Cases.{split, split_some}
use Rattle.world.proofs.Worker.EntryStored.{worker_as_it_was}
use Rattle.world.proofs.Worker.TakenSpawns.{HasRecord, declined_shown, entry_record, none_shown, taken_shown}
use Rattle.world.specs.Controllers.{Controllers, worker_of}
use Rattle.plain_shop.specs.Shop.{PlainState}
use Rattle.plain_shop.specs.Steps.{Tag, on_order, worker_does}
use Rattle.world.specs.Showing.{shop_shown, spawn_shown}
use Rattle.world.specs.State.{IsConsistent, State}
use Rattle.controller.specs.Step.{Step, refused_step, unless_refused}
use Rattle.worker_core.specs.Orders.{order_step as ordered_worker}
use Rattle.world.specs.Stepping.{worker_moved}

-- steps that are the same agree as these do
pub agrees_as : (c : Controllers) (v : worker.State) (one two : Step worker.State Message) (p q : Step PlainState Tag) → one ≡ two → p ≡ q → Agrees (worker_moved c v two) q → Agrees (worker_moved c v one) p
agrees_as c v one two p q same plain agrees = subst (λ o. Agrees (worker_moved c v o) p) (sym same) (subst (Agrees (worker_moved c v two)) (sym plain) agrees)

-- both refuse for the same, or agree
pub refused_or_agrees : (c : Controllers) (v : worker.State) (why : Option Refusal) (moved : Step worker.State Message) (plain : Step PlainState Tag) → worker_of c.workers v.name ≡ Some v → (why ≡ None → Agrees (worker_moved c v moved) plain)
    → Agrees (worker_moved c v (unless_refused why v moved)) (unless_refused why (shop_shown c) plain)
refused_or_agrees c v None moved plain found go = go refl
refused_or_agrees c v (Some e) moved plain found go = record { reply = refl; next = worker_as_it_was c v found; sent = refl }

-- on an order about a spawn of which the worker has an entry, that wasn't declined
abbrev pub AgreesThere : State → worker.State → Order → ℕ → Type 0
AgreesThere w v o at =
    (e : Entry) (h : HasRecord w.controllers v.name (orders.spawn_of_order o) e) → worker.entry_of v.entries (orders.spawn_of_order o) ≡ Some e → worker.is_declined e ≡ false
    → Agrees (worker_moved w.controllers v (unless_refused (orders.work_refusal o e) v (orders.allowed_step o at v)))
    (on_order o at (shop_shown w.controllers) (spawn_shown w.controllers h.spawn))

-- where it has none, or has declined the spawn, both refuse
pub worker_agrees : (w : State) (v : worker.State) (o : Order) (at : ℕ) → IsConsistent w → worker_of w.controllers.workers v.name ≡ Some v → AgreesThere w v o at → Agrees (worker_moved w.controllers v (ordered_worker o at v)) (worker_does v.name o at (shop_shown w.controllers))
worker_agrees w v o at ok found there =
    let c = w.controllers in
    let p = shop_shown c in
    let s = orders.spawn_of_order o in
    let step = λ (why : Option Refusal). unless_refused why v (orders.allowed_step o at v) in
    split_some (worker.entry_of v.entries s)
    (λ e has_entry.
    let h = entry_record w v.name s v e ok found has_entry in
    split (worker.is_declined e)
    (λ declined.
    agrees_as c v (ordered_worker o at v) (refused_step UnknownEntry v) (worker_does v.name o at p) (refused_step UnknownEntry p)
    (ap step (refused_on o v.entries e has_entry ∙ of_declined o e declined))
    (ap (λ a. option_map_or (on_order o at p) a (refused_step UnknownEntry p)) (declined_shown w v.name s e ok h declined))
    (record { reply = refl; next = worker_as_it_was c v found; sent = refl }))
    (λ taken.
    agrees_as c v (ordered_worker o at v) (step (orders.work_refusal o e)) (worker_does v.name o at p) (on_order o at p (spawn_shown c h.spawn))
    (ap step (refused_on o v.entries e has_entry ∙ of_taken o e taken))
    (ap (λ a. option_map_or (on_order o at p) a (refused_step UnknownEntry p)) (taken_shown c v.name s e h taken))
    (there e h has_entry taken)))
    (λ none.
    agrees_as c v (ordered_worker o at v) (refused_step UnknownEntry v) (worker_does v.name o at p) (refused_step UnknownEntry p)
    (ap (λ x. step (option_map_or (orders.entry_refusal o) x (Some UnknownEntry))) none)
    (ap (λ a. option_map_or (on_order o at p) a (refused_step UnknownEntry p)) (none_shown w v.name s v ok found none))
    (record { reply = refl; next = worker_as_it_was c v found; sent = refl }))
