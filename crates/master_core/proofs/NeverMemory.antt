-- That memory runs out is no refusal of a master's order, and what is refused changes nothing.
use Rattle.std.proofs.Common.{◌≡◌, ◌≢◌, ℕ, Bool, true, false, [], ◌∷◌, Option, Some, None, slice_get, refl}
use Rattle.std.specs.Option.{option_map, option_map_or}
use Rattle.std.specs.List.{list_all}
use Rattle.std.specs.Prelude.{IfErr, is_some}
use Rattle.ticket_items.specs.Act.{act_of}
use Rattle.ticket_items.specs.Ids.{mem}
use Rattle.ticket_items.specs.SpawnId.{is_spawn_number}
use Rattle.ticket_items.specs.declared.refusal.Refusal.{Refusal}
use Rattle.ticket_items.specs.declared.refusal.Refusal.TheVariants.{Memory, NotHeld}
use Rattle.ticket_items.specs.declared.refusal.Refusal.TheVariants as refusals
use Rattle.ticket_items.specs.Edit.{target}
use Rattle.ticket_rows.specs.Edit.{lookups}
use Rattle.ticket_rows.specs.EditRefusal.{later_refusal, unknown_refusal}
use Rattle.ticket_rows.specs.Homes.{has_resource}
use Rattle.ticket_rows.specs.Place.{node_places, places, up}
use Rattle.ticket_rows.specs.Ticket.{first_of, has_node, unless}
use Rattle.controller.proofs.Answered.{is_idle, replies_so}
use Rattle.controller.proofs.NeverMemory.{IsOther, either, later, none, other, test, three, unknown}
use Rattle.controller.specs.Step.{refused_step}
use Rattle.plain_shop.specs.Claim.{ids_of, linked_outside}
use Rattle.spawn.specs.Spawning as spawning
use Rattle.spawn.specs.declared.records.spawn_rec.SpawnRec.{SpawnRec}
use Rattle.world_items.specs.declared.holder.Holder.{Holder}
use Rattle.world_items.specs.declared.holder.Holder.TheVariants as held_by
use Rattle.master_core.specs.Master as master
use Rattle.master_core.specs.Orders as master_orders
use Rattle.world_items.specs.declared.master_order.Order as master_order
use Rattle.world_items.specs.declared.master_order.Order.TheVariants as to_master

held : (h : Option Holder) → IsOther (option_map_or master_orders.held_refusal h None)
held None = tt
held (Some held_by.Master) = tt
held (Some (held_by.Spawn s)) = other (NotHeld s) refl

claimed : (r : Option SpawnRec) → IsOther (option_map (λ (x : SpawnRec). NotHeld x.id) r)
claimed None = tt
claimed (Some r) = other (NotHeld r.id) refl

spawns : (a b c d f : Bool) (h : Option Refusal) → IsOther h → IsOther (first_of (unless a refusals.UnknownNode ∷ unless b refusals.IsRoot ∷ unless c refusals.UnknownResource ∷ unless d refusals.NotLinked ∷ h ∷ unless f refusals.TooManySpawns ∷ []))
spawns false b c d f h isnt = other refusals.UnknownNode refl
spawns true false c d f h isnt = other refusals.IsRoot refl
spawns true true false d f h isnt = other refusals.UnknownResource refl
spawns true true true false f h isnt = other refusals.NotLinked refl
spawns true true true true f (Some e) isnt = isnt
spawns true true true true false None isnt = other refusals.TooManySpawns refl
spawns true true true true true None isnt = tt

pub never_memory : (o : master_order.Order) (w : master.State) → IsOther (master_orders.order_refusal o w)
never_memory (to_master.Edit e) w =
    three (unknown_refusal e (lookups w.ticket.rows)) (master_orders.not_held w (target e)) (later_refusal e (lookups w.ticket.rows))
    (unknown (act_of e) (lookups w.ticket.rows)) (held (master.holder w (target e))) (later (act_of e) (lookups w.ticket.rows))
never_memory (to_master.Spawn n v rw) w =
    let rows = w.ticket.rows in
    let why = spawning.spawn_refusal rows w.records (master.next_number w.records) n rw in
    either (unless (mem v w.workers) refusals.UnknownWorker) (why ∷ []) (test (mem v w.workers) refusals.UnknownWorker (other refusals.UnknownWorker refl))
    (either why []
    (spawns (has_node rows n) (is_some (up (node_places rows) n)) (list_all (has_resource rows) rw) (list_all (λ x. mem x (ids_of (linked_outside (places rows) n))) rw) (is_spawn_number (master.next_number w.records)) (spawning.not_held (places rows) w.records n rw) (claimed (slice_get (spawning.holding_claimed (places rows) w.records n rw) 0)))
    none)
never_memory (to_master.Resend s) w = test _ _ (other refusals.NotOut refl)
never_memory (to_master.Withdraw s) w = test _ _ (other refusals.NotOut refl)

-- ---- what a step tells of a refusal

-- what isn't refused is done
done : (o : master_order.Order) (at' : ℕ) (w : master.State) (P : Refusal → Type 0) → IfErr (master_orders.allowed_step o at' w).reply P
done (to_master.Edit e) at' w P = tt
done (to_master.Spawn n v rw) at' w P = tt
done (to_master.Resend s) at' w P = tt
done (to_master.Withdraw s) at' w P = tt

pub order_known : (o : master_order.Order) (at' : ℕ) (w : master.State) → IfErr (master_orders.order_step o at' w).reply (λ e. e ≢ Memory)
order_known o at' w = replies_so (master_orders.order_refusal o w) w (master_orders.allowed_step o at' w) (λ e. e ≢ Memory) (done o at' w _) (never_memory o w)

pub order_idle : (o : master_order.Order) (at' : ℕ) (w : master.State) → IfErr (master_orders.order_step o at' w).reply (λ e. master_orders.order_step o at' w ≡ refused_step e w)
order_idle o at' w = is_idle (master_orders.order_refusal o w) w (master_orders.allowed_step o at' w) (done o at' w _)
