-- A part that is sent once more, and a spawn whose worker is asked to give it up: the controllers' step and the shop's agree.
use Rattle.std.proofs.Common.{◌≡◌, ◌∙◌, ℕ, Bool, true, false, Option, Some, None, Ok, refl, sym, ap, subst}
use Rattle.std.specs.Option.{option_map, option_map_or}
use Rattle.ticket_items.specs.declared.refusal.Refusal.TheVariants.{NotOut}
use Rattle.ticket_rows.specs.Ticket.{unless}
use Rattle.world_items.specs.declared.reply.Reply.TheVariants as reply
use Rattle.spawn.specs.Records as records
use Rattle.spawn.specs.declared.records.spawn_rec.SpawnRec.{SpawnRec}
use Rattle.master_core.proofs.Recorded.{number_is}
use Rattle.master_core.specs.Master.{is_spawn_out, record_of}
use Rattle.master_core.specs.Orders.{abort_of, submit_of}
use Rattle.world_items.specs.declared.master_order.Order.TheVariants as order
use Rattle.world.proofs.Shop.Agreeing.{Agrees}
use Rattle.world.proofs.Runs.Cases.{found_made}
use Rattle.world.proofs.Worker.TakenSpawns.{out_shown}
use Rattle.world.specs.Controllers.{Controllers}
use Rattle.world.specs.Messages.{entry_for}
use Rattle.plain_shop.specs.Shop.{has_number, is_out, spawn_of}
use Rattle.plain_shop.specs.Steps.{Abort, Submit, master_does, sending_step}
use Rattle.world.specs.Showing.{shop_shown, spawn_shown}
use Rattle.world.specs.State.{IsConsistent, State}
use Rattle.controller.specs.Step.{unless_refused}
use Rattle.master_core.specs.Orders.{order_step as ordered_master}
use Rattle.world.specs.Stepping.{master_moved}

-- ---- by the master

-- the spawn of a number is that of its record
pub spawn_found : (c : Controllers) (s : ℕ) → spawn_of s (shop_shown c) ≡ option_map (spawn_shown c) (record_of c.master.records s)
spawn_found c s = found_made (has_number s) (spawn_shown c) c.master.records

record_resent : (w : State) (s at : ℕ) (o : Option SpawnRec) (out : Bool) → record_of w.controllers.master.records s ≡ o → option_map_or records.is_out o false ≡ out
    → Agrees
    (master_moved w.controllers (unless_refused (unless out NotOut) w.controllers.master (record { reply = Ok (reply.Sent s); next = w.controllers.master; sent = option_map (submit_of w.controllers.master.name w.controllers.master.ticket) o })))
    (unless_refused (unless out NotOut) (shop_shown w.controllers) (sending_step (reply.Sent s) (shop_shown w.controllers) (Submit s)))
record_resent w s at None true found is = cc
record_resent w s at None false found is = record { reply = refl; next = refl; sent = refl }
record_resent w s at (Some r) true found is = record { reply = refl; next = refl; sent = ap (λ n. Some (Submit n)) (number_is w.controllers.master.records s r found) }
record_resent w s at (Some r) false found is = record { reply = refl; next = refl; sent = refl }

out_so : (c : Controllers) (o : Option SpawnRec) → option_map_or (λ a. is_out a.phase) (option_map (spawn_shown c) o) false ≡ option_map_or records.is_out o false
out_so c None = refl
out_so c (Some r) = out_shown r.phase (entry_for c r)

record_asked : (w : State) (s at : ℕ) (o : Option SpawnRec) (out : Bool) → record_of w.controllers.master.records s ≡ o → option_map_or records.is_out o false ≡ out
    → Agrees
    (master_moved w.controllers (unless_refused (unless out NotOut) w.controllers.master (record { reply = Ok (reply.Asked s); next = w.controllers.master; sent = option_map (abort_of w.controllers.master.name) o })))
    (unless_refused (unless out NotOut) (shop_shown w.controllers) (sending_step (reply.Asked s) (shop_shown w.controllers) (Abort s)))
record_asked w s at None true found is = cc
record_asked w s at None false found is = record { reply = refl; next = refl; sent = refl }
record_asked w s at (Some r) true found is = record { reply = refl; next = refl; sent = ap (λ n. Some (Abort n)) (number_is w.controllers.master.records s r found) }
record_asked w s at (Some r) false found is = record { reply = refl; next = refl; sent = refl }

same_out : (c : Controllers) (s : ℕ) → option_map_or (λ a. is_out a.phase) (spawn_of s (shop_shown c)) false ≡ is_spawn_out c.master.records s
same_out c s = ap (λ o. option_map_or (λ a. is_out a.phase) o false) (spawn_found c s) ∙ out_so c (record_of c.master.records s)

pub master_asks : (w : State) (s at : ℕ) → IsConsistent w → Agrees (master_moved w.controllers (ordered_master (order.Withdraw s) at w.controllers.master)) (master_does (order.Withdraw s) at (shop_shown w.controllers))
master_asks w s at ok =
    let c = w.controllers in
    let p = shop_shown c in
    subst (λ b. Agrees (master_moved c (ordered_master (order.Withdraw s) at c.master)) (unless_refused (unless b NotOut) p (sending_step (reply.Asked s) p (Abort s)))) (sym (same_out c s))
    (record_asked w s at (record_of c.master.records s) (is_spawn_out c.master.records s) refl refl)

pub master_resends : (w : State) (s at : ℕ) → IsConsistent w → Agrees (master_moved w.controllers (ordered_master (order.Resend s) at w.controllers.master)) (master_does (order.Resend s) at (shop_shown w.controllers))
master_resends w s at ok =
    let c = w.controllers in
    let p = shop_shown c in
    subst (λ b. Agrees (master_moved c (ordered_master (order.Resend s) at c.master)) (unless_refused (unless b NotOut) p (sending_step (reply.Sent s) p (Submit s)))) (sym (same_out c s))
    (record_resent w s at (record_of c.master.records s) (is_spawn_out c.master.records s) refl refl)
