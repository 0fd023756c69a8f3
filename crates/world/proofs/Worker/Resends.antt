-- A part that its worker sends back once more: the controllers' step and the shop's agree.
use Rattle.std.proofs.Common.{◌≡◌, ◌∙◌, ℕ, Bool, true, false, cond, not, List, [], ◌∷◌, Option, Some, None, IsSomeAnd, is_some, refl, sym, ap}
use Rattle.std.specs.Option.{option_and_then, option_map}
use Rattle.ticket_items.specs.declared.refusal.Refusal.{Refusal}
use Rattle.ticket_items.specs.declared.refusal.Refusal.TheVariants.{Acknowledged, NotDone}
use Rattle.ticket_rows.specs.Ticket.{first_of, unless}
use Rattle.ticket_tree.specs.Part.{PartCopy}
use Rattle.world_items.specs.declared.reply.Reply.TheVariants as reply
use Rattle.spawn.proofs.Outside.{some_of}
use Rattle.spawn.specs.Records.{is_out}
use Rattle.worker_core.proofs.Closing.{keeps_done, unclosed}
use Rattle.worker_core.proofs.Kept.{kept_part}
use Rattle.worker_core.proofs.Refusals.{done_free}
use Rattle.worker_core.specs.Orders as orders
use Rattle.worker_core.specs.Worker as worker
use Rattle.worker_core.specs.declared.entry.Entry.{Entry}
use Rattle.world_items.specs.declared.worker_order.Order.TheVariants as order
use Rattle.world.proofs.Shop.Agreeing.{Agrees}
use Rattle.world.proofs.Runs.Cases.{split}
use Rattle.world.proofs.Worker.EntryStored.{worker_as_it_was}
use Rattle.world.proofs.Worker.TakenSpawns.{HasRecord, merged_of, phase_out}
use Rattle.world.proofs.Worker.Agrees.{AgreesThere, agrees_as, refused_or_agrees, worker_agrees}
use Rattle.world.proofs.Worker.Edits.{kept_entry, open_shown}
use Rattle.world.specs.Controllers.{Controllers, worker_of}
use Rattle.plain_shop.specs.Shop as shop
use Rattle.plain_shop.specs.Steps as steps
use Rattle.world.specs.Showing.{phase_shown, shop_shown, spawn_shown, tag_of}
use Rattle.world.specs.State.{IsConsistent, State}
use Rattle.controller.specs.Step.{unless_refused}
use Rattle.worker_core.specs.Orders.{order_step as ordered_worker}
use Rattle.world.specs.Stepping.{worker_moved}

-- ---- an entry that is closed

there_is : {X : Type 0} (P : X → Type 0) (o : Option X) → IsSomeAnd o P → is_some o ≡ true
there_is P None h = absurd h
there_is P (Some x) h = refl

-- one whose spawn is out isn't
out_not_closed : (c : Controllers) (name : List ℕ) (s : ℕ) (e : Entry) → (h : HasRecord c name s e) → worker.IsKeptEntry e → is_out h.spawn ≡ true → worker.is_declined e ≡ false → worker.is_closed e ≡ false
out_not_closed c name s e h kept out taken = unclosed e (sym kept.held ∙ there_is _ e.part (h.fits out taken))

never_closed : (declined opened : Bool) → shop.is_closed (cond declined shop.Declined (cond opened shop.Open shop.Done)) ≡ false
never_closed true opened = refl
never_closed false true = refl
never_closed false false = refl

closed_so : (b : Bool) → shop.is_closed (cond b shop.Closed shop.Merged) ≡ b
closed_so true = refl
closed_so false = refl

-- the spawn of one that wasn't declined is shown as closed just if it is
closed_shown : (c : Controllers) (name : List ℕ) (s : ℕ) (e : Entry) → (h : HasRecord c name s e) → worker.IsKeptEntry e → worker.is_declined e ≡ false → shop.is_closed (spawn_shown c h.spawn).phase ≡ worker.is_closed e
closed_shown c name s e h kept taken =
    ap (λ o. shop.is_closed (phase_shown h.spawn.phase o)) h.entered
    ∙ split (is_out h.spawn)
    (λ out. ap (λ phase. shop.is_closed (phase_shown phase (Some e))) (phase_out h.spawn.phase out) ∙ never_closed (worker.is_declined e) (worker.is_open e) ∙ sym (out_not_closed c name s e h kept out taken))
    (λ isn't. ap (λ phase. shop.is_closed (phase_shown phase (Some e))) (merged_of h.spawn.phase e isn't (h.back isn't) taken) ∙ closed_so (worker.is_closed e))

-- ---- the step

-- why a part isn't given back once more, by these tests
abbrev refusal_by : Bool → Bool → Option Refusal
refusal_by is_open is_closed = first_of (unless (not is_open) NotDone ∷ unless (not is_closed) Acknowledged ∷ [])

resend_agrees : (w : State) (v : worker.State) (s at : ℕ) → IsConsistent w → worker_of w.controllers.workers v.name ≡ Some v → AgreesThere w v (order.Resend s) at
resend_agrees w v s at ok found x h has_entry taken =
    let c = w.controllers in
    let p = shop_shown c in
    let a = spawn_shown c h.spawn in
    let kept = kept_entry w v s x ok found has_entry in
    let moved = orders.allowed_step (order.Resend s) at v in
    let plain = steps.sending_step (reply.Sent s) p (steps.Return s) in
    let shown : steps.back_refusal a.phase ≡ orders.resend_refusal x =
    ap (λ b. refusal_by b (shop.is_closed a.phase)) (open_shown c v.name s x h) ∙ ap (refusal_by (worker.is_open x)) (closed_shown c v.name s x h kept taken) in
    agrees_as c v
    (unless_refused (orders.resend_refusal x) v moved)
    (unless_refused (steps.back_refusal a.phase) v moved)
    (unless_refused (steps.back_refusal a.phase) p plain)
    (unless_refused (steps.back_refusal a.phase) p plain)
    (ap (λ why. unless_refused why v moved) (sym shown))
    refl
    (refused_or_agrees c v (steps.back_refusal a.phase) moved plain found (λ none.
    let done = done_free x (sym shown ∙ none) in
    let has = some_of x.part (kept.held ∙ keeps_done x done.0 done.1 taken) in
    let q : PartCopy = has.0 in
    record {
      reply = refl;
      next = worker_as_it_was c v found;
      sent = ap (λ o. option_map tag_of (option_and_then (orders.return_of v.name v.master) o)) has_entry
          ∙ ap (λ o. option_map tag_of (option_map (orders.part_return v.name v.master x.at) o)) has.1
          ∙ ap (λ n. Some (steps.Return n)) ((kept_part x q has.1 kept).own ∙ h.own);
    }))

pub worker_resends : (w : State) (v : worker.State) (s at : ℕ) → IsConsistent w → worker_of w.controllers.workers v.name ≡ Some v → Agrees (worker_moved w.controllers v (ordered_worker (order.Resend s) at v)) (steps.worker_does v.name (order.Resend s) at (shop_shown w.controllers))
worker_resends w v s at ok found = worker_agrees w v (order.Resend s) at ok found (resend_agrees w v s at ok found)
