-- What the orders of a shop tell of merges: none does.
use Rattle.std.proofs.Common.{◌≡◌, ◌⊎◌, inl, inr, ◌∙◌, ◌||◌, ◌==◌, ℕ, Bool, true, false, cond, not, List, [], ◌∷◌, map, Option, Some, None, is_some, refl, sym, ap}
use Rattle.std.proofs.lemmas.Bool.{eqb-true, true≢false}
use Rattle.std.proofs.lemmas.List.Folds.{find-append}
use Rattle.std.specs.List.{find, list_all}
use Rattle.std.specs.Option.{option_and_then, option_map_or, option_or}
use Rattle.ticket_items.specs.Ids.{mem}
use Rattle.ticket_items.specs.SpawnId.{is_spawn_number}
use Rattle.ticket_items.specs.declared.edit.Edit.{Edit}
use Rattle.ticket_items.specs.Act.{Act, NodeChange, NodeAddition, NewStatus, act_added_id, act_of, is_act_structural}
use Rattle.ticket_items.specs.declared.refusal.Refusal.{Refusal}
use Rattle.ticket_items.specs.declared.refusal.Refusal.TheVariants.{IsRoot, NotForWorkers, NotInPart, NotLinked, NotOpen, ReadOnly, TooManySpawns, UnknownEntry, UnknownNode, UnknownResource, UnknownWorker}
use Rattle.ticket_items.specs.Edit.{is_structural}
use Rattle.ticket_rows.specs.EditRefusal.{later_refusal}
use Rattle.ticket_rows.specs.Place.{nodes_in, resources_in, up}
use Rattle.ticket_rows.specs.Ticket.{first_of, unless}
use Rattle.ticket_tree.specs.PlainEdit.{plain_lookups, stands}
use Rattle.world_items.specs.declared.reply.Reply.TheVariants as reply
use Rattle.plain_shop.specs.Claim.{claim, ids_of, linked_outside}
use Rattle.world_items.specs.declared.master_order.Order as master_order
use Rattle.world_items.specs.declared.master_order.Order.TheVariants as to_master
use Rattle.worker_core.specs.Orders.{spawn_of_order}
use Rattle.worker_core.specs.Worker.{end_word}
use Rattle.world_items.specs.declared.worker_order.Order as worker_order
use Rattle.world_items.specs.declared.worker_order.Order.TheVariants as to_worker
use Rattle.world.proofs.Shop.MergeAudits.{IsNew, edit_is_quiet, telling_is_quiet}
use Rattle.world.proofs.Shop.StepsTell.{SpawnsStay, TellsMore, phase_stays, same_rows, tells_none, tells_nothing, times}
use Rattle.plain_shop.specs.MergeAudits.{above_of}
use Rattle.plain_shop.specs.Shop.{Done, PlainState, SpawnState, has_number, is_open, next_number, spawn_of}
use Rattle.plain_shop.specs.Acts.{after_edit, after_finish, after_sending, after_spawn, after_work, next_spawn, spawned_audit}
use Rattle.plain_shop.specs.Steps.{Abort, Return, Submit, Tag, back_refusal, edit_refusal, is_held, is_taken_by, is_to_read, master_does, not_held, on_order, quiet_step, resend_refusal, sending_step, spawn_refusal, work_refusal, worker_does}
use Rattle.controller.specs.Step.{Step, refused_step, unless_refused}
use Rattle.world_items.specs.Word.{word_of}
use Rattle.world_items.specs.declared.word.Word.TheVariants.{Did, Refused}

-- a step of a shop tells of a merge in its audits as often as in its word
abbrev pub Tells : PlainState → Step PlainState Tag → Type 0
Tells p moved = TellsMore (times (word_of moved.reply)) p moved.next

-- what is refused tells nothing
pub refused_or_tells : (why : Option Refusal) (p : PlainState) (moved : Step PlainState Tag) → (why ≡ None → Tells p moved) → Tells p (unless_refused why p moved)
refused_or_tells None p moved go = go refl
refused_or_tells (Some e) p moved go = tells_nothing (Refused e) p (λ s. refl)

-- ---- edits

-- the spawns stay where the shop's tree is edited
abbrev pub StaysAbove : PlainState → Edit → Type 0
StaysAbove p e = (s : ℕ) (u : List ℕ) (at : ℕ) → above_of s p ≡ Some u → above_of s (after_edit e at p) ≡ Some u

pub edit_tells : (e : Edit) (at : ℕ) (p : PlainState) → (edit_refusal e p ≡ None → IsNew e p.seen × IsNew e p.now × StaysAbove p e) → Tells p (master_does (to_master.Edit e) at p)
edit_tells e at p free =
    refused_or_tells (edit_refusal e p) p (quiet_step reply.Edited (after_edit e at p)) (λ none.
    let new = free none in
    tells_none (Did reply.Edited) p (after_edit e at p) (λ s. refl) (λ s x. edit_is_quiet (act_of e) at s p.seen x new.0) (λ s x. edit_is_quiet (act_of e) at s p.now x new.1)
    (record { above = λ s u there. new.2 s u at there; numbers = λ s there. inl there }))

-- what isn't structural adds nothing
plain_adds : (a : Act) (i : List ℕ) → is_act_structural a ≡ false → act_added_id a ≡ Some i → ⊥
plain_adds (NodeAddition n addition) i plain added = true≢false plain
plain_adds a i plain added = cc

plain_by : (is_open structural : Bool) (rest : List (Option Refusal)) → first_of (unless is_open NotOpen ∷ unless (not structural) NotForWorkers ∷ rest) ≡ None → structural ≡ false
plain_by true true rest none = cc
plain_by true false rest none = refl
plain_by false structural rest none = cc

-- ---- a spawn

spawn_number : (a b c d e g : Option Refusal) (number : Bool) → first_of (a ∷ b ∷ c ∷ d ∷ e ∷ g ∷ unless number TooManySpawns ∷ []) ≡ None → number ≡ true
spawn_number (Some r) b c d e g number none = cc
spawn_number None (Some r) c d e g number none = cc
spawn_number None None (Some r) d e g number none = cc
spawn_number None None None (Some r) e g number none = cc
spawn_number None None None None (Some r) g number none = cc
spawn_number None None None None None (Some r) number none = cc
spawn_number None None None None None None true none = refl
spawn_number None None None None None None false none = cc

found_before : {X Y : Type 0} (f : X → Option Y) (o later : Option X) (y : Y) → option_and_then f o ≡ Some y → option_and_then f (option_or o later) ≡ Some y
found_before f None later y there = cc
found_before f (Some x) later y there = there

found_in : (a : SpawnState) (s : ℕ) (o : Option SpawnState) (b : Bool) → (a.number == s) ≡ b → is_spawn_number a.number ≡ true → is_some (option_or o (cond b (Some a) None)) ≡ true → (is_some o ≡ true) ⊎ (is_spawn_number s ≡ true)
found_in a s (Some x) b is number there = inl refl
found_in a s None true is number there = inr (ap is_spawn_number (sym (eqb-true a.number s is)) ∙ number)
found_in a s None false is number there = cc

spawn_stays : (a : SpawnState) (at : ℕ) (p : PlainState) → is_spawn_number a.number ≡ true → SpawnsStay p (after_sending a at p)
spawn_stays a at p number =
    record {
      above = λ s u there. ap (option_and_then (λ b. up (nodes_in p.tree) b.node)) (find-append (has_number s) p.spawns (a ∷ [])) ∙ found_before _ (spawn_of s p) (find (has_number s) (a ∷ [])) u there;
      numbers = λ s there. found_in a s (spawn_of s p) (a.number == s) refl number (sym (ap is_some (find-append (has_number s) p.spawns (a ∷ []))) ∙ there);
    }

spawn_tells : (n worker : List ℕ) (rw : List (List ℕ)) (at : ℕ) (p : PlainState) → Tells p (master_does (to_master.Spawn n worker rw) at p)
spawn_tells n worker rw at p =
    let a = next_spawn n worker rw p in
    let audit = spawned_audit a at p in
    refused_or_tells (spawn_refusal n worker rw p) p (sending_step (reply.Spawned (next_number p)) (after_spawn n worker rw at p) (Submit (next_number p))) (λ none.
    tells_none (Did (reply.Spawned (next_number p))) p (after_spawn n worker rw at p) (λ s. refl)
    (λ s x. telling_is_quiet s p.tree n audit p.seen x (λ t. refl))
    (λ s x. telling_is_quiet s p.tree n audit p.now x (λ t. refl))
    (spawn_stays a at p (spawn_number
    (unless (mem worker p.workers) UnknownWorker)
    (unless (stands (nodes_in p.tree) n) UnknownNode)
    (unless (is_some (up (nodes_in p.tree) n)) IsRoot)
    (unless (list_all (stands (resources_in p.tree)) rw) UnknownResource)
    (unless (list_all (λ x. mem x (ids_of (linked_outside p.tree n))) rw) NotLinked)
    (first_of (map (not_held p) (ids_of (claim p.tree n rw))))
    (is_spawn_number (next_number p)) none)))

pub master_tells : (o : master_order.Order) (at : ℕ) (p : PlainState) → ((e : Edit) → edit_refusal e p ≡ None → IsNew e p.seen × IsNew e p.now × StaysAbove p e) → Tells p (master_does o at p)
master_tells (to_master.Edit e) at p free = edit_tells e at p (free e)
master_tells (to_master.Spawn n worker rw) at p free = spawn_tells n worker rw at p
master_tells (to_master.Resend s) at p free = refused_or_tells (resend_refusal s p) p (sending_step (reply.Sent s) p (Submit s)) (λ none. tells_nothing (Did (reply.Sent s)) p (λ t. refl))
master_tells (to_master.Withdraw s) at p free = refused_or_tells (resend_refusal s p) p (sending_step (reply.Asked s) p (Abort s)) (λ none. tells_nothing (Did (reply.Asked s)) p (λ t. refl))

-- ---- a worker

work_tells : (o : worker_order.Order) (at : ℕ) (p : PlainState) (a : SpawnState) → Tells p (on_order o at p a)
work_tells (to_worker.Edit s e) at p a =
    refused_or_tells (work_refusal e a p) p (quiet_step reply.Edited (after_work e at p)) (λ none.
    let plain = plain_by (is_open a.phase) (is_structural e) (unless (is_held e a p || is_to_read e a p) NotInPart ∷ unless (not (is_to_read e a p)) ReadOnly ∷ later_refusal e (plain_lookups p.tree) ∷ []) none in
    tells_none (Did reply.Edited) p (after_work e at p) (λ t. refl) (same_rows p.seen) (λ t x. edit_is_quiet (act_of e) at t p.now x (λ i added. absurd (plain_adds (act_of e) i plain added)))
    (record { above = λ t u there. there; numbers = λ t there. inl there }))
work_tells (to_worker.Finish s how) at p a =
    refused_or_tells (unless (is_open a.phase) NotOpen) p (sending_step (reply.Finished s) (after_finish how at a p) (Return s)) (λ none.
    tells_none (Did (reply.Finished s)) p (after_finish how at a p) (λ t. refl) (same_rows p.seen) (λ t x. edit_is_quiet (NodeChange a.node (NewStatus (end_word how))) at t p.now x (λ i added. cc))
    (phase_stays p (after_finish how at a p) Done a.number refl refl))
work_tells (to_worker.Resend s) at p a = refused_or_tells (back_refusal a.phase) p (sending_step (reply.Sent s) p (Return s)) (λ none. tells_nothing (Did (reply.Sent s)) p (λ t. refl))

found_tells : (o : worker_order.Order) (at : ℕ) (p : PlainState) (found : Option SpawnState) → Tells p (option_map_or (on_order o at p) found (refused_step UnknownEntry p))
found_tells o at p None = tells_nothing (Refused UnknownEntry) p (λ s. refl)
found_tells o at p (Some a) = work_tells o at p a

pub worker_tells : (name : List ℕ) (o : worker_order.Order) (at : ℕ) (p : PlainState) → Tells p (worker_does name o at p)
worker_tells name o at p = found_tells o at p (find (is_taken_by name (spawn_of_order o)) p.spawns)
