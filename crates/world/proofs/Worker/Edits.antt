-- A worker's edits: its step and the shop's agree.
use Rattle.std.proofs.Common.{◌≡◌, ◌∙◌, ◌&&◌, ◌||◌, ℕ, Bool, true, false, cond, not, List, [], ◌∷◌, Option, Some, None, IsSomeAnd, is_some, refl, sym, ap, subst}
use Rattle.std.proofs.lemmas.Bool.{and_parts, true≢false}
use Rattle.std.proofs.lemmas.Slice.Eq.{bytes_eq-Decides}
use Rattle.std.specs.Option.{option_and_then, option_map, option_map_or}
use Rattle.std.specs.Str.{bytes_eq}
use Rattle.ticket_items.specs.declared.edit.Edit.{Edit}
use Rattle.ticket_items.specs.Act.{Act, NodeAddition, act_of, act_target, is_act_structural}
use Rattle.ticket_items.specs.declared.refusal.Refusal.{Refusal}
use Rattle.ticket_items.specs.declared.refusal.Refusal.TheVariants.{NotForWorkers, NotInPart, NotOpen, ReadOnly}
use Rattle.ticket_items.specs.Edit.{is_of_node, is_structural, target}
use Rattle.ticket_rows.specs.EditRefusal.{Lookups, act_later, later_refusal}
use Rattle.ticket_rows.specs.PartEdit.{part_lookups}
use Rattle.ticket_rows.specs.Place.{Row, nodes_in, places, resources_in}
use Rattle.ticket_rows.specs.Ticket.{first_of, unless}
use Rattle.ticket_tree.proofs.PartEdits.{part_edit_of_rows}
use Rattle.ticket_tree.specs.Part.{PartCopy, edited_part, refusal_of_part}
use Rattle.ticket_tree.specs.PartView.{part_row}
use Rattle.ticket_tree.specs.PlainEdit.{act_row, act_rows_by_id, plain_changed, plain_lookups, plain_rows, stands, with_row_changed}
use Rattle.world_items.specs.declared.reply.Reply.TheVariants as reply
use Rattle.spawn.specs.Records.{is_out}
use Rattle.spawn.specs.declared.records.phase.Phase as records
use Rattle.spawn.specs.declared.records.phase.Phase.TheVariants as recorded
use Rattle.world_items.specs.declared.holder.Holder.{Holder}
use Rattle.world_items.specs.declared.holder.Holder.TheVariants as held_by
use Rattle.merge.specs.Shape.{Fits}
use Rattle.master_core.specs.Master as master
use Rattle.worker_core.proofs.AtNumber.{find-at_number, find-other, found_holds}
use Rattle.worker_core.proofs.Closing.{open_taken}
use Rattle.worker_core.proofs.Kept.{kept_part}
use Rattle.worker_core.proofs.Refusals.{edit_free, of_open}
use Rattle.worker_core.specs.Orders as orders
use Rattle.worker_core.specs.Worker as worker
use Rattle.worker_core.specs.declared.entry.Entry.{Entry}
use Rattle.world_items.specs.declared.worker_order.Order.TheVariants as order
use Rattle.worker_core.specs.declared.stage.Stage.{Stage}
use Rattle.worker_core.specs.declared.stage.Stage.TheVariants as worker_stage
use Rattle.world.proofs.Shop.Agreeing.{Agrees}
use Rattle.world.proofs.Runs.Cases.{split, split_some, when_false}
use Rattle.world.proofs.Worker.EntryStored.{HasStored, row_stored, spawns_stay}
use Rattle.world.proofs.Master.HeldBySpawn.{good_record, held_claims, held_spawn}
use Rattle.world.proofs.Worker.PartHolds.{claims, here_so}
use Rattle.world.proofs.Worker.PartReads.{reads_held}
use Rattle.world.proofs.Shop.Paths.{same_shop}
use Rattle.world.proofs.Worker.TakenSpawns.{HasRecord, back_is_shut, phase_of_entry, stage_shown}
use Rattle.world.proofs.Worker.Agrees.{AgreesThere, agrees_as, refused_or_agrees, worker_agrees}
use Rattle.world.proofs.Worker.Steps.{with_next}
use Rattle.world.specs.Controllers.{Controllers, is_named, worker_of}
use Rattle.world.specs.Messages.{entry_for}
use Rattle.plain_shop.specs.Shop as shop
use Rattle.plain_shop.specs.Acts.{after_work, is_held_by}
use Rattle.plain_shop.specs.Steps as steps
use Rattle.world.specs.Showing.{now_shown, phase_shown, row_at, seen_shown, shop_shown, spawn_shown}
use Rattle.world.specs.State.{IsConsistent, State}
use Rattle.controller.specs.Step.{unless_refused}
use Rattle.worker_core.specs.Orders.{order_step as ordered_worker}
use Rattle.world.specs.Stepping.{worker_moved}

-- ---- an entry that is open

-- the record of an open entry is out, and its part fits
pub open_out : (c : Controllers) (name : List ℕ) (s : ℕ) (e : Entry) → (h : HasRecord c name s e) → worker.is_open e ≡ true → is_out h.spawn ≡ true
open_out c name s e h is_open = split (is_out h.spawn) (λ out. out) (λ isn't. absurd (true≢false (sym is_open ∙ back_is_shut c name s e h isn't)))

-- its phase is shown as it is
pub open_shown : (c : Controllers) (name : List ℕ) (s : ℕ) (e : Entry) → (h : HasRecord c name s e) → shop.is_open (spawn_shown c h.spawn).phase ≡ worker.is_open e
open_shown c name s e h =
    ap (λ o. shop.is_open (phase_shown h.spawn.phase o)) h.entered ∙ (phase_of_entry h.spawn.phase e).open_so
    ∙ split (is_out h.spawn)
    (λ out. ap (λ b. b && worker.is_open e) out)
    (λ isn't. ap (λ b. b && worker.is_open e) isn't ∙ sym (back_is_shut c name s e h isn't))

-- the entry is kept, and that of its worker
pub kept_entry : (w : State) (v : worker.State) (s : ℕ) (e : Entry) → IsConsistent w → worker_of w.controllers.workers v.name ≡ Some v → worker.entry_of v.entries s ≡ Some e → worker.IsKeptEntry e
kept_entry w v s e ok found has_entry =
    let kept : worker.IsConsistent v = found_holds worker.IsConsistent (is_named v.name) w.controllers.workers v found ok.workers in
    found_holds worker.IsKeptEntry (worker.is_of s) v.entries e has_entry kept.each

-- what is open has its part, which fits while the spawn is out
pub open_has_part : (e : Entry) → worker.IsKeptEntry e → is_some (worker.open_part e) ≡ worker.is_open e
open_has_part e kept = by e.phase refl
  where
    by : (stage : Stage) → e.phase ≡ stage → is_some (worker.open_part e) ≡ worker.is_open e
    by worker_stage.Open is =
        let is_open : worker.is_open e ≡ true = ap worker.is_open_stage is in
        ap (λ b. is_some (cond b e.part None)) is_open ∙ kept.held ∙ ap worker.keeps_part is ∙ sym is_open
    by (worker_stage.Done how) is = let is_open : worker.is_open e ≡ false = ap worker.is_open_stage is in ap (λ b. is_some (cond b e.part None)) is_open ∙ sym is_open
    by (worker_stage.Closed how) is = let is_open : worker.is_open e ≡ false = ap worker.is_open_stage is in ap (λ b. is_some (cond b e.part None)) is_open ∙ sym is_open
    by worker_stage.Declined is = let is_open : worker.is_open e ≡ false = ap worker.is_open_stage is in ap (λ b. is_some (cond b e.part None)) is_open ∙ sym is_open

pub part_fits : (c : Controllers) (name : List ℕ) (s : ℕ) (e : Entry) (p : PartCopy) → (h : HasRecord c name s e) → is_out h.spawn ≡ true → worker.is_open e ≡ true → e.part ≡ Some p → Fits c.master.ticket h.spawn p
part_fits c name s e p h out is_open has = subst (λ o. IsSomeAnd o (Fits c.master.ticket h.spawn)) has (h.fits out (open_taken e is_open))

-- what the spawn holds is shown as the part has it
pub row_there : (c : Controllers) (name : List ℕ) (s : ℕ) (e : Entry) (p : PartCopy) (x : List ℕ) (o : Option Holder) → HasRecord c name s e → e.part ≡ Some p → o ≡ Some (held_by.Spawn s) → row_at c x o ≡ part_row p x
row_there c name s e p x o h has held =
    ap (row_at c x) held
    ∙ ap (λ q. option_map_or (λ r. part_row r x) (option_and_then (λ (y : Entry). y.part) q) (seen_shown c x)) (ap (option_and_then (entry_for c)) h.recorded ∙ h.entered)
    ∙ ap (λ q. option_map_or (λ r. part_row r x) q (seen_shown c x)) has

-- ---- refusals

-- why an edit of what is open is refused, by these tests
abbrev refusal_by : Bool → Bool → Bool → Option Refusal → Option Refusal
refusal_by structural here read later = first_of (unless (not structural) NotForWorkers ∷ unless (here || read) NotInPart ∷ unless (not read) ReadOnly ∷ later ∷ [])

same_refusal : (structural h k rd rk : Bool) (l m : Option Refusal) → h ≡ k → rd ≡ rk → (structural ≡ false → l ≡ m) → refusal_by structural h rd l ≡ refusal_by structural k rk m
same_refusal true h k rd rk l m here read later = refl
same_refusal false h k rd rk l m here read later = ap (λ b. refusal_by false b rd l) here ∙ ap (λ b. refusal_by false k b l) read ∙ ap (refusal_by false k rk) (later refl)

-- what adds nothing to the tree is refused for its Status alone
same_later : (act : Act) (a b : Lookups) → is_act_structural act ≡ false → act_later act a ≡ act_later act b
same_later (NodeAddition n addition) a b plain = absurd (true≢false plain)
same_later act a b plain = refl

-- while the entry is open its part has what the spawn holds, and may read what that may
same_parts : (w : State) (v : worker.State) (s : ℕ) (e : Edit) (x : Entry) (p : PartCopy) → IsConsistent w → worker_of w.controllers.workers v.name ≡ Some v → worker.entry_of v.entries s ≡ Some x → (h : HasRecord w.controllers v.name s x) → worker.is_open x ≡ true → x.part ≡ Some p
    → (orders.is_here e p ≡ steps.is_held e (spawn_shown w.controllers h.spawn) (shop_shown w.controllers)) × (orders.is_to_read e p ≡ steps.is_to_read e (spawn_shown w.controllers h.spawn) (shop_shown w.controllers))
same_parts w v s e x p ok found has_entry h is_open has =
    let c = w.controllers in
    let m = c.master in
    let r = h.spawn in
    let out = open_out c v.name s x h is_open in
    let kept = kept_part x p has (kept_entry w v s x ok found has_entry) in
    let fits = part_fits c v.name s x p h out is_open has in
    let good = good_record m s r ok.master h.recorded out in
    let held : is_held_by r.id (master.holder m) (target e) ≡ claims m.ticket r (target e) = ap (λ n. is_held_by n (master.holder m) (target e)) h.number ∙ held_claims m s r (target e) ok.master h.recorded out in
    let tree = places m.ticket.rows in (
      here_so e m.ticket r p ok.master.valid good fits kept.valid ∙ ap (λ b. stands (cond (is_of_node e) (nodes_in tree) (resources_in tree)) (target e) && b) (sym held),
      ap (λ b. not (is_of_node e) && b) (reads_held m.ticket r p (target e) ok.master.valid good fits kept.valid kept.sound),
    )

pub same_edit_refusal : (w : State) (v : worker.State) (s : ℕ) (e : Edit) (x : Entry) → IsConsistent w → worker_of w.controllers.workers v.name ≡ Some v → worker.entry_of v.entries s ≡ Some x → (h : HasRecord w.controllers v.name s x)
    → orders.edit_refusal e x ≡ steps.work_refusal e (spawn_shown w.controllers h.spawn) (shop_shown w.controllers)
same_edit_refusal w v s e x ok found has_entry h =
    let c = w.controllers in
    let a = spawn_shown c h.spawn in
    let plain = shop_shown c in
    let shown = open_shown c v.name s x h in
    let rest = unless (not (is_structural e)) NotForWorkers ∷ unless (steps.is_held e a plain || steps.is_to_read e a plain) NotInPart ∷ unless (not (steps.is_to_read e a plain)) ReadOnly ∷ later_refusal e (plain_lookups plain.tree) ∷ [] in
    split_some (worker.open_part x)
    (λ p opened.
    let of = of_open x p opened in
    let same = same_parts w v s e x p ok found has_entry h of.0 of.1 in
    ap (λ o. option_map_or (orders.part_edit_refusal e) o (Some NotOpen)) opened
    ∙ same_refusal (is_structural e) (orders.is_here e p) (steps.is_held e a plain) (orders.is_to_read e p) (steps.is_to_read e a plain) (later_refusal e (part_lookups p.rows p.rw)) (later_refusal e (plain_lookups plain.tree)) same.0 same.1 (same_later (act_of e) _ _)
    ∙ sym (ap (λ b. first_of (unless b NotOpen ∷ rest)) (shown ∙ of.0)))
    (λ none.
    let isn't : shop.is_open a.phase ≡ false = shown ∙ sym (open_has_part x (kept_entry w v s x ok found has_entry)) ∙ ap is_some none in
    ap (λ o. option_map_or (orders.part_edit_refusal e) o (Some NotOpen)) none ∙ sym (ap (λ b. first_of (unless b NotOpen ∷ rest)) isn't))

-- ---- what is stored

-- the worker's entry of the spawn is changed, and no other
pub changed_stored : (w : State) (v : worker.State) (s : ℕ) (x : Entry) (f : Entry → Entry) → ((y : Entry) → (f y).spawn_id ≡ y.spawn_id) → IsConsistent w → worker_of w.controllers.workers v.name ≡ Some v → worker.entry_of v.entries s ≡ Some x → (h : HasRecord w.controllers v.name s x)
    → HasStored w.controllers v.name s (record v { entries = worker.with_entry s f v.entries }) (f x) h.spawn
changed_stored w v s x f keeps ok found has_entry h =
    record {
      old = v;
      found = found;
      own = refl;
      others = λ t other. find-other t s (λ (y : Entry). y.spawn_id) f v.entries other keeps;
      stored = find-at_number (λ (y : Entry). y.spawn_id) s f v.entries keeps ∙ ap (option_map f) has_entry;
      recorded = h.recorded;
      named = h.named;
      numbered = ok.master.numbered;
    }

plain_touch : (a : Act) (at : ℕ) (rows : List ℕ → Option Row) (x : List ℕ) → is_act_structural a ≡ false → with_row_changed (act_target a) (act_row a at) rows x ≡ act_rows_by_id a at rows x
plain_touch (NodeAddition n addition) at rows x plain = absurd (true≢false plain)
plain_touch a at rows x plain = refl

-- the rows now, after an edit of what the spawn holds that isn't structural
pub edited_now : (c : Controllers) (name : List ℕ) (s : ℕ) (e : Edit) (at : ℕ) (next : worker.State) (old new : Entry) (p : PartCopy) → (h : HasRecord c name s old) → HasStored c name s next new h.spawn → old.part ≡ Some p → new.part ≡ Some (edited_part e at p) → worker.IsKeptPart old p → is_structural e ≡ false → refusal_of_part e p ≡ None
    → is_held_by s (master.holder c.master) (target e) ≡ true → (x : List ℕ) → now_shown (with_next c name next) x ≡ plain_rows e at (now_shown c) x
edited_now c name s e at next old new p h stored has is kept plain free held x =
    let now = λ (r : Option Row). cond (bytes_eq (target e) x) (option_map (plain_changed e at) r) r in
    let o = master.holder c.master x in
    row_stored c name s next new h.spawn stored now x o
    (λ own. ap (λ q. option_map_or (λ r. part_row r x) q (seen_shown c x)) is ∙ part_edit_of_rows e at p kept.valid plain free x ∙ ap now (sym (row_there c name s old p x o h has own)))
    (λ other.
    split (bytes_eq (target e) x)
    (λ same. absurd (other (held_here (bytes_eq-Decides (target e) x).0 same)))
    (λ away. sym (when_false (bytes_eq (target e) x) (option_map (plain_changed e at) (row_at c x o)) (row_at c x o) away)))
    ∙ plain_touch (act_of e) at (now_shown c) x plain
  where
    held_here : (bytes_eq (target e) x ≡ true → target e ≡ x) → bytes_eq (target e) x ≡ true → master.holder c.master x ≡ Some (held_by.Spawn s)
    held_here decides same = ap (master.holder c.master) (sym (decides same)) ∙ held_spawn s (master.holder c.master (target e)) held

-- ---- the step

same_phase : (phase : records.Phase) (old new : Entry) → new.phase ≡ old.phase → phase_shown phase (Some new) ≡ phase_shown phase (Some old)
same_phase recorded.Out old new is = ap stage_shown is
same_phase recorded.Merged old new is = ap (λ stage. cond (worker.is_closed_stage stage) shop.Closed shop.Merged) is
same_phase recorded.Withdrawn old new is = refl

edit_agrees : (w : State) (v : worker.State) (s : ℕ) (e : Edit) (at : ℕ) → IsConsistent w → worker_of w.controllers.workers v.name ≡ Some v → AgreesThere w v (order.Edit s e) at
edit_agrees w v s e at ok found x h has_entry taken =
    let c = w.controllers in
    let p = shop_shown c in
    let a = spawn_shown c h.spawn in
    let moved = orders.allowed_step (order.Edit s e) at v in
    let plain = steps.quiet_step reply.Edited (after_work e at p) in
    agrees_as c v
    (unless_refused (orders.edit_refusal e x) v moved)
    (unless_refused (steps.work_refusal e a p) v moved)
    (unless_refused (steps.work_refusal e a p) p plain)
    (unless_refused (steps.work_refusal e a p) p plain)
    (ap (λ why. unless_refused why v moved) (same_edit_refusal w v s e x ok found has_entry h))
    refl
    (refused_or_agrees c v (steps.work_refusal e a p) moved plain found (λ none.
    let free = edit_free e x (same_edit_refusal w v s e x ok found has_entry h ∙ none) in
    let q = free.part in
    let of = of_open x q free.opened in
    let kept = kept_part x q of.1 (kept_entry w v s x ok found has_entry) in
    let here = and_parts _ _ (sym (same_parts w v s e x q ok found has_entry h of.0 of.1).0 ∙ free.here) in
    let held : is_held_by s (master.holder c.master) (target e) ≡ true = ap (λ n. is_held_by n (master.holder c.master) (target e)) (sym h.number) ∙ here.1 in
    let stored = changed_stored w v s x (orders.edited_entry e at) (λ y. refl) ok found has_entry h in
    record {
      reply = refl;
      next =
          same_shop _ _
          (record {
            master = refl;
            workers = refl;
            job = refl;
            tree = refl;
            seen = λ y. refl;
            now = λ y. edited_now c v.name s e at moved.next x (orders.edited_entry e at x) q h stored of.1 (ap (option_map (edited_part e at)) of.1) kept free.plain free.free held y;
            holder = λ y. refl;
            spawns = spawns_stay c v.name s moved.next (orders.edited_entry e at x) h.spawn stored (same_phase h.spawn.phase x (orders.edited_entry e at x) refl ∙ ap (phase_shown h.spawn.phase) (sym h.entered));
          });
      sent = refl;
    }))

pub worker_edits : (w : State) (v : worker.State) (s : ℕ) (e : Edit) (at : ℕ) → IsConsistent w → worker_of w.controllers.workers v.name ≡ Some v → Agrees (worker_moved w.controllers v (ordered_worker (order.Edit s e) at v)) (steps.worker_does v.name (order.Edit s e) at (shop_shown w.controllers))
worker_edits w v s e at ok found = worker_agrees w v (order.Edit s e) at ok found (edit_agrees w v s e at ok found)
