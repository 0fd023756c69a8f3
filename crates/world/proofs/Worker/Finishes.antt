-- A worker finishes the work on a part: its step and the shop's agree.
use Rattle.std.proofs.Common.{◌≡◌, ◌∙◌, ◌||◌, ℕ, true, List, [], ◌∷◌, length, map, Some, is_some, slice_get, refl, sym, ap}
use Rattle.std.specs.Option.{option_and_then, option_map, option_map_or}
use Rattle.ticket_items.specs.Ids.{mem}
use Rattle.ticket_items.specs.Resource.{resource_ids}
use Rattle.ticket_items.specs.Act.{NodeChange, NewStatus}
use Rattle.ticket_items.specs.declared.node_row.NodeRow.{NodeRow}
use Rattle.ticket_items.specs.declared.refusal.Refusal.TheVariants.{NotOpen}
use Rattle.ticket_rows.proofs.Reasons.{node_among}
use Rattle.ticket_rows.specs.Ticket.{IsValid, Job, unless}
use Rattle.ticket_tree.proofs.ById.{among_ids}
use Rattle.ticket_tree.specs.Part.{PartCopy}
use Rattle.ticket_tree.specs.PlainEdit.{act_rows_by_id}
use Rattle.world_items.specs.declared.reply.Reply.TheVariants as reply
use Rattle.spawn.proofs.GoodCopies.{good_node}
use Rattle.spawn.proofs.RowsBelow.{rows_below-around}
use Rattle.spawn.proofs.Split.{around}
use Rattle.spawn.specs.Parts.{above, lifted_row, part_for}
use Rattle.spawn.specs.Records.{IsGood, is_out}
use Rattle.spawn.specs.declared.records.spawn_rec.SpawnRec.{SpawnRec}
use Rattle.merge.specs.Shape.{Fits, Shape, shape}
use Rattle.master_core.specs.Master as master
use Rattle.worker_core.proofs.EditedPart.{ending_free, first_known}
use Rattle.worker_core.proofs.Kept.{kept_part}
use Rattle.worker_core.proofs.Refusals.{of_open, open_free}
use Rattle.worker_core.specs.Orders as orders
use Rattle.worker_core.specs.Worker as worker
use Rattle.world_items.specs.declared.end.End.{End}
use Rattle.worker_core.specs.declared.entry.Entry.{Entry}
use Rattle.world_items.specs.declared.worker_order.Order.TheVariants as order
use Rattle.world.proofs.Shop.Agreeing.{Agrees}
use Rattle.world.proofs.Worker.EntryStored.{spawns_stored}
use Rattle.world.proofs.Master.HeldBySpawn.{good_record, held_claims}
use Rattle.world.proofs.Worker.InPart.{fits_has, part_has}
use Rattle.world.proofs.Shop.Paths.{same_shop}
use Rattle.world.proofs.Worker.TakenSpawns.{phase_out}
use Rattle.world.proofs.Worker.Agrees.{AgreesThere, agrees_as, refused_or_agrees, worker_agrees}
use Rattle.world.proofs.Worker.Edits.{changed_stored, edited_now, kept_entry, open_has_part, open_out, open_shown, part_fits}
use Rattle.world.specs.Controllers.{worker_of}
use Rattle.plain_shop.specs.Shop as shop
use Rattle.plain_shop.specs.Acts.{after_finish, in_phase, is_held_by}
use Rattle.plain_shop.specs.Steps as steps
use Rattle.world.specs.Showing.{now_shown, phase_shown, shop_shown, spawn_shown, tag_of}
use Rattle.world.specs.State.{IsConsistent, State}
use Rattle.controller.specs.Step.{unless_refused}
use Rattle.worker_core.specs.Orders.{order_step as ordered_worker}
use Rattle.world.specs.Stepping.{worker_moved}

-- ---- the node of a part

first_id : (rows : List NodeRow) → option_map_or (λ (s : Shape). s.id) (slice_get (map shape rows) 0) [] ≡ option_map_or (λ (r : NodeRow). r.id) (slice_get rows 0) []
first_id [] = refl
first_id (r ∷ rows) = refl

-- that of a part that fits is the one that was spawned
pub root_spawned : (t : Job) (r : SpawnRec) (p : PartCopy) → IsValid t.rows → IsGood t.rows r → Fits t r p → worker.root_id p ≡ r.node
root_spawned t r p valid good fits =
    let q = part_for t r in
    let at = around t.rows r.node valid (good_node t.rows r good) in
    sym (first_id p.rows) ∙ ap (λ ss. option_map_or (λ (s : Shape). s.id) (slice_get ss 0) []) fits.rows ∙ first_id q.rows
    ∙ ap (λ rs. option_map_or (λ (y : NodeRow). y.id) (slice_get (map (lifted_row (length (above t.rows r.node))) rs) 0) []) (rows_below-around t.rows r.node valid at)
    ∙ at.named

-- and the spawn holds it
pub root_held : (m : master.State) (s : ℕ) (r : SpawnRec) (e : Entry) (p : PartCopy) → master.IsConsistent m → master.record_of m.records s ≡ Some r → is_out r ≡ true → Fits m.ticket r p → worker.IsKeptPart e p → is_held_by s (master.holder m) (worker.root_id p) ≡ true
root_held m s r e p ok found out fits kept =
    let x = worker.root_id p in
    let here : worker.has p x ≡ true = ap (λ b. b || mem x (resource_ids p.rw)) (among_ids x p.rows (node_among p.rows x (first_known p.rows p.rw p.ro kept.valid))) in
    held_claims m s r x ok found out ∙ sym (part_has m.ticket r x ok.valid (good_record m s r ok found out)) ∙ sym (fits_has m.ticket r p x fits) ∙ here

-- ---- the step

finish_agrees : (w : State) (v : worker.State) (s : ℕ) (how : End) (at : ℕ) → IsConsistent w → worker_of w.controllers.workers v.name ≡ Some v → AgreesThere w v (order.Finish s how) at
finish_agrees w v s how at ok found x h has_entry taken =
    let c = w.controllers in
    let p = shop_shown c in
    let r = h.spawn in
    let a = spawn_shown c r in
    let new = orders.finished_entry how at x in
    let moved = orders.allowed_step (order.Finish s how) at v in
    let plain = steps.sending_step (reply.Finished s) (after_finish how at a p) (steps.Return s) in
    let kept = kept_entry w v s x ok found has_entry in
    let shown = open_shown c v.name s x h ∙ sym (open_has_part x kept) in
    agrees_as c v
    (unless_refused (unless (is_some (worker.open_part x)) NotOpen) v moved)
    (unless_refused (unless (shop.is_open a.phase) NotOpen) v moved)
    (unless_refused (unless (shop.is_open a.phase) NotOpen) p plain)
    (unless_refused (unless (shop.is_open a.phase) NotOpen) p plain)
    (ap (λ b. unless_refused (unless b NotOpen) v moved) (sym shown))
    refl
    (refused_or_agrees c v (unless (shop.is_open a.phase) NotOpen) moved plain found (λ none.
    let opened = open_free x (ap (λ b. unless b NotOpen) (sym shown) ∙ none) in
    let q : PartCopy = opened.0 in
    let of = of_open x q opened.1 in
    let part = kept_part x q of.1 kept in
    let out = open_out c v.name s x h of.0 in
    let fits = part_fits c v.name s x q h out of.0 of.1 in
    let good = good_record c.master s r ok.master h.recorded out in
    let root = root_spawned c.master.ticket r q ok.master.valid good fits in
    let held = root_held c.master s r x q ok.master h.recorded out fits part in
    let stored = changed_stored w v s x (orders.finished_entry how at) (λ y. refl) ok found has_entry h in
    record {
      reply = refl;
      next =
          same_shop _ _
          (record {
            master = refl;
            workers = refl;
            job = refl;
            tree = refl;
            seen = λ y. refl;
            now = λ y. edited_now c v.name s (orders.end_edit q how) at moved.next x new q h stored of.1 (ap (option_map (orders.ended_part how at)) of.1) part refl (ending_free q how part.valid) held y
                ∙ ap (λ n. act_rows_by_id (NodeChange n (NewStatus (worker.end_word how))) at (now_shown c) y) root;
            holder = λ y. refl;
            spawns = spawns_stored c v.name s moved.next new r shop.Done stored (ap (λ phase. phase_shown phase (Some new)) (phase_out r.phase out))
                ∙ ap (λ n. in_phase shop.Done n (map (spawn_shown c) c.master.records)) (sym h.number);
          });
      sent = ap (λ o. option_map tag_of (option_and_then (λ (e : Entry). orders.return_of v.name v.master (orders.finished_entry how at e)) o)) has_entry
          ∙ ap (λ o. option_map tag_of (option_map (orders.part_return v.name v.master at) (option_map (orders.ended_part how at) o))) of.1
          ∙ ap (λ n. Some (steps.Return n)) (part.own ∙ h.own);
    }))

pub worker_finishes : (w : State) (v : worker.State) (s : ℕ) (how : End) (at : ℕ) → IsConsistent w → worker_of w.controllers.workers v.name ≡ Some v → Agrees (worker_moved w.controllers v (ordered_worker (order.Finish s how) at v)) (steps.worker_does v.name (order.Finish s how) at (shop_shown w.controllers))
worker_finishes w v s how at ok found = worker_agrees w v (order.Finish s how) at ok found (finish_agrees w v s how at ok found)
