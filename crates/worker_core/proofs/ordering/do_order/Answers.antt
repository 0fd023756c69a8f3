use Rattle.std.proofs.Common.{◌≡◌, ◌∙◌, ℕ, List, true, Option, None, Some, Result, Ok, Err, refl, sym, ap, subst, get_or, slice_set}
use Rattle.std.proofs.lemmas.List.{set-get_or}
use Rattle.std.specs.List.{position}
use Rattle.ticket_items.specs.declared.refusal.Refusal.{Refusal}
use Rattle.controller.proofs.Answered.{free_makes}
use Rattle.controller.specs.Step.{Makes, Step}
use Rattle.controller.specs.declared.done.Done.{Done}
use Rattle.controller.specs.declared.message.Message.{Message}
use Rattle.world_items.specs.declared.reply.Reply.{Reply}
use Rattle.world_items.specs.declared.reply.Reply.TheVariants as reply
use Rattle.ticket_items.specs.declared.edit.Edit.{Edit}
use Rattle.worker_core.proofs.AtNumber.{found_there, write_at_number}
use Rattle.worker_core.proofs.Kept.{number_of}
use Rattle.worker_core.proofs.Places.{refused_at}
use Rattle.worker_core.proofs.Refusals.{work_free}
use Rattle.worker_core.proofs.SpawnIndex.{index_kept, place_inside}
use Rattle.worker_core.specs.Numbers.{are_distinct_numbers}
use Rattle.worker_core.specs.Orders.{allowed_step, edited_entry, finished_entry, order_refusal, order_step, return_of, spawn_of_order, work_refusal}
use Rattle.worker_core.specs.SpawnIndex.{IsSpawnIndex}
use Rattle.worker_core.specs.Worker.{State, is_of, numbers, state}
use Rattle.world_items.specs.declared.end.End.{End}
use Rattle.worker_core.specs.declared.entry.Entry.{Entry}
use Rattle.world_items.specs.declared.worker_order.Order.TheVariants as order
use Rattle.worker_core.proofs.ordering.do_order.Goals as goal
use Rattle.worker_core.proofs.ordering.do_order.Goals.{in-Edit, in-Finish, in-Resend}

-- ---- a step of the entry at a place

-- a step, of an entry or of a worker
abbrev step_to : {S : Type 0} → Reply → Option Message → S → Step S Message
step_to reply sent next = record { reply = Ok reply; sent = sent; next = next }

-- an entry is of its spawn still
own : (reply : Reply) (sent : Option Message) (next x y : Entry) (result : Result Done Refusal) → next.spawn_id ≡ x.spawn_id → Makes (step_to reply sent next) x result y → y.spawn_id ≡ x.spawn_id
own reply sent next x y (Ok done) same makes = ap (λ (s : Step Entry Message). s.next.spawn_id) makes.ok ∙ same
own reply sent next x y (Err e) same makes = ap number_of makes.err

-- the worker makes the step with what becomes of its entries
on_place : (reply : Reply) (sent : Option Message) (w : State) (later : List Entry) (k : ℕ) (next x y : Entry) (result : Result Done Refusal)
    → x ≡ get_or w.entries k x → slice_set w.entries k next ≡ later → Makes (step_to reply sent next) x result y
    → Makes (step_to reply sent (record w { entries = later })) w result (record w { entries = slice_set w.entries k y })
on_place reply sent w later k next x y (Ok done) is put makes =
    record {
      ok = ap (λ (s : Step Entry Message). record { reply = s.reply; sent = s.sent; next = record w { entries = slice_set w.entries k s.next } }) makes.ok
          ∙ ap (λ es. step_to reply sent (record w { entries = es })) put;
      err = tt;
      refused = tt;
      memory = tt;
    }
on_place reply sent w later k next x y (Err e) is put makes =
    let stays : slice_set w.entries k y ≡ w.entries = ap (slice_set w.entries k) (makes.err ∙ is) ∙ set-get_or w.entries k x in
    record { ok = tt; err = ap (λ es. record w { entries = es }) stays; refused = tt; memory = makes.memory }

edited_at : (s : ℕ) (e : Edit) (at : ℕ) (w : State) (k : ℕ) (x y : Entry) (result : Result Done Refusal)
    → are_distinct_numbers (numbers w.entries) ≡ true → position (is_of s) w.entries ≡ Some k → x ≡ get_or w.entries k x
    → Makes (step_to reply.Edited None (edited_entry e at x)) x result y → Makes (allowed_step (order.Edit s e) at w) w result (record w { entries = slice_set w.entries k y })
edited_at s e at w k x y result once here is makes =
    on_place reply.Edited None w _ k (edited_entry e at x) x y result is (write_at_number number_of s (edited_entry e at) w.entries k x once here is) makes

finished_at : (s : ℕ) (how : End) (at : ℕ) (w : State) (k : ℕ) (x y : Entry) (result : Result Done Refusal)
    → are_distinct_numbers (numbers w.entries) ≡ true → position (is_of s) w.entries ≡ Some k → x ≡ get_or w.entries k x
    → Makes (step_to (reply.Finished s) (return_of w.name w.master (finished_entry how at x)) (finished_entry how at x)) x result y
    → Makes (allowed_step (order.Finish s how) at w) w result (record w { entries = slice_set w.entries k y })
finished_at s how at w k x y result once here is makes =
    rw (found_there number_of s w.entries k x here is)
    (on_place (reply.Finished s) _ w _ k (finished_entry how at x) x y result is (write_at_number number_of s (finished_entry how at) w.entries k x once here is) makes)

resent_at : (s at : ℕ) (w : State) (k : ℕ) (x : Entry) (result : Result Done Refusal)
    → position (is_of s) w.entries ≡ Some k → x ≡ get_or w.entries k x
    → Makes (step_to (reply.Sent s) (return_of w.name w.master x) x) x result x → Makes (allowed_step (order.Resend s) at w) w result (record w { entries = slice_set w.entries k x })
resent_at s at w k x result here is makes =
    rw (found_there number_of s w.entries k x here is)
    (on_place (reply.Sent s) _ w _ k x x x result is (ap (slice_set w.entries k) is ∙ set-get_or w.entries k x) makes)

-- ---- the goals

-- an order on an entry that isn't refused
free : (c : goal.Joined-order) → order_refusal c.args.order c.entries.inside.list.items ≡ None
free c = ap (order_refusal c.args.order) c.entries.view_is ∙ c.in-Ok.ensures.refusal

-- the index with an entry of the same spawn in its place
index : (c : goal.Joined-order) (y : Entry) → y.spawn_id ≡ c.index_mut-entry.result.now.spawn_id → IsSpawnIndex c.entries.inside.spawns (slice_set c.entries.inside.list.items c.in-Ok.place y)
index c y same = index_kept c.entries.inside.spawns c.entries.inside.list.items c.in-Ok.place c.index_mut-entry.result.now y c.entries.invariant c.index_mut-entry.ensures.value same

pub invariant_of-entries : goal.invariant_of-entries
invariant_of-entries c =
    elim c.match-order.branch [
      | in-Edit b ↦ rw b.entries-inside-is (index c b.do_edit.new.entry (own _ _ _ _ _ b.do_edit.result refl b.do_edit.ensures))
      | in-Finish b ↦ rw b.entries-inside-is (index c b.do_finish.new.entry (own _ _ _ _ _ b.do_finish.result refl b.do_finish.ensures))
      | in-Resend b ↦ rw b.entries-inside-is (index c c.index_mut-entry.result.now refl)
    ]

pub do_edit-requires : goal.do_edit-requires
do_edit-requires c =
    let o = c.args.order in
    let k = c.in-Ok.place in
    let s = spawn_of_order o in
    let x = c.index_mut-entry.result.now in
    let entries = c.entries.inside.list.items in
    let here = place_inside s k entries c.args.entries.now c.entries.view_is c.in-Ok.ensures.place in
    let none = (work_free o x (sym (refused_at o entries s k x refl here c.index_mut-entry.ensures.value) ∙ ap (order_refusal o) c.entries.view_is ∙ c.in-Ok.ensures.refusal)).1 in
    subst (λ p. work_refusal p x ≡ None) c.in-Edit.is none

pub returns-after-order : goal.returns-after-order
returns-after-order c =
    let o = c.args.order in
    let at = c.args.at in
    let name = c.args.name.now in
    let master = c.args.master.now in
    let k = c.in-Ok.place in
    let x = c.index_mut-entry.result.now in
    let is = c.index_mut-entry.ensures.value in
    let once = c.entries.invariant.once in
    let entries = c.entries.inside.list.items in
    let w = state name master entries in
    let here = place_inside (spawn_of_order o) k entries c.args.entries.now c.entries.view_is c.in-Ok.ensures.place in
    subst (λ es. Makes (order_step o at (state name master es)) (state name master es) c.match-order.result (state name master c.match-order.entries-inside.list.items)) c.entries.view_is
    (free_makes (order_refusal o entries) w (allowed_step o at w) _ _ (free c)
    (elim c.match-order.branch [
      | in-Edit b ↦ rw (b.result-is, b.entries-inside-is, b.in-Edit.is) (edited_at b.in-Edit.field-0 b.in-Edit.edit at w k x b.do_edit.new.entry b.do_edit.result once (rw b.in-Edit.is at here) is b.do_edit.ensures)
      | in-Finish b ↦ rw (b.result-is, b.entries-inside-is, b.in-Finish.is) (finished_at b.in-Finish.spawn b.in-Finish.end at w k x b.do_finish.new.entry b.do_finish.result once (rw b.in-Finish.is at here) is b.do_finish.ensures)
      | in-Resend b ↦ rw (b.result-is, b.entries-inside-is, b.in-Resend.is) (resent_at b.in-Resend.spawn at w k x b.do_resend.result (rw b.in-Resend.is at here) is b.do_resend.ensures)
    ]))
