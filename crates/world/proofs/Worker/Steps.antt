-- What a worker makes of an order or a message: the controllers are later, its entries have records, and what it sends is new.
use Rattle.std.proofs.Common.{◌≡◌, ◌==◌, ◌&&◌, inl, inr, ℕ, Bool, true, false, cond, List, Option, Some, None, IfSome, IsSomeAnd, Result, Ok, Err, is_none, is_ok, is_some, refl, sym, ap, ◌∙◌, subst}
use Rattle.std.proofs.lemmas.Bool.{and_parts, eqb-true, true≢false}
use Rattle.std.proofs.lemmas.List.Elements.{All-push}
use Rattle.std.specs.List.{All}
use Rattle.std.specs.Option.{option_map, option_map_or}
use Rattle.std.specs.Str.{bytes_eq}
use Rattle.ticket_items.proofs.Places.{same_found}
use Rattle.ticket_items.specs.declared.refusal.Refusal.{Refusal}
use Rattle.ticket_rows.proofs.AtHome.{find-passes}
use Rattle.ticket_tree.specs.Part.{PartCopy, edited_part}
use Rattle.controller.specs.declared.body.Body.{Body}
use Rattle.controller.specs.declared.body.Body.TheVariants.{Submit, Return, Abort, Answer}
use Rattle.controller.specs.declared.command.Command.TheVariants as command
use Rattle.controller.specs.Step.{Step, message_step}
use Rattle.controller.specs.declared.message.Message.{Message}
use Rattle.controller.specs.declared.queue_status.QueueStatus.{QueueStatus}
use Rattle.spawn.specs.Parts.{part_for}
use Rattle.spawn.specs.Records.{is_out}
use Rattle.spawn.specs.declared.records.spawn_rec.SpawnRec.{SpawnRec}
use Rattle.merge.proofs.Lawful.{made_part_fits}
use Rattle.merge.specs.Shape.{Fits}
use Rattle.worker_core.proofs.AtNumber.{All-at_number, All-each_at_number, found_holds}
use Rattle.worker_core.proofs.Closing.{aborted_shut, closed_number, open_taken}
use Rattle.worker_core.proofs.Kept.{kept_part, number_of}
use Rattle.worker_core.proofs.MessageLaws.{message_keeps_entries}
use Rattle.worker_core.proofs.OrderLaws.{order_keeps_entries, ordered_return}
use Rattle.worker_core.proofs.Refusals.{done_order, edit_free, for_free, ordered_on}
use Rattle.worker_core.specs.Laws.{entry_after}
use Rattle.worker_core.specs.Messages.{abort_taking, aborted_entry, decline_taking, entry_taking, is_for_worker, on_answer, on_body, repeat_taking, take_refusal, take_step}
use Rattle.worker_core.specs.Orders.{allowed_step, edited_entry, end_edit, ended_part, finished_entry, order_refusal, part_return, spawn_of_order}
use Rattle.worker_core.specs.Worker.{IsConsistent, IsKeptEntry, IsKeptPart, State, closed_entry, declined_entry, entry_of, is_declined, is_ended, is_of, is_open, new_entry}
use Rattle.world_items.specs.declared.end.End.TheVariants.{Aborted}
use Rattle.worker_core.specs.declared.entry.Entry.{Entry}
use Rattle.world_items.specs.declared.worker_order.Order.{Order}
use Rattle.world_items.specs.declared.worker_order.Order.TheVariants as order
use Rattle.master_core.specs.Master.{record_of}
use Rattle.world.proofs.Worker.EditedFits.{edited_fits}
use Rattle.world.proofs.Runs.Cases.{made_of}
use Rattle.world.proofs.Messages.StaysLater.{AreLater, IsSameOrClosed}
use Rattle.stored_state.specs.Names.{worker_ordered_names}
use Rattle.world.proofs.Messages.Sending.{IsNew, new_message}
use Rattle.world.proofs.Worker.Stored.{and_found, and_mapped, entry_goes_on, entry_there, found_and, if_some}
use Rattle.world.specs.Controllers.{Controllers, with_worker, worker_of}
use Rattle.world.specs.Messages.{IsInOrder, IsRecorded, entry_for}

-- the controllers with the worker of a name as it is next
abbrev pub with_next : Controllers → List ℕ → State → Controllers
with_next c name next = record c { workers = with_worker name next c.workers }

-- what has ended at the worker has ended then
pub worker_later : (c : Controllers) (v next : State) → worker_of c.workers v.name ≡ Some v → next.name ≡ v.name
    → ((s : ℕ) (e : Entry) → entry_of v.entries s ≡ Some e → is_open e ≡ false → (x : Entry) × (entry_of next.entries s ≡ Some x) × IsSameOrClosed e x) → AreLater c (with_next c v.name next)
worker_later c v next found own stays =
    record {
      name = refl;
      records = λ s r there. record { next = r; found = there; worker = refl; since = refl; same = λ out. refl; part = λ out. refl };
      ended = λ n s e there ended. entry_goes_on (IsSameOrClosed e) v.name n v next c.workers s e found own (inl refl) (λ here. stays s e here ended) there;
    }

-- ---- orders

pub ordered_stays : (o : Order) (at : ℕ) (v : State) → IsConsistent v → order_refusal o v.entries ≡ None → (s : ℕ) (e : Entry) → entry_of v.entries s ≡ Some e → is_open e ≡ false → (x : Entry) × (entry_of (allowed_step o at v).next.entries s ≡ Some x) × IsSameOrClosed e x
ordered_stays o at v kept none s e found ended =
    let next = order_keeps_entries o at v s e kept found in
    (next.0, ap (λ (step : Step State Message). entry_of step.next.entries s) (sym (done_order o at v none)) ∙ next.1, inl (next.2.finished ended))

-- an order makes no entry, and the part that one has fits still
changed_recorded : (f : PartCopy → PartCopy) (c : Controllers) (name : List ℕ) (x y : Entry) → ((r : SpawnRec) (p : PartCopy) → Fits c.master.ticket r p → Fits c.master.ticket r (f p)) → y.spawn_id ≡ x.spawn_id → y.part ≡ option_map f x.part → is_declined x ≡ false → IsRecorded c name x → IsRecorded c name y
changed_recorded f c name x y fits number part on_body h =
    let there = and_found _ (record_of c.master.records x.spawn_id) h in
    let r = there.0 in
    found_and _ (record_of c.master.records y.spawn_id) r (ap (record_of c.master.records) number ∙ there.1) (
      there.2.0,
      λ out next. subst (λ o. IsSomeAnd o (Fits c.master.ticket r)) (sym part) (and_mapped (Fits c.master.ticket r) (Fits c.master.ticket r) f x.part (fits r) (there.2.1 out on_body)),
    )

pub ordered_recorded : (o : Order) (at : ℕ) (c : Controllers) (v : State) → IsConsistent v → order_refusal o v.entries ≡ None → All (IsRecorded c v.name) v.entries → All (IsRecorded c v.name) (allowed_step o at v).next.entries
ordered_recorded (order.Edit s e) at c v kept none all =
    let on = ordered_on (order.Edit s e) v.entries none in
    let x : Entry = on.0 in
    let plain = (edit_free e x on.2).plain in
    All-at_number (IsRecorded c v.name) number_of s (edited_entry e at) v.entries x kept.once on.1
    (changed_recorded (edited_part e at) c v.name x (edited_entry e at x) (λ r p. edited_fits e at c.master.ticket r p plain) refl refl on.3 (found_holds (IsRecorded c v.name) (is_of s) v.entries x on.1 all)) all
ordered_recorded (order.Finish s how) at c v kept none all =
    let on = ordered_on (order.Finish s how) v.entries none in
    let x : Entry = on.0 in
    All-at_number (IsRecorded c v.name) number_of s (finished_entry how at) v.entries x kept.once on.1
    (changed_recorded (ended_part how at) c v.name x (finished_entry how at x) (λ r p. edited_fits (end_edit p how) at c.master.ticket r p refl) refl refl on.3 (found_holds (IsRecorded c v.name) (is_of s) v.entries x on.1 all)) all
ordered_recorded (order.Resend s) at c v kept none all = all

-- an entry whose work has ended may be given back
return_is_new : (c : Controllers) (messages : List Message) (v next : State) (s : ℕ) (e : Entry) (p : PartCopy) → worker_of c.workers v.name ≡ Some v → next.name ≡ v.name → v.master ≡ c.master.name → IsConsistent next → All (IsRecorded (with_next c v.name next) v.name) next.entries
    → All (IsInOrder (with_next c v.name next)) messages → entry_of next.entries s ≡ Some e → is_ended e ≡ true → e.part ≡ Some p → IsNew (with_next c v.name next) messages (part_return v.name v.master e.at p)
return_is_new c messages v next s e p found own knows kept recorded all here ended has =
    let d = with_next c v.name next in
    let number : e.spawn_id ≡ s = eqb-true e.spawn_id s (find-passes (is_of s) next.entries e here) in
    let there = and_found _ (record_of c.master.records e.spawn_id) (found_holds (IsRecorded d v.name) (is_of s) next.entries e here recorded) in
    let r = there.0 in
    let id : r.id ≡ s = eqb-true r.id e.spawn_id (find-passes (λ q. q.id == e.spawn_id) c.master.records r there.1) ∙ number in
    let part : IsKeptPart e p = kept_part e p has (found_holds IsKeptEntry (is_of s) next.entries e here kept.each) in
    let entered : entry_for d r ≡ Some e = ap (λ n. entry_for d (record r { worker = n })) there.2.0 ∙ entry_there v.name v next c.workers r.id found own ∙ ap (entry_of next.entries) id ∙ here in
    let named : part_return v.name v.master e.at p ≡ part_return r.worker c.master.name e.at p = ap (λ n. part_return n v.master e.at p) (sym there.2.0) ∙ ap (λ n. part_return r.worker n e.at p) knows in
    new_message d messages _ all
    (record {
      spawn = r;
      recorded = ap (record_of c.master.records) part.own ∙ there.1;
      from = sym there.2.0;
      to = knows;
      says = found_and _ (entry_for d r) e entered (ended, subst (λ o. IfSome (option_map (part_return r.worker c.master.name e.at) o) (λ n. part_return v.name v.master e.at p ≡ n)) (sym has) named);
      for_master = part.valid;
      for_worker = tt;
      sound = tt;
    })
    (found_and _ (entry_for d r) e entered (ap is_some has))

pub ordered_sends : (o : Order) (at : ℕ) (c : Controllers) (messages : List Message) (v : State) → worker_of c.workers v.name ≡ Some v → v.master ≡ c.master.name → order_refusal o v.entries ≡ None → IsConsistent (allowed_step o at v).next → All (IsRecorded (with_next c v.name (allowed_step o at v).next) v.name) (allowed_step o at v).next.entries
    → All (IsInOrder (with_next c v.name (allowed_step o at v).next)) messages → IfSome (allowed_step o at v).sent (IsNew (with_next c v.name (allowed_step o at v).next) messages)
ordered_sends o at c messages v found knows none kept recorded all =
    let next = (allowed_step o at v).next in
    if_some _ (allowed_step o at v).sent (λ m is.
    let gives = ordered_return o at v none m is in
    let e : Entry = gives.0 in
    let made = made_of (part_return v.name v.master e.at) e.part m gives.3 in
    subst (IsNew (with_next c v.name next) messages) made.2 (return_is_new c messages v next (spawn_of_order o) e made.0 found (worker_ordered_names o at v).own knows kept recorded all gives.1 gives.2 made.1))

-- ---- messages

recorded_push : (found : Option Entry) (c : Controllers) (v : State) (p : PartCopy) (at : ℕ) → All (IsRecorded c v.name) v.entries → IsRecorded c v.name (new_entry p at) → All (IsRecorded c v.name) (option_map_or (repeat_taking p.spawn_id v) found (entry_taking p at v)).next.entries
recorded_push None c v p at all own = All-push (IsRecorded c v.name) v.entries (new_entry p at) all own
recorded_push (Some e) c v p at all own = all

same_part : (p q : PartCopy) → Submit p ≡ Submit q → p ≡ q
same_part p q e = cc

-- an entry is closed where its spawn isn't out
closed_recorded : (c : Controllers) (name : List ℕ) (s : ℕ) (r : SpawnRec) (e : Entry) → record_of c.master.records s ≡ Some r → is_out r ≡ false → (e.spawn_id == s) ≡ true → IsRecorded c name e → IsRecorded c name (closed_entry e)
closed_recorded c name s r e found back own h =
    let there = and_found _ (record_of c.master.records e.spawn_id) h in
    let same : there.0 ≡ r = same_found there.0 r (record_of c.master.records s) (ap (record_of c.master.records) (sym (eqb-true e.spawn_id s own)) ∙ there.1) found in
    found_and _ (record_of c.master.records (closed_entry e).spawn_id) there.0 (ap (record_of c.master.records) (closed_number e) ∙ there.1) (there.2.0, λ out on_body. absurd (true≢false (sym out ∙ ap is_out same ∙ back)))

recorded_answered : (told : Result QueueStatus ℕ) (c : Controllers) (s : ℕ) (r : SpawnRec) (v : State) → record_of c.master.records s ≡ Some r → is_out r ≡ false → All (IsRecorded c v.name) v.entries → All (IsRecorded c v.name) (on_answer s told v).next.entries
recorded_answered (Err reason) c s r v found back all = all
recorded_answered (Ok status) c s r v found back all = All-each_at_number (IsRecorded c v.name) number_of s closed_entry v.entries (λ e own h. closed_recorded c v.name s r e found back own h) all

-- one that is to be given up has its part as it had it
aborted_by : (b : Bool) (at : ℕ) (c : Controllers) (name : List ℕ) (e : Entry) → is_open e ≡ b → IsRecorded c name e → IsRecorded c name (aborted_entry at e)
aborted_by true at c name e open' h =
    subst (λ b. IsRecorded c name (cond b (finished_entry Aborted at e) e)) (sym open')
    (changed_recorded (ended_part Aborted at) c name e (finished_entry Aborted at e) (λ r p. edited_fits (end_edit p Aborted) at c.master.ticket r p refl) refl refl (open_taken e open') h)
aborted_by false at c name e shut h = subst (IsRecorded c name) (sym (aborted_shut at e shut)) h

recorded_aborted : (found : Option Entry) (c : Controllers) (s at : ℕ) (r : SpawnRec) (v : State) → record_of c.master.records s ≡ Some r → r.worker ≡ v.name → All (IsRecorded c v.name) v.entries
    → All (IsRecorded c v.name) (option_map_or (abort_taking s at v) found (decline_taking s at v)).next.entries
recorded_aborted (Some x) c s at r v found named all = All-each_at_number (IsRecorded c v.name) number_of s (aborted_entry at) v.entries (λ e own h. aborted_by (is_open e) at c v.name e refl h) all
recorded_aborted None c s at r v found named all =
    All-push (IsRecorded c v.name) v.entries (declined_entry s at) all (found_and _ (record_of c.master.records s) r found (named, λ out on_body. absurd (true≢false on_body)))

recorded_taken : (c : Controllers) (v : State) (sender receiver : List ℕ) (sent at : ℕ) (body : Body) → receiver ≡ v.name → is_for_worker body ≡ true → IsInOrder c (record { sender = sender; receiver = receiver; at = sent; body = body }) → All (IsRecorded c v.name) v.entries → All (IsRecorded c v.name) (on_body body at v).next.entries
recorded_taken c v sender receiver sent at (Submit p) own theirs h all =
    let made = λ (out : is_out h.spawn ≡ true). same_part p (part_for c.master.ticket h.spawn) (ap (λ (m : Message). m.body) (h.says out)) in
    recorded_push (entry_of v.entries p.spawn_id) c v p at all
    (found_and _ (record_of c.master.records p.spawn_id) h.spawn h.recorded (sym h.to ∙ own, λ out on_body. subst (Fits c.master.ticket h.spawn) (sym (made out)) (made_part_fits c.master.ticket h.spawn)))
recorded_taken c v sender receiver sent at (Return p) own theirs h all = all
recorded_taken c v sender receiver sent at (Abort s) own theirs h all = recorded_aborted (entry_of v.entries s) c s at h.spawn v h.recorded (sym h.to ∙ own) all
recorded_taken c v sender receiver sent at (Answer command.Submit s told) own theirs h all = absurd (true≢false (sym theirs))
recorded_taken c v sender receiver sent at (Answer command.Abort s told) own theirs h all = absurd (true≢false (sym theirs))
recorded_taken c v sender receiver sent at (Answer command.Return s told) own theirs h all = recorded_answered told c s h.spawn v h.recorded h.says.1 all

recorded_either : (refusal : Option Refusal) (c : Controllers) (m : Message) (at : ℕ) (v : State) → take_refusal m v ≡ refusal → m.receiver ≡ v.name → IsInOrder c m → All (IsRecorded c v.name) v.entries
    → All (IsRecorded c v.name) (message_step v.name m at refusal v (on_body m.body at v)).next.entries
recorded_either (Some e) c m at v is own h all = all
recorded_either None c m at v is own h all =
    recorded_taken c v m.sender m.receiver m.at at m.body own (and_parts (bytes_eq m.receiver v.name) (is_for_worker m.body) (for_free m v is)).1 h all

-- a part that is taken is of a spawn that has a record
pub taken_recorded : (c : Controllers) (m : Message) (at : ℕ) (v : State) → m.receiver ≡ v.name → IsInOrder c m → All (IsRecorded c v.name) v.entries → All (IsRecorded c v.name) (take_step m at v).next.entries
taken_recorded c m at v own h all = recorded_either (take_refusal m v) c m at v refl own h all

same_or_closed : (b : Bool) (e : Entry) → IsSameOrClosed e (cond b (closed_entry e) e)
same_or_closed true e = inr refl
same_or_closed false e = inl refl

-- what isn't open is the same or closed after a message
after_shut : (s : ℕ) (body : Body) (at : ℕ) (e : Entry) → is_open e ≡ false → IsSameOrClosed e (entry_after s body at e)
after_shut s (Submit p) at e shut = inl refl
after_shut s (Return p) at e shut = inl refl
after_shut s (Abort t) at e shut = inl (same_if (t == s) (aborted_entry at e) e (aborted_shut at e shut))
  where
    same_if : (b : Bool) (new old : Entry) → new ≡ old → cond b new old ≡ old
    same_if true new old is = is
    same_if false new old is = refl
after_shut s (Answer c t told) at e shut = same_or_closed ((t == s) && is_ok told) e

taken_if : (b : Bool) (old new : Entry) → IsSameOrClosed old new → IsSameOrClosed old (cond b new old)
taken_if true old new is = is
taken_if false old new is = inl refl

pub taken_stays : (m : Message) (at : ℕ) (v : State) (s : ℕ) (e : Entry) → entry_of v.entries s ≡ Some e → is_open e ≡ false → (x : Entry) × (entry_of (take_step m at v).next.entries s ≡ Some x) × IsSameOrClosed e x
taken_stays m at v s e found ended =
    let free = is_none (take_refusal m v) in
    let next = entry_after s m.body at e in
    (cond free next e, message_keeps_entries m at v s e found, taken_if free e next (after_shut s m.body at e ended))
