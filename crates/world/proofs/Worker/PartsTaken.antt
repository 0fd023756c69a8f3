-- A part that comes to its worker: the controllers' step and the shop's agree.
use Rattle.std.proofs.Common.{◌≡◌, ◌==◌, ◌∙◌, ℕ, Bool, true, false, cond, not, List, [], ◌∷◌, ◌++◌, map, Option, Some, None, Result, Ok, Err, refl, sym, ap, subst}
use Rattle.std.proofs.lemmas.Bool.{eq-eqb, eqb-false, ne_eqb}
use Rattle.std.proofs.lemmas.List.Elements.{All-contains}
use Rattle.std.proofs.lemmas.List.Folds.{find-append}
use Rattle.std.specs.List.{Contains}
use Rattle.std.specs.Option.{option_and_then, option_map, option_map_or, option_or}
use Rattle.ticket_items.proofs.Places.{same_found}
use Rattle.ticket_items.specs.declared.refusal.Refusal.{Refusal}
use Rattle.ticket_rows.specs.Place.{Place, place_at, places, row_in}
use Rattle.ticket_tree.specs.Part.{PartCopy}
use Rattle.ticket_tree.specs.PartView.{part_row}
use Rattle.controller.specs.Reply.{answer_to}
use Rattle.controller.specs.declared.body.Body.TheVariants.{Submit}
use Rattle.controller.specs.declared.message.Message.{Message}
use Rattle.controller.specs.declared.queue_status.QueueStatus.{QueueStatus}
use Rattle.world_items.specs.declared.reply.Reply.TheVariants as reply
use Rattle.spawn.proofs.Lawful.{held_is_claimed, placed}
use Rattle.spawn.proofs.PartShows.{part_shows_claim}
use Rattle.plain_shop.specs.Claim.{is_claimed}
use Rattle.spawn.specs.Parts.{part_for}
use Rattle.spawn.specs.Records.{is_out}
use Rattle.spawn.specs.Table.{holder_at, holding_record, holds}
use Rattle.spawn.specs.declared.records.spawn_rec.SpawnRec.{SpawnRec}
use Rattle.world_items.specs.declared.holder.Holder.TheVariants.{Master, Spawn}
use Rattle.master_core.proofs.Recorded.{number_is}
use Rattle.master_core.specs.Master as master
use Rattle.worker_core.proofs.AtNumber.{found_holds}
use Rattle.worker_core.specs.Messages.{again_reply, entry_taking, repeat_taking}
use Rattle.worker_core.specs.Worker as worker
use Rattle.worker_core.specs.declared.entry.Entry.{Entry}
use Rattle.world.proofs.Shop.Agreeing.{Agrees, StepsAgree}
use Rattle.world.proofs.Worker.EndedEntries.{one_record}
use Rattle.world.proofs.Runs.Cases.{split, split_some}
use Rattle.world.proofs.Messages.MessagesTaken.{worker_refuses_nothing}
use Rattle.world.proofs.Worker.EntryStored.{HasStored, row_stored, spawns_stored}
use Rattle.world.proofs.Master.Resends.{spawn_found}
use Rattle.world.proofs.Worker.SameWorkers.{stored_same}
use Rattle.world.proofs.Shop.Paths.{same_shop}
use Rattle.world.proofs.Worker.Stored.{and_found}
use Rattle.world.proofs.Worker.TakenSpawns.{phase_away, phase_of_entry, phase_out, taken_of_entry}
use Rattle.world.specs.Controllers.{Controllers, entry_at, is_named, worker_of}
use Rattle.world.specs.Messages.{HasComeBack, IsBack, IsInOrder, entry_for}
use Rattle.plain_shop.specs.Shop.{Open, is_away, is_taken}
use Rattle.plain_shop.specs.Acts.{after_taking, in_phase}
use Rattle.plain_shop.specs.Steps as shop
use Rattle.world.specs.Showing.{entry_of_spawn, phase_shown, row_at, seen_shown, shop_shown, spawn_shown, tag_of}
use Rattle.world.specs.State.{IsConsistent, State}
use Rattle.controller.specs.Step.{Step, Taking, message_step}
use Rattle.worker_core.specs.Messages.{take_step as taken_by_worker}
use Rattle.world.specs.Stepping.{worker_moved}
use Rattle.world_items.specs.declared.word.Word.TheVariants.{NoMessage}

-- the message that brings a part to a worker
abbrev part_sent : List ℕ → worker.State → ℕ → PartCopy → Message
part_sent sender v sent p = record { sender = sender; receiver = v.name; at = sent; body = Submit p }

-- what comes of it, by the entry that the worker has, and the worker's step, by why the part is refused
abbrev coming : worker.State → PartCopy → ℕ → Option Entry → Taking worker.State
coming v p at o = option_map_or (repeat_taking p.spawn_id v) o (entry_taking p at v)

abbrev step_by : worker.State → Message → PartCopy → ℕ → Option Refusal → Option Entry → Step worker.State Message
step_by v m p at why o = message_step v.name m at why v (coming v p at o)

-- its answer goes back
abbrev IsAnswered : worker.State → Message → PartCopy → ℕ → Type 0
IsAnswered v m p at = (told : Result QueueStatus ℕ) → option_map tag_of (answer_to v.name m at told) ≡ Some (shop.ToSubmit p.spawn_id)

-- ---- what the spawn holds

spawn_here : (s : ℕ) (o : Option SpawnRec) → Some (option_map_or (λ (q : SpawnRec). Spawn q.id) o Master) ≡ Some (Spawn s) → (q : SpawnRec) × (o ≡ Some q) × (q.id ≡ s)
spawn_here s None e = cc
spawn_here s (Some q) e = (q, refl, same_number q.id s e)
  where
    same_number : (m n : ℕ) → Some (Spawn m) ≡ Some (Spawn n) → m ≡ n
    same_number m n e = cc

-- what a spawn holds stands in the ticket, and its record claims it and is out
pub held_claimed : (m : master.State) (s : ℕ) (r : SpawnRec) (x : List ℕ) → master.IsConsistent m → master.record_of m.records s ≡ Some r → master.holder m x ≡ Some (Spawn s)
    → (p : Place) × (place_at (places m.ticket.rows) x ≡ Some p) × (is_claimed r.node r.rw p ≡ true) × (is_out r ≡ true)
held_claimed m s r x ok found held = by (place_at (places m.ticket.rows) x) refl held
  where
    by : (o : Option Place) → place_at (places m.ticket.rows) x ≡ o → option_map (holder_at m.records) o ≡ Some (Spawn s) → (p : Place) × (place_at (places m.ticket.rows) x ≡ Some p) × (is_claimed r.node r.rw p ≡ true) × (is_out r ≡ true)
    by None there e = cc
    by (Some p) there e =
        let is = spawn_here s (holding_record m.records p) e in
        let at = placed (holds p) m.records is.0 is.1 in
        let same : is.0 ≡ r = one_record m.records at.place s is.0 r ok.numbered at.there found (is.2 ∙ sym (number_is m.records s r found)) in
        let holds_it = held_is_claimed m.records is.0 p is.1 in
        (p, there, ap (λ (q : SpawnRec). is_claimed q.node q.rw p) (sym same) ∙ holds_it.1, ap is_out (sym same) ∙ holds_it.0)

-- ---- a part of which there is an entry

flipped : {X : Type 0} (b : Bool) (x y : X) → cond (not b) x y ≡ cond b y x
flipped true x y = refl
flipped false x y = refl

-- it is taken as one that came again, or was declined, just as its spawn is shown
pub again_shown : (c : Controllers) (s : ℕ) (r : SpawnRec) (e : Entry) → r.id ≡ s → HasComeBack c r → entry_for c r ≡ Some e → again_reply s e ≡ shop.repeat_reply (spawn_shown c r)
again_shown c s r e number back entered =
    let known = λ (isn't : is_out r ≡ false). let there = and_found (IsBack r.phase) (entry_for c r) (back isn't) in subst (IsBack r.phase) (same_found there.0 e (entry_for c r) there.1 entered) there.2 in
    ap (λ n. again_reply n e) (sym number)
    ∙ sym (flipped (worker.is_declined e) (reply.Again r.id) (reply.Declined r.id))
    ∙ sym (ap (λ b. cond b (reply.Again r.id) (reply.Declined r.id)) (ap (λ o. is_taken (phase_shown r.phase o)) entered ∙ taken_of_entry r.phase e known))

taken_again : (w : State) (v : worker.State) (m : Message) (p : PartCopy) (at : ℕ) (r : SpawnRec) (e : Entry) → IsConsistent w → worker_of w.controllers.workers v.name ≡ Some v → r.id ≡ p.spawn_id → HasComeBack w.controllers r → entry_for w.controllers r ≡ Some e
    → IsAnswered v m p at
    → Agrees (worker_moved w.controllers v (step_by v m p at None (Some e))) (shop.on_submit (shop_shown w.controllers) (spawn_shown w.controllers r))
taken_again w v m p at r e ok found number back entered answered =
    let c = w.controllers in
    let s = shop_shown c in
    subst (λ b. Agrees (worker_moved c v (step_by v m p at None (Some e))) (cond b (shop.sending_step (reply.Taken r.id) (after_taking r.id s) (shop.ToSubmit r.id)) (shop.sending_step (shop.repeat_reply (spawn_shown c r)) s (shop.ToSubmit r.id))))
    (sym (ap (λ o. is_away (phase_shown r.phase o)) entered ∙ (phase_of_entry r.phase e).away))
    (record {
      reply = ap Ok (again_shown c p.spawn_id r e number back entered);
      next = ap shop_shown (stored_same w v.name v ok found);
      sent = answered (coming v p at (Some e)).response ∙ ap (λ n. Some (shop.ToSubmit n)) (sym number);
    })

-- ---- a part of which there is none

-- one that is pushed is found behind all others, which are found as before
pub entry_behind : (entries : List Entry) (new : Entry) (s : ℕ) → new.spawn_id ≡ s → worker.entry_of entries s ≡ None → worker.entry_of (entries ++ new ∷ []) s ≡ Some new
entry_behind entries new s own missing =
    find-append (worker.is_of s) entries (new ∷ []) ∙ ap (λ o. option_or o (worker.entry_of (new ∷ []) s)) missing
    ∙ ap (λ b. cond b (Some new) None) (eq-eqb new.spawn_id s own)

pub entry_before : (entries : List Entry) (new : Entry) (s t : ℕ) → new.spawn_id ≡ s → (t == s) ≡ false → worker.entry_of (entries ++ new ∷ []) t ≡ worker.entry_of entries t
entry_before entries new s t own other =
    let away : (new.spawn_id == t) ≡ false = ne_eqb new.spawn_id t (λ same. eqb-false t s other (sym same ∙ own)) in
    find-append (worker.is_of t) entries (new ∷ []) ∙ ap (λ b. option_or (worker.entry_of entries t) (cond b (Some new) None)) away ∙ or_nothing (worker.entry_of entries t)
  where
    or_nothing : {X : Type 0} (o : Option X) → option_or o None ≡ o
    or_nothing None = refl
    or_nothing (Some x) = refl

-- its spawn is out, since what was put in has an entry
pub out_still : (c : Controllers) (r : SpawnRec) → HasComeBack c r → entry_for c r ≡ None → is_out r ≡ true
out_still c r back missing =
    split (is_out r)
    (λ out. out)
    (λ isn't. let ended = and_found _ (entry_for c r) (back isn't) in none_there ended.0 (entry_for c r) ended.1 missing)
  where
    none_there : {X P : Type 0} (x : X) (o : Option X) → o ≡ Some x → o ≡ None → P
    none_there x o a b = cc

-- what a spawn holds is in the part that is made for it as the master sees it
pub claim_as_seen : (m : master.State) (s : ℕ) (r : SpawnRec) (x : List ℕ) → master.IsConsistent m → master.record_of m.records s ≡ Some r → is_out r ≡ true → master.holder m x ≡ Some (Spawn s)
    → part_row (part_for m.ticket r) x ≡ row_in m.ticket.rows x
claim_as_seen m s r x ok found out held =
    let place = placed (master.is_of s) m.records r found in
    let claimed = held_claimed m s r x ok found held in
    (part_shows_claim m.ticket r ok.valid (ok.apart.good place.place r place.there out) x claimed.0 claimed.1 claimed.2).0

part_as_seen : (c : Controllers) (p : PartCopy) (r : SpawnRec) (x : List ℕ) → master.IsConsistent c.master → master.record_of c.master.records p.spawn_id ≡ Some r → is_out r ≡ true → p ≡ part_for c.master.ticket r → entry_for c r ≡ None → master.holder c.master x ≡ Some (Spawn p.spawn_id)
    → part_row p x ≡ row_at c x (master.holder c.master x)
part_as_seen c p r x ok found out made missing held =
    let none : entry_of_spawn c p.spawn_id ≡ None = ap (option_and_then (entry_for c)) found ∙ missing in
    ap (λ (q : PartCopy). part_row q x) made
    ∙ claim_as_seen c.master p.spawn_id r x ok found out held
    ∙ sym (ap (row_at c x) held ∙ ap (λ o. option_map_or (λ q. part_row q x) (option_and_then (λ (e : Entry). e.part) o) (seen_shown c x)) none)

newly_taken : (w : State) (v : worker.State) (m : Message) (p : PartCopy) (at : ℕ) (r : SpawnRec) → IsConsistent w → worker_of w.controllers.workers v.name ≡ Some v → master.record_of w.controllers.master.records p.spawn_id ≡ Some r → r.worker ≡ v.name
    → (is_out r ≡ true → p ≡ part_for w.controllers.master.ticket r) → worker.entry_of v.entries p.spawn_id ≡ None → entry_for w.controllers r ≡ None → IsAnswered v m p at
    → Agrees (worker_moved w.controllers v (step_by v m p at None None)) (shop.on_submit (shop_shown w.controllers) (spawn_shown w.controllers r))
newly_taken w v m p at r ok found recorded named made missing none answered =
    let c = w.controllers in
    let s = shop_shown c in
    let new = worker.new_entry p at in
    let next : worker.State = record v { entries = v.entries ++ new ∷ [] } in
    let number = number_is c.master.records p.spawn_id r recorded in
    let out = out_still c r (found_holds (HasComeBack c) (master.is_of p.spawn_id) c.master.records r recorded ok.back) none in
    let stored : HasStored c v.name p.spawn_id next new r =
    record {
      old = v;
      found = found;
      own = refl;
      others = λ t other. entry_before v.entries new p.spawn_id t refl other;
      stored = entry_behind v.entries new p.spawn_id refl missing;
      recorded = recorded;
      named = named;
      numbered = ok.master.numbered;
    } in
    subst (λ b. Agrees (worker_moved c v (step_by v m p at None None)) (cond b (shop.sending_step (reply.Taken r.id) (after_taking r.id s) (shop.ToSubmit r.id)) (shop.sending_step (shop.repeat_reply (spawn_shown c r)) s (shop.ToSubmit r.id))))
    (sym (phase_away r.phase (entry_for c r) none out))
    (record {
      reply = ap (λ n. Ok (reply.Taken n)) (sym number);
      next =
          same_shop _ _
          (record {
            master = refl;
            workers = refl;
            job = refl;
            tree = refl;
            seen = λ x. refl;
            now = λ x. row_stored c v.name p.spawn_id next new r stored (λ o. o) x (master.holder c.master x) (part_as_seen c p r x ok.master recorded out (made out) none) (λ not_own. refl);
            holder = λ x. refl;
            spawns = spawns_stored c v.name p.spawn_id next new r Open stored (ap (λ phase. phase_shown phase (Some new)) (phase_out r.phase out))
                ∙ ap (λ n. in_phase Open n (map (spawn_shown c) c.master.records)) (sym number);
          });
      sent = answered (coming v p at None).response ∙ ap (λ n. Some (shop.ToSubmit n)) (sym number);
    })

-- ---- the step

same_part : (p q : PartCopy) → Submit p ≡ Submit q → p ≡ q
same_part p q e = cc

pub part_is_taken : (w : State) (v : worker.State) (sender : List ℕ) (sent : ℕ) (p : PartCopy) (at : ℕ) → IsConsistent w → worker_of w.controllers.workers v.name ≡ Some v
    → Contains w.messages (record { sender = sender; receiver = v.name; at = sent; body = Submit p })
    → StepsAgree (Ok (worker_moved w.controllers v (taken_by_worker (record { sender = sender; receiver = v.name; at = sent; body = Submit p }) at v))) (shop.on_message at (shop_shown w.controllers) (shop.Submit p.spawn_id))
part_is_taken w v sender sent p at ok found there =
    let c = w.controllers in
    let plain = shop_shown c in
    let m = part_sent sender v sent p in
    let h = All-contains (IsInOrder c) w.messages m ok.messages.each there in
    let r = h.spawn in
    let own = worker.entry_of v.entries p.spawn_id in
    let number = number_is c.master.records p.spawn_id r h.recorded in
    let knows = found_holds (λ (u : worker.State). u.master ≡ c.master.name) (is_named v.name) c.workers v found ok.known in
    let entered : entry_for c r ≡ own =
    ap (λ n. entry_at c.workers n r.id) (sym h.to) ∙ ap (entry_at c.workers v.name) number ∙ ap (option_and_then (λ (u : worker.State). worker.entry_of u.entries p.spawn_id)) found in
    let made = λ (out : is_out r ≡ true). same_part p (part_for c.master.ticket r) (ap (λ (n : Message). n.body) (h.says out)) in
    subst (StepsAgree (Ok (worker_moved c v (taken_by_worker m at v))))
    (sym (ap (λ o. option_map_or (λ a. Ok (shop.on_submit plain a)) o (Err NoMessage)) (spawn_found c p.spawn_id ∙ ap (option_map (spawn_shown c)) h.recorded)))
    (subst (λ why. Agrees (worker_moved c v (step_by v m p at why own)) (shop.on_submit plain (spawn_shown c r))) (sym (worker_refuses_nothing c v m found refl knows refl h))
    (split_some own
    (λ e has. subst (λ o. Agrees (worker_moved c v (step_by v m p at None o)) (shop.on_submit plain (spawn_shown c r))) (sym has) (taken_again w v m p at r e ok found number (found_holds (HasComeBack c) (master.is_of p.spawn_id) c.master.records r h.recorded ok.back) (entered ∙ has) (λ told. refl)))
    (λ missing. subst (λ o. Agrees (worker_moved c v (step_by v m p at None o)) (shop.on_submit plain (spawn_shown c r))) (sym missing) (newly_taken w v m p at r ok found h.recorded (sym h.to) made missing (entered ∙ missing) (λ told. refl)))))
