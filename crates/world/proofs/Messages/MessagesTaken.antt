-- A message that was sent is refused by no one: not by the master that it comes to, and not by the worker.
use Rattle.std.proofs.Common.{◌≡◌, ◌&&◌, ◌||◌, ℕ, Bool, true, false, cond, not, List, [], ◌∷◌, Option, Some, None, IfSome, Result, Ok, is_some, is_ok, refl, sym, ap, ◌∙◌, subst}
use Rattle.std.proofs.lemmas.Bool.{eqb-true, true≢false}
use Rattle.std.specs.Option.{option_and_then, option_map, option_map_or}
use Rattle.std.specs.Str.{bytes_eq}
use Rattle.ticket_items.proofs.Apart.{bytes_eq-same}
use Rattle.ticket_items.proofs.Places.{same_found}
use Rattle.ticket_items.specs.declared.refusal.Refusal.TheVariants.{BadPart, NotDone, UnknownEntry, UnknownSpawn, WrongMessage, WrongSender, WrongShape}
use Rattle.ticket_rows.proofs.AtHome.{find-passes}
use Rattle.ticket_rows.specs.Ticket.{first_of, unless}
use Rattle.ticket_tree.specs.Part.{PartCopy, is_sound}
use Rattle.controller.proofs.Answered.{free_answers, told_by}
use Rattle.controller.specs.Reply.{spawn_in}
use Rattle.controller.specs.Step.{Step}
use Rattle.controller.specs.declared.body.Body.{Body}
use Rattle.controller.specs.declared.body.Body.TheVariants.{Submit, Return, Abort, Answer}
use Rattle.controller.specs.declared.command.Command.TheVariants as command
use Rattle.controller.specs.declared.message.Message.{Message}
use Rattle.controller.specs.declared.queue_status.QueueStatus.{QueueStatus}
use Rattle.world_items.specs.declared.reply.Reply.TheVariants as reply
use Rattle.spawn.specs.Records.{is_out, is_out_phase}
use Rattle.spawn.specs.declared.records.phase.Phase.{Phase}
use Rattle.spawn.specs.declared.records.phase.Phase.TheVariants.{Out, Merged, Withdrawn}
use Rattle.spawn.specs.declared.records.spawn_rec.SpawnRec.{SpawnRec}
use Rattle.merge.proofs.Fitting.{fits_part}
use Rattle.merge.specs.Alike.{is_fit}
use Rattle.merge.specs.Shape.{Fits}
use Rattle.master_core.proofs.MessageLaws.{in_stays_in, merged_is_in}
use Rattle.master_core.proofs.Recorded.{number_is}
use Rattle.master_core.proofs.WhileOut.{made_out, while_out_so}
use Rattle.master_core.specs.Master as master
use Rattle.master_core.specs.Messages as master_messages
use Rattle.worker_core.proofs.AtNumber.{found_holds}
use Rattle.worker_core.proofs.Closing.{ended_shut}
use Rattle.worker_core.specs.Messages as worker_messages
use Rattle.worker_core.specs.Orders.{part_return}
use Rattle.worker_core.specs.Worker as worker
use Rattle.worker_core.specs.declared.entry.Entry.{Entry}
use Rattle.world.proofs.Worker.Stored.{and_found}
use Rattle.world.specs.Controllers.{Controllers, entry_at, is_named, worker_of}
use Rattle.world.specs.Messages.{AreRecorded, HasComeBack, HasEnded, IsBack, IsInOrder, IsRecorded, IsReturn, entry_for}
use Rattle.std.specs.List.{All}

same_bytes : (x y : List ℕ) → x ≡ y → bytes_eq x y ≡ true
same_bytes x y e = ap (bytes_eq x) (sym e) ∙ bytes_eq-same x

-- ---- the entry of a spawn

pub found_through : (o : Option worker.State) (s : ℕ) (e : Entry) → option_and_then (λ (v : worker.State). worker.entry_of v.entries s) o ≡ Some e → (v : worker.State) × (o ≡ Some v) × (worker.entry_of v.entries s ≡ Some e)
found_through None s e found = cc
found_through (Some v) s e found = (v, refl, found)

-- an entry that is found is of its spawn, and has a record
pub entry_recorded : (c : Controllers) (name : List ℕ) (s : ℕ) (e : Entry) → All (AreRecorded c) c.workers → entry_at c.workers name s ≡ Some e → (v : worker.State) × (e.spawn_id ≡ s) × IsRecorded c v.name e
entry_recorded c name s e all found =
    let at = found_through (worker_of c.workers name) s e found in
    let v = at.0 in
    (v, eqb-true e.spawn_id s (find-passes (worker.is_of s) v.entries e at.2), found_holds (IsRecorded c v.name) (worker.is_of s) v.entries e at.2 (found_holds (AreRecorded c) (is_named name) c.workers v at.1 all))

-- and it is kept
pub entry_kept : (c : Controllers) (name : List ℕ) (s : ℕ) (e : Entry) → All worker.IsConsistent c.workers → entry_at c.workers name s ≡ Some e → worker.IsKeptEntry e
entry_kept c name s e all found =
    let at = found_through (worker_of c.workers name) s e found in
    let v = at.0 in
    let kept : worker.IsConsistent v = found_holds worker.IsConsistent (is_named name) c.workers v at.1 all in
    found_holds worker.IsKeptEntry (worker.is_of s) v.entries e at.2 kept.each

-- while its spawn is out one that wasn't declined has its part, which fits
pub held_part : (c : Controllers) (r : SpawnRec) (e : Entry) → All (AreRecorded c) c.workers → master.record_of c.master.records r.id ≡ Some r → entry_for c r ≡ Some e → is_out r ≡ true → worker.is_declined e ≡ false → (p : PartCopy) × (e.part ≡ Some p) × Fits c.master.ticket r p
held_part c r e all found entered out taken =
    let records = c.master.records in
    let at = entry_recorded c r.worker r.id e all entered in
    let there = and_found _ (master.record_of records e.spawn_id) at.2 in
    let same : there.0 ≡ r = same_found there.0 r (master.record_of records e.spawn_id) there.1 (ap (master.record_of records) at.1 ∙ found) in
    let held = and_found (Fits c.master.ticket there.0) e.part (there.2.1 (ap is_out same ∙ out) taken) in
    (held.0, held.1, subst (λ q. Fits c.master.ticket q held.0) same held.2)

-- ---- the master

-- the master refuses what is in order and for it only for what it says
pub master_asks : (c : Controllers) (m : Message) → worker_messages.is_for_worker m.body ≡ false → (h : IsInOrder c m) → master_messages.body_refusal m.body c.master h.spawn ≡ None → master_messages.take_refusal m c.master ≡ None
master_asks c m mine h free =
    let w = c.master in
    let to : m.receiver ≡ w.name = h.to ∙ ap (λ b. cond b h.spawn.worker w.name) mine in
    let from : m.sender ≡ h.spawn.worker = h.from ∙ ap (λ b. cond b w.name h.spawn.worker) mine in
    let rest = option_map_or (master_messages.record_refusal m w) (master.record_of w.records (spawn_in m.body)) (Some UnknownSpawn) in
    ap (λ b. first_of (unless (b && not (worker_messages.is_for_worker m.body)) WrongMessage ∷ rest ∷ [])) (same_bytes m.receiver w.name to)
    ∙ ap (λ b. first_of (unless (not b) WrongMessage ∷ rest ∷ [])) mine
    ∙ ap (λ o. first_of (None ∷ option_map_or (master_messages.record_refusal m w) o (Some UnknownSpawn) ∷ [])) h.recorded
    ∙ ap (λ b. first_of (None ∷ first_of (unless b WrongSender ∷ master_messages.body_refusal m.body w h.spawn ∷ []) ∷ [])) (same_bytes m.sender h.spawn.worker from)
    ∙ ap (λ o. first_of (None ∷ first_of (None ∷ o ∷ []) ∷ [])) free

fit_or_in : (phase : Phase) (fit : Bool) → (is_out_phase phase ≡ true → fit ≡ true) → (phase ≡ Withdrawn → ⊥) → master_messages.return_refusal phase fit ≡ None
fit_or_in Out fit fits not_freed = ap (λ b. unless b WrongShape) (fits refl)
fit_or_in Merged fit fits not_freed = refl
fit_or_in Withdrawn fit fits not_freed = absurd (not_freed refl)

-- a spawn on whose entry the work has ended isn't withdrawn
not_withdrawn : (c : Controllers) (r : SpawnRec) (P : Entry → Type 0) → HasComeBack c r → HasEnded c r P → r.phase ≡ Withdrawn → ⊥
not_withdrawn c r P back says is =
    let ended = and_found _ (entry_for c r) says in
    let e : Entry = ended.0 in
    let there = and_found (IsBack r.phase) (entry_for c r) (back (ap is_out_phase is)) in
    let same : there.0 ≡ e = same_found there.0 e (entry_for c r) there.1 ended.1 in
    let declined : IsBack Withdrawn e = subst (λ phase. IsBack phase e) is (subst (IsBack r.phase) same there.2) in
    true≢false (sym declined ∙ (ended_shut e ended.2.0).1)

-- a part that was given back is the one that the entry has, if it has one
pub returned_part : (name master sender receiver : List ℕ) (sent : ℕ) (e : Entry) (p q : PartCopy) → e.part ≡ Some q → IsReturn name master (record { sender = sender; receiver = receiver; at = sent; body = Return p }) e → p ≡ q
returned_part name master sender receiver sent e p q has is =
    same_part p q (ap (λ (m : Message). m.body) (subst (λ o. IfSome (option_map (part_return name master e.at) o) (λ n. record { sender = sender; receiver = receiver; at = sent; body = Return p } ≡ n)) has is))
  where
    same_part : (x y : PartCopy) → Return x ≡ Return y → x ≡ y
    same_part x y e = cc

-- and it fits
pub return_fits : (c : Controllers) (p : PartCopy) (sender receiver : List ℕ) (sent : ℕ) → All (AreRecorded c) c.workers → (h : IsInOrder c (record { sender = sender; receiver = receiver; at = sent; body = Return p })) → is_out h.spawn ≡ true → Fits c.master.ticket h.spawn p
return_fits c p sender receiver sent all h out =
    let r = h.spawn in
    let ended = and_found _ (entry_for c r) h.says in
    let recorded : master.record_of c.master.records r.id ≡ Some r = ap (master.record_of c.master.records) (number_is c.master.records p.spawn_id r h.recorded) ∙ h.recorded in
    let held = held_part c r ended.0 all recorded ended.1 out (ended_shut ended.0 ended.2.0).1 in
    subst (Fits c.master.ticket r) (sym (returned_part r.worker c.master.name sender receiver sent ended.0 p held.0 held.1 ended.2.1)) held.2

-- so the master refuses nothing that was sent to it
master_takes : (c : Controllers) (sender receiver : List ℕ) (sent : ℕ) (body : Body) → All (AreRecorded c) c.workers → All (HasComeBack c) c.master.records → worker_messages.is_for_worker body ≡ false → (h : IsInOrder c (record { sender = sender; receiver = receiver; at = sent; body = body })) → master_messages.body_refusal body c.master h.spawn ≡ None
master_takes c sender receiver sent (Submit p) all back mine h = refl
master_takes c sender receiver sent (Return p) all back mine h =
    let r = h.spawn in
    fit_or_in r.phase (is_fit c.master.ticket r p) (λ out. fits_part c.master.ticket r p (return_fits c p sender receiver sent all h out))
    (not_withdrawn c r _ (found_holds (HasComeBack c) (master.is_of p.spawn_id) c.master.records r h.recorded back) h.says)
master_takes c sender receiver sent (Abort s) all back mine h = refl
master_takes c sender receiver sent (Answer d s told) all back mine h = refl

pub master_refuses_nothing : (c : Controllers) (m : Message) → All (AreRecorded c) c.workers → All (HasComeBack c) c.master.records → worker_messages.is_for_worker m.body ≡ false → IsInOrder c m → master_messages.take_refusal m c.master ≡ None
master_refuses_nothing c m all back mine h = master_asks c m mine h (master_takes c m.sender m.receiver m.at m.body all back mine h)

-- ---- a worker

sound_or : (a b : Bool) → b ≡ true → unless (a || b) BadPart ≡ None
sound_or true b e = refl
sound_or false b e = ap (λ x. unless x BadPart) e

-- the entry that is answered, on which the work has ended
pub answered_entry : (c : Controllers) (v : worker.State) (sender receiver : List ℕ) (sent s : ℕ) (told : Result QueueStatus ℕ) → worker_of c.workers receiver ≡ Some v → IsInOrder c (record { sender = sender; receiver = receiver; at = sent; body = Answer command.Return s told })
    → (e : Entry) × (worker.entry_of v.entries s ≡ Some e) × (worker.is_ended e ≡ true)
answered_entry c v sender receiver sent s told found h =
    let r = h.spawn in
    let ended = and_found _ (entry_for c r) h.says.2 in (
      ended.0,
      sym (ap (option_and_then (λ (u : worker.State). worker.entry_of u.entries s)) found)
          ∙ ap (λ n. entry_at c.workers n s) h.to
          ∙ ap (entry_at c.workers r.worker) (sym (number_is c.master.records s r h.recorded))
          ∙ ended.1,
      ended.2.0,
    )

ended_none : (e : Entry) → worker.is_ended e ≡ true → worker_messages.ended_refusal e ≡ None
ended_none e ended =
    let shut = ended_shut e ended in
    ap (λ b. first_of (unless (not b) UnknownEntry ∷ unless (not (worker.is_open e)) NotDone ∷ [])) shut.1
    ∙ ap (λ b. first_of (None ∷ unless (not b) NotDone ∷ [])) shut.0

worker_takes : (c : Controllers) (v : worker.State) (sender receiver : List ℕ) (sent : ℕ) (body : Body) → worker_of c.workers receiver ≡ Some v → worker_messages.is_for_worker body ≡ true → IsInOrder c (record { sender = sender; receiver = receiver; at = sent; body = body }) → worker_messages.body_refusal body v.entries ≡ None
worker_takes c v sender receiver sent (Submit p) found theirs h = sound_or (is_some (worker.entry_of v.entries p.spawn_id)) (is_sound p) h.sound
worker_takes c v sender receiver sent (Return p) found theirs h = refl
worker_takes c v sender receiver sent (Abort s) found theirs h = refl
worker_takes c v sender receiver sent (Answer command.Submit s told) found theirs h = absurd (true≢false (sym theirs))
worker_takes c v sender receiver sent (Answer command.Abort s told) found theirs h = absurd (true≢false (sym theirs))
worker_takes c v sender receiver sent (Answer command.Return s told) found theirs h =
    let there = answered_entry c v sender receiver sent s told found h in
    ap (λ o. option_map_or worker_messages.ended_refusal o (Some UnknownEntry)) there.1 ∙ ended_none there.0 there.2

-- a worker refuses nothing that was sent to it
pub worker_refuses_nothing : (c : Controllers) (v : worker.State) (m : Message) → worker_of c.workers m.receiver ≡ Some v → v.name ≡ m.receiver → v.master ≡ c.master.name → worker_messages.is_for_worker m.body ≡ true → IsInOrder c m → worker_messages.take_refusal m v ≡ None
worker_refuses_nothing c v m found named knows theirs h =
    let from : m.sender ≡ v.master = h.from ∙ ap (λ b. cond b c.master.name h.spawn.worker) theirs ∙ sym knows in
    ap (λ b. first_of (unless (b && worker_messages.is_for_worker m.body) WrongMessage ∷ unless (bytes_eq m.sender v.master) WrongSender ∷ worker_messages.body_refusal m.body v.entries ∷ [])) (same_bytes m.receiver v.name (sym named))
    ∙ ap (λ b. first_of (unless b WrongMessage ∷ unless (bytes_eq m.sender v.master) WrongSender ∷ worker_messages.body_refusal m.body v.entries ∷ [])) theirs
    ∙ ap (λ b. first_of (None ∷ unless b WrongSender ∷ worker_messages.body_refusal m.body v.entries ∷ [])) (same_bytes m.sender v.master from)
    ∙ ap (λ o. first_of (None ∷ None ∷ o ∷ [])) (worker_takes c v m.sender m.receiver m.at m.body found theirs h)

-- ---- what is told of a part that was brought back

-- it wasn't refused, and once it is put in its spawn isn't out
pub returned_told : (c : Controllers) (m : Message) (at : ℕ) (p : PartCopy) → m.body ≡ Return p → master_messages.take_refusal m c.master ≡ None → is_ok (told_by (master_messages.take_refusal m c.master) (master_messages.on_body m.body at c.master).response) ≡ true
returned_told c m at p says none =
    let w = c.master in
    ap (λ o. is_ok (told_by o (master_messages.on_body m.body at w).response)) none
    ∙ ap (λ b. is_ok (master_messages.on_body b at w).response) says
    ∙ while_out_so (λ t. is_ok t.response ≡ true) (master_messages.merge_taking p at w) (master_messages.repeat_taking p w) (master.record_of w.records p.spawn_id) (λ r. refl) refl

out_next : (o : Option SpawnRec) (r : SpawnRec) → o ≡ Some r → option_map_or is_out o false ≡ false → is_out r ≡ false
out_next o r found e = ap (λ q. option_map_or is_out q false) (sym found) ∙ e

in_either : (out : Bool) (m : Message) (at : ℕ) (w : master.State) (p : PartCopy) (r q : SpawnRec) → is_out r ≡ out → m.body ≡ Return p → master_messages.take_refusal m w ≡ None → master.record_of w.records p.spawn_id ≡ Some r → master.record_of (master_messages.take_step m at w).next.records p.spawn_id ≡ Some q → is_out q ≡ false
in_either false m at w p r q back says none found later =
    ap is_out (same_found q r (master.record_of (master_messages.take_step m at w).next.records p.spawn_id) later ((in_stays_in w p.spawn_id r found back).1 m at)) ∙ back
in_either true m at w p r q out says none found later =
    let comes = ap (λ b. master_messages.on_body b at w) says ∙ made_out (master_messages.merge_taking p at w) (master_messages.repeat_taking p w) (master.record_of w.records p.spawn_id) r found out in
    let told : (master_messages.take_step m at w).reply ≡ Ok (reply.Merged p.spawn_id) =
    ap (λ (s : Step master.State Message). s.reply) (free_answers w.name m at (master_messages.take_refusal m w) w (master_messages.on_body m.body at w) (master_messages.merge_taking p at w r) none comes) in
    out_next (master.record_of (master_messages.take_step m at w).next.records p.spawn_id) q later (merged_is_in m at w p.spawn_id told).1

pub returned_in : (m : Message) (at : ℕ) (w : master.State) (p : PartCopy) (r q : SpawnRec) → m.body ≡ Return p → master_messages.take_refusal m w ≡ None → master.record_of w.records p.spawn_id ≡ Some r → master.record_of (master_messages.take_step m at w).next.records p.spawn_id ≡ Some q → is_out q ≡ false
returned_in m at w p r q says none found later = in_either (is_out r) m at w p r q refl says none found later
