-- Controllers as they are later: what stays of what messages say.
use Rattle.std.proofs.Common.{◌≡◌, ◌⊎◌, inl, inr, ℕ, true, false, cond, IsSomeAnd, List, Some, sym, ap, ◌∙◌, subst}
use Rattle.std.proofs.lemmas.Bool.{true≢false}
use Rattle.controller.specs.Reply.{spawn_in}
use Rattle.controller.specs.declared.body.Body.{Body}
use Rattle.controller.specs.declared.body.Body.TheVariants.{Submit, Return, Abort, Answer}
use Rattle.controller.specs.declared.command.Command.TheVariants as command
use Rattle.controller.specs.declared.message.Message.{Message}
use Rattle.spawn.proofs.SoundPart.{false_by}
use Rattle.spawn.specs.Parts.{part_for}
use Rattle.spawn.specs.Records.{is_out}
use Rattle.spawn.specs.declared.records.spawn_rec.SpawnRec.{SpawnRec}
use Rattle.merge.specs.Shape.{Fits}
use Rattle.master_core.proofs.Recorded.{number_is}
use Rattle.master_core.specs.Master.{record_of}
use Rattle.master_core.specs.Orders.{submit_of}
use Rattle.worker_core.proofs.Closing.{closed_ended, closed_open, closed_told, ended_shut}
use Rattle.worker_core.specs.Messages.{is_for_worker}
use Rattle.worker_core.specs.Worker.{closed_entry, closed_entry_in, is_ended, is_open}
use Rattle.worker_core.specs.declared.entry.Entry.{Entry}
use Rattle.worker_core.specs.declared.stage.Stage.{Stage}
use Rattle.worker_core.specs.declared.stage.Stage.TheVariants.{Open, Done, Closed, Declined}
use Rattle.world.proofs.Worker.EditedFits.{fits_later}
use Rattle.world.proofs.Worker.Stored.{and_found, found_and}
use Rattle.world.specs.Controllers.{Controllers, entry_at}
use Rattle.world.specs.Messages.{HasEnded, IsInOrder, IsRecorded, IsReturn, SaysRight, TellsEntry, entry_for}

-- the record of a spawn as it is later: of the same worker, from the same time on; and while it is out it is the same, and so is the part that is made of it
pub record GoesOn (c d : Controllers) (s : ℕ) (r : SpawnRec) : Type 0 where
  pub next : SpawnRec
  pub found : record_of d.master.records s ≡ Some next
  pub worker : next.worker ≡ r.worker
  pub since : next.at ≡ r.at
  pub same : is_out next ≡ true → next ≡ r
  pub part : is_out next ≡ true → part_for d.master.ticket r ≡ part_for c.master.ticket r

-- an entry as it may be later, once the work on it has ended: the same, or closed
abbrev pub IsSameOrClosed : Entry → Entry → Type 0
IsSameOrClosed old new = (new ≡ old) ⊎ (new ≡ closed_entry old)

-- later no record is missing, and what has ended is as it was, but may be closed
pub record AreLater (c d : Controllers) : Type 0 where
  pub name : d.master.name ≡ c.master.name
  pub records : (s : ℕ) (r : SpawnRec) → record_of c.master.records s ≡ Some r → GoesOn c d s r
  pub ended : (n : List ℕ) (s : ℕ) (e : Entry) → entry_at c.workers n s ≡ Some e → is_open e ≡ false → (x : Entry) × (entry_at d.workers n s ≡ Some x) × IsSameOrClosed e x

-- ---- entries

-- an entry that has a record has one later
pub recorded_later : (c d : Controllers) → AreLater c d → (name : List ℕ) (e : Entry) → IsRecorded c name e → IsRecorded d name e
recorded_later c d later name e h =
    let there = and_found _ (record_of c.master.records e.spawn_id) h in
    let on = later.records e.spawn_id there.0 there.1 in
    found_and _ (record_of d.master.records e.spawn_id) on.next on.found (
      on.worker ∙ there.2.0,
      λ out taken.
          let same = on.same out in
          let held = and_found (Fits c.master.ticket there.0) e.part (there.2.1 (ap is_out (sym same) ∙ out) taken) in
          found_and (Fits d.master.ticket on.next) e.part held.0 held.1 (subst (λ q. Fits d.master.ticket q held.0) (sym same) (fits_later c.master.ticket d.master.ticket there.0 held.0 (on.part out) held.2)),
    )

-- ---- a message

-- what holds of an entry, also once it is closed, holds of one that is the same or closed
holds_still : (Q : Entry → Type 0) (e x : Entry) → IsSameOrClosed e x → Q e → Q (closed_entry e) → Q x
holds_still Q e x (inl same) own closed = subst Q (sym same) own
holds_still Q e x (inr was) own closed = subst Q (sym was) closed

-- what is known of the entry of a spawn, which isn't open, is known later
pub entry_later : (c d : Controllers) (r q : SpawnRec) (P Q : Entry → Type 0) → AreLater c d → q.worker ≡ r.worker → q.id ≡ r.id → ((e : Entry) → P e → is_open e ≡ false) → ((e : Entry) → P e → Q e) → ((e : Entry) → P e → Q (closed_entry e))
    → IsSomeAnd (entry_for c r) P → IsSomeAnd (entry_for d q) Q
entry_later c d r q P Q later worker id shut go closes h =
    let there = and_found P (entry_for c r) h in
    let e : Entry = there.0 in
    let stays = later.ended r.worker r.id e there.1 (shut e there.2) in
    found_and Q (entry_for d q) stays.0 (ap (λ n. entry_at d.workers n q.id) worker ∙ ap (entry_at d.workers r.worker) id ∙ stays.1) (holds_still Q e stays.0 stays.2 (go e there.2) (closes e there.2))

-- what has ended has ended later
pub ended_later : (c d : Controllers) (r q : SpawnRec) (P Q : Entry → Type 0) → AreLater c d → q.worker ≡ r.worker → q.id ≡ r.id → ((e : Entry) → P e → Q e) → ((e : Entry) → P e → Q (closed_entry e)) → HasEnded c r P → HasEnded d q Q
ended_later c d r q P Q later worker id go closes h =
    entry_later c d r q (λ e. (is_ended e ≡ true) × P e) (λ e. (is_ended e ≡ true) × Q e) later worker id (λ e is. (ended_shut e is.0).0) (λ e is. (is.0, go e is.1)) (λ e is. (closed_ended e ∙ is.0, closes e is.1)) h

-- what an entry is given back as while it has its part, it is once it is closed
returned_in : (name master : List ℕ) (m : Message) (stage : Stage) (e : Entry) → IsReturn name master m e → IsReturn name master m (closed_entry_in stage e)
returned_in name master m Open e h = h
returned_in name master m (Done how) e h = tt
returned_in name master m (Closed how) e h = h
returned_in name master m Declined e h = h

submit_later : (c d : Controllers) (m : Message) (s : ℕ) (r : SpawnRec) → AreLater c d → (on : GoesOn c d s r) → (is_out r ≡ true → m ≡ submit_of c.master.name c.master.ticket r) → is_out on.next ≡ true → m ≡ submit_of d.master.name d.master.ticket on.next
submit_later c d m s r later on was out =
    let same = on.same out in
    was (ap is_out (sym same) ∙ out)
    ∙ ap (λ n. submit_of n c.master.ticket r) (sym later.name)
    ∙ ap (λ p. record { sender = d.master.name; receiver = r.worker; at = r.at; body = Submit p }) (sym (on.part out))
    ∙ ap (submit_of d.master.name d.master.ticket) (sym same)

-- a spawn that has come in stays so
in_later : (c d : Controllers) (s : ℕ) (r : SpawnRec) → (on : GoesOn c d s r) → is_out r ≡ false → is_out on.next ≡ false
in_later c d s r on back = false_by (is_out on.next) (λ out. true≢false (sym (ap is_out (sym (on.same out)) ∙ out) ∙ back))

says_later : (c d : Controllers) (m : Message) (s : ℕ) (r : SpawnRec) (body : Body) → AreLater c d → (on : GoesOn c d s r) → on.next.id ≡ r.id → SaysRight c r m body → SaysRight d on.next m body
says_later c d m s r (Submit p) later on id h = submit_later c d m s r later on h
says_later c d m s r (Return p) later on id h =
    let named = λ (e : Entry) (is : IsReturn r.worker c.master.name m e). subst (λ n. IsReturn on.next.worker n m e) (sym later.name) (subst (λ n. IsReturn n c.master.name m e) (sym on.worker) is) in
    ended_later c d r on.next (IsReturn r.worker c.master.name m) (IsReturn on.next.worker d.master.name m) later on.worker id named (λ e is. returned_in on.next.worker d.master.name m e.phase e (named e is)) h
says_later c d m s r (Abort t) later on id h = h ∙ (λ i. record { sender = (sym later.name) i; receiver = (sym on.worker) i; at = (sym on.since) i; body = Abort ((sym id) i) })
says_later c d m s r (Answer command.Submit t told) later on id h = tt
says_later c d m s r (Answer command.Return t told) later on id h = (h.0, in_later c d s r on h.1, ended_later c d r on.next _ _ later on.worker id (λ e is. tt) (λ e is. tt) h.2)
says_later c d m s r (Answer command.Abort t told) later on id h =
    entry_later c d r on.next (TellsEntry told) (TellsEntry told) later on.worker id (λ e is. is.0) (λ e is. is) (λ e is. (closed_open e ∙ is.0, is.1 ∙ sym (closed_told e))) h

pub in_order_later : (c d : Controllers) → AreLater c d → (m : Message) → IsInOrder c m → IsInOrder d m
in_order_later c d later m h =
    let s = spawn_in m.body in
    let on = later.records s h.spawn h.recorded in
    let id : on.next.id ≡ h.spawn.id = number_is d.master.records s on.next on.found ∙ sym (number_is c.master.records s h.spawn h.recorded) in
    record {
      spawn = on.next;
      recorded = on.found;
      from = h.from ∙ ap (λ n. cond (is_for_worker m.body) n h.spawn.worker) (sym later.name) ∙ ap (cond (is_for_worker m.body) d.master.name) (sym on.worker);
      to = h.to ∙ ap (λ n. cond (is_for_worker m.body) h.spawn.worker n) (sym later.name) ∙ ap (λ n. cond (is_for_worker m.body) n d.master.name) (sym on.worker);
      says = says_later c d m s h.spawn m.body later on id h.says;
      for_master = h.for_master;
      for_worker = h.for_worker;
      sound = h.sound;
    }
