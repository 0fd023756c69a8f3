-- Who receives a message that was sent: the master, or the worker of its spawn, which is there.
use Rattle.std.proofs.Common.{◌≡◌, ◌∙◌, ℕ, true, false, cond, List, Option, Some, None, is_some, refl, sym, ap}
use Rattle.std.proofs.lemmas.Bool.{and_parts, not-true, true≢false}
use Rattle.std.proofs.lemmas.Slice.Eq.{bytes_eq-Decides}
use Rattle.std.specs.Str.{bytes_eq}
use Rattle.ticket_items.proofs.Apart.{bytes_eq-same}
use Rattle.ticket_items.specs.Ids.{mem}
use Rattle.ticket_rows.proofs.AtHome.{find-passes}
use Rattle.controller.specs.Reply.{spawn_in}
use Rattle.controller.specs.declared.message.Message.{Message}
use Rattle.spawn.proofs.SoundPart.{false_by}
use Rattle.spawn.specs.declared.records.spawn_rec.SpawnRec.{SpawnRec}
use Rattle.master_core.specs.Master as master
use Rattle.worker_core.proofs.AtNumber.{found_holds}
use Rattle.worker_core.specs.Messages.{is_for_worker}
use Rattle.worker_core.specs.Worker as worker
use Rattle.world.proofs.Worker.SameWorkers.{worker_known}
use Rattle.world.specs.Controllers.{is_named, worker_of}
use Rattle.world.specs.Messages.{IsInOrder}
use Rattle.world.specs.State.{IsConsistent, State}

-- ---- the master

pub master_receives : (w : State) (m : Message) → IsInOrder w.controllers m → is_for_worker m.body ≡ false → bytes_eq m.receiver w.controllers.master.name ≡ true
master_receives w m h mine =
    let name = w.controllers.master.name in
    let to : m.receiver ≡ name = h.to ∙ ap (λ b. cond b h.spawn.worker name) mine in
    ap (bytes_eq m.receiver) (sym to) ∙ bytes_eq-same m.receiver

-- ---- a worker

-- the worker of a record is one of the master's
worker_named : (w : State) (s : ℕ) (r : SpawnRec) → IsConsistent w → master.record_of w.controllers.master.records s ≡ Some r → mem r.worker w.controllers.master.workers ≡ true
worker_named w s r ok found = found_holds (λ (q : SpawnRec). mem q.worker w.controllers.master.workers ≡ true) (master.is_of s) w.controllers.master.records r found ok.master.sent

some_there : {X : Type 0} (o : Option X) → is_some o ≡ true → (x : X) × (o ≡ Some x)
some_there None e = cc
some_there (Some x) e = (x, refl)

-- and not the master
not_masters : (w : State) (name : List ℕ) → IsConsistent w → mem name w.controllers.master.workers ≡ true → bytes_eq name w.controllers.master.name ≡ false
not_masters w name ok there =
    let m = w.controllers.master in
    let out : mem m.name m.workers ≡ false = not-true _ (and_parts _ _ ok.master.names).0 in
    false_by (bytes_eq name m.name) (λ e. true≢false (sym there ∙ ap (λ n. mem n m.workers) ((bytes_eq-Decides name m.name).0 e) ∙ out))

-- the worker that a message is for
pub record IsReceived (w : State) (m : Message) : Type 0 where
  pub by : worker.State
  pub found : worker_of w.controllers.workers m.receiver ≡ Some by
  pub named : by.name ≡ m.receiver
  pub knows : by.master ≡ w.controllers.master.name
  pub other : bytes_eq m.receiver w.controllers.master.name ≡ false

pub worker_receives : (w : State) (m : Message) → IsConsistent w → IsInOrder w.controllers m → is_for_worker m.body ≡ true → IsReceived w m
worker_receives w m ok h theirs =
    let c = w.controllers in
    let to : m.receiver ≡ h.spawn.worker = h.to ∙ ap (λ b. cond b h.spawn.worker c.master.name) theirs in
    let known : mem m.receiver c.master.workers ≡ true = ap (λ n. mem n c.master.workers) to ∙ worker_named w (spawn_in m.body) h.spawn ok h.recorded in
    let there = some_there (worker_of c.workers m.receiver) (worker_known w m.receiver ok ∙ known) in
    let v = there.0 in
    record {
      by = v;
      found = there.1;
      named = (bytes_eq-Decides v.name m.receiver).0 (find-passes (is_named m.receiver) c.workers v there.1);
      knows = found_holds (λ (u : worker.State). u.master ≡ c.master.name) (is_named m.receiver) c.workers v there.1 ok.known;
      other = not_masters w m.receiver ok known;
    }
