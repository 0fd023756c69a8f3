-- What always holds of a shop holds once a step of one of its controllers is settled.
use Rattle.std.proofs.Common.{◌≡◌, inl, inr, List, Option, Some, None, IfSome, Result, Ok, Err, OnOk, OnErr, sym, ◌∙◌, subst}
use Rattle.std.proofs.lemmas.List.Elements.{All-weaker}
use Rattle.std.specs.List.{All}
use Rattle.controller.specs.declared.message.Message.{Message}
use Rattle.master_core.specs.Master as master
use Rattle.worker_core.specs.Worker as worker
use Rattle.world.proofs.Worker.EndedEntries.{back_later}
use Rattle.world.proofs.Messages.StaysLater.{AreLater, in_order_later, recorded_later}
use Rattle.world.proofs.Master.Steps.{with_master}
use Rattle.stored_state.specs.Names.{HasItsNames, HasNames}
use Rattle.stored_state.specs.Seat.{IsOldOrNext}
use Rattle.world.proofs.Messages.Sending.{IsNew, one_more_in_order}
use Rattle.world.proofs.Runs.Settled.{master_settled}
use Rattle.world.proofs.Worker.Stored.{All-with_worker, names_stay}
use Rattle.world.proofs.Worker.Steps.{with_next}
use Rattle.world.specs.Controllers.{Controllers}
use Rattle.world.specs.Happening.{next_state}
use Rattle.world.specs.Messages.{AreInOrder, AreRecorded, HasComeBack, IsInOrder, IsRecorded}
use Rattle.plain_shop.specs.Settling.{messages_left, state_left, with_sent}
use Rattle.world.specs.State.{IsConsistent, State, state}
use Rattle.controller.specs.Step.{Step}
use Rattle.world.specs.Stepping.{master_moved}
use Rattle.world_items.specs.declared.stop.Stop.{Stop}
use Rattle.world_items.specs.declared.stop.Stop.TheVariants.{Run, BeforeSave, BeforeSend}

-- the controllers with these messages
abbrev pub beside : Controllers → List Message → State
beside c messages = record { controllers = c; messages = messages }

-- ---- what was known is known later

messages_later : (c d : Controllers) (messages : List Message) → AreLater c d → AreInOrder c messages → AreInOrder d messages
messages_later c d messages later ok = record { each = All-weaker (IsInOrder c) (IsInOrder d) (in_order_later c d later) messages ok.each; one = ok.one }

recorded_entries : (c d : Controllers) (v : worker.State) → AreLater c d → AreRecorded c v → AreRecorded d v
recorded_entries c d v later all = All-weaker (IsRecorded c v.name) (IsRecorded d v.name) (recorded_later c d later v.name) v.entries all

-- ---- another master, or another worker, of the same names

pub master_stored : (c : Controllers) (next : master.State) (messages : List Message) → IsConsistent (beside c messages) → master.IsConsistent next → HasNames c.master next → AreLater c (with_master c next) → All (HasComeBack c) next.records → IsConsistent (beside (with_master c next) messages)
master_stored c next messages ok kept names later back =
    record {
      master = kept;
      named = ok.named ∙ sym names.workers;
      known = subst (λ n. All (λ (v : worker.State). v.master ≡ n) c.workers) (sym names.own) ok.known;
      workers = ok.workers;
      recorded = All-weaker (AreRecorded c) (AreRecorded (with_master c next)) (λ v. recorded_entries c (with_master c next) v later) c.workers ok.recorded;
      messages = messages_later c (with_master c next) messages later ok.messages;
      back = back;
    }

pub worker_stored : (c : Controllers) (v next : worker.State) (messages : List Message) → IsConsistent (beside c messages) → v.master ≡ c.master.name → worker.IsConsistent next → HasItsNames v next → AreLater c (with_next c v.name next) → All (IsRecorded c v.name) next.entries → IsConsistent (beside (with_next c v.name next) messages)
worker_stored c v next messages ok knows kept names later recorded =
    record {
      master = ok.master;
      named = names_stay v.name next c.workers names.own ∙ ok.named;
      known = All-with_worker (λ (u : worker.State). u.master ≡ c.master.name) v.name next c.workers (names.masters ∙ knows) ok.known;
      workers = All-with_worker worker.IsConsistent v.name next c.workers kept ok.workers;
      recorded = All-with_worker (AreRecorded c) v.name next c.workers (subst (λ n. All (IsRecorded c n) next.entries) (sym names.own) recorded) ok.recorded;
      messages = messages_later c (with_next c v.name next) messages later ok.messages;
      back = back_later c (with_next c v.name next) c.master.records later ok.back;
    }

-- ---- a step that is settled

-- a step after which all is in order, also once what it sends is sent
pub record Keeps (w : State) (moved : Step Controllers Message) : Type 0 where
  pub stored : IsConsistent (beside moved.next w.messages)
  pub sent : IfSome moved.sent (IsNew moved.next w.messages)

sent_kept : (c : Controllers) (messages : List Message) (sent : Option Message) → IsConsistent (beside c messages) → IfSome sent (IsNew c messages) → IsConsistent (beside c (with_sent messages sent))
sent_kept c messages None ok new = ok
sent_kept c messages (Some m) ok new =
    record {
      master = ok.master;
      named = ok.named;
      known = ok.known;
      workers = ok.workers;
      recorded = ok.recorded;
      messages = one_more_in_order c messages m ok.messages new;
      back = ok.back;
    }

pub settled_kept : (stop : Stop) (w : State) (moved : Step Controllers Message) → IsConsistent w → Keeps w moved → IsConsistent (next_state stop w (Ok moved))
settled_kept Run w moved ok keeps = sent_kept moved.next w.messages moved.sent keeps.stored keeps.sent
settled_kept BeforeSave w moved ok keeps = ok
settled_kept BeforeSend w moved ok keeps = keeps.stored

-- and so it does where it isn't known how far the step came, and nothing is sent
pub master_kept : {A E : Type 0} (r : Result A E) (stop : Stop) (m stored : master.State) (workers : List worker.State) (old new : List Message) (moved : Step master.State Message)
    → OnOk r (stored ≡ state_left stop m moved.next) → OnOk r (new ≡ messages_left stop old moved.sent) → OnErr r (IsOldOrNext m moved stored) → OnErr r (new ≡ old)
    → IsConsistent (state m workers old) → Keeps (state m workers old) (master_moved (record { master = m; workers = workers }) moved) → IsConsistent (state stored workers new)
master_kept (Ok a) stop m stored workers old new moved is sent either unsent ok keeps = subst IsConsistent (sym (master_settled stop m stored workers old new moved is sent)) (settled_kept stop (state m workers old) _ ok keeps)
master_kept (Err e) stop m stored workers old new moved is sent (inl same) unsent ok keeps = subst IsConsistent (sym (master_settled BeforeSave m stored workers old new moved same unsent)) (settled_kept BeforeSave (state m workers old) _ ok keeps)
master_kept (Err e) stop m stored workers old new moved is sent (inr next) unsent ok keeps = subst IsConsistent (sym (master_settled BeforeSend m stored workers old new moved next unsent)) (settled_kept BeforeSend (state m workers old) _ ok keeps)
