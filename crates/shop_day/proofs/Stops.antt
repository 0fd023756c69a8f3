-- What a step and a line come to, where they run to their end and where they are stopped.
use Rattle.std.proofs.Common.{◌≡◌, ◌∙◌, ◌⊎◌, inl, inr, ℕ, Bool, true, false, List, Some, is_some, ap, refl, subst, sym, unwrap_or}
use Rattle.std.specs.Global.{Vec}
use Rattle.streams.specs.declared.command.Output.{Output}
use Rattle.streams.specs.declared.fault.Fault.{Fault}
use Rattle.streams.specs.declared.fault.Fault.TheVariants.{Device}
use Rattle.streams.specs.declared.refused.Refused.{Refused}
use Rattle.streams.specs.declared.refused.Refused.TheVariants.{Core, LoadFailed, ReadFailed, SaveFailed}
use Rattle.file_commands.specs.Step.{fault_of}
use Rattle.stored_state.specs.Seat.{IsKeeperFault}
use Rattle.plain_shop.specs.Replay.{TaggedShop}
use Rattle.world.proofs.Runs.Unknown.{lost}
use Rattle.world.specs.Faults.{IsEventFault}
use Rattle.world.specs.Happening.{after, answer_to, machine, step_of}
use Rattle.world.specs.Running.{IsStopped}
use Rattle.world.specs.Showing.{shows, tag_of}
use Rattle.world.specs.State.{State, message_at}
use Rattle.world_items.specs.declared.event.Event.{Event}
use Rattle.world_items.specs.declared.stop.Stop.TheVariants.{Run, BeforeSave, BeforeSend}
use Rattle.world_items.specs.declared.what.What.{What}
use Rattle.world_items.specs.declared.what.What.TheVariants.{Deliver, Restart}
use Rattle.shop_day.proofs.Numbers.{none_so, numbered-map}
use Rattle.shop_day.specs.Done.{DoesLine, IsOutcome, IsUntold, IsWritten, StepsTo}
use Rattle.shop_day.specs.Files.{shown_of}
use Rattle.shop_day.specs.Lines.{GivesUp, IsFailed, IsNoOrder, event, event_of, order_in}
use Rattle.shop_day.specs.declared.line.Call.{Call}
use Rattle.shop_day.specs.declared.line.Call.TheVariants.{Order, Take, Show}
use Rattle.shop_day.specs.declared.line.Line.{Line}
use Rattle.shop_day.specs.declared.outcome.Outcome.{Outcome}
use Rattle.shop_day.specs.declared.outcome.Outcome.TheVariants.{Wrote, GaveUp}

-- ---- why

keeper_fault : (e : Refused) → IsEventFault IsKeeperFault IsKeeperFault (λ _. ⊥) e → IsKeeperFault e
keeper_fault e (inl (inl why)) = why
keeper_fault e (inl (inr why)) = why
keeper_fault e (inr (inl why)) = absurd why
keeper_fault e (inr (inr memory)) = subst IsKeeperFault (sym memory) refl

failed_so : (e : Refused) → IsKeeperFault e → IsFailed (fault_of e)
failed_so (Core x) why = why
failed_so LoadFailed why = tt
failed_so SaveFailed why = tt
failed_so e why = absurd why

pub failed : (e : Refused) (fault : Fault) → IsEventFault IsKeeperFault IsKeeperFault (λ _. ⊥) e → fault ≡ fault_of e → IsFailed fault
failed e fault why told = subst IsFailed (sym told) (failed_so e (keeper_fault e why))

-- ---- a step

pub step_stopped : (what : What) (at : ℕ) (old new : State) (e : Refused) (fault : Fault) → IsStopped machine (event what at Run) old new → IsEventFault IsKeeperFault IsKeeperFault (λ _. ⊥) e → fault ≡ fault_of e → StepsTo what at old new (GaveUp fault)
step_stopped what at old new e fault (inl is) why told = (BeforeSave, is, (inl refl, failed e fault why told))
step_stopped what at old new e fault (inr is) why told = (BeforeSend, is, (inr refl, failed e fault why told))

-- ---- a line

-- for what a step fails, a line may give up
pub fails_any : (call : Call) (p : TaggedShop) (fault : Fault) → IsFailed fault → GivesUp call p fault
fails_any (Order name bytes) p fault why = inl why
fails_any (Take k) p fault why = inl why
fails_any (Show name) p fault why = why

-- one that gives up changes nothing
pub line_stopped : (l : Line) (w : State) (fault : Fault) → GivesUp l.call (shows w) fault → DoesLine l w w (GaveUp fault)
line_stopped l w fault why =
    let e = event_of l (shows w).shop BeforeSave in
    (e, sym (lost w (step_of e.what e.at w)), (refl, (inl refl, why)))

stepped_so : (asks : Bool) (Why : Fault → Type 0) (e : Event) (old new : State) (outcome : Outcome) → asks ≡ true → ((fault : Fault) → IsFailed fault → Why fault) → new ≡ after e old → IsOutcome (IsWritten (answer_to e old) new.messages) IsFailed e.stop outcome
    → IsOutcome (λ out. (asks ≡ true) × IsWritten (answer_to e old) (after e old).messages out) Why e.stop outcome
stepped_so asks Why e old new (Wrote out) is why left (run, written) = (run, (is, subst (λ (w : State). IsWritten (answer_to e old) w.messages out) left written))
stepped_so asks Why e old new (GaveUp fault) is why left (stops, failed) = (stops, why fault failed)

pub order_done : (name : List ℕ) (bytes : Vec ℕ) (at : ℕ) (what : What) (old new : State) (outcome : Outcome) → order_in (shows old).shop name bytes.items ≡ Some what → StepsTo what at old new outcome → DoesLine (record { call = Order name bytes; at = at }) old new outcome
order_done name bytes at what old new outcome asked (stop, left, came) =
    let asks : is_some (order_in (shows old).shop name bytes.items) ≡ true = ap is_some asked in (
      event what at stop,
      left,
      (
        ap (λ o. event (unwrap_or o (Restart name)) at stop) (sym asked),
        stepped_so (is_some (order_in (shows old).shop name bytes.items)) (GivesUp (Order name bytes) (shows old)) (event what at stop) old new outcome asks (λ fault why. inl why) left came,
      ),
    )

pub message_done : (k at : ℕ) (old new : State) (outcome : Outcome) → is_some (message_at old.messages k) ≡ true → StepsTo (Deliver k) at old new outcome → DoesLine (record { call = Take k; at = at }) old new outcome
message_done k at old new outcome there (stop, left, came) = (
  event (Deliver k) at stop,
  left,
  (
    refl,
    stepped_so (is_some (message_at (shows old).tags k)) (GivesUp (Take k) (shows old)) (event (Deliver k) at stop) old new outcome (numbered-map tag_of old.messages k ∙ there) (λ fault why. inl why) left came,
  ),
)

pub message_missing : (k at : ℕ) (w : State) → is_some (message_at w.messages k) ≡ false → DoesLine (record { call = Take k; at = at }) w w (GaveUp (Device ReadFailed))
message_missing k at w none =
    line_stopped (record { call = Take k; at = at }) w (Device ReadFailed) (inr (none_so (message_at (shows w).tags k) (numbered-map tag_of w.messages k ∙ none), refl))

pub order_refused : (name : List ℕ) (bytes : Vec ℕ) (at : ℕ) (w : State) (fault : Fault) (text : List ℕ) → text ≡ bytes.items → IsFailed fault ⊎ IsNoOrder (shows w).shop name text fault → DoesLine (record { call = Order name bytes; at = at }) w w (GaveUp fault)
order_refused name bytes at w fault text same why =
    line_stopped (record { call = Order name bytes; at = at }) w fault (subst (λ t. IsFailed fault ⊎ IsNoOrder (shows w).shop name t fault) same why)

-- ---- a look

pub line_looked : (name : List ℕ) (at : ℕ) (w : State) (out : Output) → shown_of w.controllers name ≡ Some out.text.items → out.refused ≡ false → DoesLine (record { call = Show name; at = at }) w w (Wrote out)
line_looked name at w out shown accepted =
    (event_of (record { call = Show name; at = at }) (shows w).shop Run, refl, (refl, (refl, (shown, accepted))))

pub look_stopped : (name copied : List ℕ) (at : ℕ) (w new : State) (e : Refused) (fault : Fault) → IsStopped machine (event (Restart copied) at Run) w new → IsEventFault IsKeeperFault IsKeeperFault (λ _. ⊥) e → fault ≡ fault_of e → DoesLine (record { call = Show name; at = at }) w new (GaveUp fault)
look_stopped name copied at w new e fault (inl same) why told = subst (λ (v : State). DoesLine (record { call = Show name; at = at }) w v (GaveUp fault)) (sym same) (line_stopped (record { call = Show name; at = at }) w fault (failed e fault why told))
look_stopped name copied at w new e fault (inr same) why told = subst (λ (v : State). DoesLine (record { call = Show name; at = at }) w v (GaveUp fault)) (sym same) (line_stopped (record { call = Show name; at = at }) w fault (failed e fault why told))

-- ---- what memory runs out for

-- an order that has happened, of which nothing is told
pub order_untold : (name : List ℕ) (bytes : Vec ℕ) (at : ℕ) (what : What) (old new : State) → order_in (shows old).shop name bytes.items ≡ Some what → new ≡ after (event what at Run) old → IsUntold (record { call = Order name bytes; at = at }) old new
order_untold name bytes at what old new asked left = inr (left ∙ ap (λ o. after (event (unwrap_or o (Restart name)) at Run) old) (sym asked))
