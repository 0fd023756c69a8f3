-- What is shown where it isn't known how far an event came: what one ticket with one table of holders shows where its controller stopped in it.
use Rattle.std.proofs.Common.{◌≡◌, ◌∙◌, ◌⊎◌, ◌<◌, inl, inr, ℕ, zero, suc, List, [], ◌∷◌, length, take, Result, Ok, Err, OnErr, ap, arith, refl, subst, sym}
use Rattle.controller.specs.Step.{Step}
use Rattle.controller.specs.declared.message.Message.{Message}
use Rattle.world.proofs.Shop.AlwaysKept.{kept_after_all}
use Rattle.world.proofs.Runs.Events.{event_is_replayed, events_are_replayed}
use Rattle.world.proofs.Runs.Unknown.{not_made}
use Rattle.world.specs.Controllers.{Controllers}
use Rattle.world.specs.Happening.{IsUnknown, after_all, machine, next_state, step_of}
use Rattle.world.specs.Laws.{FailedSaveIsStop}
use Rattle.plain_shop.specs.Replay as replay
use Rattle.world.specs.Running.{IsCutOff, IsStopped, stopping}
use Rattle.world.specs.Showing.{shows}
use Rattle.world.specs.State.{IsConsistent, State}
use Rattle.world_items.specs.declared.event.Event.{Event}
use Rattle.world_items.specs.declared.stop.Stop.TheVariants.{BeforeSave, BeforeSend}
use Rattle.world_items.specs.declared.what.What.{What}

-- ---- one event

pub stop_shown : (w new : State) (e : Event) → IsConsistent w → IsStopped machine e w new → IsStopped replay.machine e (shows w) (shows new)
stop_shown w new e kept (inl is) = inl (ap shows is ∙ (event_is_replayed w (stopping BeforeSave e) kept).1)
stop_shown w new e kept (inr is) = inr (ap shows is ∙ (event_is_replayed w (stopping BeforeSend e) kept).1)

-- as a step tells
pub stopped_so : {A E : Type 0} (result : Result A E) (e : Event) (what : What) (w new : State) → e.what ≡ what → OnErr result (IsUnknown w (step_of what e.at w) new) → OnErr result (IsStopped machine e w new)
stopped_so (Ok a) e what w new is stopped = tt
stopped_so (Err f) e what w new is stopped = subst (λ x. IsUnknown w (step_of x e.at w) new) (sym is) stopped

pub stop_so : {A E : Type 0} (result : Result A E) (e : Event) (what : What) (w new : State) → IsConsistent w → e.what ≡ what → OnErr result (IsUnknown w (step_of what e.at w) new) → OnErr result (IsStopped replay.machine e (shows w) (shows new))
stop_so (Ok a) e what w new kept is stopped = tt
stop_so (Err f) e what w new kept is stopped = stop_shown w new e kept (subst (λ x. IsUnknown w (step_of x e.at w) new) (sym is) stopped)

-- what isn't begun is stopped
pub not_begun : (w : State) (e : Event) → IsStopped machine e w w
not_begun w e = not_made w (step_of e.what e.at w)

-- ---- events in turn

pub cut_shown : (events : List Event) (w new : State) → IsConsistent w → IsCutOff machine events w new → IsCutOff replay.machine events (shows w) (shows new)
cut_shown events w new kept cut =
    let before = after_all (take cut.place events) w in
    record {
      place = cut.place;
      event = cut.event;
      there = cut.there;
      stopped = subst (λ v. IsStopped replay.machine cut.event v (shows new)) (events_are_replayed w (take cut.place events) kept).1 (stop_shown before new cut.event (kept_after_all (take cut.place events) w kept) cut.stopped);
    }

-- before the first
pub cut_first : (events : List Event) (w : State) → 0 < length events → IsCutOff machine events w w
cut_first [] w some = absurd (omega (arith, some))
cut_first (e ∷ events) w some = record { place = 0; event = e; there = refl; stopped = not_begun w e }

pub stands_first : (events : List Event) (w : State) → 0 < length events → (k : ℕ) × (k < length events) × (w ≡ after_all (take k events) w)
stands_first [] w some = absurd (omega (arith, some))
stands_first (e ∷ events) w some = (0, some, refl)

-- room for as many is wanted, so there are some
pub some_there : (n room : ℕ) → room ≡ n → (room ≡ 0 → ⊥) → 0 < n
some_there zero room is wanted = absurd (wanted is)
some_there (suc n) room is wanted = omega arith

-- ---- the law

by_held : (w : State) (e : Event) (step : Step Controllers Message) (held : Controllers) → step_of e.what e.at w ≡ Ok step → (held ≡ w.controllers) ⊎ (held ≡ step.next)
    → IsStopped machine e w (record { controllers = held; messages = w.messages })
by_held w e step held is (inl same) = inl (ap (λ (c : Controllers). record { controllers = c; messages = w.messages }) same ∙ sym (ap (next_state BeforeSave w) is))
by_held w e step held is (inr next) = inr (ap (λ (c : Controllers). record { controllers = c; messages = w.messages }) next ∙ sym (ap (next_state BeforeSend w) is))

pub failed_save_is_stop : FailedSaveIsStop
failed_save_is_stop w e step held kept is either =
    let stopped = by_held w e step held is either in
    (stopped, stop_shown w (record { controllers = held; messages = w.messages }) e kept stopped)
