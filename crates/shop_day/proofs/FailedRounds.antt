-- What comes to a controller in a round that gives nothing out is as many lines of a day that give up.
use Rattle.std.proofs.Common.{◌≡◌, ◌∙◌, ◌⊎◌, inl, inr, ℕ, Bool, List, [], ◌∷◌, map, Some, Result, Ok, Err, ap, refl, subst, sym}
use Rattle.ticket_items.specs.declared.refusal.Refusal.{Refusal}
use Rattle.stored_state.specs.AnyStep.{text_of}
use Rattle.stored_state.specs.Opened.{any_state_read}
use Rattle.stored_state.specs.Step.{TextStep}
use Rattle.stored_state.specs.TakingAll.{SavesNone, TakesEach, TakesNone, TakesOne}
use Rattle.stored_state.specs.declared.addressee.Addressee.{Addressee}
use Rattle.stored_state.specs.declared.any_controller.AnyController.{AnyController}
use Rattle.stored_state.specs.declared.coming.Coming.{Coming}
use Rattle.plain_shop.specs.Step.{StepOrWord}
use Rattle.controller.specs.declared.message.Message.{Message}
use Rattle.streams.specs.declared.fault.Fault.{Fault}
use Rattle.streams.specs.declared.fault.Fault.TheVariants.{Device, Input}
use Rattle.streams.specs.declared.refused.Refused.{Refused}
use Rattle.streams.specs.declared.refused.Refused.TheVariants as refused
use Rattle.world.proofs.Shop.AlwaysKept.{kept_after}
use Rattle.world.specs.Controllers.{Controllers}
use Rattle.world.specs.Happening.{after, next_state, step_of}
use Rattle.world.specs.Showing.{shows}
use Rattle.world.specs.State.{IsConsistent, State}
use Rattle.world_items.specs.declared.stop.Stop.TheVariants.{BeforeSend}
use Rattle.file_commands.specs.Step.{fault_of}
use Rattle.shop_day.proofs.Days.{begun}
use Rattle.shop_day.proofs.Failing.{only_memory}
use Rattle.shop_day.proofs.Made.{read_once}
use Rattle.shop_day.proofs.Rounds.{AllGo, AsksStep, Goes, Stay, asks_step, first_then, still_asked, stopped_goes}
use Rattle.shop_day.proofs.Stops.{fails_any, line_stopped}
use Rattle.shop_day.specs.Done.{DoLines}
use Rattle.shop_day.specs.Files.{IsFileOf, controller_of}
use Rattle.shop_day.specs.Laws.{HoldsEither}
use Rattle.shop_day.specs.Lines.{IsFailed, event}
use Rattle.shop_day.specs.Rounds.{AreAskedBy, FailedRoundIsLines, IsAskedBy}
use Rattle.shop_day.specs.declared.line.Line.{Line}
use Rattle.shop_day.specs.declared.outcome.Outcome.{Outcome}
use Rattle.shop_day.specs.declared.outcome.Outcome.TheVariants.{GaveUp}

-- each gives up
abbrev give_up : Fault → List Line → List Outcome
give_up fault lines = map (λ _. GaveUp fault) lines

-- ---- nothing is changed

all_stay : (w : State) (fault : Fault) (lines : List Line) → IsFailed fault → DoLines lines (give_up fault lines) w w
all_stay w fault [] why = begun w [] refl
all_stay w fault (l ∷ lines) why = first_then l (GaveUp fault) lines (give_up fault lines) w w w (line_stopped l w fault (fails_any l.call (shows w) fault why)) (all_stay w fault lines why)

-- ---- the state behind the last is held

-- what isn't sent changes no message
stay_unsent : (w : State) (step : StepOrWord Controllers Message) → Stay w (next_state BeforeSend w step)
stay_unsent w (Ok moved) k m is = is
stay_unsent w (Err word) k m is = is

unsent_goes : (w : State) (name : List ℕ) (l : Line) (fault : Fault) (step : TextStep AnyController) → IsConsistent w → IsFailed fault → AsksStep w name l step → Goes w name l (GaveUp fault) step.next
unsent_goes w name l fault step ok why asks =
    let then = after (event asks.0 l.at BeforeSend) w in
    record {
      then = then;
      does = asks.2 then (GaveUp fault) (BeforeSend, refl, (inr refl, why));
      there = ap (λ s. controller_of (next_state BeforeSend w s).controllers name) asks.1.made ∙ asks.1.next;
      ok = kept_after (event asks.0 l.at BeforeSend) w ok;
      stays = stay_unsent w (step_of asks.0 l.at w);
    }

one_unsent : (w : State) (name : List ℕ) (at : ℕ) (x : Coming) (l : Line) (fault : Fault) (c : AnyController) (step : Result (TextStep AnyController) Refusal) (next : AnyController) → IsConsistent w → IsFailed fault → controller_of w.controllers name ≡ Some c → IsAskedBy w name at x l → TakesOne at x c step next
    → Goes w name l (GaveUp fault) next
one_unsent w name at x l fault c (Ok step) next ok why there asked takes =
    subst (λ n. Goes w name l (GaveUp fault) n) (sym takes.1) (unsent_goes w name l fault step ok why (asks_step w name at x l c step ok there asked takes.0))
one_unsent w name at x l fault c (Err e) next ok why there asked takes = stopped_goes w name l fault c next ok there takes.1 (fails_any l.call (shows w) fault why)

all_unsent : (w : State) (name : List ℕ) (at : ℕ) (all : List Coming) (lines : List Line) (steps : List (Result (TextStep AnyController) Refusal)) (fault : Fault) (c last : AnyController) → IsConsistent w → IsFailed fault → controller_of w.controllers name ≡ Some c
    → AreAskedBy w name at all lines → TakesEach at all c steps last → AllGo w name lines (give_up fault lines) last
all_unsent w name at [] (l ∷ lines) steps fault c last ok why there asked takes = absurd asked
all_unsent w name at (x ∷ all) [] steps fault c last ok why there asked takes = absurd asked
all_unsent w name at [] [] (s ∷ steps) fault c last ok why there asked takes = absurd takes
all_unsent w name at (x ∷ all) (l ∷ lines) [] fault c last ok why there asked takes = absurd takes
all_unsent w name at [] [] [] fault c last ok why there asked takes = record { then = w; go = begun w [] refl; there = there ∙ ap Some (sym takes) }
all_unsent w name at (x ∷ all) (l ∷ lines) (s ∷ steps) fault c last ok why there asked takes =
    let one = one_unsent w name at x l fault c s takes.0 ok why there asked.0 takes.1 in
    let rest = all_unsent one.then name at all lines steps fault takes.0 last one.ok why one.there (still_asked w one.then name at all lines one.stays asked.1) takes.2 in
    record { then = rest.then; go = first_then l (GaveUp fault) lines (give_up fault lines) w one.then rest.then one.does rest.go; there = rest.there }

-- ---- the law

module _ {K : Type 0} (is_honest : K → Bool) (held place : K → List ℕ) (count : K → ℕ) (load_fails : K → K → Type 0) (save_fails : K → List ℕ → K → Type 0) (w : State) (name : List ℕ) (to : Addressee) (at : ℕ) (all : List Coming) (old new : K) (lines : List Line) (ok : IsConsistent w) (file : IsFileOf is_honest held w name old) (asked : AreAskedBy w name at all lines) where
  abbrev Leaves : Fault → Type 0
  Leaves fault = (then : State) × DoLines lines (give_up fault lines) w then × HoldsEither held w then name old new

  stays : (fault : Fault) → IsFailed fault → held new ≡ held old → Leaves fault
  stays fault why holds = (w, all_stay w fault lines why, inl (refl, holds))

  unsaved : (none : SavesNone is_honest held place count save_fails to at all old new) → (held new ≡ held old) ⊎ (held new ≡ text_of none.last) → Leaves (Device refused.SaveFailed)
  unsaved none (inl unchanged) = stays (Device refused.SaveFailed) tt unchanged
  unsaved none (inr is) =
      let same : none.before ≡ file.controller = read_once any_state_read (held old) none.before file.controller (none.was file.honest) file.read in
      let went = all_unsent w name at all lines none.steps (Device refused.SaveFailed) none.before none.last ok tt (file.there ∙ ap Some (sym same)) asked none.each in
      (went.then, went.go, inr (none.last, went.there, is))

  pub failed_round : (why : Refused) → TakesNone is_honest held place count load_fails save_fails to at all old new why → ¬ (why ≡ refused.OtherName) → Leaves (fault_of why)
  failed_round (refused.Core e) none here = stays (Input (refused.Core e)) (only_memory any_state_read (held old) file.controller e file.read (none.0 file.honest)) (none.1 file.honest)
  failed_round refused.LoadFailed none here = stays (Device refused.LoadFailed) tt (none.0 file.honest)
  failed_round refused.SaveFailed none here = unsaved none (none.fails.either file.honest)
  failed_round refused.OtherName none here = absurd (here refl)
  failed_round why none here = absurd none

pub failed_round_is_lines : {K : Type 0} (is_honest : K → Bool) (held place : K → List ℕ) (count : K → ℕ) (load_fails : K → K → Type 0) (save_fails : K → List ℕ → K → Type 0) → FailedRoundIsLines is_honest held place count load_fails save_fails
failed_round_is_lines is_honest held place count load_fails save_fails w name to at all old new why lines ok file none here asked =
    failed_round is_honest held place count load_fails save_fails w name to at all old new lines ok file asked why none here
