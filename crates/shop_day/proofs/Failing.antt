-- What an order to the file of a controller of a shop leaves, where it gives nothing out.
use Rattle.std.proofs.Common.{◌≡◌, ◌∙◌, ◌⊎◌, inl, inr, ℕ, Bool, true, false, List, Some, Result, Ok, MatchBool, ap, refl, subst, sym}
use Rattle.std.proofs.lemmas.Bool.{true≢false}
use Rattle.std.specs.Str.{bytes_eq}
use Rattle.ticket_items.specs.declared.refusal.Refusal.{Refusal}
use Rattle.ticket_items.specs.declared.refusal.Refusal.TheVariants.{Memory}
use Rattle.controller_form.specs.Orders.MasterForm.{master_order_read}
use Rattle.controller_form.specs.Orders.WorkerForm.{worker_order_read}
use Rattle.json_profile.specs.ReadAs.{IsReadAs, IsRefusalOf}
use Rattle.jmf_message.specs.Decoded.{IsRefusalOf as IsUndecoded, message_read}
use Rattle.serde_json.specs.Data.{Data}
use Rattle.stored_state.specs.AnyStep.{IsHanded, IsNoOrder, IsOrdered, text_of}
use Rattle.stored_state.specs.Message.{message_text}
use Rattle.stored_state.specs.Held.{GivesNothing, KeptState}
use Rattle.stored_state.specs.Opened.{any_state_read}
use Rattle.stored_state.specs.declared.any_controller.AnyController.{AnyController}
use Rattle.stored_state.specs.declared.any_controller.AnyController.TheVariants.{Master as of_master}
use Rattle.stored_state.specs.declared.any_controller.AnyController.TheVariants.{Worker as of_worker}
use Rattle.stored_state.specs.Step.{IsLeft, TextStep}
use Rattle.streams.specs.declared.fault.Fault.{Fault}
use Rattle.streams.specs.declared.fault.Fault.TheVariants.{Device, Input}
use Rattle.streams.specs.declared.refused.Refused.{Refused}
use Rattle.streams.specs.declared.refused.Refused.TheVariants as refused
use Rattle.worker_core.specs.Worker as worker
use Rattle.world.specs.Controllers.{worker_of}
use Rattle.world.specs.Happening.{after, next_state}
use Rattle.world.specs.Showing.{shows}
use Rattle.world.specs.State.{State}
use Rattle.world_items.specs.declared.stop.Stop.TheVariants.{BeforeSend}
use Rattle.file_commands.specs.Opening.{IsLoaded, IsNotLoaded}
use Rattle.file_commands.specs.Step.{GivesNoOutput, fault_of}
use Rattle.world_items.specs.declared.what.What.{What}
use Rattle.world_items.specs.declared.what.What.TheVariants.{Deliver}
use Rattle.shop_day.proofs.Made.{IsMade, message_handed, order_made, read_once, who_of}
use Rattle.shop_day.proofs.Numbers.{numbered_some}
use Rattle.shop_day.proofs.Stops.{line_stopped, message_done, order_done}
use Rattle.shop_day.specs.Done.{DoesLine, StepsTo}
use Rattle.shop_day.specs.Files.{controller_of}
use Rattle.shop_day.specs.Laws.{FailedOrderIsLine, FailedTakeIsLine, HoldsEither, NotLoadedIsLine}
use Rattle.shop_day.specs.Lines.{GivesUp, IsFailed, event}
use Rattle.shop_day.specs.declared.line.Call.TheVariants.{Order, Take}
use Rattle.shop_day.specs.declared.line.Line.{Line}
use Rattle.shop_day.specs.declared.outcome.Outcome.{Outcome}
use Rattle.shop_day.specs.declared.outcome.Outcome.TheVariants.{GaveUp}

-- ---- what isn't loaded

-- what is read isn't refused, but for want of memory
pub only_memory : {A : Type 0} (reads : Data → Result A Refusal) (bytes : List ℕ) (a : A) (e : Refusal) → IsReadAs reads bytes (Ok a) → IsRefusalOf reads bytes e → e ≡ Memory
only_memory reads bytes a e is (inl (named, none)) = cc (is.json, none is.utf8)
only_memory reads bytes a e is (inr (inl other)) =
    let same : Some is.value ≡ Some other.value = sym is.json ∙ other.json in
    cc (is.form, other.form)
only_memory reads bytes a e is (inr (inr memory)) = memory

not_loaded_so : {K : Type 0} (is_honest : K → Bool) (held : K → List ℕ) (load_fails : K → K → Type 0) (keep : K) (c : AnyController) (fault : Fault) → is_honest keep ≡ true → IsReadAs any_state_read (held keep) (Ok c) → IsNotLoaded is_honest held load_fails keep fault → IsFailed fault
not_loaded_so is_honest held load_fails keep c (Device refused.LoadFailed) honest read why = tt
not_loaded_so is_honest held load_fails keep c (Device (refused.Core e)) honest read why = only_memory any_state_read (held keep) c e read (why honest)
not_loaded_so is_honest held load_fails keep c fault honest read why = absurd why

pub not_loaded_is_line : {K : Type 0} (is_honest : K → Bool) (held : K → List ℕ) (load_fails : K → K → Type 0) → NotLoadedIsLine is_honest held load_fails
not_loaded_is_line is_honest held load_fails w name bytes at keep fault file why =
    line_stopped (record { call = Order name bytes; at = at }) w fault (inl (not_loaded_so is_honest held load_fails keep file.controller fault file.honest file.read why))

-- ---- what is no order

pub no_order_by : (w : State) (name bytes : List ℕ) (c : AnyController) (e : Refusal) → IsNoOrder bytes c e
    → ((bytes_eq name w.controllers.master.name ≡ true) × (c ≡ of_master w.controllers.master)) ⊎ ((v : worker.State) × (bytes_eq name w.controllers.master.name ≡ false) × (worker_of w.controllers.workers name ≡ Some v) × (c ≡ of_worker v))
    → MatchBool (bytes_eq name w.controllers.master.name) (IsRefusalOf master_order_read bytes e) (IsRefusalOf worker_order_read bytes e)
no_order_by w name bytes c e why (inl (mine, same)) =
    subst (λ b. MatchBool b (IsRefusalOf master_order_read bytes e) (IsRefusalOf worker_order_read bytes e)) (sym mine) (subst (λ x. IsNoOrder bytes x e) same why)
no_order_by w name bytes c e why (inr (v, other, found, same)) =
    subst (λ b. MatchBool b (IsRefusalOf master_order_read bytes e) (IsRefusalOf worker_order_read bytes e)) (sym other) (subst (λ x. IsNoOrder bytes x e) same why)

-- ---- what is left

module _ {K : Type 0} (is_honest : K → Bool) (held place : K → List ℕ) (count : K → ℕ) (save_fails : K → List ℕ → K → Type 0) (w : State) (name : List ℕ) (l : Line) (keep : K) (before then : KeptState AnyController K) (Refuses : Refusal → Type 0) (IsStep : TextStep AnyController → Type 0) (honest : is_honest keep ≡ true) (loaded : IsLoaded is_honest held place keep before) (refused_so : (e : Refusal) → Refuses e → GivesUp l.call (shows w) (Input (refused.Core e))) (failed_so : (fault : Fault) → IsFailed fault → GivesUp l.call (shows w) fault) (goes : (step : TextStep AnyController) → IsStep step → (what : What) × IsMade w name what l.at step × ((new : State) (outcome : Outcome) → StepsTo what l.at w new outcome → DoesLine l w new outcome)) where
  abbrev Leaves : Fault → Type 0
  Leaves fault = (new : State) × DoesLine l w new (GaveUp fault) × HoldsEither held w new name keep then.keep

  -- nothing is changed
  stays : (fault : Fault) → GivesUp l.call (shows w) fault → held then.keep ≡ held keep → Leaves fault
  stays fault why holds = (w, line_stopped l w fault why, inl (refl, holds))

  -- the state was stored
  stored : (fault : Fault) (step : TextStep AnyController) → IsFailed fault → IsStep step → held then.keep ≡ text_of step.next → Leaves fault
  stored fault step why is holds =
      let made = goes step is in
      let new = after (event made.0 l.at BeforeSend) w in (
        new,
        made.2 new (GaveUp fault) (BeforeSend, refl, (inr refl, why)),
        inr (step.next, ap (λ s. controller_of (next_state BeforeSend w s).controllers name) made.1.made ∙ made.1.next, holds),
      )

  save_failed : (text : List ℕ) → IsLeft text_of IsStep text → (held then.keep ≡ held before.keep) ⊎ (held then.keep ≡ text) → Leaves (Device refused.SaveFailed)
  save_failed text left (inl unchanged) = stays (Device refused.SaveFailed) (failed_so (Device refused.SaveFailed) tt) (unchanged ∙ loaded.same honest)
  save_failed text left (inr is) = stored (Device refused.SaveFailed) left.step tt left.is_step (is ∙ left.state)

  failed_by : (why : Refused) → GivesNothing is_honest held count save_fails Refuses (IsLeft text_of IsStep) before then why → Leaves (fault_of why)
  failed_by (refused.Core e) (fresh, inl (refuses, unchanged)) =
      stays (Input (refused.Core e)) (refused_so e refuses) (ap (λ (s : KeptState AnyController K). held s.keep) unchanged ∙ loaded.same honest)
  failed_by (refused.Core e) (fresh, inr (memory, stale, left, holds)) =
      stays (Input (refused.Core e)) (failed_so (Input (refused.Core e)) memory) (holds (loaded.honest ∙ honest) ∙ loaded.same honest)
  failed_by refused.SaveFailed (fresh, stale, (text, left, fails)) = save_failed text left (fails.either (loaded.honest ∙ honest))
  failed_by refused.Stale (stale, unchanged) = absurd (true≢false (sym stale ∙ loaded.fresh))
  failed_by why none = absurd none

  pub gives_nothing : (fault : Fault) → is_honest then.keep ≡ true → GivesNoOutput is_honest held count save_fails text_of Refuses IsStep before then fault
      → (new : State) × DoesLine l w new (GaveUp fault) × HoldsEither held w new name keep then.keep
  gives_nothing fault still (inl (why, told, nothing)) = subst Leaves (sym told) (failed_by why nothing)
  gives_nothing fault still (inr (told, saves)) = subst Leaves (sym told) (stored (Input (refused.Core Memory)) saves.step refl saves.is_step (saves.saved.holds still))

-- ---- the laws

pub failed_order_is_line : {K : Type 0} (is_honest : K → Bool) (held place : K → List ℕ) (count : K → ℕ) (save_fails : K → List ℕ → K → Type 0) → FailedOrderIsLine is_honest held place count save_fails
failed_order_is_line is_honest held place count save_fails w name bytes at keep before then fault ok file loaded still why =
    let c = before.controller in
    let same : c ≡ file.controller = read_once any_state_read (held keep) c file.controller (loaded.shown file.honest) file.read in
    let there : controller_of w.controllers name ≡ Some c = file.there ∙ ap Some (sym same) in
    let who = who_of (bytes_eq name w.controllers.master.name) w.controllers.master (worker_of w.controllers.workers name) c there in
    gives_nothing is_honest held place count save_fails w name (record { call = Order name bytes; at = at }) keep before then (IsNoOrder bytes.items c) (IsOrdered at bytes.items c) file.honest loaded
    (λ e refuses. inr (e, refl, no_order_by w name bytes.items c e refuses who))
    (λ f failed. inl failed)
    (λ step is.
    let made = order_made w name bytes.items at c step ok there is in
    (made.0, made.2, λ new outcome came. order_done name bytes at made.0 w new outcome made.1 came))
    fault still why

pub failed_take_is_line : {K : Type 0} (is_honest : K → Bool) (held place : K → List ℕ) (count : K → ℕ) (save_fails : K → List ℕ → K → Type 0) → FailedTakeIsLine is_honest held place count save_fails
failed_take_is_line is_honest held place count save_fails w k at m keep before then fault ok found reads file loaded still why =
    let c = before.controller in
    let same : c ≡ file.controller = read_once any_state_read (held keep) c file.controller (loaded.shown file.honest) file.read in
    let there : controller_of w.controllers m.receiver ≡ Some c = file.there ∙ ap Some (sym same) in
    gives_nothing is_honest held place count save_fails w m.receiver (record { call = Take k; at = at }) keep before then (IsUndecoded (message_text m)) (IsHanded at (message_text m) c) file.honest loaded
    (λ e refuses. inl (only_memory message_read (message_text m) m e reads refuses))
    (λ f failed. inl failed)
    (λ step is. (Deliver k, message_handed w k at m c step found there reads is, λ new outcome came. message_done k at w new outcome (numbered_some w.messages k m found) came))
    fault still why
