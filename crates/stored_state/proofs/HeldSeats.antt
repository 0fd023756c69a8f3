-- A controller beside an honest keeper, as it is started again.
use Rattle.std.proofs.Common.{◌≡◌, ◌∙◌, ◌⊎◌, ℕ, Bool, true, false, List, Some, Result, Ok, Err, IfErr, OnOk, OnErr, ap, inl, inr, refl, subst, sym, unwrap_or, option_and_then, ⊎_elim}
use Rattle.std.proofs.lemmas.Bool.{true≢false}
use Rattle.std.specs.Result.{result_ok}
use Rattle.controller.specs.Step.{Step}
use Rattle.controller.specs.declared.message.Message as messages
use Rattle.serde_json.specs.Data.{Data}
use Rattle.ticket_items.specs.declared.refusal.Refusal.{Refusal}
use Rattle.json_profile.specs.ReadAs.{IsReadAs}
use Rattle.stored_state.specs.Cause.{step_on}
use Rattle.stored_state.specs.Held.{GivesNothing, HoldsOldOrNext, HoldsSame, KeptState, ShowsEither}
use Rattle.stored_state.specs.Seat.{IsSeat, kept_in, read_in}
use Rattle.stored_state.specs.declared.cause.StepInput.{StepInput}
use Rattle.stored_state.specs.declared.cause.StepInput.TheVariants as causes
use Rattle.streams.specs.declared.refused.Refused.{Refused}
use Rattle.streams.specs.declared.refused.Refused.TheVariants as refused

-- no step changes a name
pub names_stay : {O C : Type 0} (name : C → List ℕ) (order : O → ℕ → C → Step C messages.Message) (take : messages.Message → ℕ → C → Step C messages.Message) → ((o : O) (at : ℕ) (c : C) → name (order o at c).next ≡ name c) → ((m : messages.Message) (at : ℕ) (c : C) → name (take m at c).next ≡ name c)
    → (cause : StepInput O) (at : ℕ) (c : C) → name (step_on order take cause at c).next ≡ name c
names_stay name order take ordered taken (causes.Order o) at c = ordered o at c
names_stay name order take ordered taken (causes.Message m) at c = taken m at c

-- why no step is given out, where it isn't stale: all is as it was, or it is stale
pub stays_or_stale : {C K : Type 0} (h : K → Bool) (l : K → List ℕ) (n : K → ℕ) (sf : K → List ℕ → K → Type 0) (R : Refusal → Type 0) (T : List ℕ → Type 0) (old new : KeptState C K) → old.stale ≡ false → (e : Refused) → GivesNothing h l n sf R T old new e → (new ≡ old) ⊎ (new.stale ≡ true)
stays_or_stale h l n sf R T old new is (refused.Core x) why =
    ⊎_elim (λ same. inl same.1) (λ lost. inr lost.1) why.1
stays_or_stale h l n sf R T old new is refused.SaveFailed why = inr why.1
stays_or_stale h l n sf R T old new is refused.Stale why = inl why.1
stays_or_stale h l n sf R T old new is e why = absurd why

module _ {C K : Type 0} (name : C → List ℕ) (reads : Data → Result C Refusal) (honest : K → Bool) (held : K → List ℕ) where
  read_so : (bytes : List ℕ) (c : C) → IsReadAs reads bytes (Ok c) → read_in reads bytes ≡ Some c
  read_so bytes c is = ap (option_and_then (λ d. result_ok (reads d))) is.json ∙ ap result_ok is.form

  pub kept_so : (s : KeptState C K) (c : C) → IsReadAs reads (held s.keep) (Ok c) → kept_in reads held s ≡ c
  kept_so s c is = ap (λ o. unwrap_or o s.controller) (read_so (held s.keep) c is)

  abbrev pub IsOne : KeptState C K → Type 0
  IsOne s = IsSeat name reads honest held s

  -- one at which this is held
  pub seat_of : (s : KeptState C K) (c : C) → honest s.keep ≡ true → IsReadAs reads (held s.keep) (Ok c) → (s.stale ≡ false → s.controller ≡ c) → name s.controller ≡ name c → IsOne s
  seat_of s c is read fresh named =
      let kept : kept_in reads held s ≡ c = kept_so s c read in
      record {
        honest = is;
        again = subst (λ k. IsReadAs reads (held s.keep) (Ok k)) (sym kept) read;
        fresh = λ so. fresh so ∙ sym kept;
        named = named ∙ ap name (sym kept);
      }

  pub fresh_seat : (s : KeptState C K) → honest s.keep ≡ true → IsReadAs reads (held s.keep) (Ok s.controller) → IsOne s
  fresh_seat s is read = seat_of s s.controller is read (λ so. refl) refl

  -- ---- read again

  -- what a call of it leaves: it is one still, and is started again as the same, or as the next
  abbrev pub Stays : KeptState C K → KeptState C K → Type 0
  Stays old new = IsOne new × (kept_in reads held new ≡ kept_in reads held old)

  pub read_again : {A E : Type 0} (r : Result A E) (old new : KeptState C K) → IsOne old → honest new.keep ≡ honest old.keep → HoldsSame honest held old.keep new.keep → OnOk r (honest old.keep ≡ true → IsReadAs reads (held old.keep) (Ok new.controller))
      → OnErr r (new.controller ≡ old.controller) → OnErr r (new.stale ≡ old.stale) → Stays old new
  read_again (Ok a) old new is same holds read shown stale =
      let before = read is.honest in
      let after = subst (λ b. IsReadAs reads b (Ok new.controller)) (sym (holds is.honest)) before in
      (fresh_seat new (same ∙ is.honest) after, kept_so new new.controller after ∙ sym (kept_so old new.controller before))
  read_again (Err e) old new is same holds read shown stale =
      let after = subst (λ b. IsReadAs reads b (Ok (kept_in reads held old))) (sym (holds is.honest)) is.again in (
        seat_of new (kept_in reads held old) (same ∙ is.honest) after (λ so. shown ∙ is.fresh (sym stale ∙ so)) (ap name shown ∙ is.named),
        kept_so new (kept_in reads held old) after,
      )

  -- ---- a step

  -- that is saved
  pub stepped : (old new : KeptState C K) (next : C) → IsOne old → honest new.keep ≡ honest old.keep → (honest old.keep ≡ true → IsReadAs reads (held new.keep) (Ok new.controller)) → new.controller ≡ next → IsOne new × (kept_in reads held new ≡ next)
  stepped old new next is same read shown =
      let after = read is.honest in
      (fresh_seat new (same ∙ is.honest) after, kept_so new new.controller after ∙ shown)

  either_name : (old new : KeptState C K) (next : C) → name next ≡ name old.controller → ShowsEither old (λ c. c ≡ next) new → name new.controller ≡ name old.controller
  either_name old new next named (inl same) = ap name same
  either_name old new next named (inr is) = ap name is ∙ named

  stale_left : (old new : KeptState C K) (next : C) → IsOne old → name next ≡ name old.controller → honest new.keep ≡ honest old.keep → HoldsOldOrNext reads (held old.keep) next (held new.keep) → name new.controller ≡ name old.controller → new.stale ≡ true
      → IsOne new × ((kept_in reads held new ≡ kept_in reads held old) ⊎ (kept_in reads held new ≡ next))
  stale_left old new next is named same (inl holds) shown stale =
      let after = subst (λ b. IsReadAs reads b (Ok (kept_in reads held old))) (sym holds) is.again in (
        seat_of new (kept_in reads held old) (same ∙ is.honest) after (λ so. absurd (true≢false (sym stale ∙ so))) (shown ∙ is.named),
        inl (kept_so new (kept_in reads held old) after),
      )
  stale_left old new next is named same (inr read) shown stale =
      (seat_of new next (same ∙ is.honest) read (λ so. absurd (true≢false (sym stale ∙ so))) (shown ∙ sym named), inr (kept_so new next read))

  -- or isn't
  pub left : (old new : KeptState C K) (next : C) → IsOne old → name next ≡ name old.controller → honest new.keep ≡ honest old.keep → (honest old.keep ≡ true → HoldsOldOrNext reads (held old.keep) next (held new.keep)) → ShowsEither old (λ c. c ≡ next) new → (new ≡ old) ⊎ (new.stale ≡ true)
      → IsOne new × ((kept_in reads held new ≡ kept_in reads held old) ⊎ (kept_in reads held new ≡ next))
  left old new next is named same holds shown (inl stays) = (subst IsOne (sym stays) is, inl (ap (kept_in reads held) stays))
  left old new next is named same holds shown (inr stale) = stale_left old new next is named same (holds is.honest) (either_name old new next named shown) stale

  -- made and saved, or not
  pub made : {A : Type 0} (r : Result A Refused) (count : K → ℕ) (fails : K → List ℕ → K → Type 0) (R : Refusal → Type 0) (T : List ℕ → Type 0) (old new : KeptState C K) (next : C) → IsOne old → old.stale ≡ false → name next ≡ name old.controller → honest new.keep ≡ honest old.keep
      → OnOk r (honest old.keep ≡ true → IsReadAs reads (held new.keep) (Ok new.controller)) → OnOk r (new.controller ≡ next) → OnErr r (honest old.keep ≡ true → HoldsOldOrNext reads (held old.keep) next (held new.keep)) → OnErr r (ShowsEither old (λ c. c ≡ next) new) → IfErr r (GivesNothing honest held count fails R T old new)
      → IsOne new × OnOk r (kept_in reads held new ≡ next) × OnErr r ((kept_in reads held new ≡ kept_in reads held old) ⊎ (kept_in reads held new ≡ next))
  made (Ok a) count fails R T old new next is fresh named same read shown holds either why =
      let now = stepped old new next is same read shown in
      (now.0, now.1, tt)
  made (Err e) count fails R T old new next is fresh named same read shown holds either why =
      let now = left old new next is named same holds either (stays_or_stale honest held count fails R T old new fresh e why) in
      (now.0, tt, now.1)
