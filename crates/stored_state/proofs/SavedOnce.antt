-- One save behind the last of many steps.
use Rattle.std.proofs.Common.{◌≡◌, ◌∙◌, ◌≤◌, ℕ, Bool, true, List, Result, Ok, arith, inl, inr, subst, ⊎_elim}
use Rattle.std.proofs.Math.Nat.{eq-or-lt_of_le}
use Rattle.keepers.specs.Keeper.{CountRose}
use Rattle.ticket_items.specs.declared.refusal.Refusal.{Refusal}
use Rattle.json_profile.specs.ReadAs.{IsReadAs, IsRefusalOf}
use Rattle.stored_state.specs.Addressee.{is_addressed}
use Rattle.stored_state.specs.AnyStep.{text_of}
use Rattle.stored_state.specs.Held.{HoldsSame, IsNotSaved}
use Rattle.stored_state.specs.Opened.{AnyController, any_state_read}
use Rattle.stored_state.specs.TakingAll.{Gives, IsNotTakenFrom, IsOfOther, TakesNone}
use Rattle.stored_state.specs.declared.addressee.Addressee.{Addressee}
use Rattle.stored_state.specs.declared.coming.Coming.{Coming}
use Rattle.stored_state.specs.declared.taken_bytes.TakenBytes.{TakenBytes}
use Rattle.streams.specs.declared.refused.Refused.{Refused}
use Rattle.streams.specs.declared.refused.Refused.TheVariants as refused

-- the number of failures rose behind a load
rose_behind : (old mid new : ℕ) → old ≤ mid → mid ≤ new → CountRose mid new → CountRose old new
rose_behind old mid new loaded saved rose =
    ⊎_elim (λ less. inl (omega (arith, less, loaded)))
    (λ most. ⊎_elim (λ same. inr (same ∙ most)) (λ less. inl (omega (arith, less, saved))) (eq-or-lt_of_le loaded)) rose

-- what a load and the save behind it leave of a keeper, whether that failed or not
pub record Stays {K : Type 0} (is_honest : K → Bool) (held place : K → List ℕ) (count : K → ℕ) (old loaded new : K) : Type 0 where
  pub same : HoldsSame is_honest held old loaded
  pub honest : is_honest loaded ≡ is_honest old
  pub there : place loaded ≡ place old
  pub counted : count old ≤ count loaded
  pub counts : count loaded ≤ count new

module _ {K : Type 0} (is_honest : K → Bool) (held place : K → List ℕ) (count : K → ℕ) (load_fails : K → K → Type 0) (save_fails : K → List ℕ → K → Type 0) (to : Addressee) (at : ℕ) (all : List Coming) (old loaded new : K) (bytes text : List ℕ) (before last : AnyController) (given : List (Result TakenBytes Refusal)) where
  none_saved : (e : Refused) → (is_honest old ≡ true → bytes ≡ held old) → IsReadAs any_state_read bytes (Ok before) → is_addressed to before ≡ true → Gives at all before given last → Stays is_honest held place count old loaded new → IsNotSaved is_honest held count save_fails (text_of last) loaded new e → TakesNone is_honest held place count load_fails save_fails to at all old new e
  none_saved (refused.Core e) loads read addressed gives stays why =
      (λ h. inr (inr why.0), λ h. why.1 (stays.honest ∙ h) ∙ stays.same h)
  none_saved refused.SaveFailed loads read addressed gives stays why =
      record {
        before = before;
        was = λ h. subst (λ b. IsReadAs any_state_read b (Ok before)) (loads h) read;
        addressed = addressed;
        steps = gives.steps;
        last = last;
        each = gives.each;
        fails = record {
          either = λ h. ⊎_elim (λ kept. inl (kept ∙ stays.same h)) (λ is. inr is) (why.either (stays.honest ∙ h));
          fails = (loaded, stays.honest, stays.there, why.fails);
          failures = rose_behind (count old) (count loaded) (count new) stays.counted stays.counts why.failures;
        };
      }
  none_saved e loads read addressed gives stays why = absurd why

  pub not_saved : (e : Refused) → (is_honest old ≡ true → bytes ≡ held old) → IsReadAs any_state_read bytes (Ok before) → is_addressed to before ≡ true → Gives at all before given last → text ≡ text_of last → Stays is_honest held place count old loaded new → IsNotSaved is_honest held count save_fails text loaded new e → TakesNone is_honest held place count load_fails save_fails to at all old new e
  not_saved e loads read addressed gives is stays why =
      none_saved e loads read addressed gives stays (subst (λ t. IsNotSaved is_honest held count save_fails t loaded new e) is why)

-- why nothing came to the controller whose state was loaded
pub not_taken : {K : Type 0} (is_honest : K → Bool) (held place : K → List ℕ) (count : K → ℕ) (load_fails : K → K → Type 0) (save_fails : K → List ℕ → K → Type 0) (to : Addressee) (at : ℕ) (all : List Coming) (old new : K) (bytes : List ℕ) (e : Refused) → (is_honest old ≡ true → bytes ≡ held old) → HoldsSame is_honest held old new → IsNotTakenFrom to bytes e → TakesNone is_honest held place count load_fails save_fails to at all old new e
not_taken h l p n lf sf to at all old new bytes (refused.Core e) loads same why =
    (λ is. subst (λ b. IsRefusalOf any_state_read b e) (loads is) why, same)
not_taken h l p n lf sf to at all old new bytes refused.OtherName loads same why =
    (λ is. subst (IsOfOther to) (loads is) why, same)
not_taken h l p n lf sf to at all old new bytes e loads same why = absurd why
