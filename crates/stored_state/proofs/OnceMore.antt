-- What causes a step once more leads where the step does.
use Rattle.std.proofs.Common.{◌≡◌, ℕ, Bool, true, false, Some, None, refl, sym}
use Rattle.std.specs.Prelude.{if◌then◌else◌}
use Rattle.std.proofs.lemmas.Bool.{true≢false}
use Rattle.controller.specs.Step.{Step}
use Rattle.controller.specs.declared.body.Body.{Body}
use Rattle.controller.specs.declared.message.Message as messages
use Rattle.stored_state.specs.Cause.{led_to, once_more, stays_at, step_on}
use Rattle.stored_state.specs.declared.cause.StepInput.{StepInput}
use Rattle.stored_state.specs.declared.cause.StepInput.TheVariants as causes

module _ {O S : Type 0} (order : O → ℕ → S → Step S messages.Message) (take : messages.Message → ℕ → S → Step S messages.Message) (stays : Body → S → Bool) (law : (m : messages.Message) (at : ℕ) (s : S) → stays m.body s ≡ true → (take m at s).next ≡ s) where
  stays_so : (cause : StepInput O) (at : ℕ) (s : S) → stays_at stays cause s ≡ true → (step_on order take cause at s).next ≡ s
  stays_so (causes.Order o) at s is = absurd (true≢false (sym is))
  stays_so (causes.Message m) at s is = law m at s is

  led_if : (cause : StepInput O) (at : ℕ) (s : S) (b : Bool) → (b ≡ true → (step_on order take cause at s).next ≡ s) → led_to order take (if b then None else Some cause) at s ≡ (step_on order take cause at s).next
  led_if cause at s true so = sym (so refl)
  led_if cause at s false so = refl

  pub led_so : (cause : StepInput O) (at : ℕ) (s : S) → led_to order take (once_more stays cause s) at s ≡ (step_on order take cause at s).next
  led_so cause at s = led_if cause at s (stays_at stays cause s) (stays_so cause at s)
