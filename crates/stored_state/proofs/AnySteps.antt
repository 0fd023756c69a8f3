-- Steps of a controller of one kind are steps of one of any kind.
use Rattle.std.proofs.Common.{◌≡◌, ◌∙◌, ℕ, Bool, false, true, List, Option, Result, Ok, Err, IfOk, IfErr, OnOk, ap, inr, option_map, refl, sym}
use Rattle.std.proofs.lemmas.Result.{IfErr-weaker}
use Rattle.serde_json.specs.Data.{Data}
use Rattle.ticket_items.specs.declared.refusal.Refusal.{Refusal}
use Rattle.ticket_items.specs.declared.refusal.Refusal.TheVariants.{Memory}
use Rattle.json_profile.specs.ReadAs.{IsReadAs, IsRefusalOf}
use Rattle.controller.specs.Step.{Step, with_state}
use Rattle.controller.specs.declared.message.Message.{Message}
use Rattle.world_items.specs.declared.reply.Reply.{Reply}
use Rattle.streams.specs.declared.refused.Refused.{Refused}
use Rattle.stored_state.specs.Held.{GivesNothing, KeptState}
use Rattle.stored_state.specs.Message.{IsOfMessage, message_text}
use Rattle.stored_state.specs.Opened.{AnyController}
use Rattle.stored_state.specs.Step.{GivesStep, IsLeft, IsOfOrder, IsTaken, TextStep, in_text}
use Rattle.stored_state.specs.declared.order_bytes.OrderBytes.{OrderBytes}
use Rattle.stored_state.specs.declared.taken_bytes.TakenBytes.{TakenBytes}
use Rattle.stored_state.proofs.Unsaved.{held_as, nothing_of}

-- ---- a step that is given out

any_given : {C K : Type 0} (any : C → AnyController) (is_honest : K → Bool) (held : K → List ℕ) (text : AnyController → List ℕ) (IsStep : TextStep AnyController → Type 0) (step : Step C Message) (old new : KeptState C K) (reply : Result Reply Refusal) (sent : Option (List ℕ)) → IsStep (with_state any (in_text step)) → new.controller ≡ step.next → reply ≡ step.reply → sent ≡ option_map message_text step.sent → new.stale ≡ false → is_honest new.keep ≡ is_honest old.keep → (is_honest old.keep ≡ true → held new.keep ≡ text (any new.controller)) → GivesStep is_honest held text IsStep (held_as any new) reply sent
any_given any h l t IsStep step old new reply sent is_step after says goes fresh honest holds =
    record {
      step = with_state any (in_text step);
      is_step = (is_step, says, goes);
      saved = record { after = ap any after; fresh = fresh; holds = λ is. holds (sym honest ∙ is) ∙ ap (λ c. t (any c)) after };
    }

pub any_ordered : {C O K : Type 0} (any : C → AnyController) (is_honest : K → Bool) (held : K → List ℕ) (text : AnyController → List ℕ) (reads : Data → Result O Refusal) (bytes : List ℕ) (does : O → Step C Message) (order : O) (old new : KeptState C K) (r : Result OrderBytes Refused) → IsReadAs reads bytes (Ok order) → OnOk r (new.controller ≡ (does order).next) → IfOk r (λ given. given.reply ≡ (does order).reply) → IfOk r (λ given. option_map (λ b. b.items) given.message ≡ option_map message_text (does order).sent) → OnOk r (new.stale ≡ false) → is_honest new.keep ≡ is_honest old.keep → OnOk r (is_honest old.keep ≡ true → held new.keep ≡ text (any new.controller))
    → IfOk r (λ given. GivesStep is_honest held text (IsOfOrder reads bytes (λ o. with_state any (in_text (does o)))) (held_as any new) given.reply (option_map (λ b. b.items) given.message))
any_ordered any h l t reads bytes does order old new (Err e) read after says goes fresh honest holds = tt
any_ordered any h l t reads bytes does order old new (Ok given) read after says goes fresh honest holds =
    any_given any h l t (IsOfOrder reads bytes (λ o. with_state any (in_text (does o)))) (does order) old new given.reply (option_map (λ b. b.items) given.message)
    (record { order = order; read = read; is = refl }) after says goes fresh honest holds

pub any_taken : {C K : Type 0} (any : C → AnyController) (is_honest : K → Bool) (held : K → List ℕ) (text : AnyController → List ℕ) (bytes : List ℕ) (does : Message → Step C Message) (old new : KeptState C K) (r : Result TakenBytes Refused) → IfOk r (λ given. IsOfMessage bytes (λ m. (new.controller ≡ (does m).next) × (given.reply ≡ (does m).reply) × (option_map (λ b. b.items) given.answer ≡ option_map message_text (does m).sent))) → OnOk r (new.stale ≡ false) → is_honest new.keep ≡ is_honest old.keep → OnOk r (is_honest old.keep ≡ true → held new.keep ≡ text (any new.controller))
    → IfOk r (λ given. GivesStep is_honest held text (IsTaken bytes (λ m. with_state any (in_text (does m)))) (held_as any new) given.reply (option_map (λ b. b.items) given.answer))
any_taken any h l t bytes does old new (Err e) of fresh honest holds = tt
any_taken any h l t bytes does old new (Ok given) of fresh honest holds =
    any_given any h l t (IsTaken bytes (λ m. with_state any (in_text (does m)))) (does of.message) old new given.reply (option_map (λ b. b.items) given.answer)
    (record { message = of.message; decoded = of.decoded; holds = refl }) of.holds.0 of.holds.1 of.holds.2 fresh honest holds

-- ---- a step of which nothing is given out

pub any_not_ordered : {C O K A : Type 0} (any : C → AnyController) (is_honest : K → Bool) (held : K → List ℕ) (count : K → ℕ) (save_fails : K → List ℕ → K → Type 0) (text : AnyController → List ℕ) (reads : Data → Result O Refusal) (bytes : List ℕ) (does : O → Step C Message) (order : O) (old new : KeptState C K) (r : Result A Refused) → IsReadAs reads bytes (Ok order) → IfErr r (GivesNothing is_honest held count save_fails (λ e. e ≡ Memory) (λ t. t ≡ text (any (does order).next)) old new)
    → IfErr r (GivesNothing is_honest held count save_fails (IsRefusalOf reads bytes) (IsLeft text (IsOfOrder reads bytes (λ o. with_state any (in_text (does o))))) (held_as any old) (held_as any new))
any_not_ordered any h l n sf text reads bytes does order old new r read why =
    IfErr-weaker r _ _
    (nothing_of any h l n sf (λ e. e ≡ Memory) (IsRefusalOf reads bytes) (λ t. t ≡ text (any (does order).next)) (IsLeft text (IsOfOrder reads bytes (λ o. with_state any (in_text (does o))))) old new (λ e is. inr (inr is))
    (λ t is. record { step = with_state any (in_text (does order)); is_step = record { order = order; read = read; is = refl }; state = is })) why

pub any_not_taken : {C K A : Type 0} (any : C → AnyController) (is_honest : K → Bool) (held : K → List ℕ) (count : K → ℕ) (save_fails : K → List ℕ → K → Type 0) (text : AnyController → List ℕ) (R : Refusal → Type 0) (bytes : List ℕ) (does : Message → Step C Message) (old new : KeptState C K) (r : Result A Refused) → IfErr r (GivesNothing is_honest held count save_fails R (λ t. IsOfMessage bytes (λ m. t ≡ text (any (does m).next))) old new)
    → IfErr r (GivesNothing is_honest held count save_fails R (IsLeft text (IsTaken bytes (λ m. with_state any (in_text (does m))))) (held_as any old) (held_as any new))
any_not_taken any h l n sf text R bytes does old new r why =
    IfErr-weaker r _ _
    (nothing_of any h l n sf R R (λ t. IsOfMessage bytes (λ m. t ≡ text (any (does m).next))) (IsLeft text (IsTaken bytes (λ m. with_state any (in_text (does m))))) old new (λ e is. is)
    (λ t is. record { step = with_state any (in_text (does is.message)); is_step = record { message = is.message; decoded = is.decoded; holds = refl }; state = is.holds })) why
