-- What comes of a request.
use Rattle.std.proofs.Common.{◌≡◌, ◌≢◌, ◌∙◌, ◌⊎◌, ℕ, Bool, true, false, List, Option, Some, Result, Ok, Err, is_ok, IfOk, OnErr, OnOk, sym, ap, subst, inl, inr}
use Rattle.std.proofs.lemmas.Bool.{false_from_ne_true, true≢false}
use Rattle.serde_json.specs.Data.{Data}
use Rattle.controller.specs.declared.message.Message.{Message}
use Rattle.ticket_items.specs.declared.refusal.Refusal.{Refusal}
use Rattle.streams.specs.Streams.{Traffic}
use Rattle.streams.specs.declared.refused.Refused.{Refused}
use Rattle.streams.specs.declared.refused.Refused.TheVariants.{ReadFailed, Stale}
use Rattle.stored_state.specs.Held.{GivesNothing, KeptState}
use Rattle.stored_state.specs.Step.{IsSaved, TextStep}
use Rattle.world_items.specs.declared.reply.Reply.{Reply}
use Rattle.streams.specs.Streams.{Writes, WritesFront}
use Rattle.http_message.specs.Status.{done_status, status_of}
use Rattle.http_message.specs.Texts.{response_text}
use Rattle.http_message.specs.Reading.{IsUnfailed}
use Rattle.http_edge.specs.Exchange.{IsUnread, Serves, ServesFront, Steps, StepsNot, is_unread, refusal_in}
use Rattle.http_edge.specs.declared.edge_fault.EdgeFault.{EdgeFault}
use Rattle.http_edge.specs.declared.edge_fault.EdgeFault.TheVariants.{WriteFailed}
use Rattle.http_edge.specs.declared.served.Served.{Served}

-- a step is saved where the keeper holds the state that it leaves
pub saved : {C K : Type 0} (is_honest : K → Bool) (held : K → List ℕ) (state_text : C → List ℕ) (step : TextStep C) (old new : KeptState C K) → new.controller ≡ step.next → new.stale ≡ false → is_honest new.keep ≡ is_honest old.keep → (is_honest old.keep ≡ true → held new.keep ≡ state_text new.controller) → IsSaved is_honest held state_text step new
saved is_honest held state_text step old new after fresh honest holds =
    record { after = after; fresh = fresh; holds = λ h. holds (sym honest ∙ h) ∙ ap state_text after }

-- what is stale is refused as such
pub fresh_of : {A : Type 0} (x : A) (stale : Bool) → (stale ≡ true → Ok x ≡ Err Stale) → stale ≡ false
fresh_of x stale refuses = false_from_ne_true stale (λ is. let wrong : true ≡ false = ap is_ok (refuses is) in cc)

-- the controller never answers that a read failed
pub never_unread : {C K : Type 0} (is_honest : K → Bool) (held : K → List ℕ) (count : K → ℕ) (save_fails : K → List ℕ → K → Type 0) (R : Refusal → Type 0) (T : List ℕ → Type 0) (old new : KeptState C K) (e : Refused)
    → GivesNothing is_honest held count save_fails R T old new e → e ≢ ReadFailed
never_unread h l n sf R T old new e gives same = subst (λ x. GivesNothing h l n sf R T old new x) same gives

-- ---- how it is served

module _ {C K : Type 0} (is_honest : K → Bool) (held : K → List ℕ) (count : K → ℕ) (save_fails : K → List ℕ → K → Type 0) (state_text : C → List ℕ) (state_read : Data → Result C Refusal) (does : Message → TextStep C) (input : Traffic) (old new : KeptState C K) (output : Traffic) where
  -- the step was answered
  pub serves_step : (reply : Result Reply Refusal) (answer : Option (List ℕ)) (r : Result Served EdgeFault)
      → (step : TextStep C) × Steps is_honest held state_text state_read does input.before.bytes old new step × (reply ≡ step.reply) × (answer ≡ step.sent) → IsUnfailed input
      → IfOk r (λ told. told ≡ record { status = done_status; refusal = refusal_in reply })
      → OnOk r (Writes output (response_text (Ok answer)))
      → IfOk r (Serves is_honest held count save_fails state_text state_read does input old new output)
  serves_step reply answer (Ok told) came unfailed is wrote =
      record {
        came = Ok came.0;
        exchange = came.1;
        unfailed = unfailed;
        written = subst (λ m. Writes output (response_text (Ok m))) came.3 wrote;
        told_of = is ∙ ap (λ x. record { status = done_status; refusal = refusal_in x }) came.2;
      }
  serves_step reply answer (Err f) came unfailed is wrote = tt

  pub serves_front_of_step : (reply : Result Reply Refusal) (answer : Option (List ℕ)) (r : Result Served EdgeFault)
      → (step : TextStep C) × Steps is_honest held state_text state_read does input.before.bytes old new step × (reply ≡ step.reply) × (answer ≡ step.sent) → IsUnfailed input
      → OnErr r (WritesFront output (response_text (Ok answer))) → r ≡ Err WriteFailed
      → ServesFront is_honest held count save_fails state_text state_read does input old new output
  serves_front_of_step reply answer (Ok told) came unfailed front is = let wrong : true ≡ false = ap is_ok is in absurd (true≢false wrong)
  serves_front_of_step reply answer (Err f) came unfailed front is =
      record {
        came = Ok came.0;
        exchange = came.1;
        unfailed = unfailed;
        front = subst (λ m. WritesFront output (response_text (Ok m))) came.3 front;
      }

  -- the refusal was answered
  pub serves_refusal : (start : ℕ) (e : Refused) (r : Result Served EdgeFault)
      → IsUnread start input old new e ⊎ ((e ≢ ReadFailed) × IsUnfailed input × StepsNot is_honest held count save_fails state_text does input.before.bytes old new e)
      → is_unread e ≡ false → IfOk r (λ told. told ≡ record { status = status_of e; refusal = Some e })
      → OnOk r (Writes output (response_text (Err e)))
      → IfOk r (Serves is_honest held count save_fails state_text state_read does input old new output)
  serves_refusal start e (Ok told) (inl unread) isnt is wrote = absurd (true≢false (sym (ap is_unread unread.is) ∙ isnt))
  serves_refusal start e (Ok told) (inr none) isnt is wrote =
      record { came = Err e; exchange = none.2; unfailed = none.1; written = wrote; told_of = is }
  serves_refusal start e (Err f) why isnt is wrote = tt

  pub serves_front_of_refusal : (start : ℕ) (e : Refused) (r : Result Served EdgeFault)
      → IsUnread start input old new e ⊎ ((e ≢ ReadFailed) × IsUnfailed input × StepsNot is_honest held count save_fails state_text does input.before.bytes old new e)
      → is_unread e ≡ false → OnErr r (WritesFront output (response_text (Err e))) → r ≡ Err WriteFailed
      → ServesFront is_honest held count save_fails state_text state_read does input old new output
  serves_front_of_refusal start e (Ok told) why isnt front is = absurd (true≢false (ap is_ok is))
  serves_front_of_refusal start e (Err f) (inl unread) isnt front is = absurd (true≢false (sym (ap is_unread unread.is) ∙ isnt))
  serves_front_of_refusal start e (Err f) (inr none) isnt front is =
      record { came = Err e; exchange = none.2; unfailed = none.1; front = front }
