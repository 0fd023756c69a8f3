-- A request to a controller beside its keeper: what comes of it, and what it is answered.
use Rattle.std.specs.Prelude.{◌≡◌, ◌⊎◌, ℕ, Bool, true, false, List, Option, Some, None, IfSome}
use Rattle.std.specs.Prelude.{Result, Ok, Err}
use Rattle.std.specs.Option.{option_map}
use Rattle.serde_json.specs.Data.{Data}
use Rattle.ticket_items.specs.declared.refusal.Refusal.TheVariants.{Memory}
use Rattle.controller.specs.declared.message.Message.{Message}
use Rattle.world_items.specs.declared.reply.Reply.{Reply}
use Rattle.ticket_items.specs.declared.refusal.Refusal.{Refusal}
use Rattle.jmf_message.specs.Decoded.{IsRefusalOf as IsUndecoded}
use Rattle.streams.specs.Streams.{IsUntouched, Traffic, Writes, WritesFront}
use Rattle.streams.specs.declared.refused.Refused.{Refused}
use Rattle.streams.specs.declared.refused.Refused.TheVariants.{Core, ReadFailed}
use Rattle.http_message.specs.Message.{Carries, IsRefusedAs, is_refusal}
use Rattle.http_message.specs.Reading.{HasFailedIn, IsUnfailed}
use Rattle.http_message.specs.Status.{done_status, status_of}
use Rattle.http_message.specs.Texts.{response_text}
use Rattle.http_message.specs.declared.kind.Kind.TheVariants as kinds
use Rattle.http_message.specs.declared.methods.Methods.TheVariants.{Post}
use Rattle.stored_state.specs.Held.{GivesNothing, IsReadAs, KeptState}
use Rattle.stored_state.specs.Message.{IsOfMessage}
use Rattle.stored_state.specs.Step.{IsSaved, IsTaken, TextStep}
use Rattle.stored_state.specs.declared.taken_bytes.TakenBytes.{TakenBytes}
use Rattle.http_edge.specs.declared.served.Served.{Served}

-- ---- what comes of a request

-- the input, if it is known, is a request that carries this body
abbrev pub HasBody : Option (List ℕ) → List ℕ → Type 0
HasBody known body = IfSome known (λ input. Carries (kinds.Request Post) input 0 body)

-- the message that the request carries is one step, which is saved, and is read again as it was
pub record Steps {C K : Type 0} (is_honest : K → Bool) (held : K → List ℕ)
    (state_text : C → List ℕ) (state_read : Data → Result C Refusal)
    (does : Message → TextStep C) (known : Option (List ℕ)) (old new : KeptState C K)
    (step : TextStep C) : Type 0 where
  pub body : List ℕ
  pub carried : HasBody known body
  pub taken : IsTaken body does step
  pub saved : IsSaved is_honest held state_text step new
  pub again :
      is_honest new.keep ≡ true → IsReadAs state_read (held new.keep) (Ok new.controller)
  pub fresh : old.stale ≡ false
  pub honest : is_honest new.keep ≡ is_honest old.keep

-- why there is no request: what came is refused by HTTP, or memory ran out
abbrev pub IsNoRequest : Option (List ℕ) → Refused → Type 0
IsNoRequest known e =
    ((is_refusal e ≡ true) × IfSome known (λ input. IsRefusedAs (kinds.Request Post) input e))
    ⊎ (e ≡ Core Memory)

-- why there is no step: the request isn't read, which changes nothing; or of the message that it
-- carries nothing is given out
abbrev pub StepsNot : {C K : Type 0} → (K → Bool) → (K → List ℕ) → (K → ℕ)
    → (K → List ℕ → K → Type 0) → (C → List ℕ) → (Message → TextStep C) → Option (List ℕ)
    → KeptState C K → KeptState C K → Refused → Type 0
StepsNot is_honest held count save_fails state_text does known old new e =
    (IsNoRequest known e × (new ≡ old))
    ⊎ ((body : List ℕ) × HasBody known body
    × GivesNothing is_honest held count save_fails (IsUndecoded body)
    (λ text. IsOfMessage body (λ m. text ≡ state_text (does m).next)) old new e)

-- whether this says that a read failed
abbrev pub is_unread : Refused → Bool
is_unread ReadFailed = true
is_unread _ = false

-- a read of the request failed, or more were made than may be, which changes nothing
pub record IsUnread {C K : Type 0} (start : ℕ) (input : Traffic) (old new : KeptState C K) (e : Refused)
    : Type 0 where
  pub is : e ≡ ReadFailed
  pub failed : HasFailedIn start input
  pub unstepped : new ≡ old

-- what comes of a request: a step, or why there is none
abbrev pub Exchanges : {C K : Type 0} → (K → Bool) → (K → List ℕ) → (K → ℕ)
    → (K → List ℕ → K → Type 0) → (C → List ℕ) → (Data → Result C Refusal)
    → (Message → TextStep C) → Option (List ℕ) → KeptState C K → KeptState C K
    → Result (TextStep C) Refused → Type 0
Exchanges is_honest held count save_fails state_text state_read does known old new (Ok step) =
    Steps is_honest held state_text state_read does known old new step
Exchanges is_honest held count save_fails state_text state_read does known old new (Err e) =
    StepsNot is_honest held count save_fails state_text does known old new e

-- ---- what it is answered

-- the text of the answer, if there is one, or why there is no step
abbrev pub answer_text : {C : Type 0} → Result (TextStep C) Refused → Result (Option (List ℕ)) Refused
answer_text (Ok step) = Ok step.sent
answer_text (Err e) = Err e

-- the refusal of a message by the controller, if it is one
abbrev pub refusal_in : Result Reply Refusal → Option Refused
refusal_in (Ok reply) = None
refusal_in (Err e) = Some (Core e)

-- what is told of a request: the status of its response, and the refusal that was met
abbrev pub served_result : {C : Type 0} → Result (TextStep C) Refused → Served
served_result (Ok step) = record { status = done_status; refusal = refusal_in step.reply }
served_result (Err e) = record { status = status_of e; refusal = Some e }

-- the same of a message whose texts were made
abbrev pub answer_in : Result TakenBytes Refused → Result (Option (List ℕ)) Refused
answer_in (Ok taken) = Ok (option_map (λ text. text.items) taken.answer)
answer_in (Err e) = Err e

abbrev pub served_of : Result TakenBytes Refused → Served
served_of (Ok taken) = record { status = done_status; refusal = refusal_in taken.reply }
served_of (Err e) = record { status = status_of e; refusal = Some e }

-- ---- how it is served

-- no read failed; the response to what came of the request is written, and this is told of it
pub record Serves {C K : Type 0} (is_honest : K → Bool) (held : K → List ℕ) (count : K → ℕ)
    (save_fails : K → List ℕ → K → Type 0) (state_text : C → List ℕ)
    (state_read : Data → Result C Refusal) (does : Message → TextStep C) (input : Traffic)
    (old new : KeptState C K) (output : Traffic) (told : Served) : Type 0 where
  pub came : Result (TextStep C) Refused
  pub exchange :
      Exchanges is_honest held count save_fails state_text state_read does input.before.bytes old
      new came
  pub unfailed : IsUnfailed input
  pub written : Writes output (response_text (answer_text came))
  pub told_of : told ≡ served_result came

-- a write of the response failed: what came of the request is as if it had not
pub record ServesFront {C K : Type 0} (is_honest : K → Bool) (held : K → List ℕ) (count : K → ℕ)
    (save_fails : K → List ℕ → K → Type 0) (state_text : C → List ℕ)
    (state_read : Data → Result C Refusal) (does : Message → TextStep C) (input : Traffic)
    (old new : KeptState C K) (output : Traffic) : Type 0 where
  pub came : Result (TextStep C) Refused
  pub exchange :
      Exchanges is_honest held count save_fails state_text state_read does input.before.bytes old
      new came
  pub unfailed : IsUnfailed input
  pub front : WritesFront output (response_text (answer_text came))

-- a read failed, or more were made than may be: nothing is stepped or written
pub record ServesNone {C K : Type 0} (start : ℕ) (input output : Traffic) (old new : KeptState C K)
    : Type 0 where
  pub failed : HasFailedIn start input
  pub unstepped : new ≡ old
  pub unwritten : IsUntouched output
