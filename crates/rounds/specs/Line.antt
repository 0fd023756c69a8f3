-- Clients who wait for one controller, and their responses.
use Rattle.std.specs.Prelude.{◌≡◌, ◌⊎◌, ⊤, ℕ, ◌≤◌, List, [], ◌∷◌, map, Option, Some}
use Rattle.std.specs.Prelude.{None, IfSome, Bool, Result, Ok, Err, vec_capacity}
use Rattle.ticket_items.specs.declared.refusal.Refusal.{Refusal}
use Rattle.world_items.specs.declared.reply.Reply.{Reply}
use Rattle.streams.specs.declared.refused.Refused.{Refused}
use Rattle.streams.specs.declared.refused.Refused.TheVariants.{Core}
use Rattle.http_message.specs.Status.{status_of}
use Rattle.http_message.specs.Texts.{served_text}
use Rattle.http_edge.specs.Exchange.{answer_in, served_of}
use Rattle.peers.specs.Client.{Connection}
use Rattle.peers.specs.Peer.{with_response_out}
use Rattle.stored_state.specs.TakingAll.{TakesAll, TakesNone}
use Rattle.stored_state.specs.declared.any_controller.AnyController.{AnyController}
use Rattle.stored_state.specs.declared.addressee.Addressee.{Addressee}
use Rattle.stored_state.specs.declared.coming.Coming.{Coming}
use Rattle.stored_state.specs.declared.taken_bytes.TakenBytes.{TakenBytes}
use Rattle.rounds.specs.declared.answered.AnsweredClient.{AnsweredClient}
use Rattle.rounds.specs.declared.errand.Errand.{Errand}
use Rattle.rounds.specs.declared.room.Room.{Room}
use Rattle.rounds.specs.declared.receipt.Receipt.{Receipt}
use Rattle.rounds.specs.declared.waiting.WaitingClient.{WaitingClient}

-- what came of a message that was handed on
abbrev pub taken_bytes_of : Result TakenBytes Refusal → Result TakenBytes Refused
taken_bytes_of (Ok taken) = Ok taken
taken_bytes_of (Err e) = Err (Core e)

-- what a message from this sender was taken as, if it was
abbrev pub reply_from : Option (List ℕ) → Result Reply Refusal → Option Receipt
reply_from (Some sender) (Ok reply) = Some (record { reply = reply; sender = sender })
reply_from _ _ = None

-- what a message was taken as and from whom, if it was
abbrev pub sender_of : Result TakenBytes Refused → Option Receipt
sender_of (Ok taken) = reply_from taken.sender taken.reply
sender_of (Err e) = None

-- who waits for what comes of an errand, and what it is
abbrev pub waiting_in : {S : Type 0} → Errand S → WaitingClient S
waiting_in e = e.waiting

abbrev pub coming_in : {S : Type 0} → Errand S → Coming
coming_in e = e.coming

-- those who wait, and what they have come for
abbrev pub waiting_of : {S : Type 0} → List (Errand S) → List (WaitingClient S)
waiting_of errands = map waiting_in errands

abbrev pub comings_of : {S : Type 0} → List (Errand S) → List Coming
comings_of errands = map coming_in errands

-- there is room for what comes of so many clients
pub record HasRoom {S A : Type 0} (clients : ℕ) (room : Room S A) : Type 0 where
  pub no_answered : room.answered.items ≡ []
  pub no_waiting : room.waiting.items ≡ []
  pub no_comings : room.comings.items ≡ []
  pub answered_room : clients ≤ vec_capacity room.answered
  pub waiting_room : clients ≤ vec_capacity room.waiting
  pub comings_room : clients ≤ vec_capacity room.comings

-- a client with this response, behind what was to be written
abbrev pub with_response : {S : Type 0} → List ℕ → ℕ → Connection S → Connection S
with_response response now c = record { peer = with_response_out response now c.peer; stream = c.stream }

-- who waited has the response to what came of the request, unless memory ran out for that; and what
-- is told is the same
pub record IsAnswered {S : Type 0} (now : ℕ) (came : Result TakenBytes Refused) (key : ℕ)
    (asked : Connection S) (a : AnsweredClient S) : Type 0 where
  pub same : a.key ≡ key
  pub response : IfSome a.client (λ c. c ≡ with_response (served_text (answer_in came)) now asked)
  pub told : a.told ≡ served_of came
  pub taken : a.taken ≡ sender_of came

-- each of those who waited is told, in turn, what came of the request, in this form
abbrev pub AreTold : {S A : Type 0} → (Result TakenBytes Refused → WaitingClient S → A → Type 0)
    → List (Result TakenBytes Refused) → List (WaitingClient S) → List A → Type 0
AreTold IsTold [] [] [] = ⊤
AreTold IsTold (came ∷ rest) (w ∷ waiting) (a ∷ told) =
    IsTold came w a × AreTold IsTold rest waiting told
AreTold IsTold _ _ _ = ⊥

-- each of them is refused for this
abbrev pub AreToldOf : {S A : Type 0} → (Result TakenBytes Refused → WaitingClient S → A → Type 0)
    → Refused → List (WaitingClient S) → List A → Type 0
AreToldOf IsTold e waiting told = AreTold IsTold (map (λ w. Err e) waiting) waiting told

-- each of them is refused, with a status of 503
abbrev pub AreToldNone : {S A : Type 0} → (Result TakenBytes Refused → WaitingClient S → A → Type 0)
    → List (WaitingClient S) → List A → Type 0
AreToldNone IsTold waiting told =
    (e : Refused) × (status_of e ≡ 503) × AreToldOf IsTold e waiting told

-- the controller that a keeper held takes what clients have come for, one after the other; each of
-- them is told what came of it, and the state behind the last is held
pub record TellsAll {S A K : Type 0} (IsTold : Result TakenBytes Refused → WaitingClient S → A → Type 0)
    (is_honest : K → Bool) (held : K → List ℕ) (to : Addressee) (at : ℕ) (old new : K)
    (errands : List (Errand S)) (told : List A) (saved : Option AnyController) : Type 0 where
  pub given : List (Result TakenBytes Refusal)
  pub taken : TakesAll is_honest held to at (comings_of errands) given saved old new
  pub answers : AreTold IsTold (map taken_bytes_of given) (waiting_of errands) told

-- each of them is refused, with a status of 503, since this kept the controller from its steps, or
-- these from being saved
pub record TellsNone {S A K : Type 0} (IsTold : Result TakenBytes Refused → WaitingClient S → A → Type 0)
    (is_honest : K → Bool) (held place : K → List ℕ) (count : K → ℕ) (load_fails : K → K → Type 0)
    (save_fails : K → List ℕ → K → Type 0) (to : Addressee) (at : ℕ) (old new : K)
    (errands : List (Errand S)) (told : List A) (saved : Option AnyController) : Type 0 where
  pub why : Refused
  pub none :
      TakesNone is_honest held place count load_fails save_fails to at (comings_of errands) old new
      why
  pub answers : AreToldNone IsTold (waiting_of errands) told
  pub unsaved : saved ≡ None

-- what those who wait for the controller that a keeper holds are told, in this form
abbrev pub TellsLine : {S A K : Type 0} → (Result TakenBytes Refused → WaitingClient S → A → Type 0)
    → (K → Bool) → (held place : K → List ℕ) → (K → ℕ) → (K → K → Type 0)
    → (K → List ℕ → K → Type 0) → Addressee → (at : ℕ) → (old new : K) → List (Errand S) → List A
    → Option AnyController → Type 0
TellsLine IsTold is_honest held place count load_fails save_fails to at old new errands told saved =
    TellsAll IsTold is_honest held to at old new errands told saved
    ⊎ TellsNone IsTold is_honest held place count load_fails save_fails to at old new errands told
    saved

-- ---- those who have sent a message

-- who waited has the response to what came of the request
abbrev pub HasAnswer : {S : Type 0} → ℕ → Result TakenBytes Refused → WaitingClient S → AnsweredClient S
    → Type 0
HasAnswer now came w a = IsAnswered now came w.key w.asked a

-- each of them is refused for this
abbrev pub AreRefused : {S : Type 0} → ℕ → Refused → List (WaitingClient S) → List (AnsweredClient S) → Type 0
AreRefused now e waiting answered = AreToldOf (HasAnswer now) e waiting answered

-- each of them is refused, with a status of 503
abbrev pub AreUnavailable : {S : Type 0} → ℕ → List (WaitingClient S) → List (AnsweredClient S) → Type 0
AreUnavailable now waiting answered = AreToldNone (HasAnswer now) waiting answered

-- what comes of those who wait for the controller that a keeper holds
abbrev pub StepsLine : {S K : Type 0} → (K → Bool) → (held place : K → List ℕ) → (K → ℕ)
    → (K → K → Type 0) → (K → List ℕ → K → Type 0) → Addressee → (at now : ℕ) → (old new : K)
    → List (Errand S) → List (AnsweredClient S) → Option AnyController → Type 0
StepsLine is_honest held place count load_fails save_fails to at now old new errands answered saved =
    TellsLine (HasAnswer now) is_honest held place count load_fails save_fails to at old new errands
    answered saved
