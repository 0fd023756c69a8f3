-- What comes to a controller, one thing after the other, with one save behind the last.
use Rattle.std.specs.Prelude.{◌≡◌, ℕ, Bool, true, false, List, [], ◌∷◌, map, Option, Some, None}
use Rattle.std.specs.Prelude.{◌⊎◌, ⊤, IfNone, IfOk, IfSome, Result, Ok, Err, is_err}
use Rattle.std.specs.List.{list_all}
use Rattle.std.specs.Option.{option_map}
use Rattle.std.specs.Result.{result_map_both}
use Rattle.serde_json.specs.Data.{Data}
use Rattle.keepers.specs.Keeper.{CountRose}
use Rattle.ticket_items.specs.declared.refusal.Refusal.{Refusal}
use Rattle.ticket_items.specs.declared.refusal.Refusal.TheVariants.{Memory}
use Rattle.controller.specs.Step.{Step}
use Rattle.controller.specs.declared.message.Message as messages
use Rattle.world_items.specs.declared.reply.Reply.{Reply}
use Rattle.stored_state.specs.Addressee.{is_addressed}
use Rattle.stored_state.specs.AnyStep.{IsNoOrder, IsOrdered, take_step_of, text_of}
use Rattle.stored_state.specs.Held.{FailsToSave, HoldsSame, IsNotLoaded, IsReadAs, IsRefusalOf}
use Rattle.stored_state.specs.Opened.{AnyController, any_state_read}
use Rattle.stored_state.specs.Step.{TextStep, in_text}
use Rattle.stored_state.specs.declared.addressee.Addressee.{Addressee}
use Rattle.stored_state.specs.declared.coming.Coming.{Coming}
use Rattle.stored_state.specs.declared.coming.Coming.TheVariants as comings
use Rattle.stored_state.specs.declared.taken_bytes.TakenBytes.{TakenBytes}
use Rattle.streams.specs.declared.refused.Refused.{Refused}
use Rattle.streams.specs.declared.refused.Refused.TheVariants.{Core, LoadFailed, OtherName}
use Rattle.streams.specs.declared.refused.Refused.TheVariants.{SaveFailed}

-- ---- one after the other

-- what comes to a controller at a time causes this step of it
abbrev pub IsCausedBy : ℕ → Coming → AnyController → TextStep AnyController → Type 0
IsCausedBy at (comings.Message m) c step = step ≡ take_step_of at m c
IsCausedBy at (comings.Order text) c step = IsOrdered at text.items c step
IsCausedBy at (comings.Neither why) c step = ⊥

-- why it causes none: memory ran out, or what it is refused for
abbrev pub CausesNone : Coming → AnyController → Refusal → Type 0
CausesNone (comings.Message m) c e = e ≡ Memory
CausesNone (comings.Order text) c e = IsNoOrder text.items c e
CausesNone (comings.Neither why) c e = e ≡ why

-- something comes to a controller: it makes the step; or it makes none and stays as it was
abbrev pub TakesOne : ℕ → Coming → AnyController → Result (TextStep AnyController) Refusal
    → AnyController → Type 0
TakesOne at x c (Ok step) next = IsCausedBy at x c step × (next ≡ step.next)
TakesOne at x c (Err e) next = CausesNone x c e × (next ≡ c)

-- this comes to a controller, one after the other, each to the controller that the one before left
abbrev pub TakesEach : ℕ → List Coming → AnyController
    → List (Result (TextStep AnyController) Refusal) → AnyController → Type 0
TakesEach at [] c [] last = last ≡ c
TakesEach at (x ∷ more) c (step ∷ steps) last =
    (next : AnyController) × TakesOne at x c step next × TakesEach at more next steps last
TakesEach at more c steps last = ⊥

-- ---- what is given out

-- what is replied, and the text that goes out
pub record ReplyAndText : Type 0 where
  pub reply : Result Reply Refusal
  pub sent : Option (List ℕ)

-- that of a step
abbrev pub step_given : {C : Type 0} → TextStep C → ReplyAndText
step_given s = record { reply = s.reply; sent = s.sent }

-- or why there is none
abbrev pub given_by_step : {C : Type 0} → Result (TextStep C) Refusal → Result ReplyAndText Refusal
given_by_step step = result_map_both step_given (λ e. e) step

-- the same as it is told
abbrev pub given_by_bytes : TakenBytes → ReplyAndText
given_by_bytes t = record { reply = t.reply; sent = option_map (λ b. b.items) t.answer }

abbrev pub given_by_result : Result TakenBytes Refusal → Result ReplyAndText Refusal
given_by_result taken = result_map_both given_by_bytes (λ e. e) taken

-- a step was made and this is given out of it; or memory ran out, and nothing was changed
abbrev pub Makes : {C : Type 0} → Step C messages.Message → Option (List ℕ) → C
    → Result TakenBytes Refusal → C → Type 0
Makes step sender c (Ok taken) next =
    (given_by_bytes taken ≡ step_given (in_text step)) × (next ≡ step.next) × (taken.sender ≡ sender)
Makes step sender c (Err e) next = (e ≡ Memory) × (next ≡ c)

-- the step of a controller by the order that the bytes are was made, or why there is none
abbrev pub OrdersOne : {C O : Type 0} → (Data → Result O Refusal)
    → (O → ℕ → C → Step C messages.Message) → List ℕ → ℕ → C → Result TakenBytes Refusal → C
    → Type 0
OrdersOne {O = O} reads does bytes at c taken next =
    ((o : O) × IsReadAs reads bytes (Ok o) × Makes (does o at c) None c taken next)
    ⊎ ((e : Refusal) × IsRefusalOf reads bytes e × (taken ≡ Err e) × (next ≡ c))

-- who sent what comes; an order has no sender
abbrev pub sender_in : Coming → Option (List ℕ)
sender_in (comings.Message m) = Some m.sender
sender_in (comings.Order text) = None
sender_in (comings.Neither why) = None

-- what was given out stands beside who sent what it was given for
abbrev pub IsFrom : Coming → Result TakenBytes Refusal → Type 0
IsFrom x taken = IfOk taken (λ t. t.sender ≡ sender_in x)

abbrev pub AreFrom : List Coming → List (Result TakenBytes Refusal) → Type 0
AreFrom [] [] = ⊤
AreFrom (x ∷ all) (taken ∷ given) = IsFrom x taken × AreFrom all given
AreFrom all given = ⊥

-- something came to a controller, and this was given out of it
pub record GivesOne (at : ℕ) (x : Coming) (c : AnyController) (taken : Result TakenBytes Refusal)
    (next : AnyController) : Type 0 where
  pub step : Result (TextStep AnyController) Refusal
  pub takes : TakesOne at x c step next
  pub gives : given_by_result taken ≡ given_by_step step
  pub sender : IsFrom x taken

-- all this came to a controller, and this was given out of it in turn
pub record Gives (at : ℕ) (all : List Coming) (c : AnyController)
    (given : List (Result TakenBytes Refusal)) (last : AnyController) : Type 0 where
  pub steps : List (Result (TextStep AnyController) Refusal)
  pub each : TakesEach at all c steps last
  pub gives : map given_by_result given ≡ map given_by_step steps
  pub senders : AreFrom all given

-- ---- saved behind the last

-- the controller that a keeper held, if that is honest
abbrev pub WasHeld : Bool → List ℕ → AnyController → Type 0
WasHeld honest held c = honest ≡ true → IsReadAs any_state_read held (Ok c)

-- what is held behind the last: the text of the state, as this was saved; or, where no step was
-- made at all, what was held before
abbrev pub IsKept : {K : Type 0} → (K → Bool) → (K → List ℕ) → List (Result TakenBytes Refusal)
    → (before last : AnyController) → K → K → Option AnyController → Type 0
IsKept is_honest held given before last old new (Some saved) =
    (saved ≡ last) × (is_honest old ≡ true → held new ≡ text_of last)
IsKept is_honest held given before last old new None =
    (list_all is_err given ≡ true) × (last ≡ before) × HoldsSame is_honest held old new

-- all this came at a time to the controller that a keeper held, which is one that is addressed; this
-- was given out of it, and the state behind the last is held
pub record TakesAll {K : Type 0} (is_honest : K → Bool) (held : K → List ℕ) (to : Addressee)
    (at : ℕ) (all : List Coming) (given : List (Result TakenBytes Refusal))
    (saved : Option AnyController) (old new : K) : Type 0 where
  pub before : AnyController
  pub was : WasHeld (is_honest old) (held old) before
  pub addressed : is_addressed to before ≡ true
  pub last : AnyController
  pub taken : Gives at all before given last
  pub kept : IsKept is_honest held given before last old new saved

-- all this came at a time to the controller whose state bytes are the text of, which is one that is
-- addressed: this was given out of it, and the state behind the last is to be held, unless no step
-- was made at all
pub record TakesFrom (to : Addressee) (at : ℕ) (bytes : List ℕ) (all : List Coming)
    (given : List (Result TakenBytes Refusal)) (next : Option AnyController) : Type 0 where
  pub before : AnyController
  pub read : IsReadAs any_state_read bytes (Ok before)
  pub addressed : is_addressed to before ≡ true
  pub last : AnyController
  pub taken : Gives at all before given last
  pub some : IfSome next (λ c. c ≡ last)
  pub none : IfNone next ((list_all is_err given ≡ true) × (last ≡ before))

-- the bytes are the text of the state of a controller that isn't addressed
abbrev pub IsOfOther : Addressee → List ℕ → Type 0
IsOfOther to bytes =
    (c : AnyController) × IsReadAs any_state_read bytes (Ok c) × (is_addressed to c ≡ false)

-- why nothing came to the controller whose state bytes are the text of
abbrev pub IsNotTakenFrom : Addressee → List ℕ → Refused → Type 0
IsNotTakenFrom to bytes (Core e) = IsRefusalOf any_state_read bytes e
IsNotTakenFrom to bytes OtherName = IsOfOther to bytes
IsNotTakenFrom to bytes other = ⊥

-- a save failed, of a keeper that a load had left
abbrev pub FailsLoaded : {K : Type 0} → (K → Bool) → (K → List ℕ) → (K → List ℕ → K → Type 0) → K
    → List ℕ → K → Type 0
FailsLoaded {K = K} is_honest place save_fails old text new =
    (loaded : K) × (is_honest loaded ≡ is_honest old) × (place loaded ≡ place old)
    × save_fails loaded text new

-- all this came so, and the save of the state behind the last failed
pub record SavesNone {K : Type 0} (is_honest : K → Bool) (held place : K → List ℕ) (count : K → ℕ)
    (save_fails : K → List ℕ → K → Type 0) (to : Addressee) (at : ℕ) (all : List Coming)
    (old new : K) : Type 0 where
  pub before : AnyController
  pub was : WasHeld (is_honest old) (held old) before
  pub addressed : is_addressed to before ≡ true
  pub steps : List (Result (TextStep AnyController) Refusal)
  pub last : AnyController
  pub each : TakesEach at all before steps last
  pub fails :
      FailsToSave is_honest held count (FailsLoaded is_honest place save_fails) (text_of last) old
      new

-- why nothing is given out, and what that leaves: the state isn't loaded or memory ran out, or it is
-- that of another controller, and an honest keeper holds what it held; or the save failed
abbrev pub TakesNone : {K : Type 0} → (K → Bool) → (K → List ℕ) → (K → List ℕ) → (K → ℕ)
    → (K → K → Type 0) → (K → List ℕ → K → Type 0) → Addressee → ℕ → List Coming → K → K → Refused
    → Type 0
TakesNone is_honest held place count load_fails save_fails to at all old new (Core e) =
    IsNotLoaded any_state_read (is_honest old) (held old) (Core e)
    × HoldsSame is_honest held old new
TakesNone is_honest held place count load_fails save_fails to at all old new LoadFailed =
    HoldsSame is_honest held old new × load_fails old new × CountRose (count old) (count new)
TakesNone is_honest held place count load_fails save_fails to at all old new OtherName =
    (is_honest old ≡ true → IsOfOther to (held old)) × HoldsSame is_honest held old new
TakesNone is_honest held place count load_fails save_fails to at all old new SaveFailed =
    SavesNone is_honest held place count save_fails to at all old new
TakesNone is_honest held place count load_fails save_fails to at all old new other = ⊥
