-- What a command on a controller that a keeper holds writes for its input, and why it gives up.
use Rattle.std.specs.Prelude.{◌≡◌, ◌⊎◌, ℕ, Bool, false, true, List, [], Option, IfSome, Result}
use Rattle.std.specs.Prelude.{if◌then◌else◌, Ok}
use Rattle.ticket_items.specs.declared.refusal.Refusal.{Refusal}
use Rattle.streams.specs.declared.refused.Refused.TheVariants.{SaveFailed}
use Rattle.streams.specs.declared.fault.Fault.{Fault}
use Rattle.streams.specs.declared.fault.Fault.TheVariants.{Device}
use Rattle.streams.specs.Ends.{IsUnread}
use Rattle.streams.specs.Streams.{IsInput, IsUntouched, Traffic}
use Rattle.stored_state.specs.Held.{IsReadAs, KeptState}
use Rattle.stored_state.specs.declared.addressee.Addressee.{Addressee}
use Rattle.stored_state.specs.declared.any_controller.AnyController.{AnyController}
use Rattle.stored_state.specs.declared.any_controller.AnyController.TheVariants.{Master as of_master}
use Rattle.stored_state.specs.declared.any_controller.AnyController.TheVariants.{Worker as of_worker}
use Rattle.stored_state.specs.AnyStep.{text_of}
use Rattle.stored_state.specs.Opened.{any_state_read}
use Rattle.controller_form.specs.ShownMaster.{master_text}
use Rattle.file_commands.specs.Beginning.{IsBegunAs, IsNotBegun}
use Rattle.file_commands.specs.Opening.{IsLoaded, IsNotLoaded}
use Rattle.file_commands.specs.Pictured.{picture_text}
use Rattle.file_commands.specs.Shown.{worker_text}
use Rattle.file_commands.specs.Notes.{notes_of}
use Rattle.file_commands.specs.Step.{GivesNoOutput, is_refused, step_lines}
use Rattle.world_items.specs.declared.reply.Reply.{Reply}
use Rattle.stored_state.specs.Step.{GivesStep, TextStep}

-- which step the bytes are for a controller
abbrev pub Steps : Type 1
Steps = List ℕ → AnyController → TextStep AnyController → Type 0

-- ---- a new controller

-- `new` where there is no controller yet: what the input begins is held, and nothing is written
pub record Begins {K : Type 0} (is_honest : K → Bool) (held place : K → List ℕ) (is_there : Bool)
    (keep : K) (to : Addressee) (input : Traffic) (after : KeptState AnyController K) (text : List ℕ)
    (refused : Bool) : Type 0 where
  pub absent : is_there ≡ false
  pub bytes : List ℕ
  pub is_input : IsInput input bytes
  pub begun : IsBegunAs is_honest held place keep to bytes after
  pub written : text ≡ []
  pub accepted : refused ≡ false

-- why `new` gives up: there is a controller already, and the input isn't read; or the input isn't,
-- or it begins none
abbrev pub BeginsNone : {K : Type 0} → (K → List ℕ → K → Type 0) → Bool → K → Addressee → Traffic
    → Fault → Type 0
BeginsNone save_fails true keep to input fault = IsUntouched input × (fault ≡ Device SaveFailed)
BeginsNone save_fails false keep to input fault =
    IsUnread input fault
    ⊎ ((bytes : List ℕ) × IsInput input bytes × IsNotBegun save_fails keep to bytes fault)

-- ---- a step of the controller that is held

-- the step that the bytes are, of the controller that was held, is saved, and this is given out:
-- what is replied, and the text that goes out; all in the same place. What is held then is read
-- again as the controller
pub record GivesHeld {K : Type 0} (is_honest : K → Bool) (held place : K → List ℕ) (IsStep : Steps)
    (bytes : List ℕ) (keep : K) (after : KeptState AnyController K) (reply : Result Reply Refusal)
    (sent : Option (List ℕ)) : Type 0 where
  pub before : KeptState AnyController K
  pub loaded : IsLoaded is_honest held place keep before
  pub gives : GivesStep is_honest held text_of (IsStep bytes before.controller) after reply sent
  pub honest : is_honest after.keep ≡ is_honest keep
  pub placed : place after.keep ≡ place keep
  pub again :
      is_honest keep ≡ true
      → IsReadAs any_state_read (held after.keep) (Ok after.controller)

-- the same of the input
abbrev pub GivesStepOf : {K : Type 0} → (K → Bool) → (K → List ℕ) → (K → List ℕ) → Steps → K → Traffic
    → KeptState AnyController K → Result Reply Refusal → Option (List ℕ) → Type 0
GivesStepOf is_honest held place IsStep keep input after reply sent =
    (bytes : List ℕ) × IsInput input bytes
    × GivesHeld is_honest held place IsStep bytes keep after reply sent

-- a step is given out so, which leaves this state, and what the step and that have noted is noted
pub record GivesNoting {K : Type 0} (Gives : KeptState AnyController K → Type 0)
    (notes_behind : AnyController → List ℕ) (notes : List ℕ) : Type 0 where
  pub after : KeptState AnyController K
  pub given : Gives after
  pub noted : notes ≡ notes_behind after.controller

-- why nothing is given out of the step that the bytes are, of the controller that a keeper holds:
-- none is loaded; or one is, and nothing is given out of that
abbrev pub DoesNoStep : {K : Type 0} → (K → Bool) → (K → List ℕ) → (K → List ℕ) → (K → ℕ)
    → (K → K → Type 0) → (K → List ℕ → K → Type 0)
    → (List ℕ → AnyController → Refusal → Type 0) → Steps → List ℕ → K → Fault → Type 0
DoesNoStep {K = K} is_honest held place count load_fails save_fails Refuses IsStep bytes keep fault =
    IsNotLoaded is_honest held load_fails keep fault
    ⊎ ((before : KeptState AnyController K) × IsLoaded is_honest held place keep before
    × (after : KeptState AnyController K)
    × GivesNoOutput is_honest held count save_fails text_of (Refuses bytes before.controller)
    (IsStep bytes before.controller) before after fault)

-- `order` and `take`: such a step is given out, its lines are written, this tells whether it was
-- refused, and what its reply and the state then have noted is noted
pub record DoesStep {K : Type 0} (is_honest : K → Bool) (held place : K → List ℕ) (IsStep : Steps)
    (notes_behind : Result Reply Refusal → AnyController → List ℕ) (keep : K) (input : Traffic)
    (text : List ℕ) (refused : Bool) (notes : List ℕ) : Type 0 where
  pub reply : Result Reply Refusal
  pub sent : Option (List ℕ)
  pub after : KeptState AnyController K
  pub given : GivesStepOf is_honest held place IsStep keep input after reply sent
  pub written : text ≡ step_lines reply sent
  pub told : refused ≡ is_refused reply
  pub noted : notes ≡ notes_behind reply after.controller

-- ---- a look at the controller that is held

-- what a controller shows
abbrev pub shown_text : AnyController → List ℕ
shown_text (of_master m) = master_text m
shown_text (of_worker w) = worker_text w

-- the moment of a call is the one that is named; any where none is
abbrev pub IsMoment : Option ℕ → ℕ → Type 0
IsMoment at now = IfSome at (λ n. now ≡ n)

-- what a controller shows, or its picture at a moment
abbrev pub output_text : Bool → ℕ → AnyController → List ℕ
output_text picture now c = if picture then picture_text now c else shown_text c

-- `show`: what the controller that was held shows, or its picture, and what it has noted
pub record Shows {K : Type 0} (picture : Bool) (now : ℕ) (is_honest : K → Bool)
    (held place : K → List ℕ) (keep : K) (text : List ℕ) (refused : Bool) (notes : List ℕ) : Type 0 where
  pub opened : KeptState AnyController K
  pub loaded : IsLoaded is_honest held place keep opened
  pub shown : text ≡ output_text picture now opened.controller
  pub accepted : refused ≡ false
  pub noted : notes ≡ notes_of opened.controller
