-- How a call on the controller that a cell keeps ends. Of an honest cell it is told what that held
-- before and holds then; of one behind a socket nothing is known of that, and what was read is some
-- text.
use Rattle.std.specs.Prelude.{◌≡◌, ◌⊎◌, ℕ, Bool, true, false, List, [], ◌∷◌, Option, Result}
use Rattle.ticket_items.specs.declared.refusal.Refusal.{Refusal}
use Rattle.jdf_words.specs.declared.kept_call.KeptCall.{KeptCall}
use Rattle.jdf_words.specs.declared.kept_call.KeptCall.TheVariants.{List as Listing, New, Order}
use Rattle.jdf_words.specs.declared.kept_call.KeptCall.TheVariants.{Show, Take}
use Rattle.jmf_message.specs.Decoded.{IsRefusalOf as IsUndecoded}
use Rattle.streams.specs.Ends.{IsUnread}
use Rattle.streams.specs.Streams.{IsInput, IsUntouched, Traffic}
use Rattle.streams.specs.declared.fault.Fault.{Fault}
use Rattle.cells.specs.Chain.{Version, newest}
use Rattle.cells.specs.Kept.{IsPartOf}
use Rattle.stored_state.specs.AnyStep.{IsHanded, IsNoOrder, IsOrdered, text_of}
use Rattle.stored_state.specs.declared.any_controller.AnyController.{AnyController}
use Rattle.stored_state.specs.declared.addressee.Addressee.TheVariants.{Any}
use Rattle.world_items.specs.declared.reply.Reply.{Reply}
use Rattle.document_commands.specs.Caused.{GivesUpCaused}
use Rattle.file_commands.specs.Beginning.{IsBeginning, IsNoBeginning}
use Rattle.file_commands.specs.Commands.{IsMoment, Shows, Steps}
use Rattle.file_commands.specs.Listing.{ListsOne}
use Rattle.file_commands.specs.Notes.{GivesOutNoting, no_notes, notes_of_order}
use Rattle.file_commands.specs.Step.{is_refused, step_lines}
use Rattle.cell_commands.specs.Faults.{DoesNone, IsNotTold, IsUnloaded, IsUnsaved, fault_in}
use Rattle.cell_commands.specs.Given.{GivesStep}
use Rattle.cell_commands.specs.declared.cell_fault.CellFault.{CellFault}
use Rattle.cell_commands.specs.declared.cell_fault.CellFault.TheVariants as cell_faults

-- a text in memory holds itself
abbrev pub text_held : List ℕ → List ℕ
text_held text = text

abbrev pub is_held : List ℕ → Bool
is_held text = true

abbrev pub has_no_place : List ℕ → List ℕ
has_no_place text = []

-- ---- what is written

-- `order` and `take`: a step was given out, its lines are written, this tells whether it was
-- refused, and what its reply and the state then have noted is noted
pub record DoesStep (IsStep : Steps) (notes_behind : Result Reply Refusal → AnyController → List ℕ)
    (is_honest : Bool) (old new : List Version) (input : Traffic) (text : List ℕ) (refused : Bool)
    (notes : List ℕ) : Type 0 where
  pub reply : Result Reply Refusal
  pub sent : Option (List ℕ)
  pub given : GivesStep IsStep is_honest old new input reply sent (notes_behind reply) notes
  pub written : text ≡ step_lines reply sent
  pub told : refused ≡ is_refused reply

-- a text was held first: the cell held none before
pub record IsHeldFirst (old new : List Version) (text : List ℕ) : Type 0 where
  pub before : List Version
  pub since : IsPartOf old before
  pub none : (newest before).revision ≡ 0
  pub value : Version
  pub bytes : value.bytes ≡ text
  pub is : new ≡ value ∷ before

-- `new`: the input begins a controller, the text of whose state an honest cell holds then, as its
-- first; and nothing is written
pub record BeginsInCell (is_honest : Bool) (old new : List Version) (input : Traffic)
    (text : List ℕ) (refused : Bool) (notes : List ℕ) : Type 0 where
  pub bytes : List ℕ
  pub is_input : IsInput input bytes
  pub controller : AnyController
  pub beginning : IsBeginning Any bytes controller
  pub begun : is_honest ≡ true → IsHeldFirst old new (text_of controller)
  pub written : text ≡ []
  pub accepted : refused ≡ false
  pub noted : notes ≡ []

-- `show` and `list`, at the moment that is named or another, of the controller whose text was read,
-- which of an honest cell is the one that is held
abbrev pub ShowsText : Bool → Option ℕ → Bool → List Version → List ℕ → Bool → List ℕ → Type 0
ShowsText picture at is_honest new text refused notes =
    (now : ℕ) × IsMoment at now
    × ((held : List ℕ)
    × Shows picture now is_held text_held has_no_place held text refused notes)
    × (is_honest ≡ true
    → Shows picture now is_held text_held has_no_place (newest new).bytes text refused notes)

abbrev pub ListsText : Bool → Bool → Option ℕ → Bool → List Version → List ℕ → Bool → List ℕ → Type 0
ListsText is_open is_json at is_honest new text refused notes =
    (now : ℕ) × IsMoment at now
    × ((held : List ℕ)
    × ListsOne (record { is_open = is_open; is_json = is_json; now = now }) is_held text_held held
    text refused notes)
    × (is_honest ≡ true
    → ListsOne (record { is_open = is_open; is_json = is_json; now = now }) is_held text_held
    (newest new).bytes text refused notes)

-- what a call writes, whether something that was asked for was refused, and what is noted; and what
-- an honest cell holds then
abbrev pub IsOutputInCell : Bool → (old new : List Version) → KeptCall → Traffic → List ℕ → Bool
    → List ℕ → Type 0
IsOutputInCell is_honest old new New input text refused notes =
    BeginsInCell is_honest old new input text refused notes
IsOutputInCell is_honest old new (Order at) input text refused notes =
    DoesStep (IsOrdered at) notes_of_order is_honest old new input text refused notes
IsOutputInCell is_honest old new (Take at) input text refused notes =
    DoesStep (IsHanded at) no_notes is_honest old new input text refused notes
IsOutputInCell is_honest old new (Show picture at) input text refused notes =
    IsUntouched input × ShowsText picture at is_honest new text refused notes
IsOutputInCell is_honest old new (Listing at is_open is_json) input text refused notes =
    IsUntouched input × ListsText is_open is_json at is_honest new text refused notes

-- ---- why nothing is

-- why the bytes begin none: what they are refused for; or nothing is saved
abbrev pub IsNotBegun : List ℕ → CellFault → Type 0
IsNotBegun bytes e =
    ((fault : Fault) × IsNoBeginning Any bytes fault × (e ≡ cell_faults.Call fault))
    ⊎ ((e ≡ cell_faults.Taken) ⊎ IsUnsaved e)

-- why `new` begins none: something is there already or no answer came, and the input isn't read; or
-- that isn't, or it begins none; or nothing is saved
abbrev pub BeginsNone : Traffic → CellFault → Type 0
BeginsNone input e =
    (IsUntouched input × ((e ≡ cell_faults.Taken) ⊎ IsUnloaded e))
    ⊎ (((fault : Fault) × IsUnread input fault × (e ≡ cell_faults.Call fault))
    ⊎ ((bytes : List ℕ) × IsInput input bytes × IsNotBegun bytes e))

-- why a call gives up
abbrev pub IsFaultInCell : KeptCall → Traffic → CellFault → Type 0
IsFaultInCell New input e = BeginsNone input e
IsFaultInCell (Order at) input e = DoesNone IsNoOrder input e
IsFaultInCell (Take at) input e = DoesNone (λ bytes _. IsUndecoded bytes) input e
IsFaultInCell (Show picture at) input e = IsUntouched input × IsNotTold at e
IsFaultInCell (Listing at is_open is_json) input e = IsUntouched input × IsNotTold at e

-- how a call on the controller that etcd keeps ends: with what it writes and notes, or with the
-- line and the status of why it gives up, with its cause where that is known
abbrev pub EndsInCell : KeptCall → Traffic → Traffic → Traffic → ℕ → Type 0
EndsInCell call input output told status =
    ((text : List ℕ) × (refused : Bool) × (notes : List ℕ)
    × IsOutputInCell false [] [] call input text refused notes
    × GivesOutNoting text refused notes output told status)
    ⊎ ((e : CellFault) × IsFaultInCell call input e × GivesUpCaused (fault_in e) output told status)
