-- What a command on the controller that a cell keeps gives out.
use Rattle.std.specs.Prelude.{◌≡◌, ℕ, Bool, true, List, Option, Result}
use Rattle.cells.specs.Chain.{Version}
use Rattle.cells.specs.Kept.{IsStepped}
use Rattle.journal.specs.Journal.{IsJournaled}
use Rattle.ticket_items.specs.declared.refusal.Refusal.{Refusal}
use Rattle.world_items.specs.declared.reply.Reply.{Reply}
use Rattle.stored_state.specs.Addressee.{name_of}
use Rattle.stored_state.specs.declared.any_controller.AnyController.{AnyController}
use Rattle.streams.specs.Streams.{IsInput, Traffic}
use Rattle.file_commands.specs.Commands.{Steps}
use Rattle.cell_commands.specs.Steps.{MakesStep}

-- the bytes were the step of a controller whose text a cell gave, and this is given out of it. Of
-- an honest cell, that text was held at some moment meanwhile, and was left as it was, or the one
-- that is held then replaced it
pub record GivesBytes (IsStep : Steps) (is_honest : Bool) (old new : List Version) (bytes : List ℕ)
    (reply : Result Reply Refusal) (sent : Option (List ℕ)) (after : AnyController) : Type 0 where
  pub held : List ℕ
  pub text : List ℕ
  pub makes : MakesStep IsStep bytes held text reply sent after
  pub stepped : is_honest ≡ true
      → IsStepped (λ held text c. MakesStep IsStep bytes held text reply sent c) old new after

-- the same, and this is noted of what the controller is then
pub record GivesBytesNoting (IsStep : Steps) (is_honest : Bool) (old new : List Version)
    (bytes : List ℕ) (reply : Result Reply Refusal) (sent : Option (List ℕ))
    (notes_behind : AnyController → List ℕ) (notes : List ℕ) : Type 0 where
  pub after : AnyController
  pub gives : GivesBytes IsStep is_honest old new bytes reply sent after
  pub noted : notes ≡ notes_behind after

-- the same of the input
abbrev pub GivesStep : Steps → Bool → List Version → List Version → Traffic → Result Reply Refusal
    → Option (List ℕ) → (AnyController → List ℕ) → List ℕ → Type 0
GivesStep IsStep is_honest old new input reply sent notes_behind notes =
    (bytes : List ℕ) × IsInput input bytes
    × GivesBytesNoting IsStep is_honest old new bytes reply sent notes_behind notes

-- the bytes were such a step, and its line stands in a journal
pub record GivesBytesLine {J : Type 0} (IsStep : Steps) (is_honest : Bool) (old new : List Version)
    (bytes : List ℕ) (reply : Result Reply Refusal) (sent : Option (List ℕ))
    (held : J → List ℕ) (is_missed : J → Bool) (IsLine : List ℕ → Reply → List ℕ → Type 0)
    (before behind : J) : Type 0 where
  pub after : AnyController
  pub gives : GivesBytes IsStep is_honest old new bytes reply sent after
  pub lines : IsJournaled held is_missed (IsLine (name_of after)) reply before behind

-- the same of the input
abbrev pub GivesLine : {J : Type 0} → Steps → Bool → List Version → List Version → Traffic
    → Result Reply Refusal → Option (List ℕ) → (J → List ℕ) → (J → Bool)
    → (List ℕ → List ℕ → Reply → List ℕ → Type 0) → J → J → Type 0
GivesLine IsStep is_honest old new input reply sent held is_missed IsLine before behind =
    (bytes : List ℕ) × IsInput input bytes
    × GivesBytesLine IsStep is_honest old new bytes reply sent held is_missed
    (λ name. IsLine name bytes) before behind
