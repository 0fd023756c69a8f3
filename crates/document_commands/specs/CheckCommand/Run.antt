-- How `check` ends.
use Rattle.std.specs.Prelude.{◌≡◌, ◌++◌, ◌∷◌, ℕ, Bool, List, [], Option, Some, None, codes}
use Rattle.streams.specs.Ends.{IsFaultOf, IsOutputOf}
use Rattle.streams.specs.Streams.{IsUntouched, Traffic}
use Rattle.fault_finder.specs.declared.kind.Kind.{Kind}
use Rattle.document_commands.specs.Caused.{EndsWithCaused}
use Rattle.document_commands.specs.CheckCommand.Kinds.{kind_said}
use Rattle.document_commands.specs.CheckCommand.Verdict.{IsUnchecked, IsVerdict}
use Rattle.document_commands.specs.Told.{TellsText}

-- what is told of a word that names no kind
abbrev pub no_kind_line : List ℕ
no_kind_line =
    codes "error: KIND is one of ticket, edits, order, message, script, opening and state"
    ++ 10 ∷ []

-- it is told that a word names no kind, and the status says so
pub record TellsNoKind (input output told : Traffic) (status : ℕ) : Type 0 where
  pub unread : IsUntouched input
  pub unwritten : IsUntouched output
  pub text : TellsText no_kind_line told
  pub status_is : status ≡ 2

-- how `check` ends where this kind is said, if any: with what is told of its whole input, or with
-- why there is none
abbrev pub EndsSaid : Option (Option Kind) → Bool → Traffic → Traffic → Traffic → ℕ → Type 0
EndsSaid None all input output told status = TellsNoKind input output told status
EndsSaid (Some said) all input output told status =
    EndsWithCaused (IsOutputOf (IsVerdict said all) input) (IsFaultOf IsUnchecked input) output told
    status

-- and by the word that says it
abbrev pub EndsCheck : Option (List ℕ) → Bool → Traffic → Traffic → Traffic → ℕ → Type 0
EndsCheck word all input output told status =
    EndsSaid (kind_said word) all input output told status
