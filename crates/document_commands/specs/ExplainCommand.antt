-- How `explain` ends.
use Rattle.std.specs.Prelude.{◌≡◌, ◌⊎◌, ◌++◌, ◌∷◌, ℕ, List, [], Option, Some, None, codes, false}
use Rattle.ticket_items.specs.declared.refusal.Refusal.TheVariants.{Memory}
use Rattle.streams.specs.Ends.{GivesOut, GivesUp}
use Rattle.streams.specs.Streams.{IsUntouched, Traffic}
use Rattle.streams.specs.declared.fault.Fault.TheVariants.{Input}
use Rattle.streams.specs.declared.refused.Refused.TheVariants.{Core}
use Rattle.refusal_rows.specs.Rows.{text_of}
use Rattle.document_commands.specs.Told.{TellsText}

-- what is told of a number that no refusal has
abbrev pub no_refusal_text : List ℕ
no_refusal_text =
    codes "error: no refusal has this number" ++ 10 ∷ 10 ∷ codes "Usage: jdf_cli explain <N>"
    ++ 10 ∷ []

-- how it ends where this is the text of the number's row, if any: with the text, or memory ran
-- out; or it is told that no refusal has the number, and the status says so
abbrev pub EndsRow : Option (List ℕ) → Traffic → Traffic → ℕ → Type 0
EndsRow (Some text) output told status = GivesOut text false output told status
    ⊎ GivesUp (Input (Core Memory)) output told status
EndsRow None output told status =
    IsUntouched output × TellsText no_refusal_text told × (status ≡ 2)

-- how `explain` ends for a number
abbrev pub EndsExplain : List ℕ → Traffic → Traffic → Traffic → ℕ → Type 0
EndsExplain number input output told status =
    IsUntouched input × EndsRow (text_of number) output told status
