-- The document that the state of a controller is stored as: its format, and the controller under
-- its kind.
use Rattle.std.specs.Prelude.{ℕ, ◌==◌, List, [], ◌∷◌, codes, if◌then◌else◌, Option, Some, None}
use Rattle.std.specs.Prelude.{Result, Ok, Err}
use Rattle.std.specs.Option.{ok_or, option_map_or}
use Rattle.serde_json.specs.Data.{Data, no_members, number, unsigned, object, put}
use Rattle.serde_json.specs.Find.{get}
use Rattle.ticket_items.specs.declared.refusal.Refusal.{Refusal}
use Rattle.ticket_items.specs.declared.refusal.Refusal.TheVariants.{BadState, NotProfile}
use Rattle.json_source.specs.Read.{◌>>=◌, some_if, has_only, number_under}
use Rattle.controller_form.specs.declared.states.format.Format.{Format}
use Rattle.controller_form.specs.declared.states.format.Format.TheVariants.{First, Second}

-- ---- formats

-- the one that is written
abbrev pub written_format : Format
written_format = Second

-- the number of a format
abbrev pub format_number : Format → ℕ
format_number First = 1
format_number Second = 2

-- the format of a number
abbrev pub format_numbered : ℕ → Option Format
format_numbered n =
    if n == format_number First then Some First
    else (if n == format_number Second then Some Second else None)

-- the format of data, which is looked at first; or what is wrong with it: none is told, or another
abbrev pub format_of : Data → Result Format Refusal
format_of d =
    option_map_or (λ n. ok_or (format_numbered n) BadState) (number_under (codes "Format") d)
    (Err NotProfile)

-- what a read gives in the format of data, or what is wrong with that
abbrev pub read_in_format : {X : Type 0} → Result Format Refusal → (Format → Result X Refusal)
    → Result X Refusal
read_in_format (Ok format) read = read format
read_in_format (Err e) read = Err e

-- ---- the controller

-- the controller of a kind, where the data holds one of that kind alone
abbrev pub controller_under : List ℕ → Data → Option Data
controller_under kind d = some_if (has_only (codes "Format" ∷ kind ∷ []) d) >>= λ _. get kind d

-- the state of a controller of a kind
abbrev pub state_data : Format → List ℕ → Data → Data
state_data format kind d =
    object (put kind d (put (codes "Format") (number (unsigned (format_number format))) no_members))
