-- What is told of a document.
use Rattle.std.specs.Prelude.{◌≡◌, ◌≢◌, ◌++◌, ◌∷◌, ℕ, Bool, List, [], codes, decimal, string_bytes}
use Rattle.std.specs.Prelude.{Option, Some, None, Result, Ok, Err, false, true, ⊤}
use Rattle.std.specs.Prelude.{◌==◌, ◌≤◌, if◌then◌else◌, length}
use Rattle.std.specs.List.{All, flat_map}
use Rattle.std.specs.Str.{IsUtf8}
use Rattle.serde_json.specs.Data.{Data}
use Rattle.serde_json.specs.Read.{read}
use Rattle.ticket_items.specs.Refusal.{name_of, number_of, refusal_line}
use Rattle.ticket_items.specs.declared.refusal.Refusal.{Refusal}
use Rattle.ticket_items.specs.declared.refusal.Refusal.TheVariants.{Memory}
use Rattle.fault_finder.specs.declared.kind.Kind.{Kind}
use Rattle.fault_finder.specs.declared.place.Place.{Place}
use Rattle.document_commands.specs.CheckCommand.Kinds.{kind_in}
use Rattle.document_commands.specs.CheckCommand.Readers.{IsAnswer, answer_of_kind}
use Rattle.refusal_rows.specs.Numbers.{named_number}

-- the line of a place, with the number and the name of what is refused there
unfoldable pub line_of : List ℕ → Place → List ℕ
line_of named p =
    decimal p.line ++ codes ":" ++ decimal p.column ++ codes ": " ++ string_bytes p.text
    ++ codes " (" ++ named ++ codes ")" ++ 10 ∷ []

abbrev pub place_line : Refusal → Place → List ℕ
place_line e = line_of (named_number (number_of e) (name_of e))

-- the lines of places, or of the refusal alone where there are none
abbrev pub refused_lines : Refusal → List Place → List ℕ
refused_lines e places =
    if length places == 0 then refusal_line e else flat_map (place_line e) places

-- memory ran out: nothing else keeps a document from being checked
abbrev pub IsUnchecked : List ℕ → Refusal → Type 0
IsUnchecked bytes e = e ≡ Memory

-- lines of places where something is refused for anything else
abbrev pub AreOthers : Refusal → List ℕ → Type 0
AreOthers e lines = (found : List (Refusal × List Place)) × All (λ f. f.0 ≢ e) found
    × (lines ≡ flat_map (λ f. flat_map (place_line f.0) f.1) found)

-- what is told of a document, and whether it is refused, by what its reader answers: `ok`; or
-- where it is refused for what the reader refuses it for, in one line unless all is asked for, and
-- behind that, where it is, the lines of others
abbrev pub IsTold : Bool → Result ⊤ Refusal → List ℕ → Bool → Type 0
IsTold all (Ok read) text refused = (text ≡ codes "ok" ++ 10 ∷ []) × (refused ≡ false)
IsTold all (Err e) text refused = (places : List Place) × (others : List ℕ)
    × (text ≡ refused_lines e places ++ others) × AreOthers e others
    × (all ≡ false → length places ≤ 1) × (all ≡ false → others ≡ []) × (refused ≡ true)

-- bytes are of the kind that is said, or that their members tell
abbrev pub IsOfKind : Option Kind → List ℕ → Kind → Type 0
IsOfKind None bytes kind =
    (d : Data) → IsUtf8 bytes → read bytes ≡ Some d → kind ≡ kind_in d
IsOfKind (Some said) bytes kind = kind ≡ said

-- what is told of bytes of a kind, and whether they are refused, as the reader of the kind answers,
-- which isn't for want of memory
abbrev pub IsVerdictOn : Kind → Bool → List ℕ → List ℕ → Bool → Type 0
IsVerdictOn kind all bytes text refused = (answer : Result ⊤ Refusal)
    × IsAnswer (answer_of_kind kind) bytes answer × (answer ≢ Err Memory) × IsTold all answer text refused

-- the same of bytes of the kind that is said, or that their members tell
abbrev pub IsVerdict : Option Kind → Bool → List ℕ → List ℕ → Bool → Type 0
IsVerdict said all bytes text refused =
    (kind : Kind) × IsOfKind said bytes kind × IsVerdictOn kind all bytes text refused
