-- What bytes are read as.
use Rattle.std.specs.Prelude.{◌≡◌, ◌⊎◌, ℕ, List, Some, None, Result, Err}
use Rattle.std.specs.Str.{IsUtf8}
use Rattle.serde_json.specs.Data.{Data}
use Rattle.serde_json.specs.Read.{read}
use Rattle.ticket_items.specs.declared.refusal.Refusal.{Refusal}
use Rattle.ticket_items.specs.declared.refusal.Refusal.TheVariants.{Memory, NotJson}

-- the bytes are JSON that is read so
pub record IsReadAs {A : Type 0} (reads : Data → Result A Refusal) (bytes : List ℕ)
    (answer : Result A Refusal) : Type 0 where
  pub value : Data
  pub utf8 : IsUtf8 bytes
  pub json : read bytes ≡ Some value
  pub form : reads value ≡ answer

-- why bytes are refused: no JSON, the first refusal of their data, or memory ran out
abbrev pub IsRefusalOf : {A : Type 0} → (Data → Result A Refusal) → List ℕ → Refusal → Type 0
IsRefusalOf reads bytes e =
    ((e ≡ NotJson) × (IsUtf8 bytes → read bytes ≡ None))
    ⊎ (IsReadAs reads bytes (Err e) ⊎ (e ≡ Memory))
