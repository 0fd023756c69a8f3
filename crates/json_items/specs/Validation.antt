-- What reading answers: the value, or the first refusal of it.
use Rattle.std.specs.Prelude.{◌≡◌, ◌⊎◌, ◌&&◌, Bool, [], ◌∷◌, Option, Some, None, Result, Ok, Err}
use Rattle.std.specs.Option.{option_map, option_map_or}
use Rattle.json_source.specs.Read.{◌>>=◌, Fails}
use Rattle.ticket_items.specs.FirstFault.{first_of, unless}
use Rattle.ticket_items.specs.declared.refusal.Refusal.{Refusal}
use Rattle.ticket_items.specs.declared.refusal.Refusal.TheVariants.{NotProfile, BadId, BadText}
use Rattle.ticket_items.specs.declared.refusal.Refusal.TheVariants.{Memory}

-- the value, unless something is wrong with it
abbrev pub checked_value : {X : Type 0} → Option Refusal → X → Result X Refusal
checked_value None x = Ok x
checked_value (Some e) x = Err e

-- the draft, if there is one and nothing is wrong with it
abbrev pub checked_draft : {X : Type 0} → (X → Option Refusal) → Option X → Result X Refusal
checked_draft fault None = Err NotProfile
checked_draft fault (Some x) = checked_value (fault x) x

-- what is wrong with a draft: first its ids and names, then its texts, then what else there is
abbrev pub checked_fault : Bool → Bool → Option Refusal → Option Refusal
checked_fault names texts late = first_of (unless names BadId ∷ unless texts BadText ∷ late ∷ [])

-- what is wrong with a draft of which only names and texts may be wrong
abbrev pub first_fault : {X : Type 0} → (X → Bool) → (X → Bool) → X → Option Refusal
first_fault has_names has_texts x = checked_fault (has_names x) (has_texts x) None

-- what is built of a draft, if there is one and nothing is wrong with it
abbrev pub built_value : {X Y : Type 0} → (X → Bool) → (X → Bool) → (X → Option Refusal) → (X → Y)
    → Option X → Result Y Refusal
built_value has_names has_texts late made read = option_map_or
    (λ x. checked_value (checked_fault (has_names x) (has_texts x) (late x)) (made x)) read
    (Err NotProfile)

-- what a reader answered is what is read, unless memory ran out
abbrev pub Answers : {X : Type 0} → Result X Refusal → Result X Refusal → Type 0
Answers (Ok x) read = read ≡ Ok x
Answers (Err e) read = (e ≡ Memory) ⊎ (read ≡ Err e)

-- ---- what is found of data

-- the value that is read, in which nothing is wrong; or what is wrong with it first
abbrev pub Finds : {X : Type 0} → (X → Option Refusal) → Result X Refusal → Option X → Type 0
Finds fault (Ok x) read = (read ≡ Some x) × (fault x ≡ None)
Finds fault (Err e) read = option_map fault read ≡ Some (Some e)

-- what a reader found, of which only names and texts may be wrong; or why nothing is read, unless
-- memory ran out
abbrev pub Reads : {X : Type 0} → (X → Bool) → (X → Bool) → Result (Result X Refusal) Refusal
    → Option X → Type 0
Reads has_names has_texts (Ok found) read = Finds (first_fault has_names has_texts) found read
Reads has_names has_texts (Err e) read = Fails e read

-- ---- two things together

-- a test of each of two things
abbrev pub on_both : {X Y : Type 0} → (X → Bool) → (Y → Bool) → X × Y → Bool
on_both one other p = one p.0 && other p.1

-- the two, where both are read
abbrev pub both_read : {X Y : Type 0} → Option X → Option Y → Option (X × Y)
both_read one other = do
  x ← one
  y ← other
  Some (x, y)

-- the first of two faults of names or texts
abbrev pub first_of_two : Refusal → Refusal → Refusal
first_of_two one BadId = BadId
first_of_two one other = one
