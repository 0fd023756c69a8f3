-- Members of an object, each by its form.
use Rattle.std.specs.Prelude.{ℕ, List, Option}
use Rattle.std.specs.Option.{option_and_then}
use Rattle.serde_json.specs.Data.{Data}
use Rattle.serde_json.specs.Find.{get}
use Rattle.json_items.specs.Validation.{both_read}

-- what stands under two names
abbrev pub two_form : {X Y : Type 0} → List ℕ → (Data → Option X) → List ℕ → (Data → Option Y)
    → Data → Option (X × Y)
two_form name form other_name other_form d =
    both_read (option_and_then form (get name d)) (option_and_then other_form (get other_name d))

-- under three
abbrev pub three_form : {X Y Z : Type 0} → List ℕ → (Data → Option X) → List ℕ
    → (Data → Option Y) → List ℕ → (Data → Option Z) → Data → Option ((X × Y) × Z)
three_form first one second two third three d =
    both_read (two_form first one second two d) (option_and_then three (get third d))

-- under four
abbrev pub four_form : {W X Y Z : Type 0} → List ℕ → (Data → Option W) → List ℕ
    → (Data → Option X) → List ℕ → (Data → Option Y) → List ℕ → (Data → Option Z) → Data
    → Option (((W × X) × Y) × Z)
four_form first one second two third three fourth four d =
    both_read (three_form first one second two third three d)
    (option_and_then four (get fourth d))
