-- The names of the controllers in a script that was read are all different.
use Rattle.std.proofs.Common.{◌≡◌, ℕ, Bool, true, false, List, [], ◌∷◌, Option, Some, None, Ok, Err}
use Rattle.std.proofs.Common.{refl, subst}
use Rattle.std.specs.Option.{option_map_or}
use Rattle.ticket_items.specs.Ids.{are_distinct}
use Rattle.ticket_items.specs.declared.refusal.Refusal.{Refusal}
use Rattle.ticket_items.specs.declared.refusal.Refusal.TheVariants.{BadId, BadText, NotProfile, SameName}
use Rattle.ticket_rows.specs.Ticket.{first_of, unless}
use Rattle.json_items.specs.Validation.{checked_value}
use Rattle.world_script.specs.Script.{IsReadAs, script_fault, script_form, script_of}
use Rattle.world_script.specs.declared.script.Script.{Script}

-- where no fault is found the last test passed
last_passed : (names texts apart : Bool) (ticket : Option Refusal)
    → first_of (unless names BadId ∷ unless texts BadText ∷ first_of (ticket ∷ unless apart SameName ∷ []) ∷ []) ≡ None
    → apart ≡ true
last_passed true true true ticket e = refl
last_passed true true false None e = cc
last_passed true true false (Some r) e = cc
last_passed true false apart ticket e = cc
last_passed false texts apart ticket e = cc

-- what is sound has no fault
free : (f : Option Refusal) (x y : Script) → checked_value f x ≡ Ok y → f ≡ None
free None x y e = refl
free (Some r) x y e = cc

is_it : (f : Option Refusal) (x y : Script) → checked_value f x ≡ Ok y → x ≡ y
is_it None x y e = cc
is_it (Some r) x y e = cc

-- a script is of such names where no fault of what it is made of leaves others
of_draft : {X : Type 0} (fault : X → Option Refusal) (made : X → Script) (o : Option X) (s : Script)
    → ((x : X) → fault x ≡ None → are_distinct ((made x).master ∷ (made x).workers) ≡ true)
    → option_map_or (λ x. checked_value (fault x) (made x)) o (Err NotProfile) ≡ Ok s → are_distinct (s.master ∷ s.workers) ≡ true
of_draft fault made None s apart e = cc
of_draft fault made (Some x) s apart e =
    subst (λ (v : Script). are_distinct (v.master ∷ v.workers) ≡ true) (is_it (fault x) (made x) s e) (apart x (free (fault x) (made x) s e))

pub names_apart : (bytes : List ℕ) (s : Script) → IsReadAs bytes (Ok s) → are_distinct (s.master ∷ s.workers) ≡ true
names_apart bytes s read = of_draft script_fault script_of (script_form read.value) s (λ x e. last_passed _ _ _ _ e) read.form
