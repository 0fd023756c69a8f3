-- Where several reasons to refuse give none, none of them holds.
use Rattle.std.proofs.Common.{◌≡◌, Bool, true, false, List, ◌∷◌, Option, Some, None, refl}
use Rattle.ticket_items.specs.FirstFault.{first_of, unless}
use Rattle.ticket_items.specs.declared.refusal.Refusal.{Refusal}

pub none_first : (o : Option Refusal) (rest : List (Option Refusal))
    → first_of (o ∷ rest) ≡ None → (o ≡ None) × (first_of rest ≡ None)
none_first None rest none = (refl, none)
none_first (Some e) rest none = absurd cc

pub unless_holds : (holds : Bool) (e : Refusal) → unless holds e ≡ None → holds ≡ true
unless_holds true e none = refl
unless_holds false e none = cc
