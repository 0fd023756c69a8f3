-- Several reasons to refuse, and the first of them that holds.
use Rattle.std.specs.Prelude.{Bool, true, false, List, [], ◌∷◌, Option, Some, None}
use Rattle.ticket_items.specs.declared.refusal.Refusal.{Refusal}

-- the refusal, unless the test holds
abbrev pub unless : Bool → Refusal → Option Refusal
unless true e = None
unless false e = Some e

-- the first refusal
abbrev pub first_of : List (Option Refusal) → Option Refusal
first_of [] = None
first_of (None ∷ rest) = first_of rest
first_of (Some e ∷ rest) = Some e
