-- What may be wrong with parts whose names and texts are valid.
use Rattle.std.specs.Prelude.{◌==◌, Bool, List, [], ◌∷◌}
use Rattle.std.specs.List.{list_any}
use Rattle.ticket_items.specs.Refusal.{number_of}
use Rattle.ticket_items.specs.declared.refusal.Refusal.{Refusal}
use Rattle.ticket_items.specs.declared.refusal.Refusal.TheVariants.{DuplicateId, NotATree}
use Rattle.ticket_items.specs.declared.refusal.Refusal.TheVariants.{ReservedStatus, TooDeep}
use Rattle.ticket_items.specs.declared.refusal.Refusal.TheVariants.{UnresolvedLink}

-- the faults of a part, in the order in which they are looked for
abbrev pub part_faults : List Refusal
part_faults = NotATree ∷ ReservedStatus ∷ DuplicateId ∷ TooDeep ∷ UnresolvedLink ∷ []

-- whether a fault is among those that were found
abbrev pub is_among : List Refusal → Refusal → Bool
is_among found e = list_any (λ f. number_of f == number_of e) found
