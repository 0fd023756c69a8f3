-- Ids and copies that may be those of resources.
use Rattle.std.specs.Prelude.{ℕ, Bool, List, [], ◌∷◌, Option, Some, None, if◌then◌else◌}
use Rattle.std.specs.Str.{bytes_eq}
use Rattle.ticket_items.specs.declared.resource.Resource.{Resource}

-- whether the id is the resource's
abbrev pub has_id : Resource → List ℕ → Bool
has_id x id = bytes_eq x.id id

-- what stands behind the first, if that passes the test
abbrev pub behind : {X : Type 0} → (X → Bool) → List X → Option (List X)
behind f [] = None
behind f (x ∷ xs) = if f x then Some xs else None
