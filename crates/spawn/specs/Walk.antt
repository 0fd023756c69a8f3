-- The walk on which a record is compared with a ticket: what is left of the record's copies, as the
-- resources of the ticket are met.
use Rattle.std.specs.Prelude.{ℕ, Bool, true, false, List, [], ◌∷◌, Option, Some}
use Rattle.std.specs.Prelude.{if◌then◌else◌}
use Rattle.std.specs.Option.{option_map, option_and_then}
use Rattle.ticket_items.specs.Ids.{mem}
use Rattle.ticket_items.specs.Resource.{is_alike}
use Rattle.ticket_tree.specs.Part.{is_linked}
use Rattle.ticket_items.specs.declared.node_row.NodeRow.{NodeRow}
use Rattle.ticket_items.specs.declared.resource.Resource.{Resource}
use Rattle.spawn.specs.OfResource.{has_id, behind}

-- the copies that weren't met yet: ids of those to change, and those to read
abbrev pub Unmet : Type 0
Unmet = List (List ℕ) × List Resource

-- behind a linked resource: the next to change where it is among `rw`, else the next to read
abbrev pub unmet_behind_link : List (List ℕ) → Resource → Unmet → Option Unmet
unmet_behind_link rw x left =
    if mem x.id rw
    then option_map (λ ids. (ids, left.1)) (behind (has_id x) left.0)
    else option_map (λ copies. (left.0, copies)) (behind (is_alike x) left.1)

-- what is left behind a resource, if the rows link it
abbrev pub unmet_behind : List NodeRow → List (List ℕ) → Resource → Unmet → Option Unmet
unmet_behind inside rw x left = if is_linked inside x.id then unmet_behind_link rw x left else Some left

-- what is left behind these resources
abbrev pub unmet_behind_all : List NodeRow → List (List ℕ) → List Resource → Unmet → Option Unmet
unmet_behind_all inside rw [] left = Some left
unmet_behind_all inside rw (x ∷ pool) left = option_and_then (unmet_behind_all inside rw pool) (unmet_behind inside rw x left)

abbrev pub are_none : Unmet → Bool
are_none ([], []) = true
are_none ([], x ∷ copies) = false
are_none (i ∷ ids, copies) = false
