use Rattle.std.proofs.Common.{◌≡◌, ◌∷◌, ◌++◌, [], ℕ, List, length, true}
use Rattle.ticket_items.specs.Ids.{are_distinct}
use Rattle.ticket_rows.proofs.Building.{so_far}
use Rattle.ticket_rows.specs.Index.{Finds, Shape, Tells, ids_in}
use Rattle.ticket_rows.proofs.index.add_row.Given as goal

-- the node's id and those of its pool so far are in
abbrev pub invariant-loop-place : goal.invariant-loop-place
invariant-loop-place l =
    (shapes : List Shape) (places : List ℕ) → Finds shapes l.fn.spots places → are_distinct (ids_in shapes) ≡ true → l.node ≡ length shapes
    → Tells (shapes ++ so_far l.row l.place ∷ []) true l.spots (places ++ l.node ∷ [])
