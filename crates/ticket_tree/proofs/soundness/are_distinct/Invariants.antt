use Rattle.std.proofs.Common.{◌≡◌, drop}
use Rattle.ticket_items.specs.Ids as id_lists
use Rattle.ticket_tree.specs.Part as part
use Rattle.ticket_tree.proofs.soundness.are_distinct.Given as goal

-- what is left is distinct exactly if all is
abbrev pub invariant-loop-index : goal.invariant-loop-index
invariant-loop-index l =
    id_lists.are_distinct (part.ancestor_ids (drop l.index l.ancestors)) ≡ id_lists.are_distinct (part.ancestor_ids l.ancestors)
