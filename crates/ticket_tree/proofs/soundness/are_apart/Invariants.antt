use Rattle.std.proofs.Common.{◌≡◌, drop}
use Rattle.ticket_tree.specs.Part as part
use Rattle.ticket_tree.proofs.soundness.are_apart.Given as goal

-- what is left is apart exactly if all is
abbrev pub invariant-loop-ancestor : goal.invariant-loop-ancestor
invariant-loop-ancestor l =
    part.are_apart (part.ancestor_ids (drop l.ancestor-index l.ancestors)) (part.part_ids l.rows l.rw l.ro) ≡ part.are_apart (part.ancestor_ids l.ancestors) (part.part_ids l.rows l.rw l.ro)
