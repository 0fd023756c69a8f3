use Rattle.controller_form.proofs.PartsFault.{IsSoFar}
use Rattle.controller_form.proofs.states.stored_entries.build_entries.Given as goal

-- the faults of the parts so far, and the entries of the others
abbrev pub invariant-loop-one : goal.invariant-loop-one
invariant-loop-one l = IsSoFar l.yielded l.found.items l.entries.items
