use Rattle.std.proofs.Common.{◌≡◌, Err, IfSome, subst}
use Rattle.ticket_tree.proofs.PartEdits.{ids_in_part, part_is_left}
use Rattle.ticket_tree.specs.Part.{PartCopy, refusal_of_part}
use Rattle.ticket_tree.proofs.part.Part.apply.Goals as goal

pub apply-requires-clause-apart : goal.apply-requires-clause-apart
apply-requires-clause-apart c = ids_in_part c.self.inside.rows.items c.self.inside.rw c.self.inside.ro c.self.invariant

pub invariant_of-self : goal.invariant_of-self
invariant_of-self c =
    part_is_left c.apply.result c.args.edit c.args.at c.self.inside.rows.items _ c.self.inside.rw _ c.self.inside.ro c.self.invariant c.requires c.apply.ensures.rows c.apply.ensures.copies c.apply.ensures.rows_stay c.apply.ensures.copies_stay c.apply.ensures.refused

pub returns-clause-refused : goal.returns-clause-refused
returns-clause-refused c = subst (λ (t : PartCopy). IfSome (refusal_of_part c.args.edit t) (λ e. c.apply.result ≡ Err e)) c.self.view_is c.apply.ensures.refused
