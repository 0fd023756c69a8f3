use Rattle.ticket_tree.proofs.PartEdits.{part_refusal_is_of_own_rows, part_edit_is_valid, part_edit_of_places, part_edit_of_rows}
use Rattle.ticket_tree.proofs.laws.edit_of_a_part_is_the_plain_edit.Goals as goal

pub returns-clause-refused : goal.returns-clause-refused
returns-clause-refused c = part_refusal_is_of_own_rows

pub returns-clause-valid : goal.returns-clause-valid
returns-clause-valid c = part_edit_is_valid

pub returns-clause-places : goal.returns-clause-places
returns-clause-places c = part_edit_of_places

pub returns-clause-rows : goal.returns-clause-rows
returns-clause-rows c = part_edit_of_rows
