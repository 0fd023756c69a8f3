use Rattle.ticket_tree.proofs.PlainEdits.{edit_of_places}
use Rattle.ticket_tree.proofs.PlainRefusal.{refusal_is_plain}
use Rattle.ticket_tree.proofs.PlainRows.{edit_of_rows}
use Rattle.ticket_tree.proofs.laws.edit_of_the_rows_is_the_plain_edit.Goals as goal

pub returns-clause-refused : goal.returns-clause-refused
returns-clause-refused c = refusal_is_plain

pub returns-clause-places : goal.returns-clause-places
returns-clause-places c = edit_of_places

pub returns-clause-rows : goal.returns-clause-rows
returns-clause-rows c = edit_of_rows
