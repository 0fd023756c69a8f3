use Rattle.std.proofs.Common.{sym}
use Rattle.ticket_rows.proofs.Reasons.{node_there, node_missing}
use Rattle.ticket_rows.proofs.edit.walks.known_node.Goals as goal

pub returns-in-Some-clause-refusal : goal.returns-in-Some-clause-refusal
returns-in-Some-clause-refusal c = node_there c.args.rows.now c.args.node.now c.in-Some.place (sym c.in-Some.ensures)

pub returns-in-None-clause-refusal : goal.returns-in-None-clause-refusal
returns-in-None-clause-refusal c = node_missing c.args.rows.now c.args.node.now (sym c.in-None.ensures)
