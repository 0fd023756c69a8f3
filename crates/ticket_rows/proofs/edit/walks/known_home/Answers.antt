use Rattle.std.proofs.Common.{sym}
use Rattle.ticket_rows.proofs.Reasons.{resource_there, resource_missing}
use Rattle.ticket_rows.proofs.edit.walks.known_home.Goals as goal

pub returns-in-Some-clause-refusal : goal.returns-in-Some-clause-refusal
returns-in-Some-clause-refusal c = resource_there c.args.rows.now c.args.resource.now c.in-Some.home (sym c.in-Some.ensures)

pub returns-in-None-clause-refusal : goal.returns-in-None-clause-refusal
returns-in-None-clause-refusal c = resource_missing c.args.rows.now c.args.resource.now (sym c.in-None.ensures)
