use Rattle.std.proofs.Common.{◌∙◌, sym}
use Rattle.ticket_tree.proofs.AtNode.{none_below_unknown}
use Rattle.ticket_tree.proofs.ticket.Ticket.rows_below.Goals as goal

pub returns-in-None-clause-rows : goal.returns-in-None-clause-rows
returns-in-None-clause-rows c = c.new.ensures ∙ sym (none_below_unknown c.args.self.now.rows c.args.node.now (sym c.in-None.ensures.known))
