use Rattle.std.proofs.Common.{◌∙◌, sym, ap}
use Rattle.spawn.proofs.GoodCopies.{good_node}
use Rattle.spawn.proofs.Split.{around}
use Rattle.ticket_rows.specs.Ticket.{has_node}
use Rattle.merge.proofs.ParentRows.{parent_known, memory_alone}
use Rattle.merge.proofs.telling.tell.Goals as goal

pub returns-clause-memory : goal.returns-clause-memory
returns-clause-memory c =
    let rows = c.args.ticket.now.rows in
    let n = c.args.spawn.now.node in
    let valid = c.parent_of.ensures.valid in
    let at = around rows n valid (good_node rows c.args.spawn.now c.requires) in
    let known = parent_known rows n c.in-Some.parent.now valid at (sym c.in-Some.ensures.parent) in
    memory_alone c.append.result rows c.in_ok-parent.parent (ap (has_node rows) c.in_ok-parent.ensures ∙ known) c.append.ensures.memory
