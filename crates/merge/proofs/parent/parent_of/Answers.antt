use Rattle.std.proofs.Common.{◌∙◌, sym, ap}
use Rattle.std.specs.Option.{option_copied, option_map}
use Rattle.ticket_items.specs.declared.node_row.NodeRow.{NodeRow}
use Rattle.merge.proofs.ParentRows.{parent_is, unknown_parent}
use Rattle.merge.proofs.parent.parent_of.Goals as goal

pub returns-in_err-at-clause-parent : goal.returns-in_err-at-clause-parent
returns-in_err-at-clause-parent c = ap option_copied c.from_residual.ensures ∙ sym (unknown_parent c.args.ticket.now.rows c.args.node.now (sym c.in_err-at.ensures.known))

pub returns-in_err-parent-clause-parent : goal.returns-in_err-parent-clause-parent
returns-in_err-parent-clause-parent c =
    let at = c.in_ok-at.ensures in
    ap option_copied c.from_residual-in_err-parent.ensures ∙ ap (option_map (λ (r : NodeRow). r.id)) c.in_err-parent.ensures ∙ parent_is c.args.ticket.now.rows c.args.node.now c.in_ok-at.at at.valid at.at (sym at.known)

pub returns-clause-parent : goal.returns-clause-parent
returns-clause-parent c =
    let at = c.in_ok-at.ensures in
    ap (option_map (λ (r : NodeRow). r.id)) c.in_ok-parent.ensures ∙ parent_is c.args.ticket.now.rows c.args.node.now c.in_ok-at.at at.valid at.at (sym at.known)
