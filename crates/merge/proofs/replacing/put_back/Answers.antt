use Rattle.std.proofs.Common.{sym, ap, subst}
use Rattle.merge.proofs.Returning.{nodes_behind_resources}
use Rattle.merge.specs.Putting.{MayTakeNodes}
use Rattle.merge.proofs.replacing.put_back.Goals as goal

pub replace_nodes-requires : goal.replace_nodes-requires
replace_nodes-requires c =
    let nodes = c.args.nodes.items in
    subst (λ rows. MayTakeNodes rows nodes) (sym (ap (λ t. t.rows) c.replace_resources.ensures)) (nodes_behind_resources c.args.ticket.now.rows c.args.resources.items nodes c.requires.nodes)
