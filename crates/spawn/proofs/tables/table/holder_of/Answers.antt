use Rattle.std.proofs.Common.{◌∙◌, Some, sym, ap}
use Rattle.std.specs.Option.{option_map_or}
use Rattle.spawn.proofs.Holding.{held, unheld}
use Rattle.world_items.specs.declared.holder.Holder.TheVariants.{Master, Spawn}
use Rattle.spawn.proofs.tables.table.holder_of.Goals as goal

pub returns-in_err-node : goal.returns-in_err-node
returns-in_err-node c = c.from_residual.ensures ∙ sym (unheld c.args.ticket.now.rows c.args.records.now c.args.id.now (sym c.in_err-node.ensures.at))

pub returns-in-None : goal.returns-in-None
returns-in-None c =
    ap (λ o. Some (option_map_or (λ r. Spawn r.id) o Master)) c.in-None.ensures ∙ sym (held c.args.ticket.now.rows c.args.records.now c.args.id.now c.in_ok-node.node.now c.in_ok-node.ensures.valid (sym c.in_ok-node.ensures.at))

pub returns-in-Some : goal.returns-in-Some
returns-in-Some c =
    ap (λ o. Some (option_map_or (λ r. Spawn r.id) o Master)) c.in-Some.ensures ∙ sym (held c.args.ticket.now.rows c.args.records.now c.args.id.now c.in_ok-node.node.now c.in_ok-node.ensures.valid (sym c.in_ok-node.ensures.at))
