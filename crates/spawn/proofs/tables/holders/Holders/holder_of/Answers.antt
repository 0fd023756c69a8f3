use Rattle.std.proofs.Common.{◌∙◌, ap, sym}
use Rattle.std.specs.Bool.{then_some}
use Rattle.spawn.proofs.Holding.{masters, spawns}
use Rattle.world_items.specs.declared.holder.Holder.TheVariants.{Master}
use Rattle.spawn.proofs.tables.holders.Holders.holder_of.Goals as goal

pub returns-in-Some : goal.returns-in-Some
returns-in-Some c recs table =
    spawns c.args.ticket.now.rows recs c.args.id.now c.in-Some.spawn (sym (table.same c.args.id.now) ∙ sym c.in-Some.ensures)

pub returns-in-None : goal.returns-in-None
returns-in-None c recs table =
    c.then_some.ensures ∙ ap (λ b. then_some b Master) c.stands.ensures ∙ masters c.args.ticket.now.rows recs c.args.id.now (sym (table.same c.args.id.now) ∙ sym c.in-None.ensures)
