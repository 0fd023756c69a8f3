use Rattle.std.proofs.Common.{◌∙◌, sym}
use Rattle.spawn.proofs.FirstHeld.{first_below, first_front}
use Rattle.spawn.proofs.tables.holder_source.HolderSource.first_holding.Goals as goal

pub returns-then-has_spawn_with : goal.returns-then-has_spawn_with
returns-then-has_spawn_with c =
    let k = c.args.self.now in
    c.first_in_rows.ensures
    ∙ first_front k.ticket.now.rows k.records.now c.args.node.now c.args.rw.now c.in_ok-at.at c.in_ok-at.ensures.valid c.requires.known c.in_ok-at.ensures.at c.requires.linked (sym c.has_spawn_with.ensures ∙ c.if-has_spawn_with.true)

pub returns-else-has_spawn_with : goal.returns-else-has_spawn_with
returns-else-has_spawn_with c =
    let k = c.args.self.now in
    c.first_in_rows-else-has_spawn_with.ensures
    ∙ first_below k.ticket.now.rows k.records.now c.args.node.now c.args.rw.now c.in_ok-at.at c.in_ok-at.ensures.valid c.in_ok-at.ensures.at (sym c.has_spawn_with.ensures ∙ c.if-has_spawn_with.false)
