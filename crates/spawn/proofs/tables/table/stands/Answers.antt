use Rattle.std.proofs.Common.{◌∙◌, ap, is_some}
use Rattle.spawn.proofs.Holding.{copied_some, stands_known}
use Rattle.spawn.proofs.tables.table.stands.Goals as goal

pub returns : goal.returns
returns c = c.is_some.ensures ∙ copied_some c.stand_of.result ∙ ap is_some c.stand_of.ensures.at ∙ stands_known c.args.ticket.now.rows c.args.id.now c.stand_of.ensures.valid
