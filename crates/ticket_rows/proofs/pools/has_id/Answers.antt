use Rattle.std.proofs.Common.{◌∙◌, sym}
use Rattle.ticket_rows.proofs.AtHome.{mem-ids}
use Rattle.ticket_rows.proofs.pools.has_id.Goals as goal

pub returns : goal.returns
returns c = c.some_has_id.ensures ∙ sym (mem-ids c.args.id.now c.args.rows.now)
