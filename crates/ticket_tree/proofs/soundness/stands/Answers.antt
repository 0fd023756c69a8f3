use Rattle.std.proofs.Common.{◌∙◌}
use Rattle.ticket_tree.proofs.Sound.{mem-part_ids}
use Rattle.ticket_tree.proofs.soundness.stands.Goals as goal

pub returns : goal.returns
returns c = c.some_has_id.ensures ∙ mem-part_ids c.args.id.now c.args.rows.now c.args.rw.now c.args.ro.now
