use Rattle.std.proofs.Common.{◌∙◌}
use Rattle.ticket_items.proofs.AtKey.{any_key}
use Rattle.worker_core.proofs.edits.has_copy.Goals as goal

pub returns : goal.returns
returns c = c.holds.ensures ∙ any_key (λ y. y.id) c.args.id.now c.args.copies.now
