use Rattle.std.proofs.Common.{◌∙◌, None, cond, ap}
use Rattle.std.proofs.lemmas.Map.Text.{is_eq-slice_cmp}
use Rattle.ticket_rows.specs.Index.{spot_under}
use Rattle.ticket_rows.proofs.index.Index.take_out.Goals as goal

pub returns-clause-spots : goal.returns-clause-spots
returns-clause-spots c x =
    c.remove.ensures.updates.0 x ∙ ap (λ b. cond b None (spot_under c.args.self.now.spots x)) (is_eq-slice_cmp c.args.id.now x)
