use Rattle.std.proofs.Common.{◌∙◌, ◌==◌, Some, ap, if◌then◌else◌}
use Rattle.deliveries.specs.Outbox.{progress_in}
use Rattle.deliveries.proofs.outbox.Outbox.insert.Goals as goal

pub returns-clause-ok : goal.returns-clause-ok
returns-clause-ok c = λ s.
    c.in_ok-insert.ensures.updates.0 s
    ∙ ap (λ box. if c.args.spawn == s then Some c.args.progress else progress_in box s) c.self.view_is
