use Rattle.std.proofs.Common.{◌∙◌, ap}
use Rattle.master_core.specs.Master.{holder}
use Rattle.master_core.proofs.master.Master.holder_of.Goals as goal

pub returns : goal.returns
returns c = c.holder_of.ensures c.self.inside.records.items c.self.invariant.table ∙ ap (λ w. holder w c.args.id.now) c.self.view_is
