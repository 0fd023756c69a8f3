use Rattle.worker_core.proofs.Kept.{kept_told}
use Rattle.worker_core.specs.Worker.{state}
use Rattle.worker_core.proofs.worker.Worker.take.Goals as goal

pub invariant_of-self : goal.invariant_of-self
invariant_of-self c =
    let w = state c.self.inside.name c.self.inside.master c.self.inside.entries in
    kept_told c.do_take.result c.args.message c.args.at w c.do_take.new.entries c.do_take.ensures.state c.do_take.ensures.err c.do_take.ensures.valid c.self.invariant
