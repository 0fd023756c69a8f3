use Rattle.spawn.proofs.Lawful.{placed}
use Rattle.master_core.specs.Master.{is_of}
use Rattle.master_core.proofs.master.Master.do_resend.Goals as goal

pub submit_of-requires-clause-good : goal.submit_of-requires-clause-good
submit_of-requires-clause-good c =
    let r = c.in_ok-record.record.now in
    let own = c.in_ok-record.ensures.found in
    let place = placed (is_of c.args.spawn) c.args.self.now.records r own.1 in
    c.in_ok-record.ensures.kept.apart.good place.place r place.there own.0
