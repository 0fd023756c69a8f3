use Rattle.std.proofs.Common.{None, Some, subst}
use Rattle.spawn.proofs.Holdings.{others_stay, undone}
use Rattle.spawn.specs.Holdings.{IsGiven, claims}
use Rattle.spawn.proofs.spawns.spawning.hold.Goals as goal

pub returns-in-Err-clause-holders_stay : goal.returns-in-Err-clause-holders_stay
returns-in-Err-clause-holders_stay c =
    let t = c.args.ticket.now in
    let r = c.args.spawn.now in
    let f = claims t.rows r in
    undone f c.args.holders.now c.take.new.self c.free.new.self
    (others_stay f (Some r.id) c.args.holders.now c.take.new.self c.in_ok-take.ensures.ok)
    (subst (λ u. IsGiven (claims u.rows r) None c.take.new.self c.free.new.self) c.in-Err.ensures.err c.free.ensures.given)
    c.requires.free
