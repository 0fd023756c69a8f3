use Rattle.std.proofs.Common.{◌≡◌, drop}
use Rattle.spawn.specs.Walk.{unmet_behind_all}
use Rattle.spawn.proofs.records.good.meet_pool.Given as goal

-- what is left in the end is what is left behind the other resources
abbrev pub invariant-loop-resource : goal.invariant-loop-resource
invariant-loop-resource l =
    unmet_behind_all l.inside l.rw (drop l.resource-index l.pool) (l.left.rw.now, l.left.ro.now) ≡ unmet_behind_all l.inside l.rw l.pool (l.fn.left.rw.now, l.fn.left.ro.now)
