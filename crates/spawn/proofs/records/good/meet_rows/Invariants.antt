use Rattle.std.proofs.Common.{◌≡◌, drop}
use Rattle.spawn.specs.Parts.{resources}
use Rattle.spawn.specs.Walk.{unmet_behind_all}
use Rattle.spawn.proofs.records.good.meet_rows.Given as goal

-- what is left in the end is what is left behind the resources of the other rows
abbrev pub invariant-loop-place : goal.invariant-loop-place
invariant-loop-place l =
    unmet_behind_all l.inside l.rw (resources (drop l.place l.rows)) (l.left.rw.now, l.left.ro.now) ≡ unmet_behind_all l.inside l.rw (resources l.rows) (l.fn.left.rw.now, l.fn.left.ro.now)
