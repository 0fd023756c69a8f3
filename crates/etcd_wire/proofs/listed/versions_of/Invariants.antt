-- The versions so far are those of what came so far.
use Rattle.std.proofs.Common.{map, take}
use Rattle.json.specs.Value.{value_view}
use Rattle.etcd_wire.specs.Answer.{AreKeyVersions}
use Rattle.etcd_wire.proofs.listed.versions_of.Given as goal

abbrev pub invariant-loop-pair : goal.invariant-loop-pair
invariant-loop-pair l = AreKeyVersions (map value_view (take l.pair-index l.pairs)) l.versions.items
