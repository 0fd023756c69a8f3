use Rattle.std.proofs.Common.{refl}
use Rattle.json_source.proofs.Entries.{all_found, one_found}
use Rattle.json_source.proofs.tree_source.by_name.Goals as goal

pub loop-name-preserved : goal.loop-name-preserved
loop-name-preserved c =
    one_found c.args.members.now c.loop-name.name-index c.loop-name-item.result c.loop-name-item.result.0 _ c.loop-name.found.entries c.insert.new.self.entries _ c.loop-name.invariant c.loop-name-test.true c.loop-name-item.is refl refl c.in_ok-insert.ensures.entries

pub returns : goal.returns
returns c = all_found c.args.members.now c.loop-name.name-index _ _ c.loop-name.invariant c.loop-name-test.false
