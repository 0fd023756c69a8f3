use Rattle.serde_json.specs.View.{view}
use Rattle.json_profile.proofs.PartOutlines.{never_no_part_tree}
use Rattle.json_profile.proofs.read.part_of.Goals as goal

pub returns-clause-tree : goal.returns-clause-tree
returns-clause-tree c = never_no_part_tree (view c.args.value.now) c.read_whole.result c.read_whole.ensures
