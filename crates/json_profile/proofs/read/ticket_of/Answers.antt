use Rattle.serde_json.specs.View.{view}
use Rattle.json_profile.proofs.Outlines.{never_no_tree}
use Rattle.json_profile.proofs.read.ticket_of.Goals as goal

pub returns-clause-tree : goal.returns-clause-tree
returns-clause-tree c = never_no_tree (view c.args.value.now) c.read_whole.result c.read_whole.ensures
