use Rattle.std.proofs.Common.{[], subst}
use Rattle.std.proofs.lemmas.List.{take_all}
use Rattle.etcd_place.specs.NamedFolder.{named_folder}
use Rattle.server_steps.specs.Listed.{AddsAllListed}
use Rattle.server_steps.proofs.ListedFiles.{next_listed}
use Rattle.server_steps.proofs.etcd_folder.controllers_of.Goals as goal

pub loop-key-preserved : goal.loop-key-preserved
loop-key-preserved c =
    next_listed c.args.path.now (named_folder c.args.folder.now).name c.args.keys.now c.loop-key.key-index c.key-item.result [] c.loop-key.found.items c.push_key.new.found.items c.loop-key-test.true c.key-item.is
    c.loop-key.invariant c.in_ok-push_key.ensures

pub returns : goal.returns
returns c =
    subst (λ keys. AddsAllListed c.args.path.now (named_folder c.args.folder.now).name keys [] c.loop-key.found.items) (take_all c.loop-key.key-index c.args.keys.now c.loop-key-test.false) c.loop-key.invariant
