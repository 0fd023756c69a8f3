use Rattle.std.proofs.Common.{[], take}
use Rattle.etcd_place.specs.NamedFolder.{named_folder}
use Rattle.server_steps.specs.Listed.{AddsAllListed}
use Rattle.server_steps.proofs.etcd_folder.controllers_of.Given as goal

-- those of the keys so far
abbrev pub invariant-loop-key : goal.invariant-loop-key
invariant-loop-key l = AddsAllListed l.path (named_folder l.folder).name (take l.key-index l.keys) [] l.found.items
