use Rattle.std.specs.Prelude.{All}
use Rattle.shop_folder.specs.Files.{LiesIn}
use Rattle.shop_folder.proofs.files.push_workers.Given as goal

abbrev pub invariant-loop-master : goal.invariant-loop-master
invariant-loop-master g l = All (LiesIn l.folder) l.found.items
