use Rattle.std.specs.Prelude.{All}
use Rattle.shop_folder.specs.Files.{LiesIn}
use Rattle.shop_folder.proofs.files.files_in.Given as goal

abbrev pub invariant-loop-name : goal.invariant-loop-name
invariant-loop-name g l = All (LiesIn l.folder) l.found.items
