use Rattle.std.specs.Prelude.{All}
use Rattle.shop_folder.specs.Files.{IsNamed}
use Rattle.shop_folder.proofs.files.names_in.Given as goal

abbrev pub invariant-loop-entry : goal.invariant-loop-entry
invariant-loop-entry g l = All IsNamed l.names.items
