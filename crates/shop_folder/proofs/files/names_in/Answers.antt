use Rattle.std.proofs.lemmas.List.Sorted.{All-permutation}
use Rattle.shop_folder.specs.Files.{IsNamed}
use Rattle.shop_folder.proofs.files.names_in.Goals as goal

pub returns : goal.returns
returns g c = All-permutation IsNamed c.loop-entry.names.items c.sort.new.self.items c.in_ok-sort.ensures.permutation c.loop-entry.invariant
