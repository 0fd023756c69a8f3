use Rattle.std.proofs.Common.{◌≡◌, ◌++◌, drop, filter}
use Rattle.shop_page.specs.Delays.{is_refused}
use Rattle.shop_page.proofs.picked.refused_works.Given as goal

abbrev pub invariant-loop-one : goal.invariant-loop-one
invariant-loop-one l = l.found.items ++ filter is_refused (drop l.one-index l.works) ≡ filter is_refused l.works
