use Rattle.std.proofs.Common.{◌≡◌, ◌++◌, drop, filter}
use Rattle.shop_page.specs.Delays.{is_late}
use Rattle.shop_page.proofs.picked.late_of.Given as goal

abbrev pub invariant-loop-one : goal.invariant-loop-one
invariant-loop-one l = l.found.items ++ filter (is_late l.now) (drop l.one-index l.works) ≡ filter (is_late l.now) l.works
