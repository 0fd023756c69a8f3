use Rattle.std.proofs.Common.{◌≡◌, ◌++◌, drop, string_bytes}
use Rattle.shop_page.specs.Page.{each_row}
use Rattle.shop_page.proofs.tables.each_row.Given as goal

abbrev pub invariant-loop-one : goal.invariant-loop-one
invariant-loop-one l = string_bytes l.rows ++ each_row l.now (drop l.one-index l.works) ≡ each_row l.now l.works
