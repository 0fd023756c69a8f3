use Rattle.std.proofs.Common.{◌≡◌, ◌++◌, drop, string_bytes}
use Rattle.shop_page.specs.Metrics.{lines_of}
use Rattle.shop_page.proofs.of_controllers.lines_of.Given as goal

abbrev pub invariant-loop-one : goal.invariant-loop-one
invariant-loop-one l =
    string_bytes l.lines ++ lines_of l.name l.gauge (drop l.one-index l.all) ≡ lines_of l.name l.gauge l.all
