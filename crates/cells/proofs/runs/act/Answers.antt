use Rattle.std.proofs.Common.{◌≡◌, ℕ, Bool, true, false, refl, sym, ◌∙◌, ap, subst}
use Rattle.std.specs.Prelude.{IfOk, IfSome}
use Rattle.cells.specs.Calls.{Swaps}
use Rattle.cells.specs.Keeping.{after_swap, swap_of}
use Rattle.cells.specs.Runs.{Acts}
use Rattle.cells.specs.declared.act.Act.{Act}
use Rattle.cells.proofs.Acting.{acts_read, acts_swap, acts_touch, on_err}
use Rattle.cells.proofs.runs.act.Goals as goal

pub returns-in-Read : goal.returns-in-Read
returns-in-Read g c honest =
    subst (λ (a : Act). Acts a c.args.holder.now c.read.new.self (g.C.Cell.view c.args.cell.now) (g.C.Cell.view c.read.new.cell)) (sym c.in-Read.is)
    (acts_read c.args.holder.now c.read.new.self _ _ c.read.result c.args.holder.now.is_open refl (λ opened. ((c.read.ensures.open opened).1, ap g.C.Cell.view (c.read.ensures.open opened).2)) (c.read.ensures.goes honest) (c.read.ensures.ok honest) c.read.ensures.err)

pub returns-in-Swap : goal.returns-in-Swap
returns-in-Swap g c honest =
    subst (λ (a : Act). Acts a c.args.holder.now c.swap.new.self (g.C.Cell.view c.args.cell.now) (g.C.Cell.view c.swap.new.cell)) (sym c.in-Swap.is)
    (acts_swap c.in-Swap.bytes c.args.holder.now c.swap.new.self _ _ c.swap.result (λ is. let e = on_err _ c.swap.result c.swap.ensures.err is in (e.0, ap g.C.Cell.view e.1)) c.swap.ensures.sent (subst (λ l. IfOk c.swap.result (λ answer. IfSome c.args.holder.now.has (λ v. Swaps (g.C.Cell.view c.args.cell.now) (swap_of v l) (g.C.Cell.view c.swap.new.cell) answer))) c.as_slice.ensures.value (c.swap.ensures.swaps honest)) (subst (λ l. IfOk c.swap.result (λ answer. c.swap.new.self ≡ after_swap answer l c.args.holder.now)) c.as_slice.ensures.value c.swap.ensures.after))

pub returns-in-Touch : goal.returns-in-Touch
returns-in-Touch g c honest =
    subst (λ (a : Act). Acts a c.args.holder.now c.touch.new.self (g.C.Cell.view c.args.cell.now) (g.C.Cell.view c.touch.new.cell)) (sym c.in-Touch.is)
    (acts_touch c.args.holder.now c.touch.new.self _ _ c.touch.result (λ none. ((c.touch.ensures.none none).0, ap g.C.Cell.view (c.touch.ensures.none none).1)) c.touch.ensures.some (c.touch.ensures.swaps honest) c.touch.ensures.after)
