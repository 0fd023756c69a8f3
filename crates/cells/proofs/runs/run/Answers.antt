use Rattle.std.proofs.Common.{◌≡◌, ◌<◌, ◌++◌, ◌∷◌, [], List, length, take, set, ◌+◌, ◌∙◌, sym, ap, subst}
use Rattle.std.specs.Prelude.{Option}
use Rattle.std.proofs.lemmas.List.{length-set}
use Rattle.cells.specs.Chain.{Version}
use Rattle.cells.specs.Runs.{history_of}
use Rattle.cells.specs.declared.call.Call.{Call}
use Rattle.cells.proofs.Chained.{IsSound, run_next, told_more}
use Rattle.cells.proofs.runs.run.Goals as goal

pub loop-call-preserved : goal.loop-call-preserved
loop-call-preserved g c =
    let calls = c.args.calls.now in
    let i = c.loop-call.call-index in
    let call = c.call-item.result in
    let told = c.loop-call.told.items in
    let holders = c.loop-call.holders.items in
    let new = c.act.new.holder in
    let items : c.push.new.self.items ≡ told ++ new.has ∷ [] = c.in_ok-push.ensures.items ∙ ap (λ (has : Option Version). told ++ has ∷ []) c.in_ok-copy_of.ensures in
    let in_count : call.holder < c.args.count = subst (λ (x : Call). x.holder < c.args.count) (sym c.call-item.is) (c.requires i call c.loop-call-test.true) in
    let inside : call.holder < length holders = subst (λ n. call.holder < n) (sym c.loop-call.invariant.1) in_count in (
      ap length items ∙ told_more calls i call told new.has c.loop-call-test.true c.loop-call.invariant.0,
      length-set holders call.holder new ∙ c.loop-call.invariant.1,
      λ honest rises none. subst (λ (t : List (Option Version)). IsSound (history_of (take (i + 1) calls) t) (g.C.Cell.view c.args.cell.now).chain (g.C.Cell.view c.act.new.cell) (set holders call.holder new)) (sym items)
          (run_next calls i call _ _ _ told holders c.index_mut-holder.result.now new c.loop-call-test.true c.call-item.is inside c.index_mut-holder.ensures.value c.loop-call.invariant.0 (c.loop-call.invariant.2 honest rises none) (c.act.ensures honest)),
    )
