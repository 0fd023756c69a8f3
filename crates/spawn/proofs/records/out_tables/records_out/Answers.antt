use Rattle.std.proofs.Common.{◌∙◌, ◌++◌, ◌∷◌, [], take, sym, ap}
use Rattle.std.proofs.lemmas.List.{map_push}
use Rattle.spawn.proofs.OutSteps.{spawns_in, out_more, out_same}
use Rattle.spawn.specs.Marking.{records_out}
use Rattle.spawn.specs.Records.{is_out}
use Rattle.spawn.proofs.records.out_tables.records_out.Goals as goal
use Rattle.spawn.proofs.records.out_tables.records_out.Goals.{then-is_out+in_ok-push, else-is_out}

pub loop-spawn-preserved : goal.loop-spawn-preserved
loop-spawn-preserved c =
    let recs = c.args.records.now in
    let i = c.loop-spawn.spawn-index in
    let d = c.spawn-item.result in
    let tested = ap is_out (sym c.spawn-item.is) ∙ sym c.is_out.ensures in
    elim c.if-is_out.branch [
      | then-is_out+in_ok-push w ↦
          ap (λ v. spawns_in v.items) w.out-is ∙ ap spawns_in w.in_ok-push.ensures.items ∙ map_push (λ s. s.now) c.loop-spawn.out.items _ ∙ ap (λ rs. rs ++ d ∷ []) c.loop-spawn.invariant
          ∙ ap (λ r. records_out (take i recs) ++ r ∷ []) c.spawn-item.is ∙ sym (out_more recs i d c.loop-spawn-test.true (tested ∙ w.if-is_out.true))
      | else-is_out w ↦ ap (λ v. spawns_in v.items) w.out-is ∙ c.loop-spawn.invariant ∙ sym (out_same recs i d c.loop-spawn-test.true (tested ∙ w.if-is_out.false))
    ]
