use Rattle.std.proofs.Common.{◌≡◌, ◌∙◌, ◌++◌, List, Some, ap, length, refl, slice_get, subst, sym, ℕ}
use Rattle.std.proofs.lemmas.Option.{slice_get_read}
use Rattle.spawn.specs.declared.records.spawn_rec.SpawnRec.{SpawnRec}
use Rattle.job_list.specs.Work.{is_spawn}
use Rattle.list_text.specs.Lists.{master_list, spawn_line}
use Rattle.list_text.proofs.Kept.{left_out, passed}
use Rattle.list_text.proofs.lists.push_master_list.Goals.{then-is_asked+in_ok-push_spawn_line, else-is_asked}
use Rattle.list_text.proofs.lists.push_master_list.Goals as goal

pub push_spawn_line-requires : goal.push_spawn_line-requires
push_spawn_line-requires c =
    let rs = c.records-records.result.now in
    let k = c.loop-spawn.spawn-index in
    let r = c.spawn-item.result in
    let here : slice_get rs k ≡ Some r = slice_get_read rs (length rs) k r refl c.loop-spawn-test.true c.spawn-item.is in
    let there = subst (λ (xs : List SpawnRec). slice_get xs k ≡ Some r) c.records-records.ensures.records here in
    λ out. c.records-records.ensures.kept.apart.good k r there out

pub loop-spawn-preserved : goal.loop-spawn-preserved
loop-spawn-preserved c =
    let m = c.args.master.now in
    let f = spawn_line c.args.is_json c.args.now m in
    let p = is_spawn c.args.are_open in
    let rs = c.records-records.result.now in
    let k = c.loop-spawn.spawn-index in
    let r = c.spawn-item.result in
    let now = c.loop-spawn.text.items in
    let all = c.args.text.now.items ++ master_list c.args.are_open c.args.is_json c.args.now m in
    elim c.if-is_asked.branch [
      | then-is_asked+in_ok-push_spawn_line w ↦
          rw w.text-is (rw w.in_ok-push_spawn_line.ensures (passed f p rs k r now all c.loop-spawn-test.true c.spawn-item.is (sym c.is_asked.ensures ∙ w.if-is_asked.true) c.loop-spawn.invariant))
      | else-is_asked w ↦
          rw w.text-is (left_out f p rs k r now all c.loop-spawn-test.true c.spawn-item.is (sym c.is_asked.ensures ∙ w.if-is_asked.false) c.loop-spawn.invariant)
    ]
