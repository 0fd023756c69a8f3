use Rattle.std.proofs.Common.{◌≡◌, ◌+◌, ◌-◌, ◌∙◌, ap, arith, drop}
use Rattle.job_picture.specs.Marked.{mark_of}
use Rattle.job_picture.proofs.MarkTable.{put_mark}
use Rattle.job_picture.proofs.marks.marked_by_id.Goals as goal

pub loop-place-preserved : goal.loop-place-preserved
loop-place-preserved c =
    let marks = c.args.marks.now in
    let k = c.loop-place.place - 1 in
    let next : c.loop-place.place ≡ k + 1 = omega (arith, c.loop-place-test.true) in
    put_mark marks k c.loop-place.table c.insert.new.self c.as_str.result _ (omega (arith, c.loop-place-test.true, c.loop-place.auto.place)) c.index-marks-place.is c.as_str.ensures.value c.in_ok-insert.ensures.updates
    (λ x. c.loop-place.invariant x ∙ ap (λ n. mark_of (drop n marks) x) next)
