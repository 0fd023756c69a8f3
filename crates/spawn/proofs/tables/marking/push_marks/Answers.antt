use Rattle.std.proofs.Common.{◌∙◌, Some, None, append-nil, sym, ap}
use Rattle.spawn.proofs.Shown.{marks_more}
use Rattle.spawn.specs.OutTables.{mark_in}
use Rattle.spawn.proofs.tables.marking.push_marks.Goals as goal
use Rattle.spawn.proofs.tables.marking.push_marks.Goals.{in-Some+in_ok-push, in_default}

pub loop-resource-preserved : goal.loop-resource-preserved
loop-resource-preserved c =
    let f = mark_in c.args.copies.now.changed c.args.copies.now.numbers in
    let pool = c.args.pool.now in
    let i = c.loop-resource.resource-index in
    let d = c.resource-item.result in
    let old = c.loop-resource.marks.items in
    let new = c.match-branch-2.marks.items in
    let first = c.args.marks.now.items in
    let given = c.in_ok-mark.ensures ∙ ap (λ x. f x.id) c.resource-item.is in
    elim c.match-branch-2.branch [
      | in-Some+in_ok-push w ↦
          marks_more f pool i d first old new (Some w.in-Some.mark) c.loop-resource-test.true (sym w.in-Some.is ∙ given) c.loop-resource.invariant (ap (λ v. v.items) w.marks-is ∙ w.in_ok-push.ensures.items)
      | in_default w ↦ marks_more f pool i d first old new None c.loop-resource-test.true (sym w.in_default.is ∙ given) c.loop-resource.invariant (ap (λ v. v.items) w.marks-is ∙ sym (append-nil old))
    ]
