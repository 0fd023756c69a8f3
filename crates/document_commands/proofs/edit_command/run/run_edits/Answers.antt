use Rattle.std.proofs.Common.{length, rules, arith}
use Rattle.std.proofs.lemmas.Iterator.Adapters.{YieldsList-from_vec}
use Rattle.std.proofs.lemmas.Iterator.Consumers.{YieldsList-end, YieldsList-turn}
use Rattle.std.proofs.lemmas.List.{length_push}
use Rattle.document_commands.proofs.Runs.{run_more, run_all}
use Rattle.document_commands.proofs.edit_command.run.run_edits.Goals as goal

pub loop-edit-preserved : goal.loop-edit-preserved
loop-edit-preserved c =
    let all = YieldsList-from_vec {s = c.into_iter-edit-iterator.result} c.args.edits.items (search rules) (search rules) in
    let turn = YieldsList-turn all c.loop-edit.yielded c.loop-edit.edit-iterator c.loop-edit.yielded_by c.next.result c.next.new.self c.in-Some.edit c.in-Some.is c.next.ensures.steps in
    rw (length_push c.loop-edit.yielded c.in-Some.edit)
    (run_more c.args.ticket.now c.args.at c.args.edits.items (length c.loop-edit.yielded) c.in-Some.edit _ _ _ _ _ _ _ _ c.loop-edit.invariant turn.0 turn.1
    c.apply_edit-outcome.ensures.outcome c.apply_edit-outcome.ensures.after c.in_ok-push_line.ensures c.is_refused-refused.ensures)

pub returns-clause-done : goal.returns-clause-done
returns-clause-done c =
    let all = YieldsList-from_vec {s = c.into_iter-edit-iterator.result} c.args.edits.items (search rules) (search rules) in
    let end = YieldsList-end all c.loop-edit.yielded c.loop-edit.edit-iterator c.loop-edit.yielded_by c.next.result c.next.new.self c.in-None.is c.next.ensures.steps in
    run_all c.args.ticket.now c.args.at c.args.edits.items (length c.loop-edit.yielded) _ _ _ _ c.loop-edit.invariant (omega (arith, end.1))
