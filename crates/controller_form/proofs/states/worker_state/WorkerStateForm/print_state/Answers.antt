use Rattle.std.proofs.Common.{codes, refl}
use Rattle.json_text.proofs.PrintedObjects.{opened, one_member, keyed, closed}
use Rattle.controller_form.specs.declared.states.format.Format.TheVariants.{First, Second}
use Rattle.controller_form.proofs.WorkerAgain.{all_told, worker_again}
use Rattle.controller_form.proofs.Reading.{on_any}
use Rattle.controller_form.proofs.Shape.{worker_nests, worker_plain}
use Rattle.controller_form.proofs.states.worker_state.WorkerStateForm.print_state.Goals as goal

pub returns-clause-printed : goal.returns-clause-printed
returns-clause-printed c =
    let o0 = opened c.begin_object.result c.args.out.now c.begin_object.new.self c.begin_object.ensures c.in_ok-begin_object.ensures.ok in
    let o1 = one_member _ _ c.print_member.new.out o0 c.in_ok-print_member.ensures.printed c.in_ok-print_member.ensures.again in
    let o2 = one_member (codes "Worker") _ c.print_worker.new.out o1 (keyed (codes "Worker") c.print_member.new.out c.key.new.self c.print_worker.new.out c.in_ok-key.ensures.ok c.key.ensures.room.0 c.in_ok-print_worker.ensures.printed) c.in_ok-print_worker.ensures.printed.again in
    closed c.end_object.result c.end_object.new.self o2 c.end_object.ensures refl

pub returns-clause-again : goal.returns-clause-again
returns-clause-again c = on_any c.end_object.result (worker_again Second c.args.self.now c.in_ok-print_worker.ensures.known (all_told c.args.self.now.entries))

pub returns-clause-first : goal.returns-clause-first
returns-clause-first c = on_any c.end_object.result (λ told. worker_again First c.args.self.now c.in_ok-print_worker.ensures.known told)

pub returns-clause-plain : goal.returns-clause-plain
returns-clause-plain c = on_any c.end_object.result (worker_plain c.args.self.now c.in_ok-print_worker.ensures.known)

pub returns-clause-nests : goal.returns-clause-nests
returns-clause-nests c = on_any c.end_object.result (worker_nests c.args.self.now c.in_ok-print_worker.ensures.known)
