use Rattle.std.proofs.Common.{◌≡◌, IfOk, inl, inr, map, refl, subst}
use Rattle.rounds.specs.Line.{comings_of}
use Rattle.server_steps.specs.Journaled.{StepsJournaled, called_of_coming, step_of_call, taken_from_client}
use Rattle.server_steps.proofs.stepping.step_kept.Goals as goal

pub returns-in-Some : goal.returns-in-Some
returns-in-Some g c =
    let all = map called_of_coming (comings_of c.args.errands.items) in
    let steps = c.answer_all-answered.ensures.steps in
    record {
      steps = inl (c.in-Some.at, c.answer_all-answered.new.keep, steps);
      journaled = λ honest.
          let made = subst (λ es. IfOk c.calls_of_errands-calls.result (λ calls. map step_of_call calls.items ≡ map called_of_coming (comings_of es))) c.as_slice.ensures.value (c.calls_of_errands-calls.ensures honest) in
          let lines = subst (λ answered. StepsJournaled g.J.Journal.held g.J.Journal.is_missed c.in-Some.at all (map taken_from_client answered) c.answer_all-answered.result.1 c.args.journal.now c.journal_clients_steps.new.journal) c.as_slice-in-Some.ensures.value (c.journal_clients_steps.ensures honest all made) in
          inl (c.in-Some.at, c.answer_all-answered.new.keep, steps, lines);
    }
