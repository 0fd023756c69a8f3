use Rattle.std.proofs.Common.{◌≡◌, IfOk, map, subst}
use Rattle.server_steps.specs.Journaled.{StepsJournaled, called_of_coming, step_of_call, taken_from_result}
use Rattle.server_steps.proofs.stepping.step_own_kept.Goals as goal

pub returns-in-Ok : goal.returns-in-Ok
returns-in-Ok g c =
    record {
      steps = (c.take_round.new.self, c.in-Ok.ensures.ok);
      journaled = λ honest.
          let made = subst (λ all. IfOk c.calls_of_comings-calls.result (λ calls. map step_of_call calls.items ≡ map called_of_coming all)) c.as_slice.ensures.value (c.calls_of_comings-calls.ensures honest) in
          subst (λ given. StepsJournaled g.J.Journal.held g.J.Journal.is_missed c.args.at (map called_of_coming c.args.all.items) (map taken_from_result given) c.in-Ok.saved c.args.journal.now c.journal_own_steps.new.journal) c.as_slice-in-Ok.ensures.value (c.journal_own_steps.ensures honest (map called_of_coming c.args.all.items) made);
    }
