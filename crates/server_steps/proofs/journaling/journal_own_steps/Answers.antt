use Rattle.std.proofs.Common.{◌≡◌, ◌∙◌, ap, map, IfOk, subst, sym}
use Rattle.stored_state.specs.Addressee.{name_of}
use Rattle.server_steps.specs.Journaled.{AreJournaled, StepsJournaled, lines_for, step_of_call, taken_from_result}
use Rattle.server_steps.proofs.JournalLines.{made_journaled}
use Rattle.server_steps.proofs.journaling.journal_own_steps.Goals as goal

pub returns-in-Ok : goal.returns-in-Ok
returns-in-Ok g c =
    λ honest all is.
    let so = subst (λ calls. IfOk calls (λ known. map step_of_call known.items ≡ all)) c.in-Ok.is is in
    let taken = map taken_from_result c.args.given.now in
    let seen = made_journaled g.J.Journal.held g.J.Journal.is_missed _ c.args.journal.now c.append.new.journal c.given_lines.result c.given_lines.ensures (c.append.ensures honest) in
    let whose = subst (λ one. AreJournaled g.J.Journal.held g.J.Journal.is_missed (lines_for (name_of one) c.args.at (map step_of_call c.as_slice.result.now) taken) c.args.journal.now c.append.new.journal) c.controller.ensures seen in
    subst (λ one. StepsJournaled g.J.Journal.held g.J.Journal.is_missed c.args.at all taken one c.args.journal.now c.append.new.journal) (sym c.in-Some.is)
    (subst (λ calls. AreJournaled g.J.Journal.held g.J.Journal.is_missed (lines_for (name_of c.in-Some.saved) c.args.at calls taken) c.args.journal.now c.append.new.journal) (ap (map step_of_call) c.as_slice.ensures.value ∙ so) whose)
