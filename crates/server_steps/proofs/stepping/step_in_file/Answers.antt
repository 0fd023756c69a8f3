use Rattle.std.proofs.Common.{◌≡◌, IfSome, subst}
use Rattle.keepers.specs.SystemFile.{count, file_bytes, is_honest, keep_in_file, load_fails, place, save_fails}
use Rattle.server_steps.specs.Steps.{StepsKept}
use Rattle.server_steps.specs.Journaled.{KeepsJournal}
use Rattle.server_steps.proofs.stepping.step_in_file.Goals as goal

pub returns-in-Ok-Some : goal.returns-in-Ok-Some
returns-in-Ok-Some g c =
    let locked = subst (λ found. IfSome found (λ keep. keep ≡ keep_in_file c.args.path.now)) c.in-Ok-Some.field-0-is c.in-Ok-Some.ensures.ok in
    let answered = c.step_kept-answered.result.0.items in
    let saved = c.step_kept-answered.result.1 in
    let es = c.args.errands.items in
    record {
      steps = subst (λ keep. StepsKept is_honest file_bytes place count load_fails save_fails keep c.args.to c.args.now es answered saved) locked c.step_kept-answered.ensures.steps;
      journaled = λ honest.
          subst (λ keep. KeepsJournal is_honest file_bytes place count load_fails save_fails g.J.Journal.held g.J.Journal.is_missed keep c.args.to c.args.now es answered saved c.args.journal.now c.step_kept-answered.new.journal) locked (c.step_kept-answered.ensures.journaled honest);
    }
