use Rattle.std.proofs.Common.{◌≡◌, ◌∙◌, true, ap, inl, option_map}
use Rattle.file_commands.specs.Journaled.{JournalsNone}
use Rattle.file_commands.proofs.Journaled.{told_on}
use Rattle.file_commands.proofs.taking.take_output.Goals as goal

pub returns-in_err-given-clause-unsaved : goal.returns-in_err-given-clause-unsaved
returns-in_err-given-clause-unsaved g c =
    told_on (λ fault. g.J.Journal.is_honest c.args.journal.now ≡ true → JournalsNone g.J.Journal.held g.J.Journal.is_missed c.args.journal.now c.take_input.new.journal fault)
    c.from_residual.result _ c.from_residual.ensures.1 (λ honest. inl (c.in_err-given.ensures.unsaved honest))

pub returns-in-Ok-clause-journal : goal.returns-in-Ok-clause-journal
returns-in-Ok-clause-journal g c = λ honest.
    (c.in_ok-given.given.reply, option_map (λ b. b.items) c.in_ok-given.given.answer, c.in_ok-given.ensures.journal honest, ap (λ output. output.text.items) c.without_notes.ensures.output ∙ c.in-Ok.ensures.lines)
