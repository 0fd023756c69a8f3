use Rattle.std.proofs.Common.{◌≡◌, true, option_map}
use Rattle.std.proofs.lemmas.Result.{IfOk-weaker}
use Rattle.file_commands.specs.Journaled.{JournalsNone}
use Rattle.file_commands.proofs.Journaled.{told_on, untold_given}
use Rattle.file_commands.proofs.ordering.order_output.Goals as goal

pub returns-in_err-given-clause-unsaved : goal.returns-in_err-given-clause-unsaved
returns-in_err-given-clause-unsaved g c =
    told_on (λ fault. g.J.Journal.is_honest c.args.journal.now ≡ true → JournalsNone g.J.Journal.held g.J.Journal.is_missed c.args.journal.now c.order_in_file.new.journal fault)
    c.from_residual.result _ c.from_residual.ensures.1 c.in_err-given.ensures.unsaved

pub returns-clause-journal : goal.returns-clause-journal
returns-clause-journal g c =
    IfOk-weaker c.order_noted.result _ _
    (λ noted written honest.
    let lines = c.in_ok-given.ensures.journal honest in
    (c.in_ok-given.given.reply, option_map (λ b. b.items) c.in_ok-given.given.message, (lines.0, lines.1), written))
    c.order_noted.ensures.lines

pub returns-clause-unsaved : goal.returns-clause-unsaved
returns-clause-unsaved g c = untold_given _ _ c.order_noted.result c.order_noted.ensures.memory
