use Rattle.server_steps.proofs.JournalLines.{no_bytes, none_journaled, some_bytes, some_journaled}
use Rattle.server_steps.proofs.journaling.append_made.Goals as goal

pub returns-then-is_empty : goal.returns-then-is_empty
returns-then-is_empty g c =
    λ honest. none_journaled g.J.Journal.held g.J.Journal.is_missed c.args.lines.now c.args.journal.now (no_bytes c.args.lines.now c.is_empty.result c.is_empty.ensures c.if-is_empty.true)

pub returns : goal.returns
returns g c =
    λ honest. some_journaled g.J.Journal.held g.J.Journal.is_missed c.args.lines.now c.args.journal.now c.append.new.self c.append.result (λ none. some_bytes c.args.lines.now c.is_empty.result c.is_empty.ensures c.if-is_empty.false none) (c.append.ensures.lines honest)
