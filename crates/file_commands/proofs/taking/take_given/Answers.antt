use Rattle.stored_state.specs.Opened.{kept_of}
use Rattle.file_commands.proofs.taking.take_given.Goals as goal

pub returns-clause-journal : goal.returns-clause-journal
returns-clause-journal g c = λ honest. (kept_of c.in_ok-given.opened, c.in_ok-given.ensures.ok, c.in_ok-given.ensures.journal honest)
