use Rattle.std.proofs.Common.{option_map}
use Rattle.stored_state.specs.AnyStep.{IsNoOrder, IsOrdered}
use Rattle.stored_state.specs.Opened.{kept_of}
use Rattle.file_commands.proofs.Commands.{untold}
use Rattle.file_commands.proofs.Journaled as journaled
use Rattle.file_commands.proofs.ordering.order_given.Goals as goal

pub returns-in_err-notes-clause-refused : goal.returns-in_err-notes-clause-refused
returns-in_err-notes-clause-refused g c =
    untold g.K.Keep.is_honest g.K.Keep.held g.K.Keep.place g.K.Keep.count g.K.Keep.load_fails g.K.Keep.save_fails IsNoOrder (IsOrdered c.args.at) c.args.input.now c.args.keep (kept_of c.in_ok-given.opened) c.in_ok-given.given.reply
    (option_map (λ b. b.items) c.in_ok-given.given.message) c.from_residual-in_err-notes.result c.from_residual-in_err-notes.ensures.1 c.in_ok-given.ensures.ok

pub returns-clause-journal : goal.returns-clause-journal
returns-clause-journal g c = λ honest. (kept_of c.in_ok-given.opened, c.in_ok-given.ensures.ok, c.in_ok-given.ensures.journal honest)

pub returns-in_err-notes-clause-unsaved : goal.returns-in_err-notes-clause-unsaved
returns-in_err-notes-clause-unsaved g c = journaled.untold _ _ c.from_residual-in_err-notes.result c.from_residual-in_err-notes.ensures.1
