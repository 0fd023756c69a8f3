use Rattle.std.proofs.Common.{◌≡◌, true, IfOk, option_map, subst}
use Rattle.journal.specs.Journal.{IsJournaled}
use Rattle.journal.specs.Line.{who}
use Rattle.keepers.specs.InFile.{InFile}
use Rattle.keepers.specs.OnDisk.{OnDisk}
use Rattle.stored_state.specs.Addressee.{name_of}
use Rattle.stored_state.specs.AnyStep.{IsNoOrder, IsOrdered}
use Rattle.stored_state.specs.Held.{KeptState}
use Rattle.stored_state.specs.declared.any_controller.AnyController.{AnyController}
use Rattle.file_commands.specs.Calls.{file_bytes, is_honest, place}
use Rattle.file_commands.specs.Commands.{GivesHeld, GivesNoting}
use Rattle.file_commands.specs.Journaled.{IsOrderLine}
use Rattle.file_commands.specs.Notes.{notes_of_order}
use Rattle.file_commands.proofs.Commands.{none_in_file}
use Rattle.file_commands.proofs.ordering.order_locked.Goals as goal

pub returns-in-Ok-clause-ok : goal.returns-in-Ok-clause-ok
returns-in-Ok-clause-ok g c =
    subst (λ keep. IfOk c.order_given.result (λ given. GivesNoting (λ after. GivesHeld is_honest file_bytes place (IsOrdered c.args.at) c.args.input.now keep after given.reply (option_map (λ b. b.items) given.message)) (notes_of_order given.reply) given.notes.items)) c.in-Ok.ensures.ok c.order_given.ensures.ok

pub returns-in-Ok-clause-refused : goal.returns-in-Ok-clause-refused
returns-in-Ok-clause-refused g c =
    none_in_file IsNoOrder (IsOrdered c.args.at) c.args.file.now c.args.input.now c.in-Ok.keep c.order_given.result c.in-Ok.ensures.ok c.order_given.ensures.refused

pub returns-in-Ok-clause-journal : goal.returns-in-Ok-clause-journal
returns-in-Ok-clause-journal g c =
    subst (λ keep. IfOk c.order_given.result (λ given. g.J.Journal.is_honest c.args.journal.now ≡ true → (after : KeptState AnyController (InFile OnDisk)) × GivesHeld is_honest file_bytes place (IsOrdered c.args.at) c.args.input.now keep after given.reply (option_map (λ b. b.items) given.message)
    × IsJournaled g.J.Journal.held g.J.Journal.is_missed (IsOrderLine (who c.args.by) (name_of after.controller) c.args.at c.args.input.now) given.reply c.args.journal.now c.order_given.new.journal)) c.in-Ok.ensures.ok c.order_given.ensures.journal
