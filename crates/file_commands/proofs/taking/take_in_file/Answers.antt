use Rattle.std.proofs.Common.{◌≡◌, true, IfOk, option_map, subst}
use Rattle.jmf_message.specs.Decoded.{IsRefusalOf}
use Rattle.journal.specs.Journal.{IsJournaled}
use Rattle.keepers.specs.InFile.{InFile}
use Rattle.keepers.specs.OnDisk.{OnDisk}
use Rattle.stored_state.specs.Addressee.{name_of}
use Rattle.stored_state.specs.AnyStep.{IsHanded}
use Rattle.stored_state.specs.Held.{KeptState}
use Rattle.stored_state.specs.declared.any_controller.AnyController.{AnyController}
use Rattle.file_commands.specs.Calls.{file_bytes, is_honest, place}
use Rattle.file_commands.specs.Commands.{GivesHeld}
use Rattle.file_commands.specs.Journaled.{IsMessageLine}
use Rattle.file_commands.proofs.Commands.{none_in_file}
use Rattle.file_commands.proofs.taking.take_in_file.Goals as goal

pub returns-in-Ok-clause-ok : goal.returns-in-Ok-clause-ok
returns-in-Ok-clause-ok g c =
    subst (λ keep. IfOk c.take_given.result (λ given. (after : KeptState AnyController (InFile OnDisk)) × GivesHeld is_honest file_bytes place (IsHanded c.args.at) c.args.bytes.now keep after given.reply (option_map (λ b. b.items) given.answer))) c.in-Ok.ensures.ok c.take_given.ensures.ok

pub returns-in-Ok-clause-refused : goal.returns-in-Ok-clause-refused
returns-in-Ok-clause-refused g c =
    none_in_file (λ bytes _. IsRefusalOf bytes) (IsHanded c.args.at) c.args.file.now c.args.bytes.now c.in-Ok.keep c.take_given.result c.in-Ok.ensures.ok c.take_given.ensures.refused

pub returns-in-Ok-clause-journal : goal.returns-in-Ok-clause-journal
returns-in-Ok-clause-journal g c =
    subst (λ keep. IfOk c.take_given.result (λ given. g.J.Journal.is_honest c.args.journal.now ≡ true → (after : KeptState AnyController (InFile OnDisk)) × GivesHeld is_honest file_bytes place (IsHanded c.args.at) c.args.bytes.now keep after given.reply (option_map (λ b. b.items) given.answer)
    × IsJournaled g.J.Journal.held g.J.Journal.is_missed (IsMessageLine (name_of after.controller) c.args.at c.args.bytes.now) given.reply c.args.journal.now c.take_given.new.journal)) c.in-Ok.ensures.ok c.take_given.ensures.journal
