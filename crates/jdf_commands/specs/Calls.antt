-- How a call of a document ends.
use Rattle.std.specs.Prelude.{ℕ, option_map}
use Rattle.document_commands.specs.CheckCommand.Run.{EndsCheck}
use Rattle.document_commands.specs.EditCommand.Document as edit_document
use Rattle.document_commands.specs.EditCommand.Run as edit_run
use Rattle.document_commands.specs.ExplainCommand.{EndsExplain}
use Rattle.jdf_words.specs.declared.document_call.DocumentCall.{DocumentCall}
use Rattle.jdf_words.specs.declared.document_call.DocumentCall.TheVariants.{Check, Edit}
use Rattle.jdf_words.specs.declared.document_call.DocumentCall.TheVariants.{Explain, World}
use Rattle.streams.specs.Ends.{Ends}
use Rattle.streams.specs.Streams.{Traffic}
use Rattle.world_script.specs.Script as world_script
use Rattle.jdf_commands.specs.WorldCommand.Run as world_run

-- it ends as its command does
abbrev pub EndsDocument : DocumentCall → Traffic → Traffic → Traffic → ℕ → Type 0
EndsDocument Edit input output told status =
    Ends edit_run.IsOutput edit_document.IsRefusalOf input output told status
EndsDocument World input output told status =
    Ends world_run.IsOutput world_script.IsRefusalOf input output told status
EndsDocument (Check kind all) input output told status =
    EndsCheck (option_map (λ word. word.now) kind) all input output told status
EndsDocument (Explain number) input output told status =
    EndsExplain number.now input output told status
