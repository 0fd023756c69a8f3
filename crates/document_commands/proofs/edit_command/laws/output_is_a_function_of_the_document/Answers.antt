use Rattle.document_commands.proofs.Runs.{one_output}
use Rattle.document_commands.proofs.edit_command.laws.output_is_a_function_of_the_document.Goals as goal

pub returns : goal.returns
returns c = one_output
