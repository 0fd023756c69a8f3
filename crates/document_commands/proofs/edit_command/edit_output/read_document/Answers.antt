use Rattle.std.proofs.Common.{Ok, subst}
use Rattle.document_commands.specs.EditCommand.Document.{IsReadRaw}
use Rattle.document_commands.proofs.Documents.{refused_late}
use Rattle.document_commands.proofs.edit_command.edit_output.read_document.Goals as goal

pub returns-in_err-ticket-clause-refused : goal.returns-in_err-ticket-clause-refused
returns-in_err-ticket-clause-refused c =
    let found = subst (λ input. IsReadRaw input (Ok c.in_ok-at.field-0)) c.as_slice.ensures.value c.in_ok-at.ensures.found in
    refused_late c.from_residual-in_err-ticket.result c.args.input.items c.in_ok-at.field-0 c.in_err-ticket.field-0.0 c.from_residual-in_err-ticket.ensures.1 found c.in_err-ticket.ensures.err
