use Rattle.document_commands.proofs.check_command.run.tell_no_kind.Goals as goal

pub returns-clause-errors : goal.returns-clause-errors
returns-clause-errors g c = c.tell_text.ensures
