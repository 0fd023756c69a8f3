use Rattle.document_commands.proofs.explain_command.tell_no_refusal.Goals as goal

pub returns-clause-errors : goal.returns-clause-errors
returns-clause-errors g c = c.tell_text.ensures
