use Rattle.std.proofs.Common.{inl, inr, refl}
use Rattle.file_commands.proofs.run.run_file.Goals as goal

pub returns-in-Ok-clause-ends : goal.returns-in-Ok-clause-ends
returns-in-Ok-clause-ends g c = inl (c.in-Ok.noted.output.text.items, c.in-Ok.noted.output.refused, c.in-Ok.noted.notes.items, c.in-Ok.ensures.ok, c.finish_noting.ensures.done)

pub returns-in-Err-clause-ends : goal.returns-in-Err-clause-ends
returns-in-Err-clause-ends g c = inr (c.in-Err.fault, c.in-Err.ensures.refused, (refl, c.give_up.ensures.told, c.give_up.ensures.status))

pub returns-in-Ok-clause-journal : goal.returns-in-Ok-clause-journal
returns-in-Ok-clause-journal g c = λ honest. inl (c.in-Ok.noted.output.text.items, c.in-Ok.noted.output.refused, c.in-Ok.noted.notes.items, c.in-Ok.ensures.journal honest, c.finish_noting.ensures.done)

pub returns-in-Err-clause-journal : goal.returns-in-Err-clause-journal
returns-in-Err-clause-journal g c = λ honest. inr (c.in-Err.fault, c.in-Err.ensures.unsaved honest, (refl, c.give_up.ensures.told, c.give_up.ensures.status))
