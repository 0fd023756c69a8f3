use Rattle.std.proofs.Common.{inl, inr, refl, subst, sym, ◌∙◌, ap}
use Rattle.streams.specs.Fault.{fault_status}
use Rattle.streams.specs.Streams.{traffic}
use Rattle.document_commands.specs.Caused.{TellsCaused}
use Rattle.cell_commands.proofs.run.run_in_cell.Goals as goal

pub returns-in-Ok-clause-ends : goal.returns-in-Ok-clause-ends
returns-in-Ok-clause-ends g c = inl (c.in-Ok.noted.output.text.items, c.in-Ok.noted.output.refused, c.in-Ok.noted.notes.items, c.in-Ok.ensures.ok, c.finish_noting.ensures.done)

pub returns-in-Err-clause-ends : goal.returns-in-Err-clause-ends
returns-in-Err-clause-ends g c =
    inr (
      c.in-Err.fault,
      c.in-Err.ensures.refused,
      (
        refl,
        subst (λ f. TellsCaused f (traffic g.F.Write.contents c.args.faults.now c.give_up_caused.new.faults)) c.caused_by.ensures c.give_up_caused.ensures.errors,
        c.give_up_caused.ensures.status ∙ ap fault_status c.caused_by.ensures,
      ),
    )

pub returns-in-Ok-clause-journal : goal.returns-in-Ok-clause-journal
returns-in-Ok-clause-journal g c = λ honest.
    let lines = c.in-Ok.ensures.journal honest in
    inl (c.in-Ok.noted.output.text.items, c.in-Ok.noted.output.refused, c.in-Ok.noted.notes.items, lines.0, lines.1, c.finish_noting.ensures.done)

pub returns-in-Err-clause-journal : goal.returns-in-Err-clause-journal
returns-in-Err-clause-journal g c = λ honest.
    inr (
      c.in-Err.fault,
      c.in-Err.ensures.unsaved honest,
      (
        refl,
        subst (λ f. TellsCaused f (traffic g.F.Write.contents c.args.faults.now c.give_up_caused.new.faults)) c.caused_by.ensures c.give_up_caused.ensures.errors,
        c.give_up_caused.ensures.status ∙ ap fault_status c.caused_by.ensures,
      ),
    )
