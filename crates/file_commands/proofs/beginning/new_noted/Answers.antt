use Rattle.std.proofs.Common.{subst, sym}
use Rattle.streams.specs.Streams.{traffic}
use Rattle.stored_state.specs.Opened.{kept_of}
use Rattle.file_commands.specs.Commands.{Begins}
use Rattle.file_commands.proofs.beginning.new_noted.Goals as goal

pub returns-clause-ok : goal.returns-clause-ok
returns-clause-ok g c =
    let input = traffic g.I.Read.remaining c.args.reader.now c.new_output.new.reader in
    let after = kept_of c.in_ok-output.opened in
    ((after, subst (λ output. Begins g.K.Keep.is_honest g.K.Keep.held g.K.Keep.place c.args.is_there c.args.keep c.args.to input after output.text.items output.refused) (sym c.without_notes.ensures.output) c.in_ok-output.ensures.ok), c.without_notes.ensures.notes)
