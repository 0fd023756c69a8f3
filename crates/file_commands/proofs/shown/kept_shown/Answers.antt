use Rattle.std.proofs.Common.{◌∙◌}
use Rattle.stored_state.specs.Opened.{kept_of}
use Rattle.file_commands.proofs.shown.kept_shown.Goals as goal

pub returns-clause-ok : goal.returns-clause-ok
returns-clause-ok g c =
    record {
      opened = kept_of c.in_ok-opened.opened;
      loaded = c.in_ok-opened.ensures.ok;
      shown = c.output_unrefused-output.ensures.text ∙ c.in_ok-text_shown.ensures.ok;
      accepted = c.output_unrefused-output.ensures.accepted;
      noted = c.in_ok-notes.ensures;
    }
