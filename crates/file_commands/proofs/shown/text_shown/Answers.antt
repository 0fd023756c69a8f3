use Rattle.std.proofs.Common.{◌∙◌, false, ap, sym}
use Rattle.std.proofs.lemmas.Result.{IfOk-weaker}
use Rattle.controller_form.specs.ShownMaster.{master_text}
use Rattle.stored_state.specs.Opened.{controller_in}
use Rattle.file_commands.specs.Commands.{output_text}
use Rattle.file_commands.proofs.shown.text_shown.Goals as goal

pub returns-in-Master-2-clause-ok : goal.returns-in-Master-2-clause-ok
returns-in-Master-2-clause-ok g c =
    IfOk-weaker c.master_text.result _ _ (λ text e. e ∙ ap master_text c.controller-in-Master-2.ensures
    ∙ sym (ap (λ b. output_text b c.args.now (controller_in c.args.opened.now)) c.if-picture.false ∙ ap (λ o. output_text false c.args.now (controller_in o)) c.in-Master-2.is)) c.master_text.ensures.ok
