use Rattle.std.proofs.Common.{◌∙◌, ◌++◌, ap}
use Rattle.controller_form.specs.ShownMaster.{master_text}
use Rattle.jdf_loop.specs.EventLine.{lines}
use Rattle.jdf_loop.proofs.written.run_text.Goals as goal

pub returns-clause-text : goal.returns-clause-text
returns-clause-text c = c.in_ok-push_shown.ensures.ok ∙ ap (λ t. t ++ master_text c.args.master.now) (c.in_ok-push_event_lines.ensures ∙ ap (λ t. t ++ lines c.args.lines.now) c.new-text.ensures.items)
