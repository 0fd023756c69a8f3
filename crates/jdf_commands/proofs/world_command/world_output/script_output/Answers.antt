use Rattle.std.proofs.Common.{◌∙◌}
use Rattle.std.proofs.lemmas.Result.{IfOk-weaker}
use Rattle.jdf_commands.specs.WorldCommand.Run.{run_text}
use Rattle.jdf_commands.proofs.world_command.world_output.script_output.Goals as goal

pub returns-clause-ok : goal.returns-clause-ok
returns-clause-ok c = IfOk-weaker c.run_text.result _ _ (λ text is. is ∙ λ i. run_text (c.into_vec.ensures i) (c.in_ok-world.ensures.shown i)) c.run_text.ensures.ok
