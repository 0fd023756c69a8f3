use Rattle.std.proofs.Common.{◌≡◌, IfOk, subst}
use Rattle.std.proofs.lemmas.Result.{IfOk-weaker}
use Rattle.clap.specs.Words.{app_of}
use Rattle.jdf_words.specs.Commands.{lone_command}
use Rattle.jdf_words.proofs.Adding as adding
use Rattle.jdf_words.proofs.commands.with_command.Goals as goal

pub returns : goal.returns
returns c before added plain program command =
    let was = subst (λ r. IfOk r (λ p. app_of p ≡ before)) c.in_ok-program.was program in
    let is = subst (λ r. IfOk r (λ s. app_of s ≡ lone_command added)) c.in_ok-command.was command in
    IfOk-weaker c.subcommand.result _ _ (λ made adds. adding.added _ _ _ _ _ adds was is plain) c.subcommand.ensures
