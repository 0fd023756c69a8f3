use Rattle.std.proofs.Common.{◌∙◌, sym}
use Rattle.std.proofs.lemmas.Result.{on_ok_weaker}
use Rattle.document_commands.proofs.Verdicts.{apart, more_others}
use Rattle.document_commands.proofs.check_command.verdict.push_other.Goals as goal

pub returns : goal.returns
returns c =
    let differs = apart c.args.other.now c.args.refusal.now (sym c.eq.ensures ∙ c.if-eq.false) in
    on_ok_weaker c.push_places.result (λ is. more_others _ _ _ _ _ differs c.requires is) c.push_places.ensures
