use Rattle.std.proofs.Common.{◌∙◌, sym}
use Rattle.worker_core.proofs.MessageLaws.{told_answered}
use Rattle.worker_core.specs.Worker.{state}
use Rattle.worker_core.proofs.taking.answer_taken.Goals as goal

pub returns-in-Ok-clause-response : goal.returns-in-Ok-clause-response
returns-in-Ok-clause-response c name master =
    c.response_in.ensures ∙ sym (told_answered c.args.response c.args.spawn (state name master c.args.entries.now))
