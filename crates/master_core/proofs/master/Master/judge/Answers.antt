use Rattle.std.proofs.Common.{◌∙◌, ap, sym}
use Rattle.controller.specs.Reply.{spawn_in}
use Rattle.master_core.specs.Master.{record_of}
use Rattle.master_core.specs.Messages.{body_refusal, on_body}
use Rattle.master_core.proofs.master.Master.judge.Goals as goal

pub returns-in-Return-clause-refusal : goal.returns-in-Return-clause-refusal
returns-in-Return-clause-refusal c r found =
    let w = c.args.self.now in
    c.part_refusal.ensures r (sym (ap (λ b. record_of w.records (spawn_in b)) c.in-Return.is) ∙ found) ∙ sym (ap (λ b. body_refusal b w r) c.in-Return.is)

pub returns-in-Return-clause-reply : goal.returns-in-Return-clause-reply
returns-in-Return-clause-reply c at =
    c.part_taken.ensures.reply at ∙ sym (ap (λ b. (on_body b at c.args.self.now).reply) c.in-Return.is)

pub returns-in-Return-clause-response : goal.returns-in-Return-clause-response
returns-in-Return-clause-response c at =
    c.part_taken.ensures.response at ∙ sym (ap (λ b. (on_body b at c.args.self.now).response) c.in-Return.is)
