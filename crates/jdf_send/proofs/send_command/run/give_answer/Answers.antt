use Rattle.std.proofs.Common.{inr, subst}
use Rattle.std.specs.Prelude.{MatchResult}
use Rattle.streams.specs.Streams.{Traffic, traffic}
use Rattle.jdf_send.specs.SendCommand.{GivesAnswer, IsRefusalIn, IsUntold}
use Rattle.jdf_send.proofs.Answered.{as_it_is}
use Rattle.jdf_send.proofs.send_command.run.give_answer.Goals as goal

pub returns : goal.returns
returns g c =
    let output : Traffic = traffic g.W.Write.contents c.args.writer.now c.give_text-status.new.writer in
    let told : Traffic = traffic g.F.Write.contents c.args.faults.now c.give_text-status.new.faults in
    inr (
      told.after,
      subst (λ status. GivesAnswer c.args.answer.items output told status) c.if-status-ne0.false c.give_text-status.ensures,
      (
        c.refusal_in-refusal.result,
        subst (λ answer. MatchResult c.refusal_in-refusal.result (IsRefusalIn answer) (IsUntold answer)) c.as_slice.ensures.value (as_it_is (IsRefusalIn c.as_slice.result.now) (IsUntold c.as_slice.result.now) c.refusal_in-refusal.result c.refusal_in-refusal.ensures.ok c.refusal_in-refusal.ensures.refused),
        c.tell_refusal.ensures,
      ),
    )
