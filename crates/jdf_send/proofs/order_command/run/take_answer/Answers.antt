use Rattle.std.proofs.Common.{inr}
use Rattle.std.specs.Option.{option_map}
use Rattle.std.proofs.lemmas.Result.{IfOk-weaker}
use Rattle.jdf_send.proofs.Answered.{given_out}
use Rattle.jdf_send.proofs.order_command.run.take_answer.Goals as goal

pub returns-clause-ok : goal.returns-clause-ok
returns-clause-ok g c =
    IfOk-weaker c.answer_output.result _ _
    (λ output is. record {
      reply = c.in_ok-given.given.reply;
      sent = option_map (λ b. b.items) c.in_ok-given.given.answer;
      after = c.in_ok-given.ensures.ok.0;
      given = c.in_ok-given.ensures.ok.1;
      message = c.in_ok-message.message;
      decoded = c.in_ok-message.ensures.found;
      written = is;
    })
    c.answer_output.ensures.ok

pub returns-in_err-message-clause-behind : goal.returns-in_err-message-clause-behind
returns-in_err-message-clause-behind g c = λ honest.
    inr (
      c.args.answer.now,
      record {
        reply = c.in_ok-given.given.reply;
        sent = option_map (λ b. b.items) c.in_ok-given.given.answer;
        after = (c.in_ok-given.ensures.journal honest).0;
        given = (c.in_ok-given.ensures.journal honest).1;
        lines = (c.in_ok-given.ensures.journal honest).2;
      },
    )

pub returns-clause-behind : goal.returns-clause-behind
returns-clause-behind g c = λ honest.
    inr (
      c.args.answer.now,
      record {
        reply = c.in_ok-given.given.reply;
        sent = option_map (λ b. b.items) c.in_ok-given.given.answer;
        after = (c.in_ok-given.ensures.journal honest).0;
        given = (c.in_ok-given.ensures.journal honest).1;
        lines = (c.in_ok-given.ensures.journal honest).2;
      },
    )

pub returns-clause-journal : goal.returns-clause-journal
returns-clause-journal g c =
    given_out _ c.answer_output.result (λ honest. record {
      reply = c.in_ok-given.given.reply;
      sent = option_map (λ b. b.items) c.in_ok-given.given.answer;
      after = (c.in_ok-given.ensures.journal honest).0;
      given = (c.in_ok-given.ensures.journal honest).1;
      lines = (c.in_ok-given.ensures.journal honest).2;
    })
