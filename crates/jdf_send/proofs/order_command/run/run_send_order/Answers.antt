use Rattle.std.proofs.Common.{inl, option_map}
use Rattle.jdf_send.proofs.order_command.run.run_send_order.Goals as goal

pub returns-in-Ok-clause-journal : goal.returns-in-Ok-clause-journal
returns-in-Ok-clause-journal g c = λ honest.
    inl (
      c.in-Ok.given.reply,
      option_map (λ b. b.items) c.in-Ok.given.message,
      c.in-Ok.given.notes.items,
      record {
        between = c.order_in_file.new.journal;
        order = c.in-Ok.ensures.journal honest;
        answer = c.give_out.ensures.behind;
      },
      c.give_out.ensures.given,
    )
