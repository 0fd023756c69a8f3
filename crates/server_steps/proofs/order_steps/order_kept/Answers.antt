use Rattle.std.proofs.Common.{◌≡◌, IfOk, inl, map, subst}
use Rattle.std.specs.List.{AllZip}
use Rattle.rounds.specs.Line.{comings_of}
use Rattle.server_steps.specs.OrderLines.{IsNameOf, OrdersJournaled, kept_name, reply_in}
use Rattle.server_steps.proofs.order_steps.order_kept.Goals as goal

pub returns-in-Some : goal.returns-in-Some
returns-in-Some g c =
    let steps = c.answer_all-told.ensures.steps in
    record {
      steps = inl (c.in-Some.at, c.answer_all-told.new.keep, steps);
      journaled = λ honest.
          let made = subst (λ all. IfOk c.words_of-words.result (λ words. AllZip IsNameOf (comings_of all) (map kept_name words.items))) c.as_slice.ensures.value (c.words_of-words.ensures honest) in
          let lines = subst (λ told. OrdersJournaled g.J.Journal.held g.J.Journal.is_missed c.in-Some.at (comings_of c.args.orders.items) (map reply_in told) c.answer_all-told.result.1 c.args.journal.now c.journal_order_steps.new.journal) c.as_slice-in-Some.ensures.value (c.journal_order_steps.ensures honest (comings_of c.args.orders.items) made) in
          inl (c.in-Some.at, c.answer_all-told.new.keep, steps, lines);
    }
