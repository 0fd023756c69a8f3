use Rattle.std.proofs.lemmas.Result.{IfOk-weaker, on_err_weaker}
use Rattle.world.proofs.Shop.Changing.{alone, by_holders}
use Rattle.shop_day.proofs.OneTicket.{cut_off_there, one_ticket}
use Rattle.shop_day.proofs.running.run_day.Goals as goal

pub returns-clause-one_ticket : goal.returns-clause-one_ticket
returns-clause-one_ticket g c =
    IfOk-weaker c.line_outcomes-outcomes.result _ _ (λ outcomes done. one_ticket c.args.lines.items outcomes.items c.args.shop.now c.line_outcomes-outcomes.new.shop c.messages.ensures.kept done) c.line_outcomes-outcomes.ensures.done

pub returns-clause-cut : goal.returns-clause-cut
returns-clause-cut g c = on_err_weaker c.line_outcomes-outcomes.result (cut_off_there c.args.lines.items c.args.shop.now c.line_outcomes-outcomes.new.shop c.messages.ensures.kept) c.line_outcomes-outcomes.ensures.err

pub returns-clause-alone : goal.returns-clause-alone
returns-clause-alone g c = alone c.line_outcomes-outcomes.new.shop c.messages-2.ensures.kept

pub returns-clause-held : goal.returns-clause-held
returns-clause-held g c = by_holders c.line_outcomes-outcomes.new.shop c.messages-2.ensures.kept
