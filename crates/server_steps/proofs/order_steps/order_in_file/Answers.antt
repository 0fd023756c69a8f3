use Rattle.std.proofs.Common.{◌≡◌, IfSome, subst}
use Rattle.keepers.specs.SystemFile.{count, file_bytes, is_honest, keep_in_file, load_fails, place, save_fails}
use Rattle.server_steps.specs.OrderLines.{OrdersKeepJournal}
use Rattle.server_steps.specs.Orders.{OrdersKept}
use Rattle.server_steps.proofs.order_steps.order_in_file.Goals as goal

pub returns-in-Ok-Some : goal.returns-in-Ok-Some
returns-in-Ok-Some g c =
    let locked = subst (λ found. IfSome found (λ keep. keep ≡ keep_in_file c.args.path.now)) c.in-Ok-Some.field-0-is c.in-Ok-Some.ensures.ok in
    let told = c.order_kept-told.result.0.items in
    let saved = c.order_kept-told.result.1 in
    let orders = c.args.orders.items in
    record {
      steps = subst (λ keep. OrdersKept is_honest file_bytes place count load_fails save_fails keep c.args.to c.args.now orders told saved) locked c.order_kept-told.ensures.steps;
      journaled = λ honest.
          subst (λ keep. OrdersKeepJournal is_honest file_bytes place count load_fails save_fails g.J.Journal.held g.J.Journal.is_missed keep c.args.to c.args.now orders told saved c.args.journal.now c.order_kept-told.new.journal) locked (c.order_kept-told.ensures.journaled honest);
    }
