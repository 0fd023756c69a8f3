use Rattle.std.proofs.Common.{map, IfOk, inl, subst, sym}
use Rattle.std.specs.List.{AllZip}
use Rattle.stored_state.specs.Addressee.{name_of}
use Rattle.server_steps.specs.Journaled.{AreJournaled}
use Rattle.server_steps.specs.OrderLines.{IsNameOf, OrdersJournaled, kept_name, order_lines, reply_in}
use Rattle.server_steps.proofs.JournalLines.{made_journaled}
use Rattle.server_steps.proofs.journaling.journal_order_steps.Goals as goal

pub returns-in-Ok : goal.returns-in-Ok
returns-in-Ok g c =
    λ honest all is.
    let names = subst (λ made. IfOk made (λ known. AllZip IsNameOf all (map kept_name known.items))) c.in-Ok.is is in
    let replies = map reply_in c.args.ordered.now in
    let seen = made_journaled g.J.Journal.held g.J.Journal.is_missed _ c.args.journal.now c.append.new.journal c.ordered_lines.result c.ordered_lines.ensures (c.append.ensures honest) in
    let whose = subst (λ one. AreJournaled g.J.Journal.held g.J.Journal.is_missed (order_lines (name_of one) c.args.at (map kept_name c.as_slice.result.now) replies) c.args.journal.now c.append.new.journal) c.controller.ensures seen in
    let so = subst (λ words. AreJournaled g.J.Journal.held g.J.Journal.is_missed (order_lines (name_of c.in-Some.saved) c.args.at (map kept_name words) replies) c.args.journal.now c.append.new.journal) c.as_slice.ensures.value whose in
    subst (λ one. OrdersJournaled g.J.Journal.held g.J.Journal.is_missed c.args.at all replies one c.args.journal.now c.append.new.journal) (sym c.in-Some.is)
    (inl (map kept_name c.in-Ok.words.items, names, so))
