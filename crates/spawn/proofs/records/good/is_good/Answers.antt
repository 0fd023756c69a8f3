use Rattle.std.proofs.Common.{◌∙◌, sym}
use Rattle.std.proofs.lemmas.Bool.{true≢false, le-ltb, lt-ltb}
use Rattle.ticket_tree.proofs.AtNode.{deeper_has_parent}
use Rattle.spawn.proofs.GoodCopies.{good_node}
use Rattle.spawn.proofs.GoodWalk.{good_at}
use Rattle.spawn.proofs.records.good.is_good.Goals as goal

pub returns-in-None : goal.returns-in-None
returns-in-None c = (λ no. absurd (true≢false (sym no)), λ good. absurd (true≢false (sym (good_node c.args.ticket.now.rows c.args.spawn.now good) ∙ sym c.in-None.ensures.known)))

pub returns-then-at-gt1 : goal.returns-then-at-gt1
returns-then-at-gt1 c =
    let at = c.in-Some.ensures in
    good_at c.args.ticket.now.rows c.args.spawn.now c.in-Some.at c.has_copies.result at.valid at.at (sym at.known) (lt-ltb _ _ c.if-at-gt1.true) c.has_copies.ensures

pub returns-else-at-gt1 : goal.returns-else-at-gt1
returns-else-at-gt1 c =
    let above = deeper_has_parent c.args.ticket.now.rows c.args.spawn.now.node c.in-Some.at c.in-Some.ensures.at in
    (λ yes. absurd (true≢false (sym yes ∙ le-ltb _ _ c.if-at-gt1.false)), λ good. above ∙ good.has_parent)
