use Rattle.std.proofs.Common.{◌≡◌, ◌∙◌, IfOk, subst, sym}
use Rattle.std.proofs.lemmas.Bool.{true≢false}
use Rattle.spawn.proofs.GoodCopies.{good_node}
use Rattle.spawn.proofs.PartFor.{part_is, part_stands}
use Rattle.spawn.proofs.parts.spawned_part.part_for.Goals as goal

pub returns-in-None-clause-memory : goal.returns-in-None-clause-memory
returns-in-None-clause-memory c = absurd (true≢false (sym (good_node c.args.ticket.now.rows c.args.spawn.now c.requires.good) ∙ sym c.in-None.ensures.known))

pub part_at-requires-clause-part : goal.part_at-requires-clause-part
part_at-requires-clause-part c = part_stands c.args.ticket.now.rows c.args.spawn.now c.in-Some.at c.in-Some.ensures.valid c.requires.good c.in-Some.ensures.at

pub returns-in-Some-clause-ok : goal.returns-in-Some-clause-ok
returns-in-Some-clause-ok c =
    let t = c.args.ticket.now in
    let r = c.args.spawn.now in
    subst (λ q. IfOk c.part_at.result (λ p. p ≡ q)) (part_is t r c.in-Some.at c.in-Some.ensures.valid c.in-Some.ensures.at (good_node t.rows r c.requires.good)) c.part_at.ensures.ok
