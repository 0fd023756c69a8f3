use Rattle.std.proofs.Common.{◌∙◌, ◌+◌, ℕ, Bool, List, None, true, false, ap, append-nil, sym, take}
use Rattle.std.specs.List.{filter}
use Rattle.ticket_items.specs.Ids.{mem}
use Rattle.ticket_rows.specs.Ticket.{ids}
use Rattle.spawn.proofs.Holdings.{chosen_more, given_as, given_next, given_none}
use Rattle.spawn.proofs.tables.holders.Holders.free_known.Goals as goal
use Rattle.spawn.proofs.tables.holders.Holders.free_known.Goals.{then-stands, else-stands}

pub loop-id-init : goal.loop-id-init
loop-id-init c = given_none None c.args.self.now

pub loop-id-preserved : goal.loop-id-preserved
loop-id-preserved c =
    let known : List ℕ → Bool = λ y. mem y (ids c.args.ticket.now.rows) in
    let xs = c.args.some.now in
    let i = c.loop-id.id-index in
    let done = filter known (take i xs) in
    let more = filter known (take (i + 1) xs) in
    elim c.if-stands.branch [
      | then-stands w ↦
          rw w.self-is
          (given_next done c.id-item.result more None c.args.self.now c.loop-id.self w.free_id.new.self c.loop-id.invariant w.free_id.ensures
          (chosen_more known xs i c.id-item.result true c.loop-id-test.true c.id-item.is (sym c.stands.ensures ∙ w.if-stands.true)))
      | else-stands w ↦
          rw w.self-is
          (given_as (λ x. mem x done) (λ x. mem x more) None c.args.self.now c.loop-id.self
          (λ x. ap (mem x) (sym (chosen_more known xs i c.id-item.result false c.loop-id-test.true c.id-item.is (sym c.stands.ensures ∙ w.if-stands.false) ∙ append-nil done))) c.loop-id.invariant)
    ]
