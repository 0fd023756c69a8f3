use Rattle.std.proofs.Common.{ℕ, Bool, List, None, refl, subst}
use Rattle.std.specs.List.{filter}
use Rattle.ticket_items.specs.Ids.{mem}
use Rattle.ticket_rows.specs.Ticket.{ids}
use Rattle.ticket_tree.specs.At.{rows_below}
use Rattle.spawn.proofs.ClaimedIds.{claims_listed}
use Rattle.spawn.proofs.Holdings.{given_as, given_grown}
use Rattle.spawn.specs.Holdings.{IsGiven, claimed_ids, claims}
use Rattle.spawn.proofs.tables.holders.Holders.free.Goals as goal

pub returns-clause-given : goal.returns-clause-given
returns-clause-given c =
    let rows = c.args.ticket.now.rows in
    let r = c.args.spawn.now in
    let known : List ℕ → Bool = λ y. mem y (ids rows) in
    given_as (λ x. mem x (claimed_ids rows r)) (claims rows r) None c.args.self.now _ (λ x. claims_listed rows r x c.rows_below.ensures.valid)
    (given_grown (ids (rows_below rows r.node)) (filter known r.rw) (claimed_ids rows r) None c.args.self.now c.free_rows.new.self _
    (subst (λ rs. IsGiven (λ x. mem x (ids rs)) None c.args.self.now c.free_rows.new.self) c.rows_below.ensures.rows c.free_rows.ensures)
    (subst (λ some. IsGiven (λ x. mem x (filter known some)) None c.free_rows.new.self c.free_known.new.self) c.as_slice.ensures c.free_known.ensures)
    refl)
