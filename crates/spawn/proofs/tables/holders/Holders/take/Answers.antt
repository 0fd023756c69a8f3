use Rattle.std.proofs.Common.{◌∙◌, Some, ap, map}
use Rattle.ticket_items.specs.Ids.{mem}
use Rattle.spawn.proofs.ClaimedIds.{claims_listed}
use Rattle.spawn.proofs.Holdings.{given_as, others_as, undone}
use Rattle.spawn.specs.Holdings.{claims}
use Rattle.spawn.proofs.tables.holders.Holders.take.Goals as goal

pub returns-in-Ok-clause-ok : goal.returns-in-Ok-clause-ok
returns-in-Ok-clause-ok c =
    let rows = c.args.ticket.now.rows in
    let r = c.args.spawn.now in
    let all = map (λ s. s.now) c.as_slice.result.now in
    let listed = ap (map (λ s. s.now)) c.as_slice.ensures.value ∙ c.in_ok-claimed.ensures.claimed in
    given_as (λ x. mem x all) (claims rows r) (Some r.id) c.args.self.now _ (λ x. ap (mem x) listed ∙ claims_listed rows r x c.in_ok-claimed.ensures.valid) c.in-Ok.ensures.ok

pub returns-clause-err : goal.returns-clause-err
returns-clause-err c =
    let rows = c.args.ticket.now.rows in
    let r = c.args.spawn.now in
    let all = map (λ s. s.now) c.as_slice.result.now in
    let listed = ap (map (λ s. s.now)) c.as_slice.ensures.value ∙ c.in_ok-claimed.ensures.claimed in
    undone (claims rows r) c.args.self.now c.give_all.new.self _ (others_as (λ x. mem x all) (claims rows r) c.args.self.now c.give_all.new.self (λ x. ap (mem x) listed ∙ claims_listed rows r x c.in_ok-claimed.ensures.valid) c.in-Err.ensures.err) c.free.ensures.given c.requires
