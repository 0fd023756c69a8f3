use Rattle.std.proofs.Common.{◌≡◌, ◌∙◌, ◌+◌, ◌++◌, ◌∷◌, [], false, ap, subst, sym, take}
use Rattle.std.proofs.lemmas.List.{take_all}
use Rattle.ticket_rows.specs.Place.{places}
use Rattle.spawn.proofs.ApartMore.{front_fails, once_all}
use Rattle.spawn.proofs.ClaimedIds.{records_more}
use Rattle.spawn.specs.Holdings.{IsTable}
use Rattle.spawn.specs.Stored.{are_apart}
use Rattle.spawn.proofs.tables.holders.Holders.of.Goals as goal

pub loop-spawn-init : goal.loop-spawn-init
loop-spawn-init c = record { table = c.new-holders.ensures.table c.args.ticket.now.rows; apart = once_all (places c.args.ticket.now.rows) }

pub returns-then-not-branch-clause-test : goal.returns-then-not-branch-clause-test
returns-then-not-branch-clause-test c =
    let tree = places c.args.ticket.now.rows in
    let recs = c.args.records.now in
    let i = c.loop-spawn.spawn-index in
    let r = c.spawn-item.result in
    let fails : are_apart tree (take (i + 1) recs) ≡ false =
    ap (are_apart tree) (records_more recs i r c.loop-spawn-test.true c.spawn-item.is)
    ∙ sym (c.in_ok-claim.ensures.apart (take i recs) c.loop-spawn.invariant.table c.loop-spawn.invariant.apart) ∙ c.if-not-branch.true in
    sym (front_fails tree recs (i + 1) fails)

pub loop-spawn-preserved : goal.loop-spawn-preserved
loop-spawn-preserved c =
    let rows = c.args.ticket.now.rows in
    let recs = c.args.records.now in
    let i = c.loop-spawn.spawn-index in
    let r = c.spawn-item.result in
    let more : take (i + 1) recs ≡ take i recs ++ r ∷ [] = records_more recs i r c.loop-spawn-test.true c.spawn-item.is in
    record {
      table = subst (λ rs. IsTable rows rs c.claim.new.self) (sym more) (c.in_ok-claim.ensures.table (take i recs) c.loop-spawn.invariant.table c.if-not-branch.false);
      apart = ap (are_apart (places rows)) more ∙ sym (c.in_ok-claim.ensures.apart (take i recs) c.loop-spawn.invariant.table c.loop-spawn.invariant.apart) ∙ c.if-not-branch.false;
    }

pub returns-clause-test : goal.returns-clause-test
returns-clause-test c =
    let tree = places c.args.ticket.now.rows in
    sym (ap (are_apart tree) (sym (take_all c.loop-spawn.spawn-index c.args.records.now c.loop-spawn-test.false)) ∙ c.loop-spawn.invariant.apart)

pub returns-clause-table : goal.returns-clause-table
returns-clause-table c = subst (λ rs. IsTable c.args.ticket.now.rows rs c.loop-spawn.holders) (take_all c.loop-spawn.spawn-index c.args.records.now c.loop-spawn-test.false) c.loop-spawn.invariant.table
