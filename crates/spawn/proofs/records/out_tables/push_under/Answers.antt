use Rattle.std.proofs.Common.{◌∙◌, sym, ap}
use Rattle.std.proofs.lemmas.Bool.{not-true, not-false}
use Rattle.ticket_items.proofs.Apart.{no_text, text_at}
use Rattle.spawn.proofs.OutSteps.{number_pushed, number_kept, seen_more}
use Rattle.spawn.specs.OutTables.{numbers_in}
use Rattle.spawn.proofs.records.out_tables.push_under.Goals as goal
use Rattle.spawn.proofs.records.out_tables.push_under.Goals.{then-branch+in_ok-push_number, else-branch}

pub loop-id-preserved : goal.loop-id-preserved
loop-id-preserved c =
    let ts = c.args.ids.now in
    let i = c.loop-id.id-index in
    let n = c.args.number in
    let t = text_at ts i in
    let old = c.loop-id.numbers in
    let first = c.args.numbers.now in
    record {
      seen = λ x. seen_more ts i no_text c.loop-id.seen c.insert.new.self x c.loop-id-test.true c.in_ok-insert.ensures.updates (c.loop-id.invariant.seen x);
      under = elim c.if-branch.branch [
        | then-branch+in_ok-push_number w ↦
            λ x. ap (λ table. numbers_in table x) w.numbers-is
            ∙ number_pushed ts i no_text n (numbers_in first x) (numbers_in old x) (numbers_in w.push_number.new.numbers x) x c.loop-id-test.true
            (sym (c.loop-id.invariant.seen t.now) ∙ not-true _ (sym c.in_ok-insert.ensures.added ∙ w.if-branch.true)) (c.loop-id.invariant.under x) (w.in_ok-push_number.ensures x)
        | else-branch w ↦
            λ x. ap (λ table. numbers_in table x) w.numbers-is
            ∙ number_kept ts i no_text n (numbers_in first x) (numbers_in old x) x c.loop-id-test.true (sym (c.loop-id.invariant.seen t.now) ∙ not-false _ (sym c.in_ok-insert.ensures.added ∙ w.if-branch.false)) (c.loop-id.invariant.under x)
      ];
    }
