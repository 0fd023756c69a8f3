use Rattle.std.proofs.Common.{◌∙◌, ◌+◌, Some, map, take, drop, ap, sym}
use Rattle.std.proofs.lemmas.List.{map-append, take-append-drop}
use Rattle.spawn.proofs.Holdings.{given_next, given_none, item_more, on_err, others_of_front}
use Rattle.spawn.proofs.tables.holders.Holders.give_all.Goals as goal

pub loop-id-init : goal.loop-id-init
loop-id-init c = given_none (Some c.args.spawn) c.args.self.now

pub returns-in_err-give-clause-err : goal.returns-in_err-give-clause-err
returns-in_err-give-clause-err c =
    let xs = c.args.ids.now in
    let i = c.loop-id.id-index in
    on_err c.from_residual.result
    (others_of_front (map (λ s. s.now) (take i xs)) (map (λ s. s.now) (drop i xs)) (map (λ s. s.now) xs) (Some c.args.spawn) c.args.self.now c.loop-id.self c.give.new.self c.loop-id.invariant c.in_err-give.ensures.err
    (ap (map (λ s. s.now)) (sym (take-append-drop i xs)) ∙ map-append (λ s. s.now) (take i xs) (drop i xs)))

pub loop-id-preserved : goal.loop-id-preserved
loop-id-preserved c =
    let xs = c.args.ids.now in
    let i = c.loop-id.id-index in
    given_next (map (λ s. s.now) (take i xs)) c.id-item.result.now (map (λ s. s.now) (take (i + 1) xs)) (Some c.args.spawn) c.args.self.now c.loop-id.self _ c.loop-id.invariant c.in_ok-give.ensures.ok (item_more (λ s. s.now) xs i c.id-item.result c.loop-id-test.true c.id-item.is)
