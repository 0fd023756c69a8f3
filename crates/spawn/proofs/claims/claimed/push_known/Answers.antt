use Rattle.std.proofs.Common.{◌∙◌, ◌++◌, ◌∷◌, [], ℕ, Bool, List, true, false, ap, append-nil, append_assoc, map, sym, take}
use Rattle.std.proofs.lemmas.List.{map_push}
use Rattle.std.specs.List.{filter}
use Rattle.ticket_items.specs.Ids.{mem}
use Rattle.ticket_rows.specs.Ticket.{ids}
use Rattle.spawn.proofs.Holdings.{chosen_more}
use Rattle.spawn.proofs.claims.claimed.push_known.Goals as goal
use Rattle.spawn.proofs.claims.claimed.push_known.Goals.{then-stands+in_ok-push, else-stands}

pub loop-id-preserved : goal.loop-id-preserved
loop-id-preserved c =
    let known : List ℕ → Bool = λ y. mem y (ids c.args.ticket.now.rows) in
    let xs = c.args.some.now in
    let i = c.loop-id.id-index in
    let old = map (λ s. s.now) c.args.all.now.items in
    let done = filter known (take i xs) in
    elim c.if-stands.branch [
      | then-stands+in_ok-push w ↦
          ap (λ v. map (λ s. s.now) v.items) w.all-is ∙ ap (map (λ s. s.now)) w.in_ok-push.ensures.items ∙ map_push (λ s. s.now) c.loop-id.all.items _
          ∙ ap (λ ys. ys ++ c.id-item.result ∷ []) c.loop-id.invariant ∙ append_assoc old done (c.id-item.result ∷ [])
          ∙ ap (λ ys. old ++ ys) (sym (chosen_more known xs i c.id-item.result true c.loop-id-test.true c.id-item.is (sym c.stands.ensures ∙ w.if-stands.true)))
      | else-stands w ↦
          ap (λ v. map (λ s. s.now) v.items) w.all-is ∙ c.loop-id.invariant
          ∙ ap (λ ys. old ++ ys) (sym (chosen_more known xs i c.id-item.result false c.loop-id-test.true c.id-item.is (sym c.stands.ensures ∙ w.if-stands.false) ∙ append-nil done))
    ]
