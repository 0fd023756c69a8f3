use Rattle.std.proofs.Common.{◌≡◌, ◌∙◌, Bor, ◌+◌, ◌∷◌, [], ◌++◌, ◌||◌, List, ℕ, true, false, refl, sym, ap, drop, take}
use Rattle.std.proofs.lemmas.Bool.{not-true, not-false}
use Rattle.std.proofs.lemmas.List.{take_more, take-append-drop, drop_more}
use Rattle.std.specs.BTreeSet.{contains_by}
use Rattle.std.specs.Cmp.Lexicographic.{slice_cmp}
use Rattle.std.specs.Ordering.{nat_cmp}
use Rattle.std.specs.Str.{bytes_eq}
use Rattle.ticket_items.specs.Ids.{mem, are_distinct}
use Rattle.ticket_items.proofs.Apart.{contains-inserted, are_distinct-push, are_distinct-twice, mem-append, or_none}
use Rattle.master_core.proofs.names.are_apart.Goals as goal

pub loop-worker-init : goal.loop-worker-init
loop-worker-init c =
    record {
      seen = λ q. contains-inserted c.new-seen.result _ c.as_str.result c.in_ok-insert.ensures.updates q
          ∙ ap (λ ks. contains_by {K = Bor (List ℕ)} (λ k. slice_cmp nat_cmp q k.now) (record { keys = ks }) || bytes_eq c.as_str.result.now q) c.new-seen.ensures.empty
          ∙ ap (λ x. bytes_eq x q) c.as_str.ensures.value
          ∙ sym (or_none (bytes_eq c.args.name.now q));
      apart = refl;
    }

pub returns-then-not-branch : goal.returns-then-not-branch
returns-then-not-branch c =
    let i = c.loop-worker.worker-index in
    let workers = c.args.workers.now in
    let x : List ℕ = c.worker-item.result in
    let so_far : List (List ℕ) = c.args.name.now ∷ take i workers in
    let found : mem c.as_str-in-loop-worker.result.now so_far ≡ true = sym (c.loop-worker.invariant.seen c.as_str-in-loop-worker.result.now) ∙ not-false _ (sym c.in_ok-insert-2.ensures.added ∙ c.if-not-branch.true) in
    let seen : mem x so_far ≡ true = ap (λ y. mem y so_far) (sym c.as_str-in-loop-worker.ensures.value) ∙ found in
    let whole : workers ≡ take i workers ++ x ∷ drop (i + 1) workers =
    sym (take-append-drop i workers) ∙ ap (λ ys. take i workers ++ ys) (drop_more workers i x c.loop-worker-test.true ∙ ap (λ y. y ∷ drop (i + 1) workers) (sym c.worker-item.is)) in
    sym (ap (λ ws. are_distinct (c.args.name.now ∷ ws)) whole ∙ are_distinct-twice so_far x (drop (i + 1) workers) seen)

pub loop-worker-preserved : goal.loop-worker-preserved
loop-worker-preserved c =
    let i = c.loop-worker.worker-index in
    let workers = c.args.workers.now in
    let x : List ℕ = c.worker-item.result in
    let t = c.as_str-in-loop-worker.result in
    let so_far : List (List ℕ) = c.args.name.now ∷ take i workers in
    let same : t.now ≡ x = c.as_str-in-loop-worker.ensures.value in
    let more : take (i + 1) workers ≡ take i workers ++ x ∷ [] = take_more workers i x c.loop-worker-test.true ∙ ap (λ y. take i workers ++ y ∷ []) (sym c.worker-item.is) in
    let new : mem x so_far ≡ false = ap (λ y. mem y so_far) (sym same) ∙ sym (c.loop-worker.invariant.seen t.now) ∙ not-true _ (sym c.in_ok-insert-2.ensures.added ∙ c.if-not-branch.false) in
    record {
      seen = λ q. contains-inserted _ _ t c.in_ok-insert-2.ensures.updates q
          ∙ ap (λ b. b || bytes_eq t.now q) (c.loop-worker.invariant.seen q)
          ∙ ap (λ y. mem q so_far || bytes_eq y q) same
          ∙ ap (λ b. mem q so_far || b) (sym (or_none (bytes_eq x q)))
          ∙ sym (mem-append q so_far (x ∷ []))
          ∙ sym (ap (λ ws. mem q (c.args.name.now ∷ ws)) more);
      apart = ap (λ ws. are_distinct (c.args.name.now ∷ ws)) more ∙ are_distinct-push so_far x c.loop-worker.invariant.apart new;
    }
