use Rattle.std.proofs.Common.{◌≡◌, ◌∙◌, ◌∷◌, [], ◌||◌, List, ℕ, true, false, sym, ap, take}
use Rattle.std.proofs.lemmas.Bool.{not-true, not-false}
use Rattle.std.specs.Str.{bytes_eq}
use Rattle.ticket_items.specs.Ids.{mem, are_distinct}
use Rattle.ticket_items.proofs.Apart.{contains-inserted, are_distinct-push, are_distinct-twice, mem-append, or_none, texts_of, texts_more, texts_split, no_text, text_at}
use Rattle.ticket_rows.proofs.distinct.are_apart.Goals as goal

pub returns-then-not-branch : goal.returns-then-not-branch
returns-then-not-branch c =
    let x : List ℕ = (text_at c.args.texts.now c.loop-text.text-index).now in
    let seen : mem x (texts_of (take c.loop-text.text-index c.args.texts.now)) ≡ true =
    sym (c.loop-text.invariant.seen x) ∙ not-false _ (sym c.in_ok-insert.ensures.added ∙ c.if-not-branch.true) in
    sym (ap are_distinct (texts_split c.args.texts.now c.loop-text.text-index no_text c.loop-text-test.true) ∙ are_distinct-twice _ x _ seen)

pub loop-text-preserved : goal.loop-text-preserved
loop-text-preserved c =
    let t = text_at c.args.texts.now c.loop-text.text-index in
    let so_far : List (List ℕ) = texts_of (take c.loop-text.text-index c.args.texts.now) in
    let more = texts_more c.args.texts.now c.loop-text.text-index no_text c.loop-text-test.true in
    let new : mem t.now so_far ≡ false =
    sym (c.loop-text.invariant.seen t.now) ∙ not-true _ (sym c.in_ok-insert.ensures.added ∙ c.if-not-branch.false) in
    record {
      seen = λ q. contains-inserted _ _ t c.in_ok-insert.ensures.updates q
          ∙ ap (λ b. b || bytes_eq t.now q) (c.loop-text.invariant.seen q)
          ∙ ap (λ b. mem q so_far || b) (sym (or_none (bytes_eq t.now q)))
          ∙ sym (mem-append q so_far (t.now ∷ []))
          ∙ ap (mem q) (sym more);
      apart = ap are_distinct more ∙ are_distinct-push so_far t.now c.loop-text.invariant.apart new;
    }
