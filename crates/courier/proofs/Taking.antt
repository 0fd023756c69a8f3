-- How often a destination is given while another waits whose moment has come.
use Rattle.std.proofs.Common.{◌≡◌, ⊎_elim, Option, Some, None, IsSome, rules, ◌==◌, ◌&&◌, ◌||◌, not, nat_lt, ℕ, zero, suc, ◌+◌, ◌^◌, ◌<◌, ◌≤◌, Bool, true, false, List, [], ◌∷◌, ◌++◌, length, length-append, length-set, count_by, refl, sym, ap, ap₂, subst, ◌∙◌, arith}
use Rattle.std.proofs.lemmas.Bool.{and_parts, both_ways, cases_eq, cases_lt, cond_both, eq-eqb, le-ltb, lt-ltb, ltb-true, ne_eqb, not-true, or_parts, or_right, true≢false}
use Rattle.std.proofs.lemmas.List.Sums.{sum_by-cons}
use Rattle.std.specs.List.{list_all, list_any}
use Rattle.courier.proofs.Keeping.{at-changed, at-other, flies-within, has-some, idle-flying, waits-within}
use Rattle.courier.proofs.Running.{at-added, at-after_hearing, at-put, at-step}
use Rattle.courier.specs.Destination.{Destination, after_answer, after_failed_try, after_hearing, after_start, after_withdrawal, new_at, waits, with_item}
use Rattle.courier.specs.Laws.{EachTakesItsTurn, WhatIsHeardIsGiven}
use Rattle.courier.specs.Runs.{Step, Add, Put, Give, Fail, Settle, Withdraw, Hear, Allows, IsRun, after, after_all, gives, is_later, withdraws}
use Rattle.courier.specs.Table.{IsNextOrQuiet, destination_at, flies_at, is_out, waits_at, with_changed}
use Rattle.courier.specs.Turns.{one_if}
use Rattle.courier.specs.declared.flight.Flight.{Flight}

-- ---- the one that waits

abbrev Waits : ℕ → Destination → Type 0
Waits due d = (waits d ≡ true) × (d.due ≡ due)

flies-idle : (d : Destination) → d.flying ≡ true → waits d ≡ false
flies-idle d flies = ap (λ f. not f && not (length d.items == 0)) flies

waits-more : (d : Destination) (item : ℕ) → waits d ≡ true → waits (with_item item d) ≡ true
waits-more d item waiting =
    let parts = and_parts (not d.flying) (not (length d.items == 0)) waiting in
    ap₂ (λ f b. f && not b) parts.0 (has-some d.items item)

flies-waits : (ds : List Destination) (k line : ℕ) → waits_at ds line ≡ true → flies_at ds k ≡ true → k ≡ line → ⊥
flies-waits ds k line waiting flies here = both_ways _ (subst (λ j. waits_at ds j ≡ false) here (idle-flying ds k flies)) waiting

not-flying : (ds : List Destination) (k line due : ℕ) → Waits due (destination_at ds line) → flies_at ds k ≡ true → k ≡ line → ⊥
not-flying ds k line due waiting flies here = flies-waits ds k line waiting.0 flies here

later-than : (due now : ℕ) → (nat_lt due now && nat_lt now (2 ^ 64)) ≡ true → due < now
later-than due now later = ltb-true due now (and_parts (nat_lt due now) (nat_lt now (2 ^ 64)) later).0

after_hearing-same : (now due : ℕ) (d : Destination) → due < now → Waits due d → Waits due (after_hearing now d)
after_hearing-same now due d later waiting = (waiting.0, omega (arith, waiting.1))

waits-after : (line due : ℕ) (step : Step) (ds : List Destination) → Waits due (destination_at ds line) → Allows ds step → is_later due step ≡ true → gives line step ≡ false → Waits due (destination_at (after ds step) line)
waits-after line due (Add now) ds waiting allowed later other = at-added (Waits due) ds now line waiting (λ new. absurd (true≢false (sym waiting.0 ∙ ap waits new)))
waits-after line due (Put item k) ds waiting allowed later other = at-put (Waits due) item ds k line allowed waiting (λ _. (waits-more (destination_at ds line) item waiting.0, waiting.1))
waits-after line due (Give now flight) ds waiting allowed later other = at-step (Waits due) after_start ds flight.line line allowed.within waiting (λ here. absurd (both_ways _ other (eq-eqb flight.line line here)))
waits-after line due (Fail k now) ds waiting allowed later other = at-step (Waits due) (after_failed_try now) ds k line (flies-within ds k allowed) waiting (λ here. absurd (not-flying ds k line due waiting allowed here))
waits-after line due (Settle k now) ds waiting allowed later other = at-step (Waits due) (after_answer now) ds k line (flies-within ds k allowed) waiting (λ here. absurd (not-flying ds k line due waiting allowed here))
waits-after line due (Withdraw k) ds waiting allowed later other = at-step (Waits due) after_withdrawal ds k line (flies-within ds k allowed) waiting (λ here. absurd (not-flying ds k line due waiting allowed here))
waits-after line due (Hear k now) ds waiting allowed later other = at-after_hearing (Waits due) now ds k line waiting (λ _. after_hearing-same now due (destination_at ds line) (later-than due now later) waiting)

-- ---- the other

-- it is in flight, or isn't due by then: it has had its turn
abbrev has_had : ℕ → Destination → Bool
has_had due d = d.flying || nat_lt due d.due

-- how often it may be given yet
abbrev left : ℕ → List Destination → ℕ → ℕ
left due ds other = one_if (not (has_had due (destination_at ds other)))

left-flying : (due : ℕ) (d : Destination) → d.flying ≡ true → one_if (not (has_had due d)) ≡ 0
left-flying due d flies = ap (λ f. one_if (not (f || nat_lt due d.due))) flies

left-later : (due : ℕ) (d : Destination) → due < d.due → one_if (not (has_had due d)) ≡ 0
left-later due d later = ap (λ b. one_if (not b)) (or_right d.flying (nat_lt due d.due) (lt-ltb due d.due later))

left-due : (due : ℕ) (d : Destination) → waits d ≡ true → d.due ≤ due → one_if (not (has_had due d)) ≡ 1
left-due due d waiting low =
    let parts = and_parts (not d.flying) (not (length d.items == 0)) waiting in
    ap₂ (λ f b. one_if (not (f || b))) (not-true d.flying parts.0) (le-ltb due d.due low)

at-kept : (ds : List Destination) (now line : ℕ) → line < length ds → destination_at (ds ++ new_at now ∷ []) line ≡ destination_at ds line
at-kept [] now line within = absurd (omega arith)
at-kept (d ∷ ds) now zero within = refl
at-kept (d ∷ ds) now (suc line) within = at-kept ds now line (omega arith)

-- as many are left as were, at least
abbrev LeftAtMost : ℕ → ℕ → Destination → Type 0
LeftAtMost due most d = one_if (not (has_had due d)) ≤ most

one_if-most : (b : Bool) → one_if b ≤ 1
one_if-most true = omega arith
one_if-most false = omega arith

after_failed_try-later : (now due : ℕ) (d : Destination) → (nat_lt due now && nat_lt now (2 ^ 64)) ≡ true → due < (after_failed_try now d).due
after_failed_try-later now due d later =
    let parts = and_parts (nat_lt due now) (nat_lt now (2 ^ 64)) later in
    let low = ltb-true due now parts.0 in
    let high = ltb-true now (2 ^ 64) parts.1 in
    omega arith

after_answer-later : (now due : ℕ) (d : Destination) → (nat_lt due now && nat_lt now (2 ^ 64)) ≡ true → due < (after_answer now d).due
after_answer-later now due d later = later-than due now later

-- what isn't due by then isn't where it is heard from after it
after_hearing-later : (due now : ℕ) (d : Destination) → due < now → one_if (not (has_had due (after_hearing now d))) ≤ one_if (not (has_had due d))
after_hearing-later due now d later =
    ⊎_elim
    (λ here. omega (arith, left-later due (after_hearing now d) (omega (arith, here))))
    (λ low. let same : (after_hearing now d).due ≡ d.due = omega (arith, low) in omega (arith, ap (λ n. one_if (not (d.flying || nat_lt due n))) same))
    (cases_lt due d.due)

left-after : (line other due : ℕ) (step : Step) (ds : List Destination) → Waits due (destination_at ds line) → other < length ds → Allows ds step → is_later due step ≡ true → one_if (gives other step) + left due (after ds step) other ≤ left due ds other + one_if (withdraws other step)
left-after line other due (Add now) ds waiting within allowed later =
    let same = ap (λ d. one_if (not (has_had due d))) (at-kept ds now other within) in
    omega arith
left-after line other due (Put item k) ds waiting within allowed later =
    let same = at-put (LeftAtMost due (left due ds other)) item ds k other allowed (omega arith) (λ _. omega arith) in
    omega arith
left-after line other due (Give now flight) ds waiting within allowed later =
    ⊎_elim
    (λ here.
    let one = ap one_if (eq-eqb flight.line other here) in
    let begins = subst (λ j. waits_at ds j ≡ true) here allowed.waits in
    let first = subst (λ j. (destination_at ds j).due ≤ due) here (omega (arith, (allowed.first line waiting.0).due, waiting.1)) in
    let before = left-due due (destination_at ds other) begins first in
    let flies = subst (λ j. flies_at (after ds (Give now flight)) j ≡ true) here (ap (λ d. d.flying) (at-changed ds flight.line (after_start (destination_at ds flight.line)) allowed.within)) in
    let none = left-flying due (destination_at (after ds (Give now flight)) other) flies in
    omega arith)
    (λ apart.
    let none = ap one_if (ne_eqb flight.line other apart) in
    let same = ap (λ d. one_if (not (has_had due d))) (at-other ds flight.line other (after_start (destination_at ds flight.line)) (λ e. apart (sym e))) in
    omega arith)
    (cases_eq flight.line other)
left-after line other due (Fail k now) ds waiting within allowed later =
    let same = at-step (LeftAtMost due (left due ds other)) (after_failed_try now) ds k other (flies-within ds k allowed) (omega arith) (λ here. omega (arith, left-later due (after_failed_try now (destination_at ds other)) (after_failed_try-later now due (destination_at ds other) later))) in
    omega arith
left-after line other due (Settle k now) ds waiting within allowed later =
    let same = at-step (LeftAtMost due (left due ds other)) (after_answer now) ds k other (flies-within ds k allowed) (omega arith) (λ here. omega (arith, left-later due (after_answer now (destination_at ds other)) (after_answer-later now due (destination_at ds other) later))) in
    omega arith
left-after line other due (Withdraw k) ds waiting within allowed later =
    ⊎_elim
    (λ here.
    let one = ap one_if (eq-eqb k other here) in
    let most = one_if-most (not (has_had due (destination_at (after ds (Withdraw k)) other))) in
    omega arith)
    (λ apart.
    let none = ap one_if (ne_eqb k other apart) in
    let same = ap (λ d. one_if (not (has_had due d))) (at-other ds k other (after_withdrawal (destination_at ds k)) (λ e. apart (sym e))) in
    omega arith)
    (cases_eq k other)
left-after line other due (Hear k now) ds waiting within allowed later =
    let same = at-after_hearing (LeftAtMost due (left due ds other)) now ds k other (omega arith) (λ _. after_hearing-later due now (destination_at ds other) (later-than due now later)) in
    omega arith

longer : (ds : List Destination) (step : Step) (other : ℕ) → other < length ds → other < length (after ds step)
longer ds (Add now) other within = omega (arith, length-append ds (new_at now ∷ []))
longer ds (Put item k) other within = cond_both (is_out ds k item) ds (with_changed (with_item item) ds k) (λ all. other < length all) (λ _. within) (λ _. omega (arith, length-set ds k (with_item item (destination_at ds k))))
longer ds (Give now flight) other within = omega (arith, length-set ds flight.line (after_start (destination_at ds flight.line)))
longer ds (Fail k now) other within = omega (arith, length-set ds k (after_failed_try now (destination_at ds k)))
longer ds (Settle k now) other within = omega (arith, length-set ds k (after_answer now (destination_at ds k)))
longer ds (Withdraw k) other within = omega (arith, length-set ds k (after_withdrawal (destination_at ds k)))
longer ds (Hear k now) other within = omega (arith, length-set ds k (after_hearing now (destination_at ds k)))

given-at-most : (line other due : ℕ) (steps : List Step) (ds : List Destination) → Waits due (destination_at ds line) → other < length ds → IsRun ds steps → list_all (is_later due) steps ≡ true → list_any (gives line) steps ≡ false → count_by (gives other) steps ≤ count_by (withdraws other) steps + left due ds other
given-at-most line other due [] ds waiting within run later none = omega arith
given-at-most line other due (step ∷ steps) ds waiting within run later none =
    let parts = and_parts (is_later due step) (list_all (is_later due) steps) later in
    let others = or_parts (gives line step) (list_any (gives line) steps) none in
    let rest = given-at-most line other due steps (after ds step) (waits-after line due step ds waiting run.0 parts.0 others.0) (longer ds step other within) run.1 parts.1 others.1 in
    let now = left-after line other due step ds waiting within run.0 parts.0 in
    let given = sum_by-cons (λ s. one_if (gives other s)) step steps in
    let dropped = sum_by-cons (λ s. one_if (withdraws other s)) step steps in
    omega arith

pub each-takes-its-turn : EachTakesItsTurn
each-takes-its-turn ds line other steps waiting within run later none =
    let most = given-at-most line other (destination_at ds line).due steps ds (waiting, refl) within run later none in
    let one = one_if-most (not (has_had (destination_at ds line).due (destination_at ds other))) in
    omega arith

-- ---- the one that is heard from

abbrev DueBy : ℕ → Destination → Type 0
DueBy now d = (waits d ≡ true) × (d.due ≤ now)

due-after : (line by : ℕ) (step : Step) (ds : List Destination) → DueBy by (destination_at ds line) → Allows ds step → gives line step ≡ false → DueBy by (destination_at (after ds step) line)
due-after line by (Add now) ds due allowed other = at-added (DueBy by) ds now line due (λ new. absurd (true≢false (sym due.0 ∙ ap waits new)))
due-after line by (Put item k) ds due allowed other = at-put (DueBy by) item ds k line allowed due (λ _. (waits-more (destination_at ds line) item due.0, due.1))
due-after line by (Give now flight) ds due allowed other = at-step (DueBy by) after_start ds flight.line line allowed.within due (λ here. absurd (both_ways _ other (eq-eqb flight.line line here)))
due-after line by (Fail k now) ds due allowed other = at-step (DueBy by) (after_failed_try now) ds k line (flies-within ds k allowed) due (λ here. absurd (flies-waits ds k line due.0 allowed here))
due-after line by (Settle k now) ds due allowed other = at-step (DueBy by) (after_answer now) ds k line (flies-within ds k allowed) due (λ here. absurd (flies-waits ds k line due.0 allowed here))
due-after line by (Withdraw k) ds due allowed other = at-step (DueBy by) after_withdrawal ds k line (flies-within ds k allowed) due (λ here. absurd (flies-waits ds k line due.0 allowed here))
due-after line by (Hear k now) ds due allowed other = at-after_hearing (DueBy by) now ds k line due (λ _. (due.0, omega (arith, due.1)))

due-all : (line by : ℕ) (steps : List Step) (ds : List Destination) → DueBy by (destination_at ds line) → IsRun ds steps → list_any (gives line) steps ≡ false → DueBy by (destination_at (after_all ds steps) line)
due-all line by [] ds due run none = due
due-all line by (step ∷ steps) ds due run none =
    let parts = or_parts (gives line step) (list_any (gives line) steps) none in
    due-all line by steps (after ds step) (due-after line by step ds due run.0 parts.0) run.1 parts.1

some-next : (now line : ℕ) (ds : List Destination) (found : Option Flight) → DueBy now (destination_at ds line) → IsNextOrQuiet now ds found → IsSome found
some-next now line ds None due quiet = absurd (omega (arith, due.1, quiet line due.0))
some-next now line ds (Some flight) due is = search rules

after_hearing-due : (ds : List Destination) (line now : ℕ) → waits_at ds line ≡ true → DueBy now (destination_at (with_changed (after_hearing now) ds line) line)
after_hearing-due ds line now waiting =
    let d = destination_at ds line in
    subst (DueBy now) (sym (at-changed ds line (after_hearing now d) (waits-within ds line waiting))) (waiting, omega arith)

pub what-is-after_hearing-is-given : WhatIsHeardIsGiven
what-is-after_hearing-is-given ds line now steps found waiting run none next =
    some-next now line (after_all (with_changed (after_hearing now) ds line) steps) found
    (due-all line now steps (with_changed (after_hearing now) ds line) (after_hearing-due ds line now waiting) run.1 none)
    next
