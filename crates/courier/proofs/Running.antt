-- What each step leaves at a destination, and from that the laws over all steps.
use Rattle.std.proofs.Common.{◌≡◌, ⊎_elim, ◌==◌, ◌&&◌, ◌||◌, ℕ, zero, suc, ◌+◌, ◌<◌, true, false, List, [], ◌∷◌, ◌++◌, Some, slice_get, take, drop, fold, min, ◌*◌, ◌^◌, length, count_by, refl, sym, ap, subst, ◌∙◌, arith, rules, tests}
use Rattle.std.proofs.lemmas.Bool.{and_parts, cases_eq, cases_lt, cond_both, eqb-true, eq-eqb, false_from_ne_true, ne_eqb, or_from, or_parts, true≢false, both_ways}
use Rattle.std.proofs.lemmas.List.{set_past}
use Rattle.std.proofs.lemmas.List.Sums.{sum_by-cons}
use Rattle.std.proofs.Math.Nat.{mul_assoc, mul_left_comm, pow-succ'}
use Rattle.std.specs.List.{list_any}
use Rattle.courier.proofs.Differing.{has-push, has-turned}
use Rattle.courier.proofs.Keeping.{at-changed, at-other, flies-within, idle-flying}
use Rattle.courier.specs.declared.TheConstants.{FIRST_DELAY, LAST_DELAY}
use Rattle.courier.specs.Destination.{Destination, after_answer, after_failed_try, after_hearing, after_start, after_withdrawal, new_at, with_item}
use Rattle.courier.specs.Items.{all_differ, has}
use Rattle.courier.specs.Laws.{DelaysDouble, EachComesNearer, HeardWaitsAnew, NoneComesBack, OneAtOnce}
use Rattle.courier.specs.Runs.{Step, Add, Put, Give, Fail, Settle, Withdraw, Hear, Allows, IsRun, after, after_all, ends, gives, gives_item, puts_item}
use Rattle.courier.specs.Table.{destination_at, flies_at, is_out, put, waits_at, with_changed}
use Rattle.courier.specs.Turns.{one_if}

-- ---- at a destination

pub at-added : (P : Destination → Type 0) (ds : List Destination) (now line : ℕ) → P (destination_at ds line) → (destination_at ds line ≡ new_at 0 → P (new_at now)) → P (destination_at (ds ++ new_at now ∷ []) line)
at-added P [] now zero old new = new refl
at-added P [] now (suc line) old new = old
at-added P (d ∷ ds) now zero old new = old
at-added P (d ∷ ds) now (suc line) old new = at-added P ds now line old new

pub at-step : (P : Destination → Type 0) (f : Destination → Destination) (ds : List Destination) (k line : ℕ) → k < length ds → P (destination_at ds line) → (k ≡ line → P (f (destination_at ds line))) → P (destination_at (with_changed f ds k) line)
at-step P f ds k line within old new =
    ⊎_elim
    (λ here. subst (λ j. P (destination_at (with_changed f ds k) j)) here (subst P (sym (at-changed ds k (f (destination_at ds k)) within)) (subst (λ j. P (f (destination_at ds j))) (sym here) (new here))))
    (λ other. subst P (sym (at-other ds k line (f (destination_at ds k)) (λ here. other (sym here)))) old)
    (cases_eq k line)

pub at-put : (P : Destination → Type 0) (item : ℕ) (ds : List Destination) (k line : ℕ) → k < length ds → P (destination_at ds line) → (k ≡ line → P (with_item item (destination_at ds line))) → P (destination_at (put item ds k) line)
at-put P item ds k line within old new =
    cond_both (is_out ds k item) ds (with_changed (with_item item) ds k) (λ all. P (destination_at all line)) (λ _. old) (λ _. at-step P (with_item item) ds k line within old new)

-- a destination is heard from, if it is there
pub at-after_hearing : (P : Destination → Type 0) (now : ℕ) (ds : List Destination) (k line : ℕ) → P (destination_at ds line) → (k ≡ line → P (after_hearing now (destination_at ds line))) → P (destination_at (with_changed (after_hearing now) ds k) line)
at-after_hearing P now ds k line old new =
    ⊎_elim
    (λ within. at-step P (after_hearing now) ds k line within old new)
    (λ past. subst (λ all. P (destination_at all line)) (sym (set_past ds k (after_hearing now (destination_at ds k)) past)) old)
    (cases_lt k (length ds))

-- ---- one at once

flies-after : (line : ℕ) (step : Step) (ds : List Destination) → flies_at ds line ≡ true → Allows ds step → ends line step ≡ false → flies_at (after ds step) line ≡ true
flies-after line (Add now) ds flies allowed still = at-added (λ d. d.flying ≡ true) ds now line flies (λ new. absurd (true≢false (sym flies ∙ ap (λ d. d.flying) new)))
flies-after line (Put item k) ds flies allowed still = at-put (λ d. d.flying ≡ true) item ds k line allowed flies (λ _. flies)
flies-after line (Give now flight) ds flies allowed still = at-step (λ d. d.flying ≡ true) after_start ds flight.line line allowed.within flies (λ _. refl)
flies-after line (Fail k now) ds flies allowed still = at-step (λ d. d.flying ≡ true) (after_failed_try now) ds k line (flies-within ds k allowed) flies (λ here. absurd (both_ways _ still (eq-eqb k line here)))
flies-after line (Settle k now) ds flies allowed still = at-step (λ d. d.flying ≡ true) (after_answer now) ds k line (flies-within ds k allowed) flies (λ here. absurd (both_ways _ still (eq-eqb k line here)))
flies-after line (Withdraw k) ds flies allowed still = at-step (λ d. d.flying ≡ true) after_withdrawal ds k line (flies-within ds k allowed) flies (λ here. absurd (both_ways _ still (eq-eqb k line here)))
flies-after line (Hear k now) ds flies allowed still = at-after_hearing (λ d. d.flying ≡ true) now ds k line flies (λ _. flies)

gives-not : (line : ℕ) (step : Step) (ds : List Destination) → flies_at ds line ≡ true → Allows ds step → gives line step ≡ false
gives-not line (Add now) ds flies allowed = refl
gives-not line (Put item k) ds flies allowed = refl
gives-not line (Give now flight) ds flies allowed = ne_eqb flight.line line (λ here. both_ways _ (idle-flying ds line flies) (subst (λ k. waits_at ds k ≡ true) here allowed.waits))
gives-not line (Fail k now) ds flies allowed = refl
gives-not line (Settle k now) ds flies allowed = refl
gives-not line (Withdraw k) ds flies allowed = refl
gives-not line (Hear k now) ds flies allowed = refl

none-given : (line : ℕ) (steps : List Step) (ds : List Destination) → flies_at ds line ≡ true → IsRun ds steps → list_any (ends line) steps ≡ false → list_any (gives line) steps ≡ false
none-given line [] ds flies run still = refl
none-given line (step ∷ steps) ds flies run still =
    let parts = or_parts (ends line step) (list_any (ends line) steps) still in
    or_from (gives line step) (list_any (gives line) steps) (gives-not line step ds flies run.0) (none-given line steps (after ds step) (flies-after line step ds flies run.0 parts.0) run.1 parts.1)

pub one-at-once : OneAtOnce
one-at-once ds now flight steps run still =
    let flies = ap (λ d. d.flying) (at-changed ds flight.line (after_start (destination_at ds flight.line)) run.0.within) in
    none-given flight.line steps (with_changed after_start ds flight.line) flies run.1 still

-- ---- none comes back

has-first : (item : ℕ) (items : List ℕ) → slice_get items 0 ≡ Some item → has item items ≡ true
has-first item [] first = absurd (cc)
has-first item (x ∷ items) first = let same : x ≡ item = cc in ap (λ b. b || has item items) (eq-eqb x item same)

has-dropped : (item : ℕ) (items : List ℕ) → has item items ≡ false → has item (drop 1 items) ≡ false
has-dropped item [] out = out
has-dropped item (x ∷ items) out = (or_parts (x == item) (has item items) out).1

gone-first : (item : ℕ) (items : List ℕ) → all_differ items ≡ true → slice_get items 0 ≡ Some item → has item (drop 1 items) ≡ false
gone-first item [] differ first = absurd (cc)
gone-first item (x ∷ items) differ first =
    let same : x ≡ item = cc in
    subst (λ i. has i items ≡ false) same (search (rules, tests))

out-after : (line item : ℕ) (step : Step) (ds : List Destination) → is_out ds line item ≡ false → Allows ds step → puts_item line item step ≡ false → is_out (after ds step) line item ≡ false
out-after line item (Add now) ds out allowed idle = at-added (λ d. has item d.items ≡ false) ds now line out (λ _. refl)
out-after line item (Put other k) ds out allowed idle =
    at-put (λ d. has item d.items ≡ false) other ds k line allowed out (λ here.
    let differs = ap (λ b. b && other == item) (sym (eq-eqb k line here)) ∙ idle in
    has-push item other (destination_at ds line).items ∙ or_from _ (other == item) out differs)
out-after line item (Give now flight) ds out allowed idle = at-step (λ d. has item d.items ≡ false) after_start ds flight.line line allowed.within out (λ _. out)
out-after line item (Fail k now) ds out allowed idle = at-step (λ d. has item d.items ≡ false) (after_failed_try now) ds k line (flies-within ds k allowed) out (λ _. has-turned item (destination_at ds line).items ∙ out)
out-after line item (Settle k now) ds out allowed idle = at-step (λ d. has item d.items ≡ false) (after_answer now) ds k line (flies-within ds k allowed) out (λ _. has-dropped item (destination_at ds line).items out)
out-after line item (Withdraw k) ds out allowed idle = at-step (λ d. has item d.items ≡ false) after_withdrawal ds k line (flies-within ds k allowed) out (λ _. has-dropped item (destination_at ds line).items out)
out-after line item (Hear k now) ds out allowed idle = at-after_hearing (λ d. has item d.items ≡ false) now ds k line out (λ _. out)

gives-other : (line item : ℕ) (step : Step) (ds : List Destination) → is_out ds line item ≡ false → Allows ds step → gives_item line item step ≡ false
gives-other line item (Add now) ds out allowed = refl
gives-other line item (Put other k) ds out allowed = refl
gives-other line item (Give now flight) ds out allowed =
    false_from_ne_true _ (λ given.
    let parts = and_parts (flight.line == line) (flight.item == item) given in
    let there = has-first flight.item (destination_at ds flight.line).items allowed.item in
    both_ways _ out (subst (λ k. is_out ds k item ≡ true) (eqb-true _ _ parts.0) (subst (λ i. is_out ds flight.line i ≡ true) (eqb-true _ _ parts.1) there)))
gives-other line item (Fail k now) ds out allowed = refl
gives-other line item (Settle k now) ds out allowed = refl
gives-other line item (Withdraw k) ds out allowed = refl
gives-other line item (Hear k now) ds out allowed = refl

none-back : (line item : ℕ) (steps : List Step) (ds : List Destination) → is_out ds line item ≡ false → IsRun ds steps → list_any (puts_item line item) steps ≡ false → list_any (gives_item line item) steps ≡ false
none-back line item [] ds out run idle = refl
none-back line item (step ∷ steps) ds out run idle =
    let parts = or_parts (puts_item line item step) (list_any (puts_item line item) steps) idle in
    or_from (gives_item line item step) (list_any (gives_item line item) steps) (gives-other line item step ds out run.0) (none-back line item steps (after ds step) (out-after line item step ds out run.0 parts.0) run.1 parts.1)

pub none-comes-back : NoneComesBack
none-comes-back ds line now item steps paced first run idle =
    let within = flies-within ds line run.0 in
    let d = destination_at ds line in
    let gone = gone-first item d.items (paced line (new_at 0) within).differ first in
    let out = ap (λ e. has item e.items) (at-changed ds line (after_answer now d) within) ∙ gone in
    none-back line item steps (with_changed (after_answer now) ds line) out run.1 idle

-- ---- each comes nearer

get-push : (items : List ℕ) (new place item : ℕ) → slice_get items place ≡ Some item → slice_get (items ++ new ∷ []) place ≡ Some item
get-push [] new place item there = absurd (cc)
get-push (x ∷ items) new zero item there = there
get-push (x ∷ items) new (suc place) item there = get-push items new place item there

get-dropped : (items : List ℕ) (place item : ℕ) → slice_get items (suc place) ≡ Some item → slice_get (drop 1 items) place ≡ Some item
get-dropped [] place item there = absurd (cc)
get-dropped (x ∷ items) place item there = there

get-turned : (items : List ℕ) (place item : ℕ) → slice_get items (suc place) ≡ Some item → slice_get (drop 1 items ++ take 1 items) place ≡ Some item
get-turned [] place item there = absurd (cc)
get-turned (x ∷ items) place item there = get-push items x place item there

abbrev Stands : ℕ → ℕ → Destination → Type 0
Stands place item d = slice_get d.items place ≡ Some item

at-end : (f : Destination → Destination) (ds : List Destination) (k line old new item : ℕ) → ((d : Destination) (p : ℕ) → Stands (suc p) item d → Stands p item (f d)) → flies_at ds k ≡ true → Stands old item (destination_at ds line) → old ≡ new + one_if (k == line) → Stands new item (destination_at (with_changed f ds k) line)
at-end f ds k line old new item nearer flies there moved =
    ⊎_elim
    (λ here.
    let first = ap one_if (eq-eqb k line here) in
    let behind : old ≡ suc new = omega arith in
    let step = nearer (destination_at ds line) new (subst (λ p. Stands p item (destination_at ds line)) behind there) in
    subst (λ j. Stands new item (destination_at (with_changed f ds k) j)) here (subst (Stands new item) (sym (at-changed ds k (f (destination_at ds k)) (flies-within ds k flies))) (subst (λ j. Stands new item (f (destination_at ds j))) (sym here) step)))
    (λ other.
    let none = ap one_if (ne_eqb k line other) in
    let same : old ≡ new = omega arith in
    subst (Stands new item) (sym (at-other ds k line (f (destination_at ds k)) (λ here. other (sym here)))) (subst (λ p. Stands p item (destination_at ds line)) same there))
    (cases_eq k line)

place-after : (line old new item : ℕ) (step : Step) (ds : List Destination) → Stands old item (destination_at ds line) → Allows ds step → old ≡ new + one_if (ends line step) → Stands new item (destination_at (after ds step) line)
place-after line old new item (Add now) ds there allowed moved =
    let same : old ≡ new = omega arith in
    let stays = subst (λ p. Stands p item (destination_at ds line)) same there in
    at-added (Stands new item) ds now line stays (λ added. subst (Stands new item) added stays)
place-after line old new item (Put other k) ds there allowed moved =
    let same : old ≡ new = omega arith in
    let stays = subst (λ p. Stands p item (destination_at ds line)) same there in
    at-put (Stands new item) other ds k line allowed stays (λ _. get-push (destination_at ds line).items other new item stays)
place-after line old new item (Give now flight) ds there allowed moved =
    let same : old ≡ new = omega arith in
    let stays = subst (λ p. Stands p item (destination_at ds line)) same there in
    at-step (Stands new item) after_start ds flight.line line allowed.within stays (λ _. stays)
place-after line old new item (Fail k now) ds there allowed moved = at-end (after_failed_try now) ds k line old new item (λ d p. get-turned d.items p item) allowed there moved
place-after line old new item (Settle k now) ds there allowed moved = at-end (after_answer now) ds k line old new item (λ d p. get-dropped d.items p item) allowed there moved
place-after line old new item (Withdraw k) ds there allowed moved = at-end after_withdrawal ds k line old new item (λ d p. get-dropped d.items p item) allowed there moved
place-after line old new item (Hear k now) ds there allowed moved =
    let same : old ≡ new = omega arith in
    let stays = subst (λ p. Stands p item (destination_at ds line)) same there in
    at-after_hearing (Stands new item) now ds k line stays (λ _. stays)

nearer : (line left item : ℕ) (steps : List Step) (ds : List Destination) → Stands (left + count_by (ends line) steps) item (destination_at ds line) → IsRun ds steps → Stands left item (destination_at (after_all ds steps) line)
nearer line left item [] ds there run =
    let same : left + count_by (ends line) [] ≡ left = omega arith in
    subst (λ p. Stands p item (destination_at ds line)) same there
nearer line left item (step ∷ steps) ds there run =
    let counted = sum_by-cons (λ s. one_if (ends line s)) step steps in
    nearer line left item steps (after ds step) (place-after line (left + count_by (ends line) (step ∷ steps)) (left + count_by (ends line) steps) item step ds there run.0 (omega arith)) run.1

pub each-comes-nearer : EachComesNearer
each-comes-nearer ds line left item steps there run = nearer line left item steps ds there run

-- ---- delays

-- twice what is at most the last delay, and at most that, is the last delay or twice the whole
min-twice : (a : ℕ) → min (2 * min a LAST_DELAY) LAST_DELAY ≡ min (2 * a) LAST_DELAY
min-twice a = omega arith

doubled : (failures : List ℕ) (d : Destination) (a : ℕ) → d.delay ≡ min a LAST_DELAY → (fold (λ d now. after_failed_try now d) d failures).delay ≡ min (a * 2 ^ length failures) LAST_DELAY
doubled [] d a delay = delay ∙ ap (λ x. min x LAST_DELAY) (omega arith)
doubled (now ∷ failures) d a delay =
    let power = 2 ^ length failures in
    let whole = mul_assoc 2 a power ∙ sym (mul_left_comm a 2 power) ∙ ap (λ x. a * x) (sym (pow-succ' 2 (length failures))) in
    doubled failures (after_failed_try now d) (2 * a) (ap (λ x. min (2 * x) LAST_DELAY) delay ∙ min-twice a) ∙ ap (λ x. min x LAST_DELAY) whole

pub delays-double : DelaysDouble
delays-double d now failures = doubled failures (after_answer now d) FIRST_DELAY refl

pub after_hearing-waits-anew : HeardWaitsAnew
after_hearing-waits-anew d now later = refl
