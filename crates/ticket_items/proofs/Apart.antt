-- Ids apart from each other, and a set of ids.
use Rattle.std.proofs.Common.{◌≡◌, ℕ, ◌+◌, ◌<◌, ◌&&◌, ◌||◌, Bool, true, false, not, cond, List, [], ◌∷◌, ◌++◌, map, length, get_or, take, drop, Bor, refl, sym, ap, ◌∙◌, is_eq, nat_cmp}
use Rattle.std.proofs.lemmas.Bool.{true≢false, and_parts, and_from, and_right, not_from_false, not-true}
use Rattle.std.proofs.lemmas.List.{take_more, map_push, map-append, take-append-drop, drop_more}
use Rattle.std.proofs.lemmas.List.Folds.{list_any-append}
use Rattle.std.proofs.lemmas.Map.Text.{is_eq-slice_cmp}
use Rattle.std.proofs.lemmas.Slice.Eq.{bytes_eq-Decides}
use Rattle.std.specs.BTreeSet.{BTreeSet, contains_by, Updates}
use Rattle.std.specs.Cmp.Lexicographic.{slice_cmp, nat_list_eq_equiv}
use Rattle.std.specs.Str.{bytes_eq}
use Rattle.ticket_items.specs.Ids.{mem, are_distinct}

pub bytes_eq-symm : (x y : List ℕ) → bytes_eq x y ≡ bytes_eq y x
bytes_eq-symm = nat_list_eq_equiv.symm

pub bytes_eq-same : (x : List ℕ) → bytes_eq x x ≡ true
bytes_eq-same = nat_list_eq_equiv.refl

pub or_true : (a : Bool) → (a || true) ≡ true
or_true true = refl
or_true false = refl

pub or_none : (a : Bool) → (a || false) ≡ a
or_none true = refl
or_none false = refl

pub or_false : (a b : Bool) → a ≡ false → b ≡ false → (a || b) ≡ false
or_false a b p q = ap (λ x. x || b) p ∙ q

or_parts : (a b : Bool) → (a || b) ≡ false → (a ≡ false) × (b ≡ false)
or_parts true b h = (h, absurd (true≢false h))
or_parts false b h = (refl, h)

pub mem-append : (x : List ℕ) (xs ys : List (List ℕ)) → mem x (xs ++ ys) ≡ (mem x xs || mem x ys)
mem-append x xs ys = list_any-append (λ y. bytes_eq y x) xs ys

-- one more id, that isn't among those before it
pub are_distinct-push : (xs : List (List ℕ)) (x : List ℕ) → are_distinct xs ≡ true → mem x xs ≡ false → are_distinct (xs ++ x ∷ []) ≡ true
are_distinct-push [] x apart new = refl
are_distinct-push (y ∷ xs) x apart new =
    let parts : (not (mem y xs) ≡ true) × (are_distinct xs ≡ true) = and_parts _ _ apart in
    let news : (bytes_eq y x ≡ false) × (mem x xs ≡ false) = or_parts _ _ new in
    let alone : mem y (xs ++ x ∷ []) ≡ false =
    mem-append y xs (x ∷ []) ∙ or_false _ _ (not-true _ parts.0) (or_false (bytes_eq x y) false (bytes_eq-symm x y ∙ news.0) refl) in
    and_from _ _ (not_from_false _ alone) (are_distinct-push xs x parts.1 news.1)

-- an id that stands before itself
twice_at : (b m : Bool) (xs : List (List ℕ)) (x y : List ℕ) (ys : List (List ℕ)) → bytes_eq y x ≡ b → (mem x xs ≡ true → are_distinct (xs ++ x ∷ ys) ≡ false) → (b || mem x xs) ≡ true → are_distinct (y ∷ xs ++ x ∷ ys) ≡ false
twice_at true m xs x y ys e later h =
    let there : mem y (xs ++ x ∷ ys) ≡ true = mem-append y xs (x ∷ ys) ∙ ap (λ b. mem y xs || (b || mem y ys)) (bytes_eq-symm x y ∙ e) ∙ or_true (mem y xs) in
    ap (λ b. not b && are_distinct (xs ++ x ∷ ys)) there
twice_at false m xs x y ys e later h = and_right _ _ (later h)

pub are_distinct-twice : (xs : List (List ℕ)) (x : List ℕ) (ys : List (List ℕ)) → mem x xs ≡ true → are_distinct (xs ++ x ∷ ys) ≡ false
are_distinct-twice [] x ys h = absurd (true≢false (sym h))
are_distinct-twice (y ∷ xs) x ys h = twice_at (bytes_eq y x) true xs x y ys refl (are_distinct-twice xs x ys) h

-- ---- two lists of ids that are apart

pub later_part : (x : List ℕ) (xs ys : List (List ℕ)) → mem x (xs ++ ys) ≡ false → mem x ys ≡ false
later_part x xs ys out = (or_parts (mem x xs) (mem x ys) (sym (mem-append x xs ys) ∙ out)).1

pub later_distinct : (xs ys : List (List ℕ)) → are_distinct (xs ++ ys) ≡ true → are_distinct ys ≡ true
later_distinct [] ys h = h
later_distinct (x ∷ xs) ys h = later_distinct xs ys (and_parts _ _ h).1

pub front_distinct : (xs ys : List (List ℕ)) → are_distinct (xs ++ ys) ≡ true → are_distinct xs ≡ true
front_distinct [] ys h = refl
front_distinct (x ∷ xs) ys h =
    let parts = and_parts _ _ h in
    let out = or_parts (mem x xs) (mem x ys) (sym (mem-append x xs ys) ∙ not-true _ parts.0) in
    and_from _ _ (not_from_false _ out.0) (front_distinct xs ys parts.1)

other_part_at : (b : Bool) (x y : List ℕ) (xs ys : List (List ℕ)) → bytes_eq y x ≡ b → not (mem y (xs ++ ys)) ≡ true → (b || mem x xs) ≡ true → (mem x xs ≡ true → mem x ys ≡ false) → mem x ys ≡ false
other_part_at true x y xs ys e out there later = ap (λ z. mem z ys) (sym ((bytes_eq-Decides y x).0 e)) ∙ later_part y xs ys (not-true _ out)
other_part_at false x y xs ys e out there later = later there

-- what stands in the front doesn't stand behind it
pub other_part : (x : List ℕ) (xs ys : List (List ℕ)) → are_distinct (xs ++ ys) ≡ true → mem x xs ≡ true → mem x ys ≡ false
other_part x [] ys apart there = absurd (true≢false (sym there))
other_part x (y ∷ xs) ys apart there =
    let parts = and_parts _ _ apart in
    other_part_at (bytes_eq y x) x y xs ys refl parts.0 there (other_part x xs ys parts.1)

apart_at : (b : Bool) (x : List ℕ) (xs ys : List (List ℕ)) → mem x xs ≡ b → are_distinct (xs ++ ys) ≡ true → mem x ys ≡ true → b ≡ false
apart_at true x xs ys e apart there = absurd (true≢false (sym there ∙ other_part x xs ys apart e))
apart_at false x xs ys e apart there = refl

-- what stands behind doesn't stand in front
pub not_in_front : (x : List ℕ) (xs ys : List (List ℕ)) → are_distinct (xs ++ ys) ≡ true → mem x ys ≡ true → mem x xs ≡ false
not_in_front x xs ys apart there = apart_at (mem x xs) x xs ys refl apart there

-- ---- a set of ids

or_first : (a b c : Bool) → a ≡ b → cond a true c ≡ (c || b)
or_first true b c e = sym (ap (λ x. c || x) (sym e) ∙ or_true c)
or_first false b c e = sym (ap (λ x. c || x) (sym e) ∙ or_none c)

-- a set that got an id, asked for another
pub contains-inserted : (s n : BTreeSet (Bor (List ℕ))) (k : Bor (List ℕ)) → Updates (λ x y. slice_cmp nat_cmp x.now y.now) s n k true → (q : List ℕ)
    → contains_by (λ y. slice_cmp nat_cmp q y.now) n ≡ (contains_by (λ y. slice_cmp nat_cmp q y.now) s || bytes_eq k.now q)
contains-inserted s n k h q =
    let key : Bor (List ℕ) = record { ref_ptr = (0, 0); now = q } in
    h.0 key ∙ or_first (is_eq (slice_cmp nat_cmp k.now q)) (bytes_eq k.now q) _ (is_eq-slice_cmp k.now q)

abbrev pub texts_of : List (Bor (List ℕ)) → List (List ℕ)
texts_of ts = map (λ s. s.now) ts

-- one text more
pub texts_more : (ts : List (Bor (List ℕ))) (i : ℕ) (d : Bor (List ℕ)) → i < length ts → texts_of (take (i + 1) ts) ≡ texts_of (take i ts) ++ (get_or ts i d).now ∷ []
texts_more ts i d within = ap texts_of (take_more ts i d within) ∙ map_push (λ s. s.now) (take i ts) (get_or ts i d)

-- the texts before a place, the one there, and those behind it
pub texts_split : (ts : List (Bor (List ℕ))) (i : ℕ) (d : Bor (List ℕ)) → i < length ts → texts_of ts ≡ texts_of (take i ts) ++ (get_or ts i d).now ∷ texts_of (drop (i + 1) ts)
texts_split ts i d within =
    ap texts_of (sym (take-append-drop i ts)) ∙ map-append (λ s. s.now) (take i ts) (drop i ts) ∙ ap (λ xs. texts_of (take i ts) ++ texts_of xs) (drop_more ts i d within)

abbrev pub no_text : Bor (List ℕ)
no_text = record { ref_ptr = (0, 0); now = [] }

abbrev pub text_at : List (Bor (List ℕ)) → ℕ → Bor (List ℕ)
text_at ts i = get_or ts i no_text
