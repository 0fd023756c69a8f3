-- How many stand below each node, and how a new node changes that.
use Rattle.std.proofs.Common.{◌≡◌, ℕ, zero, suc, ◌+◌, ◌<◌, ◌≤◌, ◌&&◌, Bool, true, false, not, cond}
use Rattle.std.proofs.Common.{List, [], ◌∷◌, ◌++◌, length, take, drop, insert, Option, Some, None}
use Rattle.std.proofs.Common.{refl, sym, ap, ◌∙◌, arith, leb, slice_get, subst}
use Rattle.std.proofs.lemmas.Bool.{leb-true, leb-false, le-leb, lt-leb}
use Rattle.std.proofs.lemmas.List.{append_assoc, length-append, take-append-drop}
use Rattle.std.specs.List.{position_or_len}
use Rattle.std.specs.Option.{option_map}
use Rattle.ticket_rows.specs.Index.{longer_run, runs_of}

-- how many are deeper than d, up to the first that isn't
abbrev pub deeper : ℕ → List ℕ → ℕ
deeper d ds = position_or_len (λ e. leb e d) ds

pub stop : (d e : ℕ) (es : List ℕ) → e ≤ d → deeper d (e ∷ es) ≡ 0
stop d e es low = ap (λ b. cond (not b) (1 + deeper d es) 0) (le-leb e d low)

pub pass : (d e : ℕ) (es : List ℕ) → d < e → deeper d (e ∷ es) ≡ suc (deeper d es)
pass d e es high = ap (λ b. cond (not b) (1 + deeper d es) 0) (lt-leb e d high) ∙ omega arith

-- the first, if there is one, isn't deeper
abbrev Stops : ℕ → List ℕ → Type 0
Stops d [] = Unit {0}
Stops d (e ∷ es) = e ≤ d

-- all are deeper
abbrev Deeper : ℕ → List ℕ → Type 0
Deeper d [] = Unit {0}
Deeper d (e ∷ es) = (d < e) × Deeper d es

stops_zero : (d : ℕ) (es : List ℕ) → Stops d es → deeper d es ≡ 0
stops_zero d [] h = refl
stops_zero d (e ∷ es) h = stop d e es h

stops_more : (d e : ℕ) (es : List ℕ) → Stops d es → d ≤ e → Stops e es
stops_more d e [] h low = tt
stops_more d e (x ∷ es) h low =
    let first : x ≤ d = h in
    omega arith

deeper_less : (a d : ℕ) (f : List ℕ) → a < d → Deeper d f → Deeper a f
deeper_less a d [] low h = tt
deeper_less a d (x ∷ f) low h =
    let first : d < x = h.0 in
    (omega arith, deeper_less a d f low h.1)

capped : (e : ℕ) (f b : List ℕ) → Stops e b → deeper e (f ++ b) ≡ deeper e f
capped e [] b h = stops_zero e b h
capped e (x ∷ f) b h = ap (λ n. cond (not (leb x e)) (1 + n) 0) (capped e f b h)

all_of : (d : ℕ) (f b : List ℕ) → Deeper d f → deeper d (f ++ b) ≡ length f + deeper d b
all_of d [] b h = omega arith
all_of d (x ∷ f) b h = pass d x (f ++ b) h.0 ∙ omega (arith, all_of d f b h.1)

runs_capped : (d : ℕ) (f b : List ℕ) → Deeper d f → ((e : ℕ) → d < e → Stops e b)
    → runs_of (f ++ b) ≡ runs_of f ++ runs_of b
runs_capped d [] b h stops = refl
runs_capped d (x ∷ f) b h stops =
    ap (λ n. n ∷ runs_of (f ++ b)) (capped x f b (stops x h.0)) ∙ ap (λ ns. deeper x f ∷ ns) (runs_capped d f b h.1 stops)

pub length-runs : (ds : List ℕ) → length (runs_of ds) ≡ length ds
length-runs [] = refl
length-runs (d ∷ ds) = omega (arith, length-runs ds)

-- ---- one more at a place

abbrev ins : {X : Type 0} → ℕ → X → List X → List X
ins zero y xs = y ∷ xs
ins (suc i) y [] = y ∷ []
ins (suc i) y (x ∷ xs) = x ∷ ins i y xs

ins-insert : {X : Type 0} (xs : List X) (i : ℕ) (y : X) → ins i y xs ≡ insert xs i y
ins-insert [] zero y = refl
ins-insert [] (suc i) y = refl
ins-insert (x ∷ xs) zero y = refl
ins-insert (x ∷ xs) (suc i) y = ap (λ ys. x ∷ ys) (ins-insert xs i y)

ins-behind : {X : Type 0} (xs ys : List X) (y : X) → ins (length xs) y (xs ++ ys) ≡ xs ++ y ∷ ys
ins-behind [] ys y = refl
ins-behind (x ∷ xs) ys y = ap (λ zs. x ∷ zs) (ins-behind xs ys y)

-- ---- one more below

-- a run that comes so far grows
abbrev grown : ℕ → ℕ → ℕ
grown k n = cond (leb k n) (suc n) n

grown-low : (k n : ℕ) → n < k → grown k n ≡ n
grown-low k n low = ap (λ b. cond b (suc n) n) (lt-leb k n low)

grown-high : (k n : ℕ) → k ≤ n → grown k n ≡ suc n
grown-high k n high = ap (λ b. cond b (suc n) n) (le-leb k n high)

grown-suc : (k n : ℕ) → suc (grown k n) ≡ grown (suc k) (suc n)
grown-suc k n = by (leb k n) refl
  where
    by : (b : Bool) → leb k n ≡ b → suc (grown k n) ≡ grown (suc k) (suc n)
    by true e =
        let high : k ≤ n = leb-true k n e in
        ap suc (grown-high k n high) ∙ sym (grown-high (suc k) (suc n) (omega arith))
    by false e =
        let low : n < k = leb-false k n e in
        ap suc (grown-low k n low) ∙ sym (grown-low (suc k) (suc n) (omega arith))

abbrev pub with_one : ℕ → List ℕ → List ℕ
with_one k [] = []
with_one zero (n ∷ ns) = suc n ∷ ns
with_one (suc k) (n ∷ ns) = grown (suc k) n ∷ with_one k ns

at_node : (d : ℕ) (f b : List ℕ) → Deeper d f → Stops d b
    → runs_of (d ∷ f ++ suc d ∷ b) ≡ ins (suc (length f)) 0 (with_one 0 (runs_of (d ∷ f ++ b)))
at_node d f b h stops =
    let one : Stops (suc d) (suc d ∷ b) = omega arith in
    let count : deeper d (f ++ suc d ∷ b) ≡ suc (deeper d (f ++ b)) = omega (arith, all_of d f b h, all_of d f (suc d ∷ b) h, pass d (suc d) b (omega arith)) in
    let new : runs_of (f ++ suc d ∷ b) ≡ runs_of f ++ 0 ∷ runs_of b
    = runs_capped d f (suc d ∷ b) h (λ e low. low) ∙ ap (λ n. runs_of f ++ n ∷ runs_of b) (stops_zero (suc d) b (stops_more d (suc d) b stops (omega arith))) in
    let old : runs_of (f ++ b) ≡ runs_of f ++ runs_of b = runs_capped d f b h (λ e low. stops_more d e b stops (omega arith)) in
    ap (λ n. n ∷ runs_of (f ++ suc d ∷ b)) count
    ∙ ap (λ ns. suc (deeper d (f ++ b)) ∷ ns)
    (new ∙ sym (ap (λ i. ins i 0 (runs_of (f ++ b))) (sym (length-runs f)) ∙ ap (ins (length (runs_of f)) 0) old ∙ ins-behind (runs_of f) (runs_of b) 0))

in_front : (a : ℕ) (pre : List ℕ) (d : ℕ) (f b : List ℕ) → Deeper d f → Stops d b
    → deeper a (pre ++ d ∷ (f ++ suc d ∷ b)) ≡ grown (suc (length pre)) (deeper a (pre ++ d ∷ (f ++ b)))
in_front a [] d f b h stops = by (leb d a) refl
  where
    by : (c : Bool) → leb d a ≡ c
        → deeper a (d ∷ f ++ suc d ∷ b) ≡ grown 1 (deeper a (d ∷ f ++ b))
    by true e =
        let low : d ≤ a = leb-true d a e in
        stop a d (f ++ suc d ∷ b) low ∙ sym (ap (grown 1) (stop a d (f ++ b) low) ∙ grown-low 1 0 (omega arith))
    by false e =
        let high : a < d = leb-false d a e in
        let all : Deeper a f = deeper_less a d f high h in
        let old : deeper a (d ∷ f ++ b) ≡ suc (length f + deeper a b) = pass a d (f ++ b) high ∙ ap suc (all_of a f b all) in
        pass a d (f ++ suc d ∷ b) high
        ∙ ap suc (all_of a f (suc d ∷ b) all ∙ ap (λ n. length f + n) (pass a (suc d) b (omega arith)))
        ∙ omega arith ∙ sym (ap (grown 1) old ∙ grown-high 1 (suc (length f + deeper a b)) (omega arith))
in_front a (p ∷ pre) d f b h stops = by (leb p a) refl (in_front a pre d f b h stops)
  where
    new : List ℕ
    new = pre ++ d ∷ (f ++ suc d ∷ b)

    old : List ℕ
    old = pre ++ d ∷ (f ++ b)

    by : (c : Bool) → leb p a ≡ c → deeper a new ≡ grown (suc (length pre)) (deeper a old)
        → deeper a (p ∷ new) ≡ grown (suc (suc (length pre))) (deeper a (p ∷ old))
    by true e later =
        let low : p ≤ a = leb-true p a e in
        stop a p new low ∙ sym (ap (grown (suc (suc (length pre)))) (stop a p old low) ∙ grown-low (suc (suc (length pre))) 0 (omega arith))
    by false e later =
        let high : a < p = leb-false p a e in
        pass a p new high ∙ ap suc later ∙ grown-suc (suc (length pre)) (deeper a old) ∙ ap (grown (suc (suc (length pre)))) (sym (pass a p old high))

one_below : (pre : List ℕ) (d : ℕ) (f b : List ℕ) → Deeper d f → Stops d b
    → runs_of (pre ++ d ∷ (f ++ suc d ∷ b))
    ≡ ins (length pre + suc (length f)) 0 (with_one (length pre) (runs_of (pre ++ d ∷ (f ++ b))))
one_below [] d f b h stops =
    let first : suc (length f) ≡ length {A = ℕ} [] + suc (length f) = omega arith in
    at_node d f b h stops ∙ ap (λ i. ins i 0 (with_one 0 (runs_of (d ∷ (f ++ b))))) first
one_below (a ∷ pre) d f b h stops =
    let next : suc (length pre + suc (length f)) ≡ length (a ∷ pre) + suc (length f) = omega arith in
    ap (λ n. n ∷ runs_of (pre ++ d ∷ (f ++ suc d ∷ b))) (in_front a pre d f b h stops)
    ∙ ap (λ ns. grown (suc (length pre)) (deeper a (pre ++ d ∷ (f ++ b))) ∷ ns) (one_below pre d f b h stops)
    ∙ ap (λ i. ins i 0 (with_one (suc (length pre)) (runs_of (a ∷ (pre ++ d ∷ (f ++ b)))))) next

-- ---- a node's run

taken : (d : ℕ) (xs : List ℕ) → Deeper d (take (deeper d xs) xs)
taken d [] = tt
taken d (x ∷ xs) = by (leb x d) refl (taken d xs)
  where
    by : (c : Bool) → leb x d ≡ c → Deeper d (take (deeper d xs) xs)
        → Deeper d (take (deeper d (x ∷ xs)) (x ∷ xs))
    by true e later = subst (λ n. Deeper d (take n (x ∷ xs))) (sym (stop d x xs (leb-true x d e))) tt
    by false e later =
        let high : d < x = leb-false x d e in
        subst (λ n. Deeper d (take n (x ∷ xs))) (sym (pass d x xs high)) (high, later)

dropped : (d : ℕ) (xs : List ℕ) → Stops d (drop (deeper d xs) xs)
dropped d [] = tt
dropped d (x ∷ xs) = by (leb x d) refl (dropped d xs)
  where
    by : (c : Bool) → leb x d ≡ c → Stops d (drop (deeper d xs) xs)
        → Stops d (drop (deeper d (x ∷ xs)) (x ∷ xs))
    by true e later =
        let low : x ≤ d = leb-true x d e in
        subst (λ n. Stops d (drop n (x ∷ xs))) (sym (stop d x xs low)) low
    by false e later = subst (λ n. Stops d (drop n (x ∷ xs))) (sym (pass d x xs (leb-false x d e))) later

long : (d : ℕ) (xs : List ℕ) → length (take (deeper d xs) xs) ≡ deeper d xs
long d [] = refl
long d (x ∷ xs) = by (leb x d) refl (long d xs)
  where
    by : (c : Bool) → leb x d ≡ c → length (take (deeper d xs) xs) ≡ deeper d xs
        → length (take (deeper d (x ∷ xs)) (x ∷ xs)) ≡ deeper d (x ∷ xs)
    by true e later = subst (λ n. length (take n (x ∷ xs)) ≡ n) (sym (stop d x xs (leb-true x d e))) refl
    by false e later = subst (λ n. length (take n (x ∷ xs)) ≡ n) (sym (pass d x xs (leb-false x d e))) (omega arith)

-- ---- a new node

abbrev Around : List ℕ → ℕ → ℕ → Type 0
Around ds k d = (pre : List ℕ) × (ds ≡ pre ++ d ∷ drop (k + 1) ds) × (length pre ≡ k)

around : (ds : List ℕ) (k d : ℕ) → slice_get ds k ≡ Some d → Around ds k d
around [] k d at = cc
around (e ∷ ds) zero d at =
    let same : e ≡ d = cc in
    let one : suc 0 ≡ 0 + 1 = omega arith in
    ([], ap (λ x. x ∷ ds) same ∙ ap (λ n. d ∷ drop n (e ∷ ds)) one, refl)
around (e ∷ ds) (suc k) d at =
    let h = around ds k d at in
    let next : suc (k + 1) ≡ suc k + 1 = omega arith in
    (e ∷ h.0, ap (λ xs. e ∷ xs) h.1 ∙ ap (λ n. e ∷ (h.0 ++ d ∷ drop n (e ∷ ds))) next, ap suc h.2)

pub runs_child : (ds : List ℕ) (k d : ℕ) → slice_get ds k ≡ Some d
    → runs_of (insert ds (k + 1 + deeper d (drop (k + 1) ds)) (suc d))
    ≡ insert (with_one k (runs_of ds)) (k + 1 + deeper d (drop (k + 1) ds)) 0
runs_child ds k d at =
    let rest : List ℕ = drop (k + 1) ds in
    let m : ℕ = deeper d rest in
    let h = around ds k d at in
    let pre : List ℕ = h.0 in
    let f : List ℕ = take m rest in
    let b : List ℕ = drop m rest in
    let whole : ds ≡ pre ++ d ∷ (f ++ b) = h.1 ∙ ap (λ xs. pre ++ d ∷ xs) (sym (take-append-drop m rest)) in
    let place : length pre + suc (length f) ≡ k + 1 + m = omega (arith, h.2, long d rest) in
    let split : pre ++ d ∷ (f ++ b) ≡ (pre ++ d ∷ f) ++ b = sym (append_assoc pre (d ∷ f) b) in
    let end : length (pre ++ d ∷ f) ≡ k + 1 + m = length-append pre (d ∷ f) ∙ place in
    let new : insert ds (k + 1 + m) (suc d) ≡ pre ++ d ∷ (f ++ suc d ∷ b)
    = sym (ins-insert ds (k + 1 + m) (suc d)) ∙ ap (ins (k + 1 + m) (suc d)) (whole ∙ split) ∙ ap (λ i. ins i (suc d) ((pre ++ d ∷ f) ++ b)) (sym end)
    ∙ ins-behind (pre ++ d ∷ f) b (suc d) ∙ append_assoc pre (d ∷ f) (suc d ∷ b) in
    ap runs_of new ∙ one_below pre d f b (taken d rest) (dropped d rest)
    ∙ ap (λ i. ins i 0 (with_one (length pre) (runs_of (pre ++ d ∷ (f ++ b))))) place
    ∙ ap (λ i. ins (k + 1 + m) 0 (with_one i (runs_of (pre ++ d ∷ (f ++ b))))) h.2
    ∙ ap (λ xs. ins (k + 1 + m) 0 (with_one k (runs_of xs))) (sym whole)
    ∙ ins-insert (with_one k (runs_of ds)) (k + 1 + m) 0

-- ---- place by place

pub same_list : (xs ys : List ℕ) → ((j : ℕ) → slice_get xs j ≡ slice_get ys j) → xs ≡ ys
same_list [] [] same = refl
same_list [] (y ∷ ys) same = cc (same 0)
same_list (x ∷ xs) [] same = cc (same 0)
same_list (x ∷ xs) (y ∷ ys) same =
    let first : x ≡ y = cc (same 0) in
    ap (λ z. z ∷ xs) first ∙ ap (λ zs. y ∷ zs) (same_list xs ys (λ j. same (suc j)))

leb-suc : (a b : ℕ) → leb (suc a) (suc b) ≡ leb a b
leb-suc a b = by (leb a b) refl
  where
    by : (c : Bool) → leb a b ≡ c → leb (suc a) (suc b) ≡ c
    by true e = le-leb (suc a) (suc b) (omega (arith, leb-true a b e))
    by false e = lt-leb (suc a) (suc b) (omega (arith, leb-false a b e))

longer_run-suc : (k j n : ℕ) → longer_run (suc k) (suc j) n ≡ longer_run k j n
longer_run-suc k j n =
    let next : suc j + n ≡ suc (j + n) = omega arith in
    ap (λ i. cond (leb (suc j) (suc k) && leb (suc k) i) (suc n) n) next
    ∙ ap (λ c. cond (c && leb (suc k) (suc (j + n))) (suc n) n) (leb-suc j k) ∙ ap (λ c. cond (leb j k && c) (suc n) n) (leb-suc k (j + n))

longer_run-behind : (k j n : ℕ) → k < j → longer_run k j n ≡ n
longer_run-behind k j n high = ap (λ c. cond (c && leb k (j + n)) (suc n) n) (lt-leb j k high)

longer_run-first : (k n : ℕ) → longer_run k 0 n ≡ grown k n
longer_run-first k n =
    let none : 0 + n ≡ n = omega arith in
    ap (λ c. cond (c && leb k (0 + n)) (suc n) n) (le-leb 0 k (omega arith)) ∙ ap (λ i. cond (leb k i) (suc n) n) none

pub each_lengthened : (old new : List ℕ) (k : ℕ)
    → ((j : ℕ) → slice_get new j ≡ option_map (longer_run k j) (slice_get old j))
    → new ≡ with_one k old
each_lengthened [] [] k at = refl
each_lengthened [] (n ∷ new) k at = cc (at 0)
each_lengthened (o ∷ old) [] k at = cc (at 0)
each_lengthened (o ∷ old) (n ∷ new) zero at =
    let first : n ≡ longer_run 0 0 o = cc (at 0) in
    ap (λ z. z ∷ new) (first ∙ longer_run-first 0 o ∙ grown-high 0 o (omega arith))
    ∙ ap (λ zs. suc o ∷ zs) (same_list new old (λ j. at (suc j) ∙ row j (slice_get old j)))
  where
    row : (j : ℕ) (v : Option ℕ) → option_map (longer_run 0 (suc j)) v ≡ v
    row j None = refl
    row j (Some v) = ap Some (longer_run-behind 0 (suc j) v (omega arith))
each_lengthened (o ∷ old) (n ∷ new) (suc k) at =
    let first : n ≡ longer_run (suc k) 0 o = cc (at 0) in
    ap (λ z. z ∷ new) (first ∙ longer_run-first (suc k) o)
    ∙ ap (λ zs. grown (suc k) o ∷ zs) (each_lengthened old new k (λ j. at (suc j) ∙ row j (slice_get old j)))
  where
    row : (j : ℕ) (v : Option ℕ)
        → option_map (longer_run (suc k) (suc j)) v ≡ option_map (longer_run k j) v
    row j None = refl
    row j (Some v) = ap Some (longer_run-suc k j v)

-- the run of the node at a place
pub run_at : (ds : List ℕ) (k d : ℕ) → slice_get ds k ≡ Some d
    → slice_get (runs_of ds) k ≡ Some (deeper d (drop (k + 1) ds))
run_at [] k d at = cc
run_at (e ∷ ds) zero d at =
    let same : e ≡ d = cc in
    let one : suc 0 ≡ 0 + 1 = omega arith in
    ap (λ x. Some (deeper x ds)) same ∙ ap (λ n. Some (deeper d (drop n (e ∷ ds)))) one
run_at (e ∷ ds) (suc k) d at =
    let next : suc (k + 1) ≡ suc k + 1 = omega arith in
    run_at ds k d at ∙ ap (λ n. Some (deeper d (drop n (e ∷ ds)))) next
