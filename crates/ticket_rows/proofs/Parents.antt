-- The nodes above others, and what a new node changes of them.
use Rattle.std.proofs.Common.{◌≡◌, ℕ, zero, suc, ◌+◌, ◌<◌, ◌≤◌, ◌&&◌, Bool, true, false, cond, List}
use Rattle.std.proofs.Common.{[], ◌∷◌, ◌++◌, length, insert, Option, Some, None, refl, sym, ap, ◌∙◌}
use Rattle.std.proofs.Common.{leb, slice_get, subst, arith, ◌⊎◌, inl, inr}
use Rattle.std.proofs.lemmas.Bool.{leb-true, leb-false}
use Rattle.std.proofs.lemmas.List.{length-append}
use Rattle.std.specs.Option.{option_map}
use Rattle.ticket_rows.proofs.InLists.{get_front, get_there, get_within, shifted_place-front}
use Rattle.ticket_rows.proofs.InLists.{shifted_place-behind}
use Rattle.ticket_rows.proofs.Labels.{Side, get_end, insert_at, insert_front, insert_behind}
use Rattle.ticket_rows.proofs.Labels.{length-numbers, numbers_at, side}
use Rattle.ticket_rows.proofs.RunsGrow.{deeper, length-runs, pass, stop}
use Rattle.ticket_rows.specs.Index.{longer_run, runs_of, shifted_place}
use Rattle.ticket_rows.specs.Labels.{numbers_below}
use Rattle.ticket_rows.specs.Parents.{AreParents, EachAbove, EndBefore, IsAbove, Nest}

-- ---- runs nest

deeper_less : (d e : ℕ) (ds : List ℕ) → d ≤ e → deeper e ds ≤ deeper d ds
deeper_less d e [] le = omega arith
deeper_less d e (x ∷ ds) le = by (leb x d) refl (leb x e) refl (deeper_less d e ds le)
  where
    by : (b : Bool) → leb x d ≡ b → (c : Bool) → leb x e ≡ c → deeper e ds ≤ deeper d ds
        → deeper e (x ∷ ds) ≤ deeper d (x ∷ ds)
    by b p true q rest =
        let none : deeper e (x ∷ ds) ≡ 0 = stop e x ds (leb-true x e q) in
        omega arith
    by true p false q rest =
        let low : x ≤ d = leb-true x d p in
        let high : e < x = leb-false x e q in
        absurd (omega arith)
    by false p false q rest =
        let more : deeper e (x ∷ ds) ≡ suc (deeper e ds) = pass e x ds (leb-false x e q) in
        let most : deeper d (x ∷ ds) ≡ suc (deeper d ds) = pass d x ds (leb-false x d p) in
        omega arith

-- what stands in a run ends there
inside : (d : ℕ) (ds : List ℕ) (k n : ℕ) → k < deeper d ds → slice_get (runs_of ds) k ≡ Some n
    → suc (k + n) ≤ deeper d ds
inside d [] k n low at = cc
inside d (x ∷ ds) k n low at = by (leb x d) refl (λ j less there. inside d ds j n less there) k low at
  where
    by : (b : Bool) → leb x d ≡ b
        → ((j : ℕ) → j < deeper d ds → slice_get (runs_of ds) j ≡ Some n → suc (j + n) ≤ deeper d ds)
        → (k : ℕ) → k < deeper d (x ∷ ds) → slice_get (runs_of (x ∷ ds)) k ≡ Some n
        → suc (k + n) ≤ deeper d (x ∷ ds)
    by true p later k low at =
        let none : deeper d (x ∷ ds) ≡ 0 = stop d x ds (leb-true x d p) in
        absurd (omega arith)
    by false p later zero low at =
        let high : d < x = leb-false x d p in
        let is : deeper x ds ≡ n = cc in
        let more : deeper d (x ∷ ds) ≡ suc (deeper d ds) = pass d x ds high in
        omega (arith, deeper_less d x ds (omega arith))
    by false p later (suc k) low at =
        let more : deeper d (x ∷ ds) ≡ suc (deeper d ds) = pass d x ds (leb-false x d p) in
        omega (arith, later k (omega arith) at)

deeper_within : (d : ℕ) (ds : List ℕ) → deeper d ds ≤ length ds
deeper_within d [] = omega arith
deeper_within d (x ∷ ds) = by (leb x d) refl (deeper_within d ds)
  where
    by : (b : Bool) → leb x d ≡ b → deeper d ds ≤ length ds → deeper d (x ∷ ds) ≤ length (x ∷ ds)
    by true p rest =
        let none : deeper d (x ∷ ds) ≡ 0 = stop d x ds (leb-true x d p) in
        omega arith
    by false p rest =
        let more : deeper d (x ∷ ds) ≡ suc (deeper d ds) = pass d x ds (leb-false x d p) in
        omega arith

ends : (ds : List ℕ) (k n : ℕ) → slice_get (runs_of ds) k ≡ Some n → k + n < length ds
ends [] k n at = cc
ends (d ∷ ds) zero n at =
    let is : deeper d ds ≡ n = cc in
    omega (arith, deeper_within d ds)
ends (d ∷ ds) (suc k) n at = omega (arith, ends ds k n at)

nested : (ds : List ℕ) (j k m n : ℕ) → j < k → k ≤ j + m → slice_get (runs_of ds) j ≡ Some m
    → slice_get (runs_of ds) k ≡ Some n → k + n ≤ j + m
nested [] j k m n less low at there = cc
nested (d ∷ ds) zero zero m n less low at there = absurd (omega arith)
nested (d ∷ ds) zero (suc k) m n less low at there =
    let is : deeper d ds ≡ m = cc in
    omega (arith, inside d ds k n (omega arith) there)
nested (d ∷ ds) (suc j) zero m n less low at there = absurd (omega arith)
nested (d ∷ ds) (suc j) (suc k) m n less low at there =
    omega (arith, nested ds j k m n (omega arith) (omega arith) at there)

pub runs_nest : (ds : List ℕ) → Nest (runs_of ds)
runs_nest ds =
    record {
      within = λ k n at. omega (arith, ends ds k n at, length-runs ds);
      nested = nested ds;
    }

-- ---- which stands above

-- where none is above the last that was looked at, none is above the place
pub none_above : (runs : List ℕ) (place last : ℕ) → EndBefore runs (last + 1) place
    → IsAbove runs last last → last < place
    → ((n : ℕ) → slice_get runs last ≡ Some n → last + n < place) → IsAbove runs place place
none_above runs place last behind h front ends =
    record {
      front = omega arith;
      has = λ n at. omega arith;
      last = λ i n from to at. absurd (omega arith);
      none = λ same i n from to at. by i n to at (side last i);
    }
  where
    by : (i n : ℕ) → i < place → slice_get runs i ≡ Some n → Side last i → i + n < place
    by i n to at (inl p) =
        let early : i + n < last = h.none refl i n (omega arith) p at in
        omega arith
    by i n to at (inr (inl p)) = omega (arith, ends n (ap (slice_get runs) (sym p) ∙ at), p)
    by i n to at (inr (inr p)) =
        let is : i ≡ suc p.0 = p.1 in
        let high : last ≤ p.0 = p.2 in
        behind i n (omega arith) to at

-- the one above the last is looked at next
pub next_behind : (runs : List ℕ) (place last next : ℕ) → EndBefore runs (last + 1) place
    → IsAbove runs last next → last < place
    → ((n : ℕ) → slice_get runs last ≡ Some n → last + n < place) → EndBefore runs (next + 1) place
next_behind runs place last next behind h front ends i n from to at = by (side last i)
  where
    by : Side last i → i + n < place
    by (inl p) =
        let early : i + n < last = h.last i n from p at in
        omega arith
    by (inr (inl p)) = omega (arith, ends n (ap (slice_get runs) (sym p) ∙ at), p)
    by (inr (inr p)) =
        let is : i ≡ suc p.0 = p.1 in
        let high : last ≤ p.0 = p.2 in
        behind i n (omega arith) to at

pub first_behind : (runs : List ℕ) (last place : ℕ) → place ≤ last + 1
    → EndBefore runs (last + 1) place
first_behind runs last place near i n from to at = absurd (omega arith)

pub alone : (runs : List ℕ) → IsAbove runs 0 0
alone runs =
    record {
      front = omega arith;
      has = λ n at. omega arith;
      last = λ i n from to at. absurd (omega arith);
      none = λ same i n from to at. absurd (omega arith);
    }

one : (a b : ℕ) → Some a ≡ Some b → a ≡ b
one a b e = cc

pub found_above : (runs : List ℕ) (place above m : ℕ) → above < place
    → EndBefore runs (above + 1) place → slice_get runs above ≡ Some m → place ≤ above + m
    → IsAbove runs place above
found_above runs place above m front behind there has =
    record {
      front = omega arith;
      has = λ n at. let same : m ≡ n = one m n (sym there ∙ at) in omega (arith, same);
      last = behind;
      none = λ same. absurd (omega (arith, same));
    }

pub each_more : (runs parents : List ℕ) (node above : ℕ) → EachAbove runs parents
    → length parents ≡ node → IsAbove runs node above → EachAbove runs (parents ++ above ∷ [])
each_more runs parents node above each count h n m at = by (get_end parents above n m at)
  where
    by : (slice_get parents n ≡ Some m) ⊎ ((n ≡ length parents) × (above ≡ m)) → IsAbove runs n m
    by (inl e) = each n m e
    by (inr e) = subst (λ i. IsAbove runs i m) (sym (e.0 ∙ count)) (subst (IsAbove runs node) e.1 h)

-- where nodes came in the order in which they stand
pub parents_counted : (runs parents : List ℕ) (count : ℕ) → EachAbove runs parents
    → length parents ≡ count → AreParents runs (numbers_below count) parents
parents_counted runs parents count each long =
    record { above = above; count = long ∙ sym (length-numbers count) }
  where
    above : (n m k : ℕ) → slice_get parents n ≡ Some m → slice_get (numbers_below count) n ≡ Some k
        → (j : ℕ) × (slice_get (numbers_below count) m ≡ Some j) × IsAbove runs k j
    above n m k at there =
        let h = each n m at in
        let low : m ≤ n = h.front in
        let g = get_there (numbers_below count) m (omega (arith, get_within parents n m at, long, length-numbers count)) in
        let same : g.0 ≡ m = numbers_at count m g.0 g.1 in
        let own : k ≡ n = numbers_at count n k there in
        (g.0, g.1, subst (λ i. IsAbove runs i g.0) (sym own) (subst (IsAbove runs n) (sym same) h))

-- ---- a new node

-- what the run at a place becomes where one more stands below the row at p
abbrev pub Case : ℕ → ℕ → ℕ → Type 0
Case p i n =
    ((i ≤ p) × (p ≤ i + n) × (longer_run p i n ≡ suc n))
    ⊎ ((p < i) × (longer_run p i n ≡ n)) ⊎ ((i + n < p) × (longer_run p i n ≡ n))

pub lengthened_case : (p i n : ℕ) → Case p i n
lengthened_case p i n = by (leb i p) refl (leb p (i + n)) refl
  where
    by : (b : Bool) → leb i p ≡ b → (c : Bool) → leb p (i + n) ≡ c → Case p i n
    by false e c f = inr (inl (leb-false i p e, ap (λ b. cond (b && leb p (i + n)) (suc n) n) e))
    by true e true f =
        inl (leb-true i p e, leb-true p (i + n) f, ap (λ b. cond (b && leb p (i + n)) (suc n) n) e ∙ ap (λ b. cond b (suc n) n) f)
    by true e false f =
        inr (inr (leb-false p (i + n) f, ap (λ b. cond (b && leb p (i + n)) (suc n) n) e ∙ ap (λ b. cond b (suc n) n) f))

-- runs with one more below the row at p, which is put in at e
pub record Grown (old new : List ℕ) (p e : ℕ) : Type 0 where
  pub front : (i v : ℕ) → slice_get new i ≡ Some v → i < e
      → (m : ℕ) × (slice_get old i ≡ Some m) × (v ≡ longer_run p i m)
  pub own : (v : ℕ) → slice_get new e ≡ Some v → v ≡ 0
  pub behind : (i v : ℕ) → slice_get new (suc i) ≡ Some v → e ≤ i → slice_get old i ≡ Some v

was : (p i v : ℕ) (o : Option ℕ) → Some v ≡ option_map (longer_run p i) o
    → (m : ℕ) × (o ≡ Some m) × (v ≡ longer_run p i m)
was p i v None e = cc
was p i v (Some m) e = (m, refl, one v (longer_run p i m) e)

pub runs_grown : (old longer : List ℕ) (p e : ℕ)
    → ((i : ℕ) → slice_get longer i ≡ option_map (longer_run p i) (slice_get old i))
    → p < e → e ≤ length longer → Grown old (insert longer e 0) p e
runs_grown old longer p e grow high low = record { front = front; own = own; behind = behind }
  where
    new : List ℕ
    new = insert longer e 0

    front : (i v : ℕ) → slice_get new i ≡ Some v → i < e
        → (m : ℕ) × (slice_get old i ≡ Some m) × (v ≡ longer_run p i m)
    front i v at small = was p i v (slice_get old i) (sym at ∙ insert_front longer e 0 i low small ∙ grow i)

    own : (v : ℕ) → slice_get new e ≡ Some v → v ≡ 0
    own v at = sym (one 0 v (sym (insert_at longer e 0 low) ∙ at))

    same : (i m : ℕ) → e ≤ i → Case p i m → m ≡ longer_run p i m
    same i m far (inl c) = let near : i ≤ p = c.0 in absurd (omega arith)
    same i m far (inr (inl c)) = sym c.1
    same i m far (inr (inr c)) = sym c.1

    behind : (i v : ℕ) → slice_get new (suc i) ≡ Some v → e ≤ i → slice_get old i ≡ Some v
    behind i v at far =
        let w = was p i v (slice_get old i) (sym at ∙ insert_behind longer e 0 i low far ∙ grow i) in
        w.1 ∙ ap Some (same i w.0 far (lengthened_case p i w.0) ∙ sym w.2)

-- what ends in front of a place still does
ends_moved : (old new : List ℕ) (p n e f g k : ℕ) → Nest old → slice_get old p ≡ Some n
    → e ≡ p + 1 + n → Grown old new p e → EndBefore old f k
    → ((i : ℕ) → i < e → g ≤ i → f ≤ i) → ((i : ℕ) → e ≤ i → g ≤ suc i → f ≤ i)
    → EndBefore new g (shifted_place e k)
ends_moved old new p n e f g k h run is grown before near far i v from to at = by (side e i) (side e k)
  where
    short : (m : ℕ) → slice_get old i ≡ Some m → v ≡ longer_run p i m → i + m < k → k < e
        → Case p i m → i + v < k
    short m there has less small (inl c) = absurd (over (side p i))
      where
        low : i ≤ p
        low = c.0

        high : p ≤ i + m
        high = c.1

        over : Side p i → ⊥
        over (inl under) = let all : p + n ≤ i + m = h.nested i p m n under high there run in omega arith
        over (inr (inl same)) = let all : m ≡ n = one m n (sym there ∙ ap (slice_get old) same ∙ run) in omega arith
        over (inr (inr more)) = let up : i ≡ suc more.0 = more.1 in let rest : p ≤ more.0 = more.2 in omega arith
    short m there has less small (inr (inl c)) = omega (arith, has, c.1)
    short m there has less small (inr (inr c)) = omega (arith, has, c.1)

    most : (m : ℕ) → v ≡ longer_run p i m → Case p i m → v ≤ suc m
    most m has (inl c) = omega (arith, has, c.2)
    most m has (inr (inl c)) = omega (arith, has, c.1)
    most m has (inr (inr c)) = omega (arith, has, c.1)

    stays : k < e → shifted_place e k ≡ k
    stays small = shifted_place-front e k small

    goes : e ≤ k → shifted_place e k ≡ suc k
    goes big = shifted_place-behind e k big

    behind_or : (k ≡ e) ⊎ ((m : ℕ) × (k ≡ suc m) × (e ≤ m)) → e ≤ k
    behind_or (inl s) = omega (arith, s)
    behind_or (inr s) =
        let up : k ≡ suc s.0 = s.1 in
        let high : e ≤ s.0 = s.2 in
        omega arith

    by : Side e i → Side e k → i + v < shifted_place e k
    by (inl q) (inl s) =
        let w = grown.front i v at q in
        let less : i + w.0 < k = before i w.0 (near i q from) (omega (arith, to, stays s)) w.1 in
        omega (arith, stays s, short w.0 w.1 w.2 less s (lengthened_case p i w.0))
    by (inl q) (inr s) =
        let big : e ≤ k = behind_or s in
        let w = grown.front i v at q in
        let less : i + w.0 < k = before i w.0 (near i q from) (omega arith) w.1 in
        omega (arith, goes big, most w.0 w.2 (lengthened_case p i w.0))
    by (inr (inl q)) s =
        let none : v ≡ 0 = grown.own v (ap (slice_get new) (sym q) ∙ at) in
        omega (arith, to, none)
    by (inr (inr q)) (inl s) =
        let up : i ≡ suc q.0 = q.1 in
        let past : e ≤ q.0 = q.2 in
        absurd (omega (arith, to, stays s))
    by (inr (inr q)) (inr s) =
        let big : e ≤ k = behind_or s in
        let up : i ≡ suc q.0 = q.1 in
        let less : q.0 + v < k = before q.0 v (far q.0 q.2 (omega (arith, from))) (omega (arith, to, goes big)) (grown.behind q.0 v (ap (slice_get new) (sym up) ∙ at) q.2) in
        omega (arith, goes big)

shifted_place-moves : (e j k : ℕ) → j ≤ k → shifted_place e j ≤ shifted_place e k
shifted_place-moves e j k le = by (leb e j) refl (leb e k) refl
  where
    by : (b : Bool) → leb e j ≡ b → (c : Bool) → leb e k ≡ c → shifted_place e j ≤ shifted_place e k
    by true p true q = omega (arith, shifted_place-behind e j (leb-true e j p), shifted_place-behind e k (leb-true e k q))
    by true p false q =
        let high : e ≤ j = leb-true e j p in
        let low : k < e = leb-false e k q in
        absurd (omega arith)
    by false p true q =
        omega (arith, shifted_place-front e j (leb-false e j p), shifted_place-behind e k (leb-true e k q))
    by false p false q =
        omega (arith, shifted_place-front e j (leb-false e j p), shifted_place-front e k (leb-false e k q))

shifted_place-same : (e j k : ℕ) → shifted_place e j ≡ shifted_place e k → j ≤ k → j ≡ k
shifted_place-same e j k same le = by (leb e j) refl (leb e k) refl
  where
    by : (b : Bool) → leb e j ≡ b → (c : Bool) → leb e k ≡ c → j ≡ k
    by true p true q = omega (arith, same, shifted_place-behind e j (leb-true e j p), shifted_place-behind e k (leb-true e k q))
    by true p false q =
        let high : e ≤ j = leb-true e j p in
        let low : k < e = leb-false e k q in
        absurd (omega arith)
    by false p true q =
        let low : j < e = leb-false e j p in
        let high : e ≤ k = leb-true e k q in
        absurd (omega (arith, same, shifted_place-front e j low, shifted_place-behind e k high))
    by false p false q =
        omega (arith, same, shifted_place-front e j (leb-false e j p), shifted_place-front e k (leb-false e k q))

-- which stands above stays so
pub above_moved : (old new : List ℕ) (p n e k j : ℕ) → Nest old → slice_get old p ≡ Some n
    → e ≡ p + 1 + n → Grown old new p e → IsAbove old k j → IsAbove new (shifted_place e k) (shifted_place e j)
above_moved old new p n e k j h run is grown a =
    record {
      front = shifted_place-moves e j k a.front;
      has = λ v at. has v at (side e j) (side e k);
      last = ends_moved old new p n e (j + 1) (shifted_place e j + 1) k h run is grown a.last near far;
      none = λ same. ends_moved old new p n e 0 0 k h run is grown (a.none (shifted_place-same e j k same a.front)) (λ i q from. omega arith) (λ i q from. omega arith);
    }
  where
    near : (i : ℕ) → i < e → shifted_place e j + 1 ≤ i → j + 1 ≤ i
    near i small from = by (leb e j) refl
      where
        by : (b : Bool) → leb e j ≡ b → j + 1 ≤ i
        by true q = omega (arith, from, shifted_place-behind e j (leb-true e j q))
        by false q = omega (arith, from, shifted_place-front e j (leb-false e j q))

    far : (i : ℕ) → e ≤ i → shifted_place e j + 1 ≤ suc i → j + 1 ≤ i
    far i big from = by (leb e j) refl
      where
        by : (b : Bool) → leb e j ≡ b → j + 1 ≤ i
        by true q = omega (arith, from, shifted_place-behind e j (leb-true e j q))
        by false q =
            let low : j < e = leb-false e j q in
            omega arith

    beyond : (i : ℕ) → (i ≡ e) ⊎ ((m : ℕ) × (i ≡ suc m) × (e ≤ m)) → e ≤ i
    beyond i (inl s) = omega (arith, s)
    beyond i (inr s) =
        let up : i ≡ suc s.0 = s.1 in
        let high : e ≤ s.0 = s.2 in
        omega arith

    -- a run that has the new one's place is lengthened
    longer : (m v : ℕ) → slice_get old j ≡ Some m → j < e → e ≤ k → k ≤ j + m → Case p j m
        → v ≡ longer_run p j m → suc k ≤ j + v
    longer m v there small big reach (inl c) grew = omega (arith, grew, c.2)
    longer m v there small big reach (inr (inl c)) grew =
        let past : p < j = c.0 in
        let all : j + m ≤ p + n = h.nested p j n m past (omega arith) run there in
        absurd (omega arith)
    longer m v there small big reach (inr (inr c)) grew =
        let short : j + m < p = c.0 in
        absurd (omega arith)

    same_or_more : (m v : ℕ) → Case p j m → v ≡ longer_run p j m → m ≤ v
    same_or_more m v (inl c) grew = omega (arith, grew, c.2)
    same_or_more m v (inr (inl c)) grew = omega (arith, grew, c.1)
    same_or_more m v (inr (inr c)) grew = omega (arith, grew, c.1)

    has : (v : ℕ) → slice_get new (shifted_place e j) ≡ Some v → Side e j → Side e k
        → shifted_place e k ≤ shifted_place e j + v
    has v at (inl s) (inl t) =
        let w = grown.front j v (ap (slice_get new) (sym (shifted_place-front e j s)) ∙ at) s in
        let reach : k ≤ j + w.0 = a.has w.0 w.1 in
        omega (arith, shifted_place-front e j s, shifted_place-front e k t, same_or_more w.0 v (lengthened_case p j w.0) w.2)
    has v at (inl s) (inr t) =
        let big : e ≤ k = beyond k t in
        let w = grown.front j v (ap (slice_get new) (sym (shifted_place-front e j s)) ∙ at) s in
        omega (arith, shifted_place-front e j s, shifted_place-behind e k big, longer w.0 v w.1 s big (a.has w.0 w.1) (lengthened_case p j w.0) w.2)
    has v at (inr s) t =
        let big : e ≤ j = beyond j s in
        let le : j ≤ k = a.front in
        let reach : k ≤ j + v = a.has v (grown.behind j v (ap (slice_get new) (sym (shifted_place-behind e j big)) ∙ at) big) in
        omega (arith, shifted_place-behind e j big, shifted_place-behind e k (omega arith))

-- and the new one stands below the row at p
pub above_new : (old new : List ℕ) (p n e : ℕ) → Nest old → slice_get old p ≡ Some n
    → e ≡ p + 1 + n → Grown old new p e → IsAbove new e p
above_new old new p n e h run is grown =
    record {
      front = omega (arith, is);
      has = has;
      last = last;
      none = λ same. absurd (omega (arith, is, same));
    }
  where
    has : (v : ℕ) → slice_get new p ≡ Some v → e ≤ p + v
    has v at =
        let w = grown.front p v at (omega (arith, is)) in
        let same : w.0 ≡ n = one w.0 n (sym w.1 ∙ run) in
        by w.0 w.2 same (lengthened_case p p w.0)
      where
        by : (m : ℕ) → v ≡ longer_run p p m → m ≡ n → Case p p m → e ≤ p + v
        by m grew same (inl c) = omega (arith, is, grew, same, c.2)
        by m grew same (inr (inl c)) = let less : p < p = c.0 in absurd (omega arith)
        by m grew same (inr (inr c)) = let less : p + m < p = c.0 in absurd (omega arith)

    last : EndBefore new (p + 1) e
    last i v from to at =
        let w = grown.front i v at to in
        let all : i + w.0 ≤ p + n = h.nested p i n w.0 (omega (arith, from)) (omega (arith, to, is)) run w.1 in
        by w.0 w.2 all (lengthened_case p i w.0)
      where
        by : (m : ℕ) → v ≡ longer_run p i m → i + m ≤ p + n → Case p i m → i + v < e
        by m grew all (inl c) = let near : i ≤ p = c.0 in absurd (omega arith)
        by m grew all (inr (inl c)) = omega (arith, is, grew, c.1)
        by m grew all (inr (inr c)) = omega (arith, is, grew, c.1)

pub parents_grown : (old new places next parents : List ℕ) (p n e node : ℕ) → Nest old
    → slice_get old p ≡ Some n → e ≡ p + 1 + n → Grown old new p e
    → AreParents old places parents → slice_get places node ≡ Some p
    → ((m : ℕ) → slice_get next m ≡ option_map (shifted_place e) (slice_get places m))
    → length next ≡ length places → AreParents new (next ++ e ∷ []) (parents ++ node ∷ [])
parents_grown old new places next parents p n e node h run is grown a came moved long =
    record { above = above; count = omega (arith, length-append next (e ∷ []), length-append parents (node ∷ []), a.count, long) }
  where
    -- where one stands now that came before
    now : (m j : ℕ) → slice_get places m ≡ Some j → slice_get (next ++ e ∷ []) m ≡ Some (shifted_place e j)
    now m j at =
        get_front next (e ∷ []) m (omega (arith, get_within places m j at, long)) ∙ moved m ∙ ap (option_map (shifted_place e)) at

    before : (m k : ℕ) → slice_get next m ≡ Some k
        → (j : ℕ) × (slice_get places m ≡ Some j) × (shifted_place e j ≡ k)
    before m k at = by (slice_get places m) refl (sym (moved m) ∙ at)
      where
        by : (o : Option ℕ) → slice_get places m ≡ o → option_map (shifted_place e) o ≡ Some k
            → (j : ℕ) × (slice_get places m ≡ Some j) × (shifted_place e j ≡ k)
        by None q r = cc
        by (Some j) q r = (j, q, one (shifted_place e j) k r)

    above : (m q k : ℕ) → slice_get (parents ++ node ∷ []) m ≡ Some q
        → slice_get (next ++ e ∷ []) m ≡ Some k
        → (j : ℕ) × (slice_get (next ++ e ∷ []) q ≡ Some j) × IsAbove new k j
    above m q k at there = by (get_end parents node m q at) (get_end next e m k there)
      where
        by : (slice_get parents m ≡ Some q) ⊎ ((m ≡ length parents) × (node ≡ q))
            → (slice_get next m ≡ Some k) ⊎ ((m ≡ length next) × (e ≡ k))
            → (j : ℕ) × (slice_get (next ++ e ∷ []) q ≡ Some j) × IsAbove new k j
        by (inl s) (inl t) =
            let b = before m k t in
            let u = a.above m q b.0 s b.1 in
            (shifted_place e u.0, now q u.0 u.1, subst (λ i. IsAbove new i (shifted_place e u.0)) b.2 (above_moved old new p n e b.0 u.0 h run is grown u.2))
        by (inl s) (inr t) =
            let within : m < length parents = get_within parents m q s in
            absurd (omega (arith, t.0, a.count, long))
        by (inr s) (inl t) =
            let within : m < length next = get_within next m k t in
            absurd (omega (arith, s.0, a.count, long))
        by (inr s) (inr t) = (
          shifted_place e p,
          ap (slice_get (next ++ e ∷ [])) (sym s.1) ∙ now node p came,
          subst (λ i. IsAbove new i (shifted_place e p)) t.1 (subst (IsAbove new e) (sym (shifted_place-front e p (omega (arith, is)))) (above_new old new p n e h run is grown)),
        )
