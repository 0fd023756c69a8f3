-- A list that rises is the one that numbers put in order are, if it has them all.
use Rattle.std.proofs.Common.{◌≡◌, ◌∙◌, ℕ, suc, ◌+◌, ◌<◌, ◌≤◌, Bool, true, false, cond, List, []}
use Rattle.std.proofs.Common.{◌∷◌, length, get_or, refl, sym, ap, arith, eqb, nat_le, nat_cmp}
use Rattle.std.proofs.lemmas.Bool.{and_parts, and_from, eqb-true, eq-eqb, leb-true, leb-false}
use Rattle.std.proofs.lemmas.Bool.{le-leb}
use Rattle.std.proofs.lemmas.List.Sorted.{IsNonDecreasingBy-from_sort, sum_by-IsPermutation}
use Rattle.std.proofs.lemmas.List.Sums.{sum_by-cons}
use Rattle.std.specs.List.{list_all, sum_by}
use Rattle.std.specs.List.Sorted.{IsPermutation, IsSorted}
use Rattle.spawn.specs.Marking.{put_in, in_order}

-- ---- numbers in order rise

abbrev AllFrom : ℕ → List ℕ → Type 0
AllFrom m ns = list_all (nat_le m) ns ≡ true

abbrev Rises : List ℕ → Type 0
Rises [] = Unit {0}
Rises (n ∷ ns) = AllFrom n ns × Rises ns

all_lower : (m n : ℕ) (ns : List ℕ) → m ≤ n → AllFrom n ns → AllFrom m ns
all_lower m n [] low all = refl
all_lower m n (k ∷ ns) low all =
    let parts = and_parts (nat_le n k) (list_all (nat_le n) ns) all in
    and_from _ _ (le-leb m k (omega (arith, low, leb-true n k parts.0))) (all_lower m n ns low parts.1)

all_put_at : (first : Bool) (m n k : ℕ) (ns : List ℕ) → m ≤ n → AllFrom m (k ∷ ns)
    → AllFrom m (put_in n ns) → AllFrom m (cond first (n ∷ k ∷ ns) (k ∷ put_in n ns))
all_put_at true m n k ns low all later = and_from _ _ (le-leb m n low) all
all_put_at false m n k ns low all later = and_from _ _ (and_parts (nat_le m k) (list_all (nat_le m) ns) all).0 later

all_put : (m n : ℕ) (ns : List ℕ) → m ≤ n → AllFrom m ns → AllFrom m (put_in n ns)
all_put m n [] low all = and_from _ _ (le-leb m n low) refl
all_put m n (k ∷ ns) low all = all_put_at (nat_le n k) m n k ns low all (all_put m n ns low (and_parts (nat_le m k) (list_all (nat_le m) ns) all).1)

rises_put_at : (first : Bool) (n k : ℕ) (ns : List ℕ) → nat_le n k ≡ first → AllFrom k ns → Rises ns
    → Rises (put_in n ns) → Rises (cond first (n ∷ k ∷ ns) (k ∷ put_in n ns))
rises_put_at true n k ns e all rises later = (and_from _ _ e (all_lower n k ns (leb-true n k e) all), (all, rises))
rises_put_at false n k ns e all rises later = (all_put k n ns (omega (arith, leb-false n k e)) all, later)

rises_put : (n : ℕ) (ns : List ℕ) → Rises ns → Rises (put_in n ns)
rises_put n [] rises = (refl, tt)
rises_put n (k ∷ ns) rises = rises_put_at (nat_le n k) n k ns refl rises.0 rises.1 (rises_put n ns rises.1)

rises_in_order : (ns : List ℕ) → Rises (in_order ns)
rises_in_order [] = tt
rises_in_order (n ∷ ns) = rises_put n (in_order ns) (rises_in_order ns)

-- ---- numbers in order are the same numbers

sum_put_at : (first : Bool) (f : ℕ → ℕ) (n k : ℕ) (ns : List ℕ)
    → sum_by f (put_in n ns) ≡ f n + sum_by f ns
    → sum_by f (cond first (n ∷ k ∷ ns) (k ∷ put_in n ns)) ≡ f n + sum_by f (k ∷ ns)
sum_put_at true f n k ns e = sum_by-cons f n (k ∷ ns)
sum_put_at false f n k ns e = omega (arith, sum_by-cons f k (put_in n ns), sum_by-cons f k ns, e)

sum_put : (f : ℕ → ℕ) (n : ℕ) (ns : List ℕ) → sum_by f (put_in n ns) ≡ f n + sum_by f ns
sum_put f n [] = sum_by-cons f n []
sum_put f n (k ∷ ns) = sum_put_at (nat_le n k) f n k ns (sum_put f n ns)

sum_in_order : (f : ℕ → ℕ) (ns : List ℕ) → sum_by f (in_order ns) ≡ sum_by f ns
sum_in_order f [] = refl
sum_in_order f (n ∷ ns) = sum_put f n (in_order ns) ∙ ap (λ k. f n + k) (sum_in_order f ns) ∙ sym (sum_by-cons f n ns)

-- ---- lists that rise are equal if each number stands equally often in them

abbrev one : ℕ → ℕ → ℕ
one x n = cond (eqb n x) 1 0

abbrev count : ℕ → List ℕ → ℕ
count x ns = sum_by (one x) ns

one_same : (x : ℕ) → one x x ≡ 1
one_same x = ap (λ b. cond b 1 0) (eq-eqb x x refl)

lowest_at : (here : Bool) (m x k c : ℕ) → eqb k x ≡ here → m ≤ k → (0 < c → m ≤ x)
    → 0 < cond here 1 0 + c → m ≤ x
lowest_at true m x k c e low later there = omega (arith, low, eqb-true k x e)
lowest_at false m x k c e low later there = later (omega (arith, there))

-- what stands among numbers from m on is at least m
lowest : (m x : ℕ) (ns : List ℕ) → AllFrom m ns → 0 < count x ns → m ≤ x
lowest m x [] all there = omega (arith, there)
lowest m x (k ∷ ns) all there =
    let parts = and_parts (nat_le m k) (list_all (nat_le m) ns) all in
    lowest_at (eqb k x) m x k (count x ns) refl (leb-true m k parts.0) (lowest m x ns parts.1) (omega (arith, there, sum_by-cons (one x) k ns))

first_lowest : (m x : ℕ) (ns : List ℕ) → AllFrom m ns → 0 < count x (m ∷ ns) → m ≤ x
first_lowest m x ns all there = lowest m x (m ∷ ns) (and_from _ _ (le-leb m m (omega arith)) all) there

has_first : (x : ℕ) (ns : List ℕ) → 0 < count x (x ∷ ns)
has_first x ns = omega (arith, sum_by-cons (one x) x ns, one_same x)

same_numbers : (xs ys : List ℕ) → Rises xs → Rises ys → ((q : ℕ) → count q xs ≡ count q ys)
    → xs ≡ ys
same_numbers [] [] up up' same = refl
same_numbers [] (y ∷ ys) up up' same = absurd (omega (arith, same y, has_first y ys))
same_numbers (x ∷ xs) [] up up' same = absurd (omega (arith, same x, has_first x xs))
same_numbers (x ∷ xs) (y ∷ ys) up up' same =
    let low : x ≤ y = first_lowest x y xs up.0 (omega (arith, same y, has_first y ys)) in
    let high : y ≤ x = first_lowest y x ys up'.0 (omega (arith, same x, has_first x xs)) in
    let head : x ≡ y = omega (arith, low, high) in
    ap (λ n. n ∷ xs) head ∙ ap (λ ns. y ∷ ns) (same_numbers xs ys up.1 up'.1
    (λ q. omega (arith, same q, sum_by-cons (one q) x xs, sum_by-cons (one q) y ys, ap (one q) head)))

-- ---- what a sort gives

abbrev NoneFalls : List ℕ → Type 0
NoneFalls ns = (i j d : ℕ) → i ≤ j → j < length ns → get_or ns i d ≤ get_or ns j d

all_indexed : (m : ℕ) (ns : List ℕ) → ((j d : ℕ) → j < length ns → m ≤ get_or ns j d) → AllFrom m ns
all_indexed m [] h = refl
all_indexed m (n ∷ ns) h = and_from _ _ (le-leb m n (h 0 0 (omega arith))) (all_indexed m ns (λ j d within. h (suc j) d (omega (arith, within))))

rises_indexed : (ns : List ℕ) → NoneFalls ns → Rises ns
rises_indexed [] h = tt
rises_indexed (n ∷ ns) h = (all_indexed n ns (λ j d within. h 0 (suc j) d (omega arith) (omega (arith, within))), rises_indexed ns (λ i j d le within. h (suc i) (suc j) d (omega (arith, le)) (omega (arith, within))))

pub sorted_is : (xs ys : List ℕ) → IsPermutation xs ys → IsSorted nat_cmp ys → ys ≡ in_order xs
sorted_is xs ys moved sorted =
    same_numbers ys (in_order xs) (rises_indexed ys (IsNonDecreasingBy-from_sort (λ n. n) ys sorted)) (rises_in_order xs) (λ q. sum_by-IsPermutation (one q) xs ys moved ∙ sym (sum_in_order (one q) xs))
