-- Labels that rise from place to place: where one stands, and what a new one changes.
use Rattle.std.proofs.Common.{◌≡◌, ℕ, zero, suc, ◌+◌, ◌*◌, ◌<◌, ◌≤◌, Bool, true, false, cond, not}
use Rattle.std.proofs.Common.{List, [], ◌∷◌, ◌++◌, length, map, insert, Option, Some, None, refl, sym}
use Rattle.std.proofs.Common.{ap, ◌∙◌, leb, get_or, slice_get, arith, ◌⊎◌, inl, inr}
use Rattle.std.proofs.Math.Nat.{mul-le-mul_left}
use Rattle.std.proofs.lemmas.Bool.{leb-true, leb-false, le-leb, lt-leb}
use Rattle.std.proofs.lemmas.List.{length-map, map-append, length-append}
use Rattle.std.proofs.lemmas.List.Edits.{length-insert}
use Rattle.std.specs.Option.{option_map}
use Rattle.ticket_rows.proofs.InLists.{get_push, get_there, get_within, shifted_place-behind, shifted_place-front}
use Rattle.ticket_rows.proofs.RunsGrow.{same_list}
use Rattle.ticket_rows.proofs.Walked.{Walked, walked_end}
use Rattle.ticket_rows.specs.Index.{shifted_place}
use Rattle.ticket_rows.specs.Labels.{AreLabels, Fits, Rise, even_labels, numbers_below, place_in}
use Rattle.ticket_rows.specs.Labels.{places_of}

-- ---- where a label stands

stop : (l a : ℕ) (order : List ℕ) → l ≤ a → place_in (a ∷ order) l ≡ 0
stop l a order low = ap (λ b. cond (not b) (1 + place_in order l) 0) (le-leb l a low)

pass : (l a : ℕ) (order : List ℕ) → a < l → place_in (a ∷ order) l ≡ suc (place_in order l)
pass l a order high = ap (λ b. cond (not b) (1 + place_in order l) 0) (lt-leb l a high) ∙ omega arith

later : (a : ℕ) (order : List ℕ) → Rise (a ∷ order) → Rise order
later a order rise i j x y less at there = rise (suc i) (suc j) x y (omega arith) at there

pub place_at : (order : List ℕ) (k l : ℕ) → Rise order → slice_get order k ≡ Some l
    → place_in order l ≡ k
place_at [] k l rise at = cc
place_at (a ∷ order) zero l rise at =
    let same : a ≡ l = cc in
    stop l a order (omega (arith, same))
place_at (a ∷ order) (suc k) l rise at =
    let low : a < l = rise 0 (suc k) a l (omega arith) refl at in
    pass l a order low ∙ ap suc (place_at order k l (later a order rise) at)

-- where none is the label, those in front are less and the others greater
pub place_between : (order : List ℕ) (i l : ℕ) → i ≤ length order
    → ((k : ℕ) → k < i → get_or order k 0 < l)
    → ((k : ℕ) → i ≤ k → k < length order → l < get_or order k 0) → place_in order l ≡ i
place_between [] zero l within less more = refl
place_between [] (suc i) l within less more = absurd (omega arith)
place_between (a ∷ order) zero l within less more =
    let high : l < a = more 0 (omega arith) (omega arith) in
    stop l a order (omega arith)
place_between (a ∷ order) (suc i) l within less more =
    let low : a < l = less 0 (omega arith) in
    pass l a order low
    ∙ ap suc (place_between order i l (omega arith) (λ k front. less (suc k) (omega arith)) (λ k behind there. more (suc k) (omega arith) (omega arith)))

-- ---- what stands at a place

pub at_or : (xs : List ℕ) (k d : ℕ) → k < length xs → slice_get xs k ≡ Some (get_or xs k d)
at_or [] k d low = absurd (omega arith)
at_or (x ∷ xs) zero d low = refl
at_or (x ∷ xs) (suc k) d low = at_or xs k d (omega arith)

pub none_at : {X : Type 0} (xs : List X) (k : ℕ) → length xs ≤ k → slice_get xs k ≡ None
none_at [] k high = refl
none_at (x ∷ xs) zero high = absurd (omega arith)
none_at (x ∷ xs) (suc k) high = none_at xs k (omega arith)

pub rise_le : (order : List ℕ) → Rise order
    → (i j : ℕ) → i ≤ j → j < length order → get_or order i 0 ≤ get_or order j 0
rise_le order rise i j le within = by (leb j i) refl
  where
    by : (b : Bool) → leb j i ≡ b → get_or order i 0 ≤ get_or order j 0
    by true e =
        let high : j ≤ i = leb-true j i e in
        let same : i ≡ j = omega arith in
        omega (arith, ap (λ k. get_or order k 0) same)
    by false e =
        let low : i < j = leb-false j i e in
        omega (arith, rise i j (get_or order i 0) (get_or order j 0) low (at_or order i 0 (omega arith)) (at_or order j 0 within))

-- what stands in a list with one more behind stood there, or is that one
pub get_end : {X : Type 0} (xs : List X) (y : X) (n : ℕ) (x : X)
    → slice_get (xs ++ y ∷ []) n ≡ Some x
    → (slice_get xs n ≡ Some x) ⊎ ((n ≡ length xs) × (y ≡ x))
get_end [] y zero x at = inr (refl, cc)
get_end [] y (suc n) x at = cc
get_end (z ∷ xs) y zero x at = inl at
get_end (z ∷ xs) y (suc n) x at = by (get_end xs y n x at)
  where
    by : (slice_get xs n ≡ Some x) ⊎ ((n ≡ length xs) × (y ≡ x))
        → (slice_get (z ∷ xs) (suc n) ≡ Some x) ⊎ ((suc n ≡ length (z ∷ xs)) × (y ≡ x))
    by (inl e) = inl e
    by (inr e) = inr (ap suc e.0, e.1)

pub get_mapped : {X Y : Type 0} (f : X → Y) (xs : List X) (n : ℕ) (y : Y)
    → slice_get (map f xs) n ≡ Some y → (x : X) × (slice_get xs n ≡ Some x) × (f x ≡ y)
get_mapped f [] n y at = cc
get_mapped f (x ∷ xs) zero y at = (x, refl, cc)
get_mapped f (x ∷ xs) (suc n) y at = get_mapped f xs n y at

pub get_map : {X Y : Type 0} (f : X → Y) (xs : List X) (n : ℕ) (x : X) → slice_get xs n ≡ Some x
    → slice_get (map f xs) n ≡ Some (f x)
get_map f [] n x at = cc
get_map f (z ∷ xs) zero x at =
    let same : z ≡ x = cc in
    ap (λ t. Some (f t)) same
get_map f (z ∷ xs) (suc n) x at = get_map f xs n x at

pub slice_get-map : {X Y : Type 0} (f : X → Y) (xs : List X) (n : ℕ)
    → slice_get (map f xs) n ≡ option_map f (slice_get xs n)
slice_get-map f [] n = refl
slice_get-map f (x ∷ xs) zero = refl
slice_get-map f (x ∷ xs) (suc n) = slice_get-map f xs n

pub same_map : {X Y Z : Type 0} (f : X → Z) (g : Y → Z) (h : X → Y) (xs : List X)
    → ((n : ℕ) (x : X) → slice_get xs n ≡ Some x → f x ≡ g (h x)) → map f xs ≡ map g (map h xs)
same_map f g h [] same = refl
same_map f g h (x ∷ xs) same =
    ap (λ z. z ∷ map f xs) (same 0 x refl) ∙ ap (λ zs. g (h x) ∷ zs) (same_map f g h xs (λ n y at. same (suc n) y at))

-- ---- one more at a place

pub insert_at : {X : Type 0} (xs : List X) (e : ℕ) (y : X) → e ≤ length xs
    → slice_get (insert xs e y) e ≡ Some y
insert_at xs zero y low = refl
insert_at [] (suc e) y low = absurd (omega arith)
insert_at (x ∷ xs) (suc e) y low = insert_at xs e y (omega arith)

pub insert_front : {X : Type 0} (xs : List X) (e : ℕ) (y : X) (k : ℕ) → e ≤ length xs → k < e
    → slice_get (insert xs e y) k ≡ slice_get xs k
insert_front xs zero y k low front = absurd (omega arith)
insert_front [] (suc e) y k low front = absurd (omega arith)
insert_front (x ∷ xs) (suc e) y zero low front = refl
insert_front (x ∷ xs) (suc e) y (suc k) low front = insert_front xs e y k (omega arith) (omega arith)

pub insert_behind : {X : Type 0} (xs : List X) (e : ℕ) (y : X) (k : ℕ) → e ≤ length xs → e ≤ k
    → slice_get (insert xs e y) (suc k) ≡ slice_get xs k
insert_behind xs zero y k low behind = refl
insert_behind [] (suc e) y k low behind = absurd (omega arith)
insert_behind (x ∷ xs) (suc e) y zero low behind = absurd (omega arith)
insert_behind (x ∷ xs) (suc e) y (suc k) low behind = insert_behind xs e y k (omega arith) (omega arith)

pub insert_raised : {X : Type 0} (xs : List X) (e : ℕ) (y : X) (k : ℕ) → e ≤ length xs
    → slice_get (insert xs e y) (shifted_place e k) ≡ slice_get xs k
insert_raised xs e y k low = by (leb e k) refl
  where
    by : (b : Bool) → leb e k ≡ b → slice_get (insert xs e y) (shifted_place e k) ≡ slice_get xs k
    by true c =
        let high : e ≤ k = leb-true e k c in
        ap (slice_get (insert xs e y)) (shifted_place-behind e k high) ∙ insert_behind xs e y k low high
    by false c =
        let front : k < e = leb-false e k c in
        ap (slice_get (insert xs e y)) (shifted_place-front e k front) ∙ insert_front xs e y k low front

-- a place in a list with one more is in front of that, is its own, or behind it
abbrev pub Side : ℕ → ℕ → Type 0
Side e i = (i < e) ⊎ (i ≡ e) ⊎ ((k : ℕ) × (i ≡ suc k) × (e ≤ k))

pub side : (e i : ℕ) → Side e i
side zero zero = inr (inl refl)
side zero (suc i) = inr (inr (i, refl, omega arith))
side (suc e) zero = inl (omega arith)
side (suc e) (suc i) = by (side e i)
  where
    by : Side e i → Side (suc e) (suc i)
    by (inl front) = inl (omega arith)
    by (inr (inl same)) = inr (inl (ap suc same))
    by (inr (inr s)) =
        let is : i ≡ suc s.0 = s.1 in
        let high : e ≤ s.0 = s.2 in
        inr (inr (i, refl, omega arith))

-- ---- a new label

pub rise_insert : (order : List ℕ) (e y : ℕ) → Rise order → Fits order e y → e ≤ length order
    → Rise (insert order e y)
rise_insert order e y rise fits low i j a b less at there = by (side e i) (side e j)
  where
    new : List ℕ
    new = insert order e y

    front : (k x : ℕ) → slice_get new k ≡ Some x → k < e → slice_get order k ≡ Some x
    front k x is small = sym (insert_front order e y k low small) ∙ is

    own : (k x : ℕ) → slice_get new k ≡ Some x → k ≡ e → y ≡ x
    own k x is same = let both : Some y ≡ Some x = sym (insert_at order e y low) ∙ ap (slice_get new) (sym same) ∙ is in cc

    behind : (k m x : ℕ) → slice_get new k ≡ Some x → k ≡ suc m → e ≤ m → slice_get order m ≡ Some x
    behind k m x is same high = sym (insert_behind order e y m low high) ∙ ap (slice_get new) (sym same) ∙ is

    by : Side e i → Side e j → a < b
    by (inl p) (inl q) = rise i j a b less (front i a at p) (front j b there q)
    by (inl p) (inr (inl q)) = let up : a < y = fits.above i a p (front i a at p) in omega (arith, own j b there q)
    by (inl p) (inr (inr q)) =
        let high : e ≤ q.0 = q.2 in
        rise i q.0 a b (omega arith) (front i a at p) (behind j q.0 b there q.1 q.2)
    by (inr (inl p)) (inl q) = absurd (omega arith)
    by (inr (inl p)) (inr (inl q)) = absurd (omega arith)
    by (inr (inl p)) (inr (inr q)) =
        let down : y < b = fits.below q.0 b q.2 (behind j q.0 b there q.1 q.2) in
        omega (arith, own i a at p)
    by (inr (inr p)) (inl q) =
        let is : i ≡ suc p.0 = p.1 in
        let high : e ≤ p.0 = p.2 in
        absurd (omega arith)
    by (inr (inr p)) (inr (inl q)) =
        let is : i ≡ suc p.0 = p.1 in
        let high : e ≤ p.0 = p.2 in
        absurd (omega arith)
    by (inr (inr p)) (inr (inr q)) =
        let is : i ≡ suc p.0 = p.1 in
        let has : j ≡ suc q.0 = q.1 in
        rise p.0 q.0 a b (omega arith) (behind i p.0 a at p.1 p.2) (behind j q.0 b there q.1 q.2)

-- where another's label stands then
moved : (labels order : List ℕ) (e y : ℕ) → AreLabels labels order → Fits order e y
    → e ≤ length order → (n l : ℕ) → slice_get labels n ≡ Some l
    → (slice_get (insert order e y) (shifted_place e (place_in order l)) ≡ Some l)
    × (place_in (insert order e y) l ≡ shifted_place e (place_in order l))
moved labels order e y h fits low n l at =
    let there : slice_get (insert order e y) (shifted_place e (place_in order l)) ≡ Some l
    = insert_raised order e y (place_in order l) low ∙ h.there n l at in
    (there, place_at (insert order e y) (shifted_place e (place_in order l)) l (rise_insert order e y h.rise fits low) there)

pub places_insert : (labels order : List ℕ) (e y : ℕ) → AreLabels labels order → Fits order e y
    → e ≤ length order
    → places_of (labels ++ y ∷ []) (insert order e y)
    ≡ map (shifted_place e) (places_of labels order) ++ e ∷ []
places_insert labels order e y h fits low =
    let new = insert order e y in
    map-append (place_in new) labels (y ∷ [])
    ∙ ap (λ k. map (place_in new) labels ++ k ∷ []) (place_at new e y (rise_insert order e y h.rise fits low) (insert_at order e y low))
    ∙ ap (λ ks. ks ++ e ∷ []) (same_map (place_in new) (shifted_place e) (place_in order) labels (λ n l at. (moved labels order e y h fits low n l at).1))

pub labels_insert : (labels order : List ℕ) (e y : ℕ) → AreLabels labels order → Fits order e y
    → e ≤ length order → AreLabels (labels ++ y ∷ []) (insert order e y)
labels_insert labels order e y h fits low =
    let new = insert order e y in
    let rise = rise_insert order e y h.rise fits low in
    record {
      rise = rise;
      there = get_push (λ l. slice_get new (place_in new l) ≡ Some l) labels y
          (λ n l at. let m = moved labels order e y h fits low n l at in ap (slice_get new) m.1 ∙ m.0)
          (ap (slice_get new) (place_at new e y rise (insert_at order e y low)) ∙ insert_at order e y low);
      count = omega (arith, length-insert order e y low, length-append labels (y ∷ []), h.count);
    }

-- ---- labels that are spread evenly

-- each is told by its place
abbrev pub Even : ℕ → List ℕ → Type 0
Even gap order = (k l : ℕ) → slice_get order k ≡ Some l → l ≡ (k + 1) * gap

pub rise_even : (gap : ℕ) (order : List ℕ) → 0 < gap → Even gap order → Rise order
rise_even gap order some even i j a b less at there =
    let low : i + 2 ≤ j + 1 = omega arith in
    let far : gap * (i + 2) ≤ gap * (j + 1) = mul-le-mul_left gap low in
    omega (arith, even i a at, even j b there, far)

even_there : (gap : ℕ) (order : List ℕ) (k : ℕ) → Even gap order → k < length order
    → slice_get order k ≡ Some ((k + 1) * gap)
even_there gap order k even within =
    let h = get_there order k within in
    h.1 ∙ ap Some (even k h.0 h.1)

-- what each label becomes
abbrev pub spread_out : ℕ → List ℕ → ℕ → ℕ
spread_out gap order l = (place_in order l + 1) * gap

spread_there : (gap : ℕ) (labels order new : List ℕ) → AreLabels labels order → Even gap new
    → length new ≡ length order → (n l : ℕ) → slice_get labels n ≡ Some l
    → slice_get new (place_in order l) ≡ Some (spread_out gap order l)
spread_there gap labels order new h even long n l at =
    even_there gap new (place_in order l) even (omega (arith, get_within order (place_in order l) l (h.there n l at), long))

pub places_spread : (gap : ℕ) (labels order new : List ℕ) → 0 < gap → AreLabels labels order
    → Even gap new → length new ≡ length order
    → places_of (map (spread_out gap order) labels) new ≡ places_of labels order
places_spread gap labels order new some h even long =
    sym (same_map (place_in order) (place_in new) (spread_out gap order) labels
    (λ n l at. sym (place_at new (place_in order l) (spread_out gap order l) (rise_even gap new some even) (spread_there gap labels order new h even long n l at))))

pub labels_spread : (gap : ℕ) (labels order new : List ℕ) → 0 < gap → AreLabels labels order
    → Even gap new → length new ≡ length order
    → AreLabels (map (spread_out gap order) labels) new
labels_spread gap labels order new some h even long =
    record { rise = rise; there = there; count = omega (arith, long, h.count, length-map labels (spread_out gap order)) }
  where
    rise : Rise new
    rise = rise_even gap new some even

    there : (n l : ℕ) → slice_get (map (spread_out gap order) labels) n ≡ Some l
        → slice_get new (place_in new l) ≡ Some l
    there n l at =
        let m = get_mapped (spread_out gap order) labels n l at in
        let old = spread_there gap labels order new h even long n m.0 m.1 in
        let is : slice_get new (place_in order m.0) ≡ Some l = old ∙ ap Some m.2 in
        ap (slice_get new) (place_at new (place_in order m.0) l rise is) ∙ is

-- labels that were written one after the other
pub even_walked : (gap : ℕ) (old new : List ℕ) (n : ℕ)
    → Walked (λ m l. (m + 1) * gap) old new n → length old ≤ n → Even gap new
even_walked gap old new n h all k l at = by (slice_get old k) (sym (walked_end (λ m x. (m + 1) * gap) old new n h stay k) ∙ at)
  where
    stay : (m v : ℕ) → n ≤ m → slice_get old m ≡ Some v → (m + 1) * gap ≡ v
    stay m v high there = let low : m < length old = get_within old m v there in absurd (omega arith)

    by : (o : Option ℕ) → option_map (λ x. (k + 1) * gap) o ≡ Some l → l ≡ (k + 1) * gap
    by None is = cc
    by (Some v) is = let same : (k + 1) * gap ≡ l = cc in sym same

-- labels that were changed one after the other
pub map_walked : (f : ℕ → ℕ) (old new : List ℕ) (n : ℕ) → Walked (λ m. f) old new n
    → length old ≤ n → new ≡ map f old
map_walked f old new n h all = same_list new (map f old) (λ k. walked_end (λ m. f) old new n h stay k ∙ sym (slice_get-map f old k))
  where
    stay : (m v : ℕ) → n ≤ m → slice_get old m ≡ Some v → f v ≡ v
    stay m v high there = let low : m < length old = get_within old m v there in absurd (omega arith)

-- ---- nodes that came in the order in which they stand

pub length-even : (gap n : ℕ) → length (even_labels gap n) ≡ n
length-even gap zero = refl
length-even gap (suc n) = omega (arith, length-append (even_labels gap n) ((n + 1) * gap ∷ []), length-even gap n)

pub even-even : (gap n : ℕ) → Even gap (even_labels gap n)
even-even gap zero k l at = cc
even-even gap (suc n) k l at = by (even-even gap n k l) (get_end (even_labels gap n) ((n + 1) * gap) k l at)
  where
    by : (slice_get (even_labels gap n) k ≡ Some l → l ≡ (k + 1) * gap)
        → (slice_get (even_labels gap n) k ≡ Some l)
        ⊎ ((k ≡ length (even_labels gap n)) × ((n + 1) * gap ≡ l)) → l ≡ (k + 1) * gap
    by front (inl e) = front e
    by front (inr e) = sym e.1 ∙ ap (λ m. (m + 1) * gap) (sym (e.0 ∙ length-even gap n))

pub length-numbers : (n : ℕ) → length (numbers_below n) ≡ n
length-numbers zero = refl
length-numbers (suc n) = omega (arith, length-append (numbers_below n) (n ∷ []), length-numbers n)

pub numbers_at : (n k l : ℕ) → slice_get (numbers_below n) k ≡ Some l → l ≡ k
numbers_at zero k l at = cc
numbers_at (suc n) k l at = by (numbers_at n k l) (get_end (numbers_below n) n k l at)
  where
    by : (slice_get (numbers_below n) k ≡ Some l → l ≡ k)
        → (slice_get (numbers_below n) k ≡ Some l) ⊎ ((k ≡ length (numbers_below n)) × (n ≡ l)) → l ≡ k
    by front (inl e) = front e
    by front (inr e) = sym e.1 ∙ sym (e.0 ∙ length-numbers n)

pub same_places : (xs ys : List ℕ) → length xs ≡ length ys
    → ((k x y : ℕ) → slice_get xs k ≡ Some x → slice_get ys k ≡ Some y → x ≡ y) → xs ≡ ys
same_places [] [] long same = refl
same_places [] (y ∷ ys) long same = absurd (omega (arith, long))
same_places (x ∷ xs) [] long same = absurd (omega (arith, long))
same_places (x ∷ xs) (y ∷ ys) long same =
    ap (λ z. z ∷ xs) (same 0 x y refl refl) ∙ ap (λ zs. y ∷ zs) (same_places xs ys (omega (arith, long)) (λ k a b at there. same (suc k) a b at there))

pub labels_even : (gap n : ℕ) → 0 < gap → AreLabels (even_labels gap n) (even_labels gap n)
labels_even gap n some =
    let order = even_labels gap n in
    let rise = rise_even gap order some (even-even gap n) in
    record { rise = rise; there = λ k l at. ap (slice_get order) (place_at order k l rise at) ∙ at; count = refl }

pub places_even : (gap n : ℕ) → 0 < gap
    → places_of (even_labels gap n) (even_labels gap n) ≡ numbers_below n
places_even gap n some =
    same_places (places_of order order) (numbers_below n) (length-map order (place_in order) ∙ length-even gap n ∙ sym (length-numbers n)) same
  where
    order : List ℕ
    order = even_labels gap n

    same : (k x y : ℕ) → slice_get (places_of order order) k ≡ Some x
        → slice_get (numbers_below n) k ≡ Some y → x ≡ y
    same k x y at there =
        let m = get_mapped (place_in order) order k x at in
        sym m.2 ∙ place_at order k m.0 (rise_even gap order some (even-even gap n)) m.1 ∙ sym (numbers_at n k y there)
