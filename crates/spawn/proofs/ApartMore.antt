-- Claims are apart with one spawn more just where it claims nothing that was claimed.
use Rattle.std.proofs.Common.{◌≡◌, ◌∙◌, ℕ, zero, suc, ◌+◌, ◌≤◌, ◌&&◌, ◌||◌, Bool, true, false, not}
use Rattle.std.proofs.Common.{cond, List, [], ◌∷◌, ◌++◌, length, take, drop, nat_le, nat_lt, refl, sym}
use Rattle.std.proofs.Common.{ap, arith, append-nil}
use Rattle.std.proofs.lemmas.Bool.{true≢false, and_from, and_parts, and_right, false_from_ne_true}
use Rattle.std.proofs.lemmas.Bool.{le-leb, leb-true, lt-ltb}
use Rattle.std.proofs.lemmas.List.{length-append, take-append-drop}
use Rattle.std.specs.List.{filter, list_any}
use Rattle.ticket_rows.specs.Place.{Place}
use Rattle.spawn.proofs.RowsBelow.{filter-append}
use Rattle.spawn.specs.Stored.{are_apart, is_held_once}
use Rattle.spawn.specs.Table.{holds}
use Rattle.spawn.specs.declared.records.spawn_rec.SpawnRec.{SpawnRec}

and_true : (b : Bool) → (b && true) ≡ b
and_true true = refl
and_true false = refl

-- ---- one place

-- whether something passes, by how many do
any_passes_at : (here : Bool) (f : SpawnRec → Bool) (x : SpawnRec) (xs : List SpawnRec)
    → list_any f xs ≡ nat_lt 0 (length (filter f xs))
    → (here || list_any f xs) ≡ nat_lt 0 (length (cond here (x ∷ filter f xs) (filter f xs)))
any_passes_at true f x xs e = sym (lt-ltb 0 (suc (length (filter f xs))) (omega arith))
any_passes_at false f x xs e = e

any_passes : (f : SpawnRec → Bool) (xs : List SpawnRec)
    → list_any f xs ≡ nat_lt 0 (length (filter f xs))
any_passes f [] = refl
any_passes f (x ∷ xs) = any_passes_at (f x) f x xs (any_passes f xs)

-- one more is at most one just where there was none
one_more : (n : ℕ) (any : Bool) → any ≡ nat_lt 0 n
    → nat_le (n + 1) 1 ≡ (nat_le n 1 && not any)
one_more zero any e = ap not (sym e)
one_more (suc n) any e =
    false_from_ne_true (nat_le (suc n + 1) 1) (λ h. let low : suc n + 1 ≤ 1 = leb-true (suc n + 1) 1 h in omega arith)
    ∙ sym (and_right (nat_le (suc n) 1) (not any) (ap not (e ∙ lt-ltb 0 (suc n) (omega arith))))

once_more_at : (own : Bool) (f : SpawnRec → Bool) (recs : List SpawnRec) (r : SpawnRec)
    → f r ≡ own
    → nat_le (length (filter f (recs ++ r ∷ []))) 1
    ≡ (nat_le (length (filter f recs)) 1 && not (own && list_any f recs))
once_more_at true f recs r e =
    ap (λ xs. nat_le (length xs) 1) (filter-append f recs (r ∷ []) ∙ ap (λ b. filter f recs ++ cond b (r ∷ []) []) e)
    ∙ ap (λ n. nat_le n 1) (length-append (filter f recs) (r ∷ []))
    ∙ one_more (length (filter f recs)) (list_any f recs) (any_passes f recs)
once_more_at false f recs r e =
    ap (λ xs. nat_le (length xs) 1) (filter-append f recs (r ∷ []) ∙ ap (λ b. filter f recs ++ cond b (r ∷ []) []) e ∙ append-nil (filter f recs))
    ∙ sym (and_true (nat_le (length (filter f recs)) 1))

once_more : (recs : List SpawnRec) (r : SpawnRec) (p : Place)
    → is_held_once (recs ++ r ∷ []) p
    ≡ (is_held_once recs p && not (holds p r && list_any (holds p) recs))
once_more recs r p = once_more_at (holds p r) (holds p) recs r refl

-- ---- all places

-- whether a spawn and one of others hold one of these places
abbrev pub hold_both : List Place → List SpawnRec → SpawnRec → Bool
hold_both tree recs r = list_any (λ p. holds p r && list_any (holds p) recs) tree

regroup : (a b c d : Bool) → ((a && not b) && (c && not d)) ≡ ((a && c) && not (b || d))
regroup false b c d = refl
regroup true true false d = refl
regroup true true true d = refl
regroup true false c d = refl

pub apart_more : (tree : List Place) (recs : List SpawnRec) (r : SpawnRec)
    → are_apart tree (recs ++ r ∷ []) ≡ (are_apart tree recs && not (hold_both tree recs r))
apart_more [] recs r = refl
apart_more (p ∷ tree) recs r =
    ap (λ b. b && are_apart tree (recs ++ r ∷ [])) (once_more recs r p)
    ∙ ap (λ b. (is_held_once recs p && not (holds p r && list_any (holds p) recs)) && b) (apart_more tree recs r)
    ∙ regroup (is_held_once recs p) (holds p r && list_any (holds p) recs) (are_apart tree recs) (hold_both tree recs r)

-- without records nothing is held
pub once_all : (tree : List Place) → are_apart tree [] ≡ true
once_all [] = refl
once_all (p ∷ tree) = once_all tree

-- what holds of all holds of the first
once_front : (xs ys : List SpawnRec) (p : Place) → is_held_once (xs ++ ys) p ≡ true
    → is_held_once xs p ≡ true
once_front xs ys p once =
    let all : length (filter (holds p) (xs ++ ys)) ≤ 1 = leb-true (length (filter (holds p) (xs ++ ys))) 1 once in
    let long : length (filter (holds p) (xs ++ ys)) ≡ length (filter (holds p) xs) + length (filter (holds p) ys) = ap length (filter-append (holds p) xs ys) ∙ length-append (filter (holds p) xs) (filter (holds p) ys) in
    le-leb (length (filter (holds p) xs)) 1 (omega (arith, all, long))

pub apart_front : (tree : List Place) (xs ys : List SpawnRec) → are_apart tree (xs ++ ys) ≡ true
    → are_apart tree xs ≡ true
apart_front [] xs ys apart = refl
apart_front (p ∷ tree) xs ys apart =
    let parts = and_parts (is_held_once (xs ++ ys) p) (are_apart tree (xs ++ ys)) apart in
    and_from (is_held_once xs p) (are_apart tree xs) (once_front xs ys p parts.0) (apart_front tree xs ys parts.1)

-- so all fail where the first do
pub front_fails : (tree : List Place) (recs : List SpawnRec) (n : ℕ)
    → are_apart tree (take n recs) ≡ false → are_apart tree recs ≡ false
front_fails tree recs n fails =
    false_from_ne_true (are_apart tree recs) (λ h. true≢false (sym (apart_front tree (take n recs) (drop n recs) (ap (are_apart tree) (take-append-drop n recs) ∙ h)) ∙ fails))
