-- Those of a slab of which something is so are let go, one after the other.
use Rattle.std.proofs.Common.{◌≡◌, ◌∙◌, ℕ, Bool, true, false, ◌||◌, cond, eqb, List, [], ◌∷◌, ◌++◌, Option, None, Some, Contains, ap, inl, inr, refl, sym, arith}
use Rattle.std.specs.List.{list_any}
use Rattle.std.proofs.lemmas.Bool.{both_ways, cases_Bool, cases_eq, eq-eqb, eqb-true, ne_eqb, or_cases}
use Rattle.std.proofs.lemmas.List.{append-nil, append_assoc}
use Rattle.std.proofs.lemmas.List.Folds.{list_any-append}
use Rattle.slab.specs.Slab.{Slab, Updates, entries, get}
use Rattle.slab.proofs.SlabLemmas.{Contains-cons, Contains-cons_cases, Contains-entries}
use Rattle.listeners.specs.Guests.{unless}

-- the number is among these
abbrev pub is_among : ℕ → List ℕ → Bool
is_among k keys = list_any (λ x. eqb x k) keys

or_right : (a b : Bool) → b ≡ true → (a || b) ≡ true
or_right true b is = refl
or_right false b is = is

none_either : {T : Type 0} (b : Bool) (o : Option T) → o ≡ None → cond b None o ≡ None
none_either true o is = refl
none_either false o is = is

cond_or : {T : Type 0} (a b : Bool) (x : Option T) → cond (a || b) None x ≡ cond b None (cond a None x)
cond_or true true x = refl
cond_or true false x = refl
cond_or false b x = refl

module _ {T : Type 0} where
  -- what is under a number, without those of these numbers
  abbrev pub without : List ℕ → Slab T → ℕ → Option T
  without keys s k = cond (is_among k keys) None (get s k)

  without_last : (keys : List ℕ) (key k : ℕ) (s : Slab T) (b : Bool) → eqb key k ≡ b → without (keys ++ key ∷ []) s k ≡ cond (b || false) None (without keys s k)
  without_last keys key k s b is =
      ap (λ a. cond a None (get s k)) (list_any-append (λ x. eqb x k) keys (key ∷ []))
      ∙ cond_or (is_among k keys) (eqb key k || false) (get s k)
      ∙ ap (λ a. cond (a || false) None (without keys s k)) is

  -- one more is let go
  pub without_more : (keys : List ℕ) (key : ℕ) (s mid new : Slab T) → ((k : ℕ) → get mid k ≡ without keys s k) → Updates mid new key None → (k : ℕ) → get new k ≡ without (keys ++ key ∷ []) s k
  without_more keys key s mid new so gone k =
      elim (cases_eq k key) [
        | inl same ↦ ap (get new) same ∙ gone.changed ∙ sym (without_last keys key k s true (eq-eqb key k (sym same)))
        | inr apart ↦ gone.others k apart ∙ so k ∙ sym (without_last keys key k s false (ne_eqb key k (λ e. apart (sym e))))
      ]

module _ {T : Type 0} (test : T → Bool) where
  -- the numbers of those of which this is so
  abbrev pub keys_where : List (ℕ × T) → List ℕ
  keys_where [] = []
  keys_where (e ∷ es) = cond (test e.1) (e.0 ∷ keys_where es) (keys_where es)

  kept : (b : Bool) (k i : ℕ) (ks : List ℕ) → is_among k ks ≡ true → is_among k (cond b (i ∷ ks) ks) ≡ true
  kept true k i ks is = or_right (eqb i k) (is_among k ks) is
  kept false k i ks is = is

  among_where : (es : List (ℕ × T)) (k : ℕ) → is_among k (keys_where es) ≡ true → (x : T) × Contains es (k, x) × (test x ≡ true)
  among_where [] k is = absurd (cc)
  among_where (e ∷ es) k is = by_test (among_where es k) (test e.1) refl is
    where
      later : ((x : T) × Contains es (k, x) × (test x ≡ true)) → (x : T) × Contains (e ∷ es) (k, x) × (test x ≡ true)
      later found = (found.0, Contains-cons e (k, found.0) es found.1, found.2)

      by_test : (is_among k (keys_where es) ≡ true → (x : T) × Contains es (k, x) × (test x ≡ true)) → (b : Bool) → test e.1 ≡ b → is_among k (cond b (e.0 ∷ keys_where es) (keys_where es)) ≡ true → (x : T) × Contains (e ∷ es) (k, x) × (test x ≡ true)
      by_test rest true so is =
          elim (or_cases (eqb e.0 k) (is_among k (keys_where es)) is) [
            | inl here ↦ (e.1, (0, omega arith, ap (λ i. (i, e.1)) (eqb-true e.0 k here)), so)
            | inr there ↦ later (rest there)
          ]
      by_test rest false so is = later (rest is)

  where_among : (es : List (ℕ × T)) (k : ℕ) (x : T) → Contains es (k, x) → test x ≡ true → is_among k (keys_where es) ≡ true
  where_among [] k x there so = absurd (omega (arith, there.1))
  where_among (e ∷ es) k x there so =
      elim (Contains-cons_cases e (k, x) es there) [
        | inl here ↦
            ap (λ b. is_among k (cond b (e.0 ∷ keys_where es) (keys_where es))) (ap (λ p. test p.1) here ∙ so)
            ∙ ap (λ b. b || is_among k (keys_where es)) (eq-eqb e.0 k (ap (λ p. p.0) here))
        | inr rest ↦ kept (test e.1) k e.0 (keys_where es) (where_among es k x rest so)
      ]

  some_only : (s : Slab T) (k : ℕ) (x : T) → get s k ≡ Some x → (b : Bool) → test x ≡ b → is_among k (keys_where (entries s)) ≡ b
  some_only s k x found true so = where_among (entries s) k x ((Contains-entries s k x).1 found) so
  some_only s k x found false so =
      elim (cases_Bool (is_among k (keys_where (entries s)))) [
        | inl is ↦
            let other = among_where (entries s) k is in
            let same : Some x ≡ Some other.0 = sym found ∙ (Contains-entries s k other.0).0 other.1 in
            let like : x ≡ other.0 = cc in
            absurd (both_ways (test x) so (ap test like ∙ other.2))
        | inr none ↦ none
      ]

  -- without all those of which it is so, the others are left
  pub without_all : (s : Slab T) (k : ℕ) → without (keys_where (entries s)) s k ≡ unless test (get s k)
  without_all s k = by_slot (get s k) refl
    where
      by_slot : (o : Option T) → get s k ≡ o → cond (is_among k (keys_where (entries s))) None o ≡ unless test o
      by_slot None found = none_either (is_among k (keys_where (entries s))) None refl
      by_slot (Some x) found = ap (λ b. cond b None (Some x)) (some_only s k x found (test x) refl)

  -- one more is among those that are known
  pub keys_push : (e : ℕ × T) (es its : List (ℕ × T)) (known pushed all : List ℕ) → test e.1 ≡ true → pushed ≡ known ++ e.0 ∷ [] → its ≡ e ∷ es → known ++ keys_where its ≡ all → pushed ++ keys_where es ≡ all
  keys_push e es its known pushed all so push is keys =
      ap (λ ks. ks ++ keys_where es) push
      ∙ append_assoc known (e.0 ∷ []) (keys_where es)
      ∙ ap (λ b. known ++ cond b (e.0 ∷ keys_where es) (keys_where es)) (sym so)
      ∙ ap (λ xs. known ++ keys_where xs) (sym is)
      ∙ keys

  -- all are known, and were let go
  pub all_gone : (s new : Slab T) (known gone : List ℕ) (left : List (ℕ × T)) → left ≡ [] → known ++ keys_where left ≡ keys_where (entries s) → gone ≡ known → ((k : ℕ) → get new k ≡ without gone s k) → (k : ℕ) → get new k ≡ unless test (get s k)
  all_gone s new known gone left none keys same so k =
      let all : known ≡ keys_where (entries s) = sym (append-nil known) ∙ ap (λ xs. known ++ keys_where xs) (sym none) ∙ keys in
      so k ∙ ap (λ ks. without ks s k) (same ∙ all) ∙ without_all s k
