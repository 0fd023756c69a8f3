-- The texts of an object, in the order of its members.
use Rattle.std.proofs.Common.{◌≡◌, ℕ, List, [], ◌∷◌, ◌++◌, map, Option, Some, None, String, Global, string_bytes, string_cmp, refl, sym, ap, ◌∙◌, append_assoc, append-nil, subst, Less, Bor, Ordering}
use Rattle.std.proofs.lemmas.List.{map-append}
use Rattle.std.specs.Cmp.Lexicographic.{slice_cmp}
use Rattle.std.specs.List.{AllByRecursion}
use Rattle.std.specs.List.Sorted.{IsStrictlySortedBy}
use Rattle.std.specs.Map.{keys_of}
use Rattle.std.specs.Option.{option_map}
use Rattle.std.specs.Ordering.{nat_cmp}
use Rattle.json.specs.declared.value.Value.{Value as Tree}
use Rattle.serde_json.specs.Data.{Data, Members, no_members, member}
use Rattle.serde_json.specs.Find.{as_str}
use Rattle.serde_json.specs.View.{members_view}
use Rattle.serde_json.specs.declared.value.Value.{Value}
use Rattle.ticket_items.specs.Attrs.{Pairs, IsInOrder}
use Rattle.json_source.specs.Read.{◌>>=◌, lent_pairs, text_pairs}
use Rattle.json_source.specs.Tree.{entries_data}

regrouped : (done : Pairs) (p : List ℕ × List ℕ) (o : Option Pairs) → option_map (λ more. (done ++ p ∷ []) ++ more) o ≡ option_map (λ more. done ++ more) (option_map (λ more. p ∷ more) o)
regrouped done p None = refl
regrouped done p (Some more) = ap Some (append_assoc done (p ∷ []) more)

abbrev pub LentPair : Type 0
LentPair = Bor (List ℕ) × Bor (List ℕ)

-- the pairs so far, and those of the members that are left
abbrev pub texts_from : List LentPair → Members → Option Pairs
texts_from done left = option_map (λ more. lent_pairs done ++ more) (text_pairs left)

-- one pair more
pub one_text_more : (old new : List LentPair) (pair : LentPair) (rest : Members) (k : List ℕ) (d : Data) → new ≡ old ++ pair ∷ [] → pair.0.now ≡ k → as_str d ≡ Some pair.1.now
    → texts_from new rest ≡ texts_from old (member k d rest)
one_text_more old new pair rest k d pushed named text =
    let lent : List ℕ × List ℕ = (pair.0.now, pair.1.now) in
    ap (λ xs. option_map (λ more. xs ++ more) (text_pairs rest)) (ap lent_pairs pushed ∙ map-append (λ (p : LentPair). (p.0.now, p.1.now)) old (pair ∷ []))
    ∙ regrouped (lent_pairs old) lent (text_pairs rest)
    ∙ ap (option_map (λ more. lent_pairs old ++ more))
    (sym (ap (λ o. o >>= λ s. option_map (λ ps. (k, s) ∷ ps) (text_pairs rest)) text
    ∙ ap (λ n. option_map (λ ps. (n, pair.1.now) ∷ ps) (text_pairs rest)) (sym named)))

-- no member is left
pub no_text_left : (done : List LentPair) (all : Option Pairs) → texts_from done no_members ≡ all → all ≡ Some (lent_pairs done)
no_text_left done all e = sym e ∙ ap Some (append-nil (lent_pairs done))

-- ---- in order

-- the names of members
abbrev pub names_of : Members → List (List ℕ)
names_of no_members = []
names_of (member k d ms) = k ∷ names_of ms

names_at : (o : Option (List ℕ)) (k : List ℕ) (rest : Option Pairs) (ps : Pairs) → (o >>= λ s. option_map (λ qs. (k, s) ∷ qs) rest) ≡ Some ps → (qs : Pairs) × (rest ≡ Some qs) × (keys_of ps ≡ k ∷ keys_of qs)
names_at None k rest ps e = cc
names_at (Some s) k None ps e = cc
names_at (Some s) k (Some qs) ps e =
    let same : (k, s) ∷ qs ≡ ps = cc in
    (qs, refl, ap keys_of (sym same))

-- the pairs have the names of the members
keys_of-text_pairs : (ms : Members) (ps : Pairs) → text_pairs ms ≡ Some ps → keys_of ps ≡ names_of ms
keys_of-text_pairs no_members ps e =
    let none : [] ≡ ps = cc in
    ap keys_of (sym none)
keys_of-text_pairs (member k d ms) ps e =
    let found = names_at (as_str d) k (text_pairs ms) ps e in
    found.2 ∙ ap (λ ks. k ∷ ks) (keys_of-text_pairs ms found.0 found.1)

-- the members stand in the byte order of their names, so the pairs do
pub texts_in_order : (ms : Members) (ps : Pairs) → text_pairs ms ≡ Some ps → IsStrictlySortedBy (slice_cmp nat_cmp) (names_of ms) → IsInOrder ps
texts_in_order ms ps e h = subst (IsStrictlySortedBy (slice_cmp nat_cmp)) (sym (keys_of-text_pairs ms ps e)) h

-- names that are seen in some way stand in order as they do
module _ {K : Type 0} (cmp : K → K → Ordering) (seen : K → List ℕ) (same : (a b : K) → cmp a b ≡ slice_cmp nat_cmp (seen a) (seen b)) where
  below_seen : (k : K) (ks : List K) → AllByRecursion (λ y. cmp k y ≡ Less) ks → AllByRecursion (λ y. slice_cmp nat_cmp (seen k) y ≡ Less) (map seen ks)
  below_seen k [] h = tt
  below_seen k (l ∷ ks) h = (sym (same k l) ∙ h.0, below_seen k ks h.1)

  pub in_order_seen : (ks : List K) → IsStrictlySortedBy cmp ks → IsStrictlySortedBy (slice_cmp nat_cmp) (map seen ks)
  unfolding IsStrictlySortedBy
  in_order_seen [] h = tt
  in_order_seen (k ∷ ks) h = (below_seen k ks h.0, in_order_seen ks h.1)

-- ---- of values

names_of-view : (es : List (String Global × Value)) → map string_bytes (keys_of es) ≡ names_of (members_view es)
names_of-view [] = refl
names_of-view (e ∷ es) = ap (λ ks. string_bytes e.0 ∷ ks) (names_of-view es)

pub values_in_order : (es : List (String Global × Value)) (ps : Pairs) → text_pairs (members_view es) ≡ Some ps → IsStrictlySortedBy string_cmp (keys_of es) → IsInOrder ps
values_in_order es ps e h =
    texts_in_order (members_view es) ps e
    (subst (IsStrictlySortedBy (slice_cmp nat_cmp)) (names_of-view es) (in_order_seen string_cmp string_bytes (λ a b. refl) (keys_of es) h))

-- ---- of trees

-- a member of a tree, lent
abbrev pub Entry : Type 0
Entry = Bor (List ℕ) × Bor (Tree Global)

-- how names that are lent are compared
abbrev pub lent_cmp : Bor (List ℕ) → Bor (List ℕ) → Ordering
lent_cmp a b = slice_cmp nat_cmp a.now b.now

names_of-entries : (es : List Entry) → map (λ k. k.now) (keys_of es) ≡ names_of (entries_data es)
names_of-entries [] = refl
names_of-entries (e ∷ es) = ap (λ ks. e.0.now ∷ ks) (names_of-entries es)

pub trees_in_order : (es : List Entry) (ps : Pairs) → text_pairs (entries_data es) ≡ Some ps → IsStrictlySortedBy lent_cmp (keys_of es) → IsInOrder ps
trees_in_order es ps e h =
    texts_in_order (entries_data es) ps e
    (subst (IsStrictlySortedBy (slice_cmp nat_cmp)) (names_of-entries es) (in_order_seen lent_cmp (λ k. k.now) (λ a b. refl) (keys_of es) h))
