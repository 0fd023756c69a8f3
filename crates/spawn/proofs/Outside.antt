-- Places inside and outside of what stands below a node.
use Rattle.std.proofs.Common.{◌≡◌, ◌∙◌, ◌⊎◌, ℕ, ◌||◌, Bool, true, false, cond, List, [], ◌∷◌, ◌++◌}
use Rattle.std.proofs.Common.{Option, Some, None, is_some, inl, inr, refl, sym, ap, append_assoc}
use Rattle.std.proofs.lemmas.Bool.{true≢false, and_parts, and_from, or_parts}
use Rattle.std.proofs.lemmas.List.{map-append}
use Rattle.std.specs.List.{filter, list_all, list_any}
use Rattle.std.specs.Option.{option_map_or}
use Rattle.std.specs.Str.{bytes_eq}
use Rattle.ticket_items.proofs.Places.{is_some-find}
use Rattle.ticket_items.proofs.AtKey.{any_key}
use Rattle.ticket_tree.proofs.OnPlaces.{ids_of_places}
use Rattle.ticket_items.specs.Ids.{mem, are_distinct}
use Rattle.ticket_rows.specs.Place.{Place, places, places_from, place_at, below}
use Rattle.ticket_rows.specs.Ticket.{IsValid, ids}
use Rattle.ticket_items.specs.declared.node_row.NodeRow.{NodeRow}
use Rattle.spawn.proofs.Among.{apart_lists, distinct_back, out_of_both}
use Rattle.spawn.proofs.Split.{path_after, path_after-append, places_from-append, Around}
use Rattle.spawn.proofs.Standing.{found_among, ids_apart}
use Rattle.plain_shop.specs.Claim.{ids_of}

-- ---- found places

pub some_of : {X : Type 0} (o : Option X) → is_some o ≡ true → (x : X) × (o ≡ Some x)
some_of None h = cc
some_of (Some x) h = (x, refl)

pub found_stands : (tree : List Place) (x : List ℕ) (p : Place) → place_at tree x ≡ Some p
    → mem x (ids_of tree) ≡ true
found_stands tree x p found = sym (any_key (λ q. q.id) x tree) ∙ sym (is_some-find (λ q. bytes_eq q.id x) tree) ∙ ap is_some found

pub stands_found : (tree : List Place) (x : List ℕ) → mem x (ids_of tree) ≡ true
    → (p : Place) × (place_at tree x ≡ Some p)
stands_found tree x there = some_of (place_at tree x) (is_some-find (λ q. bytes_eq q.id x) tree ∙ any_key (λ q. q.id) x tree ∙ there)

passed_at : (here : Bool) (f : Place → Bool) (q : Place) (tree : List Place) (x : List ℕ)
    (p : Place)
    → (place_at tree x ≡ Some p → f p ≡ true) → f q ≡ true
    → cond here (Some q) (place_at tree x) ≡ Some p → f p ≡ true
passed_at true f q tree x p go e found = ap (λ o. option_map_or f o true) (sym found) ∙ e
passed_at false f q tree x p go e found = go found

pub all_found : (f : Place → Bool) (tree : List Place) (x : List ℕ) (p : Place)
    → list_all f tree ≡ true → place_at tree x ≡ Some p → f p ≡ true
all_found f [] x p all found = cc
all_found f (q ∷ tree) x p all found =
    let parts = and_parts (f q) (list_all f tree) all in
    passed_at (bytes_eq q.id x) f q tree x p (all_found f tree x p parts.1) parts.0 found

failed_at : (here : Bool) (f : Place → Bool) (q : Place) (tree : List Place) (x : List ℕ)
    (p : Place)
    → (place_at tree x ≡ Some p → f p ≡ false) → f q ≡ false
    → cond here (Some q) (place_at tree x) ≡ Some p → f p ≡ false
failed_at true f q tree x p go e found = ap (λ o. option_map_or f o false) (sym found) ∙ e
failed_at false f q tree x p go e found = go found

pub none_found : (f : Place → Bool) (tree : List Place) (x : List ℕ) (p : Place)
    → list_any f tree ≡ false → place_at tree x ≡ Some p → f p ≡ false
none_found f [] x p none found = cc
none_found f (q ∷ tree) x p none found =
    let parts = or_parts (f q) (list_any f tree) none in
    failed_at (bytes_eq q.id x) f q tree x p (none_found f tree x p parts.1) parts.0 found

kept_passes_at : (b : Bool) (f : Place → Bool) (q : Place) (tree : List Place) → f q ≡ b
    → list_all f (filter f tree) ≡ true
    → list_all f (cond b (q ∷ filter f tree) (filter f tree)) ≡ true
kept_passes_at true f q tree e all = and_from _ _ e all
kept_passes_at false f q tree e all = all

-- what is found among those that pass a test passes it
pub kept_passes : (f : Place → Bool) (tree : List Place) → list_all f (filter f tree) ≡ true
kept_passes f [] = refl
kept_passes f (q ∷ tree) = kept_passes_at (f q) f q tree refl (kept_passes f tree)

pub kept_found : (f : Place → Bool) (tree : List Place) (x : List ℕ)
    → are_distinct (ids_of tree) ≡ true → mem x (ids_of (filter f tree)) ≡ true
    → (p : Place) × (place_at tree x ≡ Some p) × (f p ≡ true)
kept_found f tree x apart there =
    let found = stands_found (filter f tree) x there in
    (found.0, found_among f tree x found.0 apart found.1, all_found f (filter f tree) x found.0 (kept_passes f tree) found.1)

or_right : (a b : Bool) → b ≡ true → (a || b) ≡ true
or_right true b h = refl
or_right false b h = h

kept_by : (kept here : Bool) (f : Place → Bool) (q : Place) (tree : List Place) (x : List ℕ)
    (p : Place)
    → f q ≡ kept → bytes_eq q.id x ≡ here → cond here (Some q) (place_at tree x) ≡ Some p
    → f p ≡ true → (place_at tree x ≡ Some p → mem x (ids_of (filter f tree)) ≡ true)
    → mem x (ids_of (cond kept (q ∷ filter f tree) (filter f tree))) ≡ true
kept_by true true f q tree x p k h found e go = ap (λ b. b || mem x (ids_of (filter f tree))) h
kept_by true false f q tree x p k h found e go = or_right (bytes_eq q.id x) (mem x (ids_of (filter f tree))) (go found)
kept_by false true f q tree x p k h found e go = absurd (true≢false (sym e ∙ sym (ap (λ o. option_map_or f o true) found) ∙ k))
kept_by false false f q tree x p k h found e go = go found

-- and what is found and passes it is among them
pub found_kept : (f : Place → Bool) (tree : List Place) (x : List ℕ) (p : Place)
    → place_at tree x ≡ Some p → f p ≡ true → mem x (ids_of (filter f tree)) ≡ true
found_kept f [] x p found e = cc
found_kept f (q ∷ tree) x p found e = kept_by (f q) (bytes_eq q.id x) f q tree x p refl refl found e (λ later. found_kept f tree x p later e)

-- ---- lists of places, one behind the other

either_at : (here : Bool) (q : Place) (xs ys : List Place) (x : List ℕ) (p : Place)
    → (place_at (xs ++ ys) x ≡ Some p → (place_at xs x ≡ Some p) ⊎ (place_at ys x ≡ Some p))
    → cond here (Some q) (place_at (xs ++ ys) x) ≡ Some p
    → (cond here (Some q) (place_at xs x) ≡ Some p) ⊎ (place_at ys x ≡ Some p)
either_at true q xs ys x p go found = inl found
either_at false q xs ys x p go found = go found

pub either : (xs ys : List Place) (x : List ℕ) (p : Place) → place_at (xs ++ ys) x ≡ Some p
    → (place_at xs x ≡ Some p) ⊎ (place_at ys x ≡ Some p)
either [] ys x p found = inr found
either (q ∷ xs) ys x p found = either_at (bytes_eq q.id x) q xs ys x p (either xs ys x p) found

-- ---- around a node

pub record AroundPlaces (rows : List NodeRow) (n : List ℕ) (at : Around rows n) : Type 0 where
  pub front : List Place
  pub inner : List Place
  pub back : List Place
  pub inner_is : inner ≡ places_from (path_after [] at.front) (at.root ∷ at.inner)
  pub whole : places rows ≡ front ++ (inner ++ back)
  pub none_front : list_any (below n) front ≡ false
  pub all_inner : list_all (below n) inner ≡ true
  pub none_back : list_any (below n) back ≡ false
  pub front_ids : ids_of front ≡ ids at.front
  pub inner_ids : ids_of inner ≡ ids (at.root ∷ at.inner)

pub around_places : (rows : List NodeRow) (n : List ℕ) (at : Around rows n) → AroundPlaces rows n at
around_places rows n at =
    let mid = at.root ∷ at.inner in
    let path = path_after [] at.front in
    record {
      front = places_from [] at.front;
      inner = places_from path mid;
      back = places_from (path_after path mid) at.back;
      inner_is = refl;
      whole = ap places at.whole ∙ places_from-append [] (at.front ++ mid) at.back
          ∙ ap (λ ps. ps ++ places_from (path_after [] (at.front ++ mid)) at.back) (places_from-append [] at.front mid)
          ∙ ap (λ p. (places_from [] at.front ++ places_from path mid) ++ places_from p at.back) (path_after-append [] at.front mid)
          ∙ append_assoc (places_from [] at.front) (places_from path mid) (places_from (path_after path mid) at.back);
      none_front = at.none_front;
      all_inner = at.all_inner;
      none_back = at.none_back;
      front_ids = ids_of_places [] at.front;
      inner_ids = ids_of_places path mid;
    }

-- what isn't among the rows below n isn't below n
pub outside : (rows : List NodeRow) (n x : List ℕ) (p : Place) → (at : Around rows n)
    → mem x (ids (at.root ∷ at.inner)) ≡ false → place_at (places rows) x ≡ Some p
    → below n p ≡ false
outside rows n x p at out found =
    let ps = around_places rows n at in
    let whole = sym (ap (λ tree. place_at tree x) ps.whole) ∙ found in
    elim (either ps.front (ps.inner ++ ps.back) x p whole) [
      | inl first ↦ none_found (below n) ps.front x p ps.none_front first
      | inr later ↦
          elim (either ps.inner ps.back x p later) [
            | inl mid ↦ absurd (true≢false (sym (found_stands ps.inner x p mid) ∙ ap (mem x) ps.inner_ids ∙ out))
            | inr last ↦ none_found (below n) ps.back x p ps.none_back last
          ]
    ]

-- and what is among them is
pub inside : (rows : List NodeRow) (n x : List ℕ) (p : Place) → IsValid rows → (at : Around rows n)
    → mem x (ids (at.root ∷ at.inner)) ≡ true → place_at (places rows) x ≡ Some p → below n p ≡ true
inside rows n x p valid at there found =
    let ps = around_places rows n at in
    let whole = sym (ap (λ tree. place_at tree x) ps.whole) ∙ found in
    let apart : are_distinct (ids_of ps.front ++ (ids_of ps.inner ++ ids_of ps.back)) ≡ true =
    ap are_distinct (sym (ap ids_of ps.whole ∙ map-append (λ q. q.id) ps.front (ps.inner ++ ps.back) ∙ ap (λ is. ids_of ps.front ++ is) (map-append (λ q. q.id) ps.inner ps.back))) ∙ ids_apart rows valid in
    let stands : mem x (ids_of ps.inner) ≡ true = ap (mem x) ps.inner_ids ∙ there in
    elim (either ps.front (ps.inner ++ ps.back) x p whole) [
      | inl first ↦ absurd (true≢false (sym stands ∙ (out_of_both x (ids_of ps.inner) (ids_of ps.back) (apart_lists x (ids_of ps.front) (ids_of ps.inner ++ ids_of ps.back) apart (found_stands ps.front x p first))).0))
      | inr later ↦
          elim (either ps.inner ps.back x p later) [
            | inl mid ↦ all_found (below n) ps.inner x p ps.all_inner mid
            | inr last ↦ absurd (true≢false (sym (found_stands ps.back x p last) ∙ apart_lists x (ids_of ps.inner) (ids_of ps.back) (distinct_back (ids_of ps.front) (ids_of ps.inner ++ ids_of ps.back) apart) stands))
          ]
    ]
