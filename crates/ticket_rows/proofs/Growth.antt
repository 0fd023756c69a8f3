-- An index goes with its rows: a node that comes in, and an id that comes into a pool.
use Rattle.std.proofs.Common.{◌≡◌, ℕ, suc, ◌+◌, ◌<◌, ◌≤◌, ◌||◌, Bool, true, false, cond, List, []}
use Rattle.std.proofs.Common.{◌∷◌, ◌++◌, length, map, Option, Some, None, is_some, refl, sym, ap}
use Rattle.std.proofs.Common.{◌∙◌, arith, slice_get, subst}
use Rattle.std.proofs.lemmas.Bool.{or_parts, true≢false}
use Rattle.std.proofs.lemmas.List.{length-append}
use Rattle.std.proofs.lemmas.List.Concat.{flat_map-append}
use Rattle.std.proofs.lemmas.List.Folds.{list_any-append}
use Rattle.std.proofs.lemmas.Slice.Eq.{bytes_eq-Decides}
use Rattle.std.specs.List.{find, list_any, position}
use Rattle.std.specs.Option.{option_map, option_and_then}
use Rattle.std.specs.Str.{bytes_eq}
use Rattle.ticket_items.proofs.Apart.{bytes_eq-same, mem-append, or_none, or_true}
use Rattle.ticket_items.proofs.KeyPlaces.{in_front, behind}
use Rattle.ticket_items.proofs.Places.{position-cons}
use Rattle.ticket_items.specs.Ids.{mem}
use Rattle.ticket_rows.proofs.InLists.{find-behind, find-none, find-skips, find-swap, get_front}
use Rattle.ticket_rows.proofs.InLists.{get_last, get_push, get_within, position-none}
use Rattle.ticket_rows.proofs.InLists.{position-skips, position-swap, shifted_place-le}
use Rattle.ticket_rows.specs.Index.{Shape, Spots, Finds, ids_in, node_place, home_place, pool_place}
use Rattle.ticket_rows.specs.Index.{resource_place, spot_under, node_of, node_at, resource_at}
use Rattle.ticket_rows.specs.Index.{shifted_place, with_more}
use Rattle.ticket_rows.specs.declared.spot.Spot.{Spot}
use Rattle.ticket_rows.specs.declared.spot.Spot.TheVariants.{OfNode, InPool}

-- ---- ids that stand nowhere

no_node : (x : List ℕ) (shapes : List Shape) → mem x (ids_in shapes) ≡ false
    → list_any (λ s. bytes_eq s.id x) shapes ≡ false
no_node x [] out = refl
no_node x (s ∷ shapes) out =
    let parts = or_parts (bytes_eq s.id x) (mem x (s.pool ++ ids_in shapes)) out in
    let rest = or_parts (mem x s.pool) (mem x (ids_in shapes)) (sym (mem-append x s.pool (ids_in shapes)) ∙ parts.1) in
    ap (λ b. b || list_any (λ t. bytes_eq t.id x) shapes) parts.0 ∙ no_node x shapes rest.1

no_home : (x : List ℕ) (shapes : List Shape) → mem x (ids_in shapes) ≡ false
    → list_any (λ s. mem x s.pool) shapes ≡ false
no_home x [] out = refl
no_home x (s ∷ shapes) out =
    let parts = or_parts (bytes_eq s.id x) (mem x (s.pool ++ ids_in shapes)) out in
    let rest = or_parts (mem x s.pool) (mem x (ids_in shapes)) (sym (mem-append x s.pool (ids_in shapes)) ∙ parts.1) in
    ap (λ b. b || list_any (λ t. mem x t.pool) shapes) rest.0 ∙ no_home x shapes rest.1

in_front_of : (p : Shape → Bool) (front back : List Shape) (s : Shape)
    → list_any p (front ++ s ∷ back) ≡ false
    → (list_any p front ≡ false) × (p s ≡ false)
in_front_of p front back s none =
    let parts = or_parts (list_any p front) (list_any p (s ∷ back)) (sym (list_any-append p front (s ∷ back)) ∙ none) in
    (parts.0, (or_parts (p s) (list_any p back) parts.1).0)

before : (p : Shape → Bool) (front back : List Shape) → list_any p (front ++ back) ≡ false
    → list_any p front ≡ false
before p front back none = (or_parts (list_any p front) (list_any p back) (sym (list_any-append p front back) ∙ none)).0

no_place : (x : List ℕ) (shapes : List Shape) → mem x (ids_in shapes) ≡ false
    → resource_place shapes x ≡ None
no_place x shapes out = ap (option_and_then {U = ℕ × ℕ} (λ home. option_map (λ place. (home, place)) (pool_place shapes x))) (position-none (λ s. mem x s.pool) shapes (no_home x shapes out))

put_some : (b : Bool) (s : Spot) (o : Option Spot) → is_some (cond b (Some s) o) ≡ (b || is_some o)
put_some true s o = refl
put_some false s o = refl

-- ---- the same spots

pub finds_same : (shapes : List Shape) (spots next : Spots) (places : List ℕ)
    → ((x : List ℕ) → spot_under next x ≡ spot_under spots x) → Finds shapes spots places
    → Finds shapes next places
finds_same shapes spots next places same f =
    record {
      ids = λ x. ap is_some (same x) ∙ f.ids x;
      nodes = λ x. ap (option_and_then (node_at places)) (same x) ∙ f.nodes x;
      resources = λ x. ap (option_and_then (resource_at places)) (same x) ∙ f.resources x;
      came = λ x s there. f.came x s (sym (same x) ∙ there);
      within = f.within;
      count = f.count;
    }

-- ---- a node more

ids-node : (x : List ℕ) (front back : List Shape) (new : Shape) → new.pool ≡ []
    → (bytes_eq new.id x || mem x (ids_in (front ++ back)))
    ≡ mem x (ids_in (front ++ new ∷ back))
ids-node x front back new bare =
    let ids = λ (s : Shape). s.id ∷ s.pool in
    let a = mem x (ids_in front) in
    let b = mem x (ids_in back) in
    ap (λ c. bytes_eq new.id x || c) (ap (mem x) (flat_map-append ids front back) ∙ mem-append x (ids_in front) (ids_in back))
    ∙ row (bytes_eq new.id x) a b
    ∙ sym (ap (mem x) (flat_map-append ids front (new ∷ back)) ∙ mem-append x (ids_in front) (ids_in (new ∷ back))
    ∙ ap (λ pool. a || (bytes_eq new.id x || mem x (pool ++ ids_in back))) bare)
  where
    row : (n a b : Bool) → (n || (a || b)) ≡ (a || (n || b))
    row true true b = refl
    row true false b = refl
    row false a b = refl

moved_node : (moved places : List ℕ) (from : ℕ) (o : Option Spot)
    → ((n : ℕ) → slice_get moved n ≡ option_map (shifted_place from) (slice_get places n))
    → length moved ≡ length places
    → ((s : Spot) → o ≡ Some s → node_of s < length places)
    → option_and_then (node_at (moved ++ from ∷ [])) o
    ≡ option_map (shifted_place from) (option_and_then (node_at places) o)
moved_node moved places from None at long came = refl
moved_node moved places from (Some (OfNode n)) at long came =
    let low : n < length places = came (OfNode n) refl in
    get_front moved (from ∷ []) n (omega arith) ∙ at n
moved_node moved places from (Some (InPool h k)) at long came = refl

abbrev both : ℕ → ℕ × ℕ → ℕ × ℕ
both from b = (shifted_place from b.0, b.1)

moved_resource : (moved places : List ℕ) (from : ℕ) (o : Option Spot)
    → ((n : ℕ) → slice_get moved n ≡ option_map (shifted_place from) (slice_get places n))
    → length moved ≡ length places
    → ((s : Spot) → o ≡ Some s → node_of s < length places)
    → option_and_then (resource_at (moved ++ from ∷ [])) o
    ≡ option_map (both from) (option_and_then (resource_at places) o)
moved_resource moved places from None at long came = refl
moved_resource moved places from (Some (OfNode n)) at long came = refl
moved_resource moved places from (Some (InPool h k)) at long came =
    let low : h < length places = came (InPool h k) refl in
    ap (option_map (λ j. (j, k))) (get_front moved (from ∷ []) h (omega arith) ∙ at h) ∙ row (slice_get places h)
  where
    row : (o : Option ℕ)
        → option_map (λ j. (j, k)) (option_map (shifted_place from) o)
        ≡ option_map (both from) (option_map (λ j. (j, k)) o)
    row None = refl
    row (Some j) = refl

place-skips : (x : List ℕ) (front back : List Shape) (new : Shape) → new.pool ≡ []
    → resource_place (front ++ new ∷ back) x
    ≡ option_map (both (length front)) (resource_place (front ++ back) x)
place-skips x front back new bare =
    let nothing : mem x new.pool ≡ false = ap (mem x) bare in
    let old = pool_place (front ++ back) x in
    ap (λ o. option_and_then {U = ℕ × ℕ} (λ home. option_map (λ place. (home, place)) o) (home_place (front ++ new ∷ back) x)) (ap (option_and_then (λ (s : Shape). position (λ y. bytes_eq y x) s.pool)) (find-skips (λ s. mem x s.pool) front back new nothing))
    ∙ ap (option_and_then {U = ℕ × ℕ} (λ home. option_map (λ place. (home, place)) old)) (position-skips (λ s. mem x s.pool) front back new nothing)
    ∙ row (home_place (front ++ back) x) old
  where
    row : (h p : Option ℕ)
        → option_and_then {U = ℕ × ℕ} (λ home. option_map (λ place. (home, place)) p) (option_map (shifted_place (length front)) h)
        ≡ option_map (both (length front)) (option_and_then {U = ℕ × ℕ} (λ home. option_map (λ place. (home, place)) p) h)
    row None p = refl
    row (Some h) None = refl
    row (Some h) (Some p) = refl

pub finds_node : (front back : List Shape) (new : Shape) (spots next : Spots)
    (places moved : List ℕ)
    → new.pool ≡ [] → mem new.id (ids_in (front ++ back)) ≡ false
    → ((x : List ℕ) → spot_under next x
    ≡ cond (bytes_eq new.id x) (Some (OfNode (length places))) (spot_under spots x))
    → ((n : ℕ) → slice_get moved n ≡ option_map (shifted_place (length front)) (slice_get places n))
    → length moved ≡ length places → Finds (front ++ back) spots places
    → Finds (front ++ new ∷ back) next (moved ++ length front ∷ [])
finds_node front back new spots next places moved bare out put at long f =
    record {
      ids = λ x. ap is_some (put x) ∙ put_some (bytes_eq new.id x) (OfNode (length places)) (spot_under spots x) ∙ ap (λ b. bytes_eq new.id x || b) (f.ids x) ∙ ids-node x front back new bare;
      nodes = λ x. nodes x (bytes_eq new.id x) refl;
      resources = λ x. resources x (bytes_eq new.id x) refl;
      came = λ x s there. came x s (bytes_eq new.id x) refl there;
      within = within;
      count = omega (arith, long, f.count, length-append moved (length front ∷ []), length-append front back, length-append front (new ∷ back));
    }
  where
    ends : List ℕ
    ends = moved ++ length front ∷ []

    spot : (x : List ℕ) (b : Bool) → bytes_eq new.id x ≡ b
        → spot_under next x ≡ cond b (Some (OfNode (length places))) (spot_under spots x)
    spot x b e = put x ∙ ap (λ c. cond c (Some (OfNode (length places))) (spot_under spots x)) e

    nodes : (x : List ℕ) (b : Bool) → bytes_eq new.id x ≡ b
        → option_and_then (node_at ends) (spot_under next x) ≡ node_place (front ++ new ∷ back) x
    nodes x true e =
        let same : new.id ≡ x = (bytes_eq-Decides new.id x).0 e in
        let none : list_any (λ s. bytes_eq s.id x) front ≡ false = before (λ s. bytes_eq s.id x) front back (no_node x (front ++ back) (ap (λ y. mem y (ids_in (front ++ back))) (sym same) ∙ out)) in
        let first : position (λ s. bytes_eq s.id x) (new ∷ back) ≡ Some 0 = position-cons (λ s. bytes_eq s.id x) new back ∙ ap (λ c. cond c (Some 0) (option_map suc (position (λ s. bytes_eq s.id x) back))) e in
        ap (option_and_then (node_at ends)) (spot x true e) ∙ ap (slice_get ends) (sym long) ∙ get_last moved (length front)
        ∙ ap Some (omega arith) ∙ sym (behind (λ s. bytes_eq s.id x) front (new ∷ back) 0 none first)
    nodes x false e =
        ap (option_and_then (node_at ends)) (spot x false e) ∙ moved_node moved places (length front) (spot_under spots x) at long (f.came x)
        ∙ ap (option_map (shifted_place (length front))) (f.nodes x) ∙ sym (position-skips (λ s. bytes_eq s.id x) front back new e)

    resources : (x : List ℕ) (b : Bool) → bytes_eq new.id x ≡ b
        → option_and_then (resource_at ends) (spot_under next x)
        ≡ resource_place (front ++ new ∷ back) x
    resources x true e =
        let same : new.id ≡ x = (bytes_eq-Decides new.id x).0 e in
        ap (option_and_then (resource_at ends)) (spot x true e)
        ∙ sym (place-skips x front back new bare ∙ ap (option_map (both (length front))) (no_place x (front ++ back) (ap (λ y. mem y (ids_in (front ++ back))) (sym same) ∙ out)))
    resources x false e =
        ap (option_and_then (resource_at ends)) (spot x false e) ∙ moved_resource moved places (length front) (spot_under spots x) at long (f.came x)
        ∙ ap (option_map (both (length front))) (f.resources x) ∙ sym (place-skips x front back new bare)

    came : (x : List ℕ) (s : Spot) (b : Bool) → bytes_eq new.id x ≡ b
        → spot_under next x ≡ Some s → node_of s < length ends
    came x s true e there =
        let same : OfNode (length places) ≡ s = cc (sym (spot x true e) ∙ there) in
        let is : length places ≡ node_of s = ap node_of same in
        omega (arith, is, long, length-append moved (length front ∷ []))
    came x s false e there = omega (arith, long, f.came x s (sym (spot x false e) ∙ there), length-append moved (length front ∷ []))

    old : (n k : ℕ) (o : Option ℕ) → slice_get places n ≡ o → slice_get moved n ≡ Some k
        → k < length (front ++ new ∷ back)
    old n k None e there = cc (sym (at n ∙ ap (option_map (shifted_place (length front))) e) ∙ there)
    old n k (Some j) e there =
        let is : shifted_place (length front) j ≡ k = cc (sym (at n ∙ ap (option_map (shifted_place (length front))) e) ∙ there) in
        omega (arith, is, shifted_place-le (length front) j, f.within n j e, length-append front back, length-append front (new ∷ back))

    within : (n k : ℕ) → slice_get ends n ≡ Some k → k < length (front ++ new ∷ back)
    within = get_push (λ k. k < length (front ++ new ∷ back)) moved (length front) (λ n k there. old n k (slice_get places n) refl there) (omega (arith, length-append front (new ∷ back)))

-- ---- an id more in a pool

ids-more : (x y : List ℕ) (front back : List Shape) (s : Shape)
    → (bytes_eq y x || mem x (ids_in (front ++ s ∷ back)))
    ≡ mem x (ids_in (front ++ with_more y s ∷ back))
ids-more x y front back s =
    let ids = λ (t : Shape). t.id ∷ t.pool in
    let a = mem x (ids_in front) in
    let i = bytes_eq s.id x in
    ap (λ c. bytes_eq y x || c) (ap (mem x) (flat_map-append ids front (s ∷ back)) ∙ mem-append x (ids_in front) (ids_in (s ∷ back)) ∙ ap (λ c. a || (i || c)) (mem-append x s.pool (ids_in back)))
    ∙ row (bytes_eq y x) a i (mem x s.pool) (mem x (ids_in back))
    ∙ sym (ap (mem x) (flat_map-append ids front (with_more y s ∷ back)) ∙ mem-append x (ids_in front) (ids_in (with_more y s ∷ back))
    ∙ ap (λ c. a || (i || c)) (mem-append x (s.pool ++ y ∷ []) (ids_in back) ∙ ap (λ c. c || mem x (ids_in back)) (mem-append x s.pool (y ∷ []))))
  where
    row : (n a i p b : Bool) → (n || (a || (i || (p || b)))) ≡ (a || (i || ((p || (n || false)) || b)))
    row true true i p b = refl
    row true false true p b = refl
    row true false false true b = refl
    row true false false false b = refl
    row false true i p b = refl
    row false false true p b = refl
    row false false false true b = refl
    row false false false false b = refl

pool_more : (b : Bool) (x y : List ℕ) (pool : List (List ℕ)) → bytes_eq y x ≡ b
    → mem x (pool ++ y ∷ []) ≡ (mem x pool || b)
pool_more b x y pool e = mem-append x pool (y ∷ []) ∙ ap (λ c. mem x pool || c) (or_none (bytes_eq y x) ∙ e)

pub finds_resource : (front back : List Shape) (s : Shape) (y : List ℕ) (h : ℕ)
    (spots next : Spots) (places : List ℕ)
    → slice_get places h ≡ Some (length front) → mem y (ids_in (front ++ s ∷ back)) ≡ false
    → ((x : List ℕ) → spot_under next x
    ≡ cond (bytes_eq y x) (Some (InPool h (length s.pool))) (spot_under spots x))
    → Finds (front ++ s ∷ back) spots places → Finds (front ++ with_more y s ∷ back) next places
finds_resource front back s y h spots next places home out put f =
    record {
      ids = λ x. ap is_some (put x) ∙ put_some (bytes_eq y x) (InPool h (length s.pool)) (spot_under spots x) ∙ ap (λ b. bytes_eq y x || b) (f.ids x) ∙ ids-more x y front back s;
      nodes = λ x. nodes x (bytes_eq y x) refl;
      resources = λ x. resources x (bytes_eq y x) refl;
      came = λ x t there. came x t (bytes_eq y x) refl there;
      within = λ n k there. omega (arith, f.within n k there, length-append front (s ∷ back), length-append front (with_more y s ∷ back));
      count = omega (arith, f.count, length-append front (s ∷ back), length-append front (with_more y s ∷ back));
    }
  where
    grown : List Shape
    grown = front ++ with_more y s ∷ back

    spot : (x : List ℕ) (b : Bool) → bytes_eq y x ≡ b
        → spot_under next x ≡ cond b (Some (InPool h (length s.pool))) (spot_under spots x)
    spot x b e = put x ∙ ap (λ c. cond c (Some (InPool h (length s.pool))) (spot_under spots x)) e

    other : (x : List ℕ) → bytes_eq y x ≡ true → mem x (ids_in (front ++ s ∷ back)) ≡ false
    other x e = ap (λ z. mem z (ids_in (front ++ s ∷ back))) (sym ((bytes_eq-Decides y x).0 e)) ∙ out

    nodes : (x : List ℕ) (b : Bool) → bytes_eq y x ≡ b
        → option_and_then (node_at places) (spot_under next x) ≡ node_place grown x
    nodes x true e =
        ap (option_and_then (node_at places)) (spot x true e)
        ∙ sym (position-swap (λ t. bytes_eq t.id x) front back s (with_more y s) refl ∙ position-none (λ t. bytes_eq t.id x) (front ++ s ∷ back) (no_node x (front ++ s ∷ back) (other x e)))
    nodes x false e =
        ap (option_and_then (node_at places)) (spot x false e) ∙ f.nodes x ∙ sym (position-swap (λ t. bytes_eq t.id x) front back s (with_more y s) refl)

    in_pool : (x : List ℕ) → bytes_eq y x ≡ true → pool_place grown x ≡ Some (length s.pool)
    in_pool x e =
        let none = in_front_of (λ t. mem x t.pool) front back s (no_home x (front ++ s ∷ back) (other x e)) in
        let there : mem x (with_more y s).pool ≡ true = pool_more true x y s.pool e ∙ or_true (mem x s.pool) in
        let last : position (λ z. bytes_eq z x) (y ∷ []) ≡ Some 0 = position-cons (λ z. bytes_eq z x) y [] ∙ ap (λ b. cond b (Some 0) None) e in
        ap (option_and_then (λ (t : Shape). position (λ z. bytes_eq z x) t.pool)) (find-behind (λ t. mem x t.pool) front back (with_more y s) none.0 there)
        ∙ behind (λ z. bytes_eq z x) s.pool (y ∷ []) 0 none.1 last ∙ ap Some (omega arith)

    at_home : (x : List ℕ) → bytes_eq y x ≡ true → home_place grown x ≡ Some (length front)
    at_home x e =
        let none = in_front_of (λ t. mem x t.pool) front back s (no_home x (front ++ s ∷ back) (other x e)) in
        let there : mem x (with_more y s).pool ≡ true = pool_more true x y s.pool e ∙ or_true (mem x s.pool) in
        let first : position (λ t. mem x t.pool) (with_more y s ∷ back) ≡ Some 0 = position-cons (λ t. mem x t.pool) (with_more y s) back ∙ ap (λ c. cond c (Some 0) (option_map suc (position (λ t. mem x t.pool) back))) there in
        behind (λ t. mem x t.pool) front (with_more y s ∷ back) 0 none.0 first ∙ ap Some (omega arith)

    resources : (x : List ℕ) (b : Bool) → bytes_eq y x ≡ b
        → option_and_then (resource_at places) (spot_under next x) ≡ resource_place grown x
    resources x true e =
        ap (option_and_then (resource_at places)) (spot x true e) ∙ ap (option_map (λ j. (j, length s.pool))) home
        ∙ sym (ap (λ o. option_and_then {U = ℕ × ℕ} (λ j. option_map (λ k. (j, k)) o) (home_place grown x)) (in_pool x e) ∙ ap (option_and_then {U = ℕ × ℕ} (λ j. option_map (λ k. (j, k)) (Some (length s.pool)))) (at_home x e))
    resources x false e =
        let has : mem x (with_more y s).pool ≡ mem x s.pool = pool_more false x y s.pool e ∙ or_none (mem x s.pool) in
        let none : position (λ z. bytes_eq z x) (y ∷ []) ≡ None = position-cons (λ z. bytes_eq z x) y [] ∙ ap (λ b. cond b (Some 0) None) e in
        let own : position (λ z. bytes_eq z x) (with_more y s).pool ≡ position (λ z. bytes_eq z x) s.pool = in_front (λ z. bytes_eq z x) s.pool (y ∷ []) none in
        ap (option_and_then (resource_at places)) (spot x false e) ∙ f.resources x
        ∙ sym (ap (λ o. option_and_then {U = ℕ × ℕ} (λ j. option_map (λ k. (j, k)) o) (home_place grown x)) (find-swap (λ t. mem x t.pool) (λ t. position (λ z. bytes_eq z x) t.pool) front back s (with_more y s) has own)
        ∙ ap (option_and_then {U = ℕ × ℕ} (λ j. option_map (λ k. (j, k)) (pool_place (front ++ s ∷ back) x))) (position-swap (λ t. mem x t.pool) front back s (with_more y s) has))

    came : (x : List ℕ) (t : Spot) (b : Bool) → bytes_eq y x ≡ b → spot_under next x ≡ Some t
        → node_of t < length places
    came x t true e there =
        let same : InPool h (length s.pool) ≡ t = cc (sym (spot x true e) ∙ there) in
        let is : h ≡ node_of t = ap node_of same in
        omega (arith, is, get_within places h (length front) home)
    came x t false e there = f.came x t (sym (spot x false e) ∙ there)
