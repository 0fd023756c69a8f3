-- The part of a good record is sound.
use Rattle.std.proofs.Common.{◌≡◌, ◌∙◌, ℕ, zero, suc, ◌+◌, ◌-◌, ◌&&◌, ◌||◌, Bool, true, false, not}
use Rattle.std.proofs.Common.{List, [], ◌∷◌, ◌++◌, length, map, drop, reverse, is_some, slice_get}
use Rattle.std.proofs.Common.{refl, sym, ap, append_assoc, nat_le, nat_lt, arith}
use Rattle.std.proofs.lemmas.Bool.{true≢false, and_parts, and_from, or_parts, or_from, not-true}
use Rattle.std.proofs.lemmas.Bool.{not_from_false, lt-ltb, ltb-true, le-leb, leb-true}
use Rattle.std.proofs.lemmas.List.{length-reverse}
use Rattle.std.proofs.lemmas.Slice.Eq.{bytes_eq-Decides}
use Rattle.std.specs.List.{list_all, list_any}
use Rattle.std.specs.Option.{option_and_then}
use Rattle.std.specs.Str.{bytes_eq}
use Rattle.ticket_items.proofs.Apart.{are_distinct-push, bytes_eq-same, mem-append, or_none}
use Rattle.ticket_rows.proofs.Below.{Path, mem-drop}
use Rattle.ticket_rows.proofs.NodePlaces.{no_node_id, node_ids_distinct}
use Rattle.ticket_tree.proofs.OnPlaces.{stands_among, stands_resource}
use Rattle.ticket_tree.proofs.PlainRows.{apart_resource}
use Rattle.ticket_items.specs.Ids.{mem, are_distinct}
use Rattle.ticket_tree.specs.Part.{ancestor_ids, are_ancestors_new, are_apart, are_linked}
use Rattle.ticket_tree.specs.Part.{are_shallow_below, has_ancestors, is_linked, part_ids}
use Rattle.ticket_items.specs.Resource.{resource_ids}
use Rattle.ticket_rows.specs.Place.{below, is_node, parent, places, resource_places, path_of}
use Rattle.ticket_rows.specs.Ticket.{IsValid, are_shallow, ids, max_depth, node_ids}
use Rattle.ticket_items.specs.declared.node_row.NodeRow.{NodeRow}
use Rattle.ticket_items.specs.declared.resource.Resource.{Resource}
use Rattle.spawn.proofs.Among.{kept_keys, mem_front}
use Rattle.spawn.proofs.Ancestry.{above_is, reverse-cons, root_place}
use Rattle.spawn.proofs.GoodCopies.{changes_ids, good_node, ids_of_resources, in_rw, reads_ids}
use Rattle.spawn.proofs.HomesBelow.{after_out, nodes_around, only_inside, or_right, tail}
use Rattle.spawn.proofs.Lifting.{all_lifted, ids_lifted}
use Rattle.spawn.proofs.LinkedOutside.{linked_below_is}
use Rattle.spawn.proofs.Outside.{found_kept, kept_found}
use Rattle.spawn.proofs.RowsBelow.{rows_below-around}
use Rattle.spawn.proofs.Split.{AreDeep, Around, around, path_after}
use Rattle.spawn.proofs.Standing.{ids_apart, named}
use Rattle.plain_shop.specs.Claim.{ids_of, is_linked_below, is_linked_outside, linked_outside}
use Rattle.spawn.specs.Laws.{PartIsSound}
use Rattle.spawn.specs.Parts.{above, ancestor, ancestors, lifted_row, part_for, resources}
use Rattle.spawn.specs.Parts.{resources_among}
use Rattle.ticket_tree.specs.At.{rows_below}
use Rattle.spawn.specs.Records.{IsGood}
use Rattle.spawn.specs.declared.records.spawn_rec.SpawnRec.{SpawnRec}

-- ---- ids turned round

or_swap : (a b : Bool) → (a || b) ≡ (b || a)
or_swap true true = refl
or_swap true false = refl
or_swap false true = refl
or_swap false false = refl

mem-reverse : (x : List ℕ) (xs : List (List ℕ)) → mem x (reverse xs) ≡ mem x xs
mem-reverse x [] = refl
mem-reverse x (y ∷ xs) =
    ap (mem x) (reverse-cons y xs) ∙ mem-append x (reverse xs) (y ∷ []) ∙ ap (λ b. b || (bytes_eq y x || false)) (mem-reverse x xs) ∙ ap (λ b. mem x xs || b) (or_none (bytes_eq y x)) ∙ or_swap (mem x xs) (bytes_eq y x)

distinct-reverse : (xs : List (List ℕ)) → are_distinct xs ≡ true → are_distinct (reverse xs) ≡ true
distinct-reverse [] apart = refl
distinct-reverse (x ∷ xs) apart =
    let parts = and_parts (not (mem x xs)) (are_distinct xs) apart in
    ap are_distinct (reverse-cons x xs) ∙ are_distinct-push (reverse xs) x (distinct-reverse xs parts.1) (mem-reverse x xs ∙ not-true _ parts.0)

distinct-drop : (k : ℕ) (xs : List (List ℕ)) → are_distinct xs ≡ true
    → are_distinct (drop k xs) ≡ true
distinct-drop zero xs apart = apart
distinct-drop (suc k) [] apart = refl
distinct-drop (suc k) (x ∷ xs) apart = distinct-drop k xs (and_parts (not (mem x xs)) (are_distinct xs) apart).1

all-reverse : (f : List ℕ → Bool) (xs : List (List ℕ)) → list_all f xs ≡ true
    → list_all f (reverse xs) ≡ true
all-reverse f [] all = refl
all-reverse f (x ∷ xs) all =
    let parts = and_parts (f x) (list_all f xs) all in
    ap (list_all f) (reverse-cons x xs) ∙ all_last (reverse xs) (all-reverse f xs parts.1) parts.0
  where
    all_last : (ys : List (List ℕ)) → list_all f ys ≡ true → f x ≡ true → list_all f (ys ++ x ∷ []) ≡ true
    all_last [] all' own = and_from _ _ own refl
    all_last (y ∷ ys) all' own =
        let both = and_parts (f y) (list_all f ys) all' in
        and_from _ _ both.0 (all_last ys both.1 own)

-- ---- the path to a node

pub false_by : (b : Bool) → (b ≡ true → ⊥) → b ≡ false
false_by true never = absurd (never refl)
false_by false never = refl

pub true_by : (b : Bool) → (b ≡ false → ⊥) → b ≡ true
true_by true never = refl
true_by false never = absurd (never refl)

apart_here : (here : Bool) (x y : List ℕ) (ys : List (List ℕ)) → bytes_eq x y ≡ here
    → mem x ys ≡ false → mem y ys ≡ true → here ≡ false
apart_here false x y ys e out there = refl
apart_here true x y ys e out there = absurd (true≢false (sym there ∙ ap (λ i. mem i ys) (sym ((bytes_eq-Decides x y).0 e)) ∙ out))

path_distinct : (before : Path) (rows : List NodeRow) → are_distinct before ≡ true
    → are_distinct (node_ids rows) ≡ true
    → ((x : List ℕ) → mem x (node_ids rows) ≡ true → mem x before ≡ false)
    → are_distinct (path_after before rows) ≡ true
path_distinct before [] own apart new = own
path_distinct before (r ∷ rows) own apart new =
    let parts = and_parts (not (mem r.id (node_ids rows))) (are_distinct (node_ids rows)) apart in
    let k : ℕ = length before - (r.depth - 1) in
    let here : mem r.id before ≡ false = new r.id (ap (λ b. b || mem r.id (node_ids rows)) (bytes_eq-same r.id)) in
    path_distinct (path_of before r) rows (and_from _ _ (not_from_false _ (mem-drop r.id k before here)) (distinct-drop k before own)) parts.1
    (λ x there. or_from _ _ (apart_here (bytes_eq r.id x) r.id x (node_ids rows) refl (not-true _ parts.0) there) (mem-drop x k before (new x (or_right (bytes_eq r.id x) (mem x (node_ids rows)) there))))

distinct_first : (xs ys : List (List ℕ)) → are_distinct (xs ++ ys) ≡ true → are_distinct xs ≡ true
distinct_first [] ys apart = refl
distinct_first (x ∷ xs) ys apart =
    let parts = and_parts (not (mem x (xs ++ ys))) (are_distinct (xs ++ ys)) apart in
    let out : mem x xs ≡ false = (or_parts (mem x xs) (mem x ys) (sym (mem-append x xs ys) ∙ not-true _ parts.0)).0 in
    and_from _ _ (not_from_false _ out) (distinct_first xs ys parts.1)

up_is : (rows : List NodeRow) (n : List ℕ) → (at : Around rows n)
    → drop (length (path_after [] at.front) - (at.root.depth - 1)) (path_after [] at.front) ≡ at.up
up_is rows n at = ap tail at.path

up_distinct : (rows : List NodeRow) (n : List ℕ) → IsValid rows → (at : Around rows n)
    → are_distinct at.up ≡ true
up_distinct rows n valid at =
    let path = path_after [] at.front in
    let nodes = ap are_distinct (sym (nodes_around rows n at)) ∙ node_ids_distinct rows valid.distinct in
    ap are_distinct (sym (up_is rows n at)) ∙ distinct-drop (length path - (at.root.depth - 1)) path (path_distinct [] at.front refl (distinct_first (node_ids at.front) _ nodes) (λ x there. refl))

up_front : (rows : List NodeRow) (n x : List ℕ) → (at : Around rows n)
    → mem x (node_ids at.front) ≡ false → mem x at.up ≡ false
up_front rows n x at out =
    let path = path_after [] at.front in
    ap (mem x) (sym (up_is rows n at)) ∙ mem-drop x (length path - (at.root.depth - 1)) path (after_out x [] at.front refl out)

-- ---- nothing of the part stands above it

pub node_among_ids : (x : List ℕ) (rows : List NodeRow) → mem x (node_ids rows) ≡ true
    → mem x (ids rows) ≡ true
node_among_ids x rows there = true_by (mem x (ids rows)) (λ out. true≢false (sym there ∙ no_node_id x rows out))

above_not_inside : (rows : List NodeRow) (n x : List ℕ) → IsValid rows → (at : Around rows n)
    → mem x at.up ≡ true → mem x (ids (at.root ∷ at.inner)) ≡ false
above_not_inside rows n x valid at there =
    let mid = at.root ∷ at.inner in
    false_by (mem x (ids mid)) (λ inside. true≢false (sym there ∙ up_front rows n x at (no_node_id x at.front (only_inside rows n x valid at inside))))

above_is_node : (rows : List NodeRow) (n x : List ℕ) → (at : Around rows n) → mem x at.up ≡ true
    → mem x (node_ids rows) ≡ true
above_is_node rows n x at there =
    let mid = at.root ∷ at.inner in
    ap (mem x) (nodes_around rows n at) ∙ mem_front x (node_ids at.front) (node_ids mid ++ node_ids at.back) (true_by (mem x (node_ids at.front)) (λ out. true≢false (sym there ∙ up_front rows n x at out)))

no_resource : (rows : List NodeRow) (x : List ℕ) → IsValid rows → mem x (node_ids rows) ≡ true
    → mem x (resource_ids (resources rows)) ≡ false
no_resource rows x valid there =
    let known = ap (mem x) (ids_of_resources rows) ∙ sym (stands_among (resource_places rows) x) ∙ stands_resource rows x in
    false_by (mem x (resource_ids (resources rows))) (λ stands. true≢false (sym there ∙ apart_resource rows x valid (sym known ∙ stands)))

and_left : (a b : Bool) → (a && b) ≡ true → a ≡ true
and_left true b h = refl
and_left false b h = cc

-- what is linked outside n is a resource that a row below n links
outside_parts : (rows : List NodeRow) (n x : List ℕ) → IsValid rows → (at : Around rows n)
    → mem x (ids_of (linked_outside (places rows) n)) ≡ true
    → (mem x (resource_ids (resources rows)) ≡ true) × (is_linked (at.root ∷ at.inner) x ≡ true)
outside_parts rows n x valid at there =
    let tree = places rows in
    let found = kept_found (is_linked_outside tree n) tree x (ids_apart rows valid) there in
    let parts = and_parts (not (is_node found.0) && not (below n found.0)) (is_linked_below tree n found.0.id) found.2 in
    let resource = (and_parts (not (is_node found.0)) (not (below n found.0)) parts.0).0 in (
      ap (mem x) (ids_of_resources rows) ∙ found_kept (λ p. not (is_node p)) tree x found.0 found.1 resource,
      sym (linked_below_is rows n x at) ∙ ap (is_linked_below tree n) (sym (named tree x found.0 found.1)) ∙ parts.1,
    )

-- ---- the four tests

some_above : (path : List (List ℕ)) → is_some (slice_get path 0) ≡ true
    → nat_lt 0 (length path) ≡ true
some_above [] has = cc
some_above (x ∷ path) has = lt-ltb 0 (suc (length path)) (omega arith)

shallow_part : (levels high : ℕ) (rows : List NodeRow) → high ≡ levels
    → list_all (λ r. nat_lt levels r.depth) rows ≡ true → are_shallow rows ≡ true
    → are_shallow_below high (all_lifted levels rows) ≡ true
shallow_part levels high [] e deep shallow = refl
shallow_part levels high (r ∷ rows) e deep shallow =
    let deeps = and_parts (nat_lt levels r.depth) (list_all (λ s. nat_lt levels s.depth) rows) deep in
    let shallows = and_parts (nat_le r.depth max_depth) (are_shallow rows) shallow in
    and_from _ _ (le-leb (r.depth - levels + high) 32 (omega (arith, e, ltb-true _ _ deeps.0, leb-true _ _ shallows.0))) (shallow_part levels high rows e deeps.1 shallows.1)

later_shallow : (xs ys : List NodeRow) → are_shallow (xs ++ ys) ≡ true → are_shallow ys ≡ true
later_shallow [] ys all = all
later_shallow (r ∷ xs) ys all = later_shallow xs ys (and_parts (nat_le r.depth max_depth) (are_shallow (xs ++ ys)) all).1

first_shallow : (xs ys : List NodeRow) → are_shallow (xs ++ ys) ≡ true → are_shallow xs ≡ true
first_shallow [] ys all = refl
first_shallow (r ∷ xs) ys all =
    let parts = and_parts (nat_le r.depth max_depth) (are_shallow (xs ++ ys)) all in
    and_from _ _ parts.0 (first_shallow xs ys parts.1)

names_above : (rows : List NodeRow) (as' : List (List ℕ))
    → ancestor_ids (map (ancestor rows) as') ≡ as'
names_above rows [] = refl
names_above rows (a ∷ as') = ap (λ xs. a ∷ xs) (names_above rows as')

length-map' : (rows : List NodeRow) (as' : List (List ℕ))
    → length (map (ancestor rows) as') ≡ length as'
length-map' rows [] = refl
length-map' rows (a ∷ as') = ap suc (length-map' rows as')

linked_lifted : (levels : ℕ) (rows : List NodeRow) (x : List ℕ)
    → is_linked (all_lifted levels rows) x ≡ is_linked rows x
linked_lifted levels [] x = refl
linked_lifted levels (r ∷ rows) x = ap (λ b. list_any (λ l. bytes_eq l.rref x) r.links || b) (linked_lifted levels rows x)

all_of : (f : List ℕ → Bool) (pool : List Resource)
    → ((x : List ℕ) → mem x (resource_ids pool) ≡ true → f x ≡ true)
    → list_all (λ y. f y.id) pool ≡ true
all_of f [] go = refl
all_of f (y ∷ pool) go =
    and_from _ _ (go y.id (ap (λ b. b || mem y.id (resource_ids pool)) (bytes_eq-same y.id))) (all_of f pool (λ x there. go x (or_right (bytes_eq y.id x) (mem x (resource_ids pool)) there)))

all_up : (f : List ℕ → Bool) (xs : List (List ℕ)) → ((x : List ℕ) → mem x xs ≡ true → f x ≡ true)
    → list_all f xs ≡ true
all_up f [] go = refl
all_up f (y ∷ xs) go = and_from _ _ (go y (ap (λ b. b || mem y xs) (bytes_eq-same y))) (all_up f xs (λ x there. go x (or_right (bytes_eq y x) (mem x xs) there)))

-- the copies of a good record are resources linked outside its node
rw_outside : (rows : List NodeRow) (r : SpawnRec) (x : List ℕ) → IsGood rows r
    → mem x (resource_ids (resources_among r.rw rows)) ≡ true
    → mem x (ids_of (linked_outside (places rows) r.node)) ≡ true
rw_outside rows r x good there = in_rw rows r x good (and_left (mem x r.rw) _ (sym (changes_ids rows r.rw x) ∙ there))

ro_outside : (rows : List NodeRow) (r : SpawnRec) (x : List ℕ) → IsGood rows r
    → mem x (resource_ids r.ro) ≡ true → mem x (ids_of (linked_outside (places rows) r.node)) ≡ true
ro_outside rows r x good there =
    (and_parts (not (mem x r.rw)) _ (sym (kept_keys (λ p. p.id) (λ i. not (mem i r.rw)) (linked_outside (places rows) r.node) x) ∙ sym (ap (mem x) (reads_ids rows r good)) ∙ there)).1

copies_apart : (rows : List NodeRow) (n x : List ℕ) (pool : List Resource) → IsValid rows
    → (at : Around rows n)
    → ((y : List ℕ) → mem y (resource_ids pool) ≡ true
    → mem y (ids_of (linked_outside (places rows) n)) ≡ true)
    → mem x at.up ≡ true → mem x (resource_ids pool) ≡ false
copies_apart rows n x pool valid at outside there =
    false_by (mem x (resource_ids pool)) (λ stands. true≢false (sym (outside_parts rows n x valid at (outside x stands)).0 ∙ no_resource rows x valid (above_is_node rows n x at there)))

neither : (x : List ℕ) (xs ys zs : List (List ℕ)) → mem x xs ≡ false → mem x ys ≡ false
    → mem x zs ≡ false → not (mem x (xs ++ ys ++ zs)) ≡ true
neither x xs ys zs p q s =
    not_from_false _ (mem-append x (xs ++ ys) zs ∙ or_from _ _ (mem-append x xs ys ∙ or_from _ _ p q) s)

all_four : (a b c d e : Bool) → a ≡ true → b ≡ true → c ≡ true → d ≡ true → e ≡ true
    → ((((a && b) && c) && d) && e) ≡ true
all_four true true true true true p q r s t = refl
all_four false b c d e p q r s t = cc
all_four true false c d e p q r s t = cc
all_four true true false d e p q r s t = cc
all_four true true true false e p q r s t = cc
all_four true true true true false p q r s t = cc

deeper : (levels : ℕ) (rows : List NodeRow) → AreDeep (suc levels) rows
    → list_all (λ r. nat_lt levels r.depth) rows ≡ true
deeper levels [] deep = refl
deeper levels (r ∷ rows) deep =
    let parts = and_parts (nat_lt (suc levels) r.depth) (list_all (λ s. nat_lt (suc levels) s.depth) rows) deep in
    and_from _ _ (lt-ltb levels r.depth (omega (arith, ltb-true _ _ parts.0))) (deeper levels rows parts.1)

pub part_is_sound : PartIsSound
part_is_sound t r valid good =
    let rows = t.rows in
    let n = r.node in
    let at = around rows n valid (good_node rows r good) in
    let mid = at.root ∷ at.inner in
    let high : above rows n ≡ reverse at.up = above_is rows n valid at in
    let levels : length (above rows n) ≡ length at.up = ap length high ∙ length-reverse at.up in
    let below_n : (part_for t r).rows ≡ all_lifted (length at.up) mid = ap (λ m. map (lifted_row m) (rows_below rows n)) levels ∙ ap (map (lifted_row (length at.up))) (rows_below-around rows n valid at) in
    let many : length (ancestors rows n) ≡ length at.up = length-map' rows (above rows n) ∙ levels in
    let names : ancestor_ids (ancestors rows n) ≡ reverse at.up = names_above rows (above rows n) ∙ high in
    let has : is_some (slice_get at.up 0) ≡ true = sym (ap (λ o. is_some (option_and_then parent o)) (root_place rows n valid at) ∙ ap (λ path. is_some (slice_get path 1)) at.path) ∙ good.has_parent in
    let deep : list_all (λ s. nat_lt (length at.up) s.depth) mid ≡ true = and_from _ _ (lt-ltb (length at.up) at.root.depth (omega (arith, at.level))) (deeper (length at.up) at.inner at.deep) in
    let shallow = first_shallow mid at.back (later_shallow at.front (mid ++ at.back) (ap are_shallow (sym (append_assoc at.front mid at.back)) ∙ ap are_shallow (sym at.whole) ∙ valid.shallow)) in
    let rw = resources_among r.rw rows in
    let changes = λ (x : List ℕ) (there : mem x (resource_ids rw) ≡ true). rw_outside rows r x good there in
    let reads = λ (x : List ℕ) (there : mem x (resource_ids r.ro) ≡ true). ro_outside rows r x good there in
    let part_is = λ (x : List ℕ). ap (λ rs. mem x (ids rs)) below_n ∙ ap (mem x) (ids_lifted (length at.up) mid) in
    let links = λ (x : List ℕ). ap (λ rs. is_linked rs x) below_n ∙ linked_lifted (length at.up) mid x in
    all_four (has_ancestors (ancestors rows n)) (are_shallow_below (length (ancestors rows n)) (part_for t r).rows) (are_ancestors_new (ancestors rows n) (part_ids (part_for t r).rows rw r.ro)) (are_linked (part_for t r).rows rw) (are_linked (part_for t r).rows r.ro)
    (ap (nat_lt 0) many ∙ some_above at.up has)
    (ap (λ k. are_shallow_below k (part_for t r).rows) many ∙ ap (are_shallow_below (length at.up)) below_n ∙ shallow_part (length at.up) (length at.up) mid refl deep shallow)
    (and_from _ _ (ap are_distinct names ∙ distinct-reverse at.up (up_distinct rows n valid at))
    (ap (λ as'. are_apart as' (part_ids (part_for t r).rows rw r.ro)) names
    ∙ all-reverse (λ x. not (mem x (part_ids (part_for t r).rows rw r.ro))) at.up
    (all_up (λ x. not (mem x (part_ids (part_for t r).rows rw r.ro))) at.up
    (λ x there. neither x (ids (part_for t r).rows) (resource_ids rw) (resource_ids r.ro) (part_is x ∙ above_not_inside rows n x valid at there) (copies_apart rows n x rw valid at changes there) (copies_apart rows n x r.ro valid at reads there)))))
    (all_of (is_linked (part_for t r).rows) rw (λ x there. links x ∙ (outside_parts rows n x valid at (changes x there)).1))
    (all_of (is_linked (part_for t r).rows) r.ro (λ x there. links x ∙ (outside_parts rows n x valid at (reads x there)).1))
