-- A resource that is linked outside a node is at home above it, and so stands in front of it.
use Rattle.std.proofs.Common.{◌≡◌, ◌∙◌, ℕ, ◌&&◌, ◌||◌, Bool, true, false, not, List, [], ◌∷◌, ◌++◌}
use Rattle.std.proofs.Common.{Option, Some, None, refl, sym, ap, subst}
use Rattle.std.proofs.lemmas.Bool.{true≢false, and_parts, not-true, or_from, or_parts}
use Rattle.std.proofs.lemmas.List.{map-append}
use Rattle.std.proofs.lemmas.Slice.Eq.{bytes_eq-Decides}
use Rattle.std.specs.List.{list_all, list_any}
use Rattle.std.specs.Option.{option_map_or}
use Rattle.std.specs.Str.{bytes_eq}
use Rattle.ticket_items.specs.Ids.{mem, are_distinct}
use Rattle.ticket_items.specs.declared.link.Link.{Link}
use Rattle.ticket_items.specs.declared.node_row.NodeRow.{NodeRow}
use Rattle.ticket_items.proofs.Apart.{mem-append}
use Rattle.ticket_rows.proofs.Below.{Path, mem-drop}
use Rattle.ticket_rows.proofs.LinkWalk.{are_resolved_from, resolved_walk, resolves}
use Rattle.ticket_rows.proofs.NodePlaces.{node_ids_distinct}
use Rattle.ticket_rows.specs.Homes.{home_of}
use Rattle.ticket_rows.specs.Place.{below, is_node, path_of, places}
use Rattle.ticket_rows.specs.Ticket.{IsValid, ids, node_ids}
use Rattle.ticket_tree.proofs.OnPlaces.{ids_of_places}
use Rattle.ticket_tree.specs.Part.{is_linked}
use Rattle.spawn.proofs.HomesBelow.{home_behind, home_stands, ids-append, ids_around, only_at}
use Rattle.spawn.proofs.LinkedOutside.{any-append, linked_below_is, missing_outside}
use Rattle.spawn.proofs.Outside.{found_stands, inside, kept_found}
use Rattle.spawn.proofs.PartValid.{resolved-append}
use Rattle.spawn.proofs.SoundPart.{false_by}
use Rattle.spawn.proofs.Split.{Around}
use Rattle.spawn.proofs.Standing.{ids_apart, named}
use Rattle.plain_shop.specs.Claim.{ids_of, is_linked_below, is_linked_outside, linked_outside}

-- ---- rows whose paths don't lead through a home don't link what is at home there

no_link : (all : List NodeRow) (path : Path) (x h : List ℕ) (links : List Link)
    → home_of all x ≡ Some h → mem h path ≡ false → list_all (resolves all path) links ≡ true
    → list_any (λ l. bytes_eq l.rref x) links ≡ false
no_link all path x h [] home off res = refl
no_link all path x h (l ∷ links) home off res =
    let parts = and_parts (resolves all path l) (list_all (resolves all path) links) res in
    let through : Option (List ℕ) → Bool = λ o. option_map_or (λ i. mem i path) o false in
    or_from _ _ (false_by (bytes_eq l.rref x) (λ same. true≢false (sym parts.0 ∙ ap (λ y. through (home_of all y)) ((bytes_eq-Decides l.rref x).0 same) ∙ ap through home ∙ off))) (no_link all path x h links home off parts.1)

none_linked : (all : List NodeRow) (before : Path) (rows : List NodeRow) (x h : List ℕ)
    → home_of all x ≡ Some h → mem h before ≡ false → mem h (node_ids rows) ≡ false
    → are_resolved_from all before rows ≡ true → is_linked rows x ≡ false
none_linked all before [] x h home off out res = refl
none_linked all before (r ∷ rows) x h home off out res =
    let path = path_of before r in
    let outs = or_parts (bytes_eq r.id h) (mem h (node_ids rows)) out in
    let here : mem h path ≡ false = or_from _ _ outs.0 (mem-drop h _ before off) in
    let parts = and_parts (list_all (resolves all path) r.links) (are_resolved_from all path rows) res in
    or_from _ _ (no_link all path x h r.links home here parts.0) (none_linked all path rows x h home here outs.1 parts.1)

-- what is at home behind n, no row in front of that links
not_behind : (rows : List NodeRow) (n x h : List ℕ) → IsValid rows → (at : Around rows n)
    → home_of rows x ≡ Some h → mem x (ids at.back) ≡ true
    → is_linked (at.root ∷ at.inner) x ≡ false
not_behind rows n x h valid at home there =
    let mid = at.root ∷ at.inner in
    let first = at.front ++ mid in
    let apart = ap are_distinct (sym (ap ids at.whole ∙ ids-append first at.back)) ∙ valid.distinct in
    let apart_nodes = ap are_distinct (sym (ap node_ids at.whole ∙ map-append (λ r. r.id) first at.back)) ∙ node_ids_distinct rows valid.distinct in
    let out = only_at (mem x (ids first)) x (ids first) (ids at.back) apart refl there in
    let home_back : home_of at.back x ≡ Some h = sym (home_behind x first at.back out) ∙ ap (λ rs. home_of rs x) (sym at.whole) ∙ home in
    let away = only_at (mem h (node_ids first)) h (node_ids first) (node_ids at.back) apart_nodes refl (home_stands x h at.back home_back).1 in
    let resolved = (resolved-append rows [] first at.back (subst (λ rs. are_resolved_from rows [] rs ≡ true) at.whole (sym (resolved_walk rows) ∙ valid.resolved))).0 in
    (or_parts (is_linked at.front x) (is_linked mid x) (sym (any-append (λ r. list_any (λ l. bytes_eq l.rref x) r.links) at.front mid) ∙ none_linked rows [] first x h home refl away resolved)).1

-- ---- what is linked outside n

first_alone : (a b c : Bool) → (a || (b || c)) ≡ true → b ≡ false → c ≡ false → a ≡ true
first_alone true b c any no_mid no_back = refl
first_alone false b c any no_mid no_back = sym (ap (λ d. d || c) no_mid ∙ no_back) ∙ any

front_by : (o : Option (List ℕ)) (rows : List NodeRow) (n x : List ℕ) → IsValid rows
    → (at : Around rows n) → home_of rows x ≡ o
    → mem x (ids_of (linked_outside (places rows) n)) ≡ true → mem x (ids at.front) ≡ true
front_by None rows n x valid at home linked = absurd (true≢false (sym linked ∙ missing_outside rows n x valid home))
front_by (Some h) rows n x valid at home linked =
    let tree = places rows in
    let mid = at.root ∷ at.inner in
    let found = kept_found (is_linked_outside tree n) tree x (ids_apart rows valid) linked in
    let p = found.0 in
    let tests = and_parts (not (is_node p) && not (below n p)) (is_linked_below tree n p.id) found.2 in
    let off = not-true (below n p) (and_parts (not (is_node p)) (not (below n p)) tests.0).1 in
    let links : is_linked mid x ≡ true = sym (linked_below_is rows n x at) ∙ ap (is_linked_below tree n) (sym (named tree x p found.1)) ∙ tests.1 in
    let stands : mem x (ids rows) ≡ true = ap (mem x) (sym (ids_of_places [] rows)) ∙ found_stands tree x p found.1 in
    first_alone (mem x (ids at.front)) (mem x (ids mid)) (mem x (ids at.back)) (sym (ap (mem x) (ids_around rows n at) ∙ mem-append x (ids at.front) (ids mid ++ ids at.back) ∙ ap (λ b. mem x (ids at.front) || b) (mem-append x (ids mid) (ids at.back))) ∙ stands)
    (false_by (mem x (ids mid)) (λ there. true≢false (sym (inside rows n x p valid at there found.1) ∙ off)))
    (false_by (mem x (ids at.back)) (λ there. true≢false (sym links ∙ not_behind rows n x h valid at home there)))

pub in_front : (rows : List NodeRow) (n x : List ℕ) → IsValid rows → (at : Around rows n)
    → mem x (ids_of (linked_outside (places rows) n)) ≡ true → mem x (ids at.front) ≡ true
in_front rows n x valid at linked = front_by (home_of rows x) rows n x valid at refl linked

-- ---- one of those that all pass passes

passes_at : (here : Bool) (f : List ℕ → Bool) (x y : List ℕ) (ys : List (List ℕ))
    → bytes_eq y x ≡ here → (f y && list_all f ys) ≡ true → (here || mem x ys) ≡ true
    → (list_all f ys ≡ true → mem x ys ≡ true → f x ≡ true) → f x ≡ true
passes_at true f x y ys own all there go = ap f (sym ((bytes_eq-Decides y x).0 own)) ∙ (and_parts (f y) (list_all f ys) all).0
passes_at false f x y ys own all there go = go (and_parts (f y) (list_all f ys) all).1 there

pub one_passes : (f : List ℕ → Bool) (x : List ℕ) (ys : List (List ℕ)) → list_all f ys ≡ true
    → mem x ys ≡ true → f x ≡ true
one_passes f x [] all there = cc
one_passes f x (y ∷ ys) all there = passes_at (bytes_eq y x) f x y ys refl all there (one_passes f x ys)
