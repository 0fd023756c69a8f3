-- Each node but the root has one parent, and its path is itself and then its parent's path.
use Rattle.std.proofs.Common.{◌≡◌, ◌⊎◌, inl, inr, ℕ, zero, suc, ◌-◌, ◌≤◌, ◌&&◌, ◌||◌, Bool, true}
use Rattle.std.proofs.Common.{false, cond, List, [], ◌∷◌, map, length, drop, Option, Some, None}
use Rattle.std.proofs.Common.{refl, sym, ap, ◌∙◌, arith, is_some, slice_get, subst}
use Rattle.std.proofs.lemmas.Bool.{true≢false, and_parts, or_from, leb-true, eqb-true, not-true}
use Rattle.std.proofs.lemmas.List.{length-drop}
use Rattle.std.proofs.lemmas.Slice.Eq.{bytes_eq-Decides}
use Rattle.std.specs.Option.{option_and_then, option_map_or}
use Rattle.std.specs.Str.{bytes_eq}
use Rattle.ticket_items.proofs.Apart.{bytes_eq-same}
use Rattle.ticket_rows.proofs.Below.{Path, mem-drop, Follows, Follows-outline, length-path_of}
use Rattle.ticket_rows.proofs.Below.{is_some-place_at, mem-node_ids}
use Rattle.ticket_items.specs.Ids.{mem, are_distinct}
use Rattle.ticket_tree.specs.Laws.{IsRootAt, HasParentAt, OneParentEach, DepthIsPathLength}
use Rattle.ticket_tree.specs.Laws.{BelowByParent}
use Rattle.ticket_rows.specs.Outline.{goes_on}
use Rattle.ticket_rows.proofs.NodePlaces.{nodes_from, node_places-rows, node_ids_distinct}
use Rattle.ticket_rows.specs.Place.{Place, node_place, place_at, below, is_below, parent, up}
use Rattle.ticket_rows.specs.Place.{path_of}
use Rattle.ticket_rows.specs.Ticket.{IsValid, node_ids, depths}
use Rattle.ticket_items.specs.declared.node_row.NodeRow.{NodeRow}

-- ---- depths are lengths of paths

lengths : (before : Path) (rows : List NodeRow) → Follows before rows
    → map (λ p. length p.path) (nodes_from before rows) ≡ depths rows
lengths before [] follows = refl
lengths before (r ∷ rows) follows =
    ap (λ n. n ∷ map (λ p. length p.path) (nodes_from (path_of before r) rows)) (length-path_of before r follows.0 follows.1)
    ∙ ap (λ ns. r.depth ∷ ns) (lengths (path_of before r) rows follows.2)

pub depth_is_path_length : DepthIsPathLength
depth_is_path_length rows valid = ap (map (λ p. length p.path)) (node_places-rows rows) ∙ lengths [] rows (Follows-outline rows valid.tree)

-- ---- node_ids of later rows

-- no id of the rows is on the way to them
abbrev pub AreNew : Path → List NodeRow → Type 0
AreNew before rows = (y : List ℕ) → mem y (node_ids rows) ≡ true → mem y before ≡ false

-- an id that stands later isn't this one
later_id : (b : Bool) (x y : List ℕ) (xs : Path) → bytes_eq x y ≡ b → mem x xs ≡ false
    → mem y xs ≡ true → bytes_eq x y ≡ false
later_id true x y xs e out there =
    let same : x ≡ y = (bytes_eq-Decides x y).0 e in
    absurd (true≢false (sym there ∙ ap (λ i. mem i xs) (sym same) ∙ out))
later_id false x y xs e out there = e

pub other_id : (r : NodeRow) (rows : List NodeRow) (y : List ℕ)
    → are_distinct (node_ids (r ∷ rows)) ≡ true → mem y (node_ids rows) ≡ true
    → bytes_eq r.id y ≡ false
other_id r rows y apart there = later_id (bytes_eq r.id y) r.id y (node_ids rows) refl (not-true _ (and_parts _ _ apart).0) there

-- what stands later stands there
pub there_later : (b c : Bool) → c ≡ true → (b || c) ≡ true
there_later true c h = refl
there_later false c h = h

pub here_new : (before : Path) (r : NodeRow) (rows : List NodeRow) → AreNew before (r ∷ rows)
    → mem r.id before ≡ false
here_new before r rows new = new r.id (ap (λ b. b || mem r.id (node_ids rows)) (bytes_eq-same r.id))

pub later_new : (before : Path) (r : NodeRow) (rows : List NodeRow)
    → are_distinct (node_ids (r ∷ rows)) ≡ true → AreNew before (r ∷ rows)
    → AreNew (path_of before r) rows
later_new before r rows apart new y there =
    or_from _ _ (other_id r rows y apart there) (mem-drop y (length before - (r.depth - 1)) before (new y (there_later (bytes_eq r.id y) (mem y (node_ids rows)) there)))

-- ---- the way up

-- each id of the path stands in the tree, and what is behind it is the rest of its path
abbrev pub IsWayUp : List Place → Path → Type 0
IsWayUp tree [] = Unit {0}
IsWayUp tree (y ∷ ys) = (q : Place) × (q.id ≡ y) × (q.path ≡ y ∷ ys) × (place_at tree y ≡ Some q) × IsWayUp tree ys

way_up-drop : (tree : List Place) (n : ℕ) (ys : Path) → IsWayUp tree ys → IsWayUp tree (drop n ys)
way_up-drop tree zero ys way = way
way_up-drop tree (suc n) [] way = way
way_up-drop tree (suc n) (y ∷ ys) way = way_up-drop tree n ys way.4

-- what is found among the rows is found in the tree
abbrev pub FindsAll : List Place → List Place → Type 0
FindsAll tree later = (y : List ℕ) (p : Place) → place_at later y ≡ Some p → place_at tree y ≡ Some p

-- a parent in a tree
record ParentIn (tree : List Place) (x : List ℕ) (p : Place) : Type 0 where
  parent : Place
  there : place_at tree parent.id ≡ Some parent
  path : p.path ≡ x ∷ parent.path
  above : up tree x ≡ Some parent.id
  once : mem x parent.path ≡ false

here_parent : (tree : List Place) (x : List ℕ) (r : NodeRow) (ys : Path) (p : Place) → 1 ≤ length ys
    → IsWayUp tree ys → r.id ≡ x → node_place r (r.id ∷ ys) ≡ p → place_at tree x ≡ Some p
    → mem x ys ≡ false → ParentIn tree x p
here_parent tree x r [] p long way named same found out =
    let never : ⊥ = omega arith in
    absurd never
here_parent tree x r (y ∷ ys) p long way named same found out =
    let path : p.path ≡ x ∷ y ∷ ys = ap (λ q. q.path) (sym same) ∙ ap (λ i. i ∷ y ∷ ys) named in
    record {
      parent = way.0;
      there = ap (place_at tree) way.1 ∙ way.3;
      path = path ∙ ap (λ zs. x ∷ zs) (sym way.2);
      above = ap (option_and_then parent) found ∙ ap (λ zs. slice_get zs 1) path ∙ ap Some (sym way.1);
      once = ap (mem x) way.2 ∙ out;
    }

pub finds_later : (tree : List Place) (before : Path) (r : NodeRow) (rows : List NodeRow)
    → are_distinct (node_ids (r ∷ rows)) ≡ true → FindsAll tree (nodes_from before (r ∷ rows))
    → FindsAll tree (nodes_from (path_of before r) rows)
finds_later tree before r rows apart finds y p found =
    let there : mem y (node_ids rows) ≡ true = mem-node_ids rows y ∙ sym (is_some-place_at (path_of before r) rows y) ∙ ap is_some found in
    finds y p (ap (λ b. cond b (Some (node_place r (path_of before r))) (place_at (nodes_from (path_of before r) rows) y)) (other_id r rows y apart there) ∙ found)

pub finds_here : (tree : List Place) (before : Path) (r : NodeRow) (rows : List NodeRow)
    → FindsAll tree (nodes_from before (r ∷ rows))
    → place_at tree r.id ≡ Some (node_place r (path_of before r))
finds_here tree before r rows finds =
    finds r.id _ (ap (λ b. cond b (Some (node_place r (path_of before r))) (place_at (nodes_from (path_of before r) rows) r.id)) (bytes_eq-same r.id))

parent_row : (here : Bool) (tree : List Place) (before : Path) (r : NodeRow) (rows : List NodeRow)
    (x : List ℕ) (p : Place)
    → bytes_eq r.id x ≡ here → 2 ≤ r.depth → r.depth ≤ suc (length before)
    → AreNew before (r ∷ rows) → IsWayUp tree before → FindsAll tree (nodes_from before (r ∷ rows))
    → cond here (Some (node_place r (path_of before r)))
    (place_at (nodes_from (path_of before r) rows) x)
    ≡ Some p
    → (place_at (nodes_from (path_of before r) rows) x ≡ Some p → ParentIn tree x p)
    → ParentIn tree x p
parent_row true tree before r rows x p e low high new way finds found later =
    let n : ℕ = length before - (r.depth - 1) in
    let same : node_place r (path_of before r) ≡ p = cc in
    let named : r.id ≡ x = (bytes_eq-Decides r.id x).0 e in
    let long : 1 ≤ length (drop n before) = omega (arith, length-drop n before) in
    let at_x : place_at tree x ≡ Some p = ap (place_at tree) (sym named) ∙ finds_here tree before r rows finds ∙ ap Some same in
    let out : mem x (drop n before) ≡ false = mem-drop x n before (ap (λ i. mem i before) (sym named) ∙ here_new before r rows new) in
    here_parent tree x r (drop n before) p long (way_up-drop tree n before way) named same at_x out
parent_row false tree before r rows x p e low high new way finds found later = later found

parents : (tree : List Place) (before : Path) (rows : List NodeRow)
    → goes_on (length before) (depths rows) ≡ true → are_distinct (node_ids rows) ≡ true
    → AreNew before rows → IsWayUp tree before → FindsAll tree (nodes_from before rows)
    → (x : List ℕ) (p : Place) → place_at (nodes_from before rows) x ≡ Some p → ParentIn tree x p
parents tree before [] goes apart new way finds x p found = cc
parents tree before (r ∷ rows) goes apart new way finds x p found =
    let parts = and_parts _ _ goes in
    let bounds = and_parts _ _ parts.0 in
    let low : 2 ≤ r.depth = leb-true 2 r.depth bounds.0 in
    let high : r.depth ≤ suc (length before) = leb-true _ _ bounds.1 in
    let some : 1 ≤ r.depth = omega arith in
    let long : length (path_of before r) ≡ r.depth = length-path_of before r some high in
    let way_on : IsWayUp tree (path_of before r) = (node_place r (path_of before r), refl, refl, finds_here tree before r rows finds, way_up-drop tree (length before - (r.depth - 1)) before way) in
    parent_row (bytes_eq r.id x) tree before r rows x p refl low high new way finds found
    (parents tree (path_of before r) rows (ap (λ n. goes_on n (depths rows)) long ∙ parts.1) (and_parts _ _ apart).1 (later_new before r rows apart new) way_on (finds_later tree before r rows apart finds) x p)

-- ---- the root

drop_none : (n : ℕ) → drop {A = List ℕ} n [] ≡ []
drop_none zero = refl
drop_none (suc n) = refl

root_row : (here : Bool) (r : NodeRow) (rows : List NodeRow) (x : List ℕ) (p : Place)
    → bytes_eq r.id x ≡ here
    → cond here (Some (node_place r (path_of [] r))) (place_at (nodes_from (path_of [] r) rows) x)
    ≡ Some p
    → (place_at (nodes_from (path_of [] r) rows) x ≡ Some p
    → ParentIn (nodes_from [] (r ∷ rows)) x p)
    → IsRootAt (nodes_from [] (r ∷ rows)) x p ⊎ HasParentAt (nodes_from [] (r ∷ rows)) x p
root_row true r rows x p e found later =
    let same : node_place r (path_of [] r) ≡ p = cc in
    let named : r.id ≡ x = (bytes_eq-Decides r.id x).0 e in
    inl (record {
      path = ap (λ q. q.path) (sym same) ∙ ap (λ ys. r.id ∷ ys) (drop_none (0 - (r.depth - 1))) ∙ ap (λ i. i ∷ []) named;
      first = ap Some same;
    })
root_row false r rows x p e found later =
    let one = later found in
    inr (record { parent = one.parent; there = one.there; path = one.path; above = one.above; once = one.once })

-- the law, over the places of nodes
abbrev OneParentIn : List Place → Type 0
OneParentIn nodes = (x : List ℕ) (p : Place) → place_at nodes x ≡ Some p → IsRootAt nodes x p ⊎ HasParentAt nodes x p

one_parent_in : (rows : List NodeRow) → IsValid rows → OneParentIn (nodes_from [] rows)
one_parent_in [] valid x p found = cc
one_parent_in (r ∷ rows) valid x p found =
    let apart = node_ids_distinct (r ∷ rows) valid.distinct in
    let parts = and_parts _ _ valid.tree in
    let one : r.depth ≡ 1 = eqb-true _ _ parts.0 in
    let low : 1 ≤ r.depth = omega arith in
    let high : r.depth ≤ suc (length {A = List ℕ} []) = omega arith in
    let long : length (path_of [] r) ≡ 1 = length-path_of [] r low high ∙ one in
    let tree : List Place = nodes_from [] (r ∷ rows) in
    let all : FindsAll tree (nodes_from [] (r ∷ rows)) = λ y q h. h in
    let new : AreNew [] (r ∷ rows) = λ y h. refl in
    let way : IsWayUp tree (path_of [] r) = (node_place r (path_of [] r), refl, refl, finds_here tree [] r rows all, way_up-drop tree (0 - (r.depth - 1)) [] tt) in
    root_row (bytes_eq r.id x) r rows x p refl found
    (parents tree (path_of [] r) rows (ap (λ n. goes_on n (depths rows)) long ∙ parts.1) (and_parts _ _ apart).1 (later_new [] r rows apart new) way (finds_later tree [] r rows apart all) x p)

pub one_parent_each : OneParentEach
one_parent_each rows valid = subst OneParentIn (sym (node_places-rows rows)) (one_parent_in rows valid)

-- ---- what is below

abbrev ByParent : List Place → List ℕ → List ℕ → Bool
ByParent tree a b = is_some (place_at tree a) && (bytes_eq a b || option_map_or (λ u. is_below tree u b) (up tree a) false)

below_root : (rows : List NodeRow) (a b : List ℕ) (p : Place)
    → place_at (nodes_from [] rows) a ≡ Some p → IsRootAt (nodes_from [] rows) a p
    → is_below (nodes_from [] rows) a b ≡ ByParent (nodes_from [] rows) a b
below_root rows a b p found root =
    let none : up (nodes_from [] rows) a ≡ None = ap (option_and_then parent) found ∙ ap (λ zs. slice_get zs 1) root.path in
    ap (λ o. option_map_or (below b) o false) found ∙ ap (mem b) root.path
    ∙ sym (ap (λ o. is_some o && (bytes_eq a b || option_map_or (λ u. is_below (nodes_from [] rows) u b) (up (nodes_from [] rows) a) false)) found
    ∙ ap (λ o. bytes_eq a b || option_map_or (λ u. is_below (nodes_from [] rows) u b) o false) none)

below_child : (rows : List NodeRow) (a b : List ℕ) (p : Place)
    → place_at (nodes_from [] rows) a ≡ Some p → HasParentAt (nodes_from [] rows) a p
    → is_below (nodes_from [] rows) a b ≡ ByParent (nodes_from [] rows) a b
below_child rows a b p found has =
    let higher : is_below (nodes_from [] rows) has.parent.id b ≡ mem b has.parent.path = ap (λ o. option_map_or (below b) o false) has.there in
    ap (λ o. option_map_or (below b) o false) found ∙ ap (mem b) has.path
    ∙ sym (ap (λ o. is_some o && (bytes_eq a b || option_map_or (λ u. is_below (nodes_from [] rows) u b) (up (nodes_from [] rows) a) false)) found
    ∙ ap (λ o. bytes_eq a b || option_map_or (λ u. is_below (nodes_from [] rows) u b) o false) has.above
    ∙ ap (λ c. bytes_eq a b || c) higher)

below_found : (rows : List NodeRow) (a b : List ℕ) (p : Place)
    → place_at (nodes_from [] rows) a ≡ Some p
    → IsRootAt (nodes_from [] rows) a p ⊎ HasParentAt (nodes_from [] rows) a p
    → is_below (nodes_from [] rows) a b ≡ ByParent (nodes_from [] rows) a b
below_found rows a b p found (inl root) = below_root rows a b p found root
below_found rows a b p found (inr has) = below_child rows a b p found has

below_at : (rows : List NodeRow) (a b : List ℕ) (o : Option Place)
    → place_at (nodes_from [] rows) a ≡ o → IsValid rows
    → is_below (nodes_from [] rows) a b ≡ ByParent (nodes_from [] rows) a b
below_at rows a b None e valid =
    ap (λ o. option_map_or (below b) o false) e
    ∙ sym (ap (λ o. is_some o && (bytes_eq a b || option_map_or (λ u. is_below (nodes_from [] rows) u b) (up (nodes_from [] rows) a) false)) e)
below_at rows a b (Some p) e valid = below_found rows a b p e (one_parent_in rows valid a p e)

pub below_by_parent : BelowByParent
below_by_parent rows valid a b =
    subst (λ nodes. is_below nodes a b ≡ ByParent nodes a b) (sym (node_places-rows rows)) (below_at rows a b (place_at (nodes_from [] rows) a) refl valid)
