-- The homes of resources below a node, and of those that are linked from there.
use Rattle.std.proofs.Common.{◌≡◌, ◌∙◌, ℕ, ◌-◌, ◌&&◌, ◌||◌, Bool, true, false, cond, List, [], ◌∷◌}
use Rattle.std.proofs.Common.{◌++◌, length, map, drop, Option, Some, None, is_some, refl, sym, ap}
use Rattle.std.proofs.Common.{append_assoc}
use Rattle.std.proofs.lemmas.Bool.{true≢false, and_parts, and_from, or_parts, or_from}
use Rattle.std.proofs.lemmas.List.{map-append}
use Rattle.std.specs.List.{list_all, list_any}
use Rattle.std.specs.Option.{option_map, option_map_or}
use Rattle.std.specs.Str.{bytes_eq}
use Rattle.ticket_items.proofs.Apart.{bytes_eq-same}
use Rattle.ticket_rows.proofs.AtHome.{mem-ids, holds, home_of-cons}
use Rattle.ticket_rows.proofs.Below.{Path, mem-drop}
use Rattle.ticket_rows.proofs.NodePlaces.{node_ids_distinct}
use Rattle.ticket_items.proofs.AtKey.{any_key}
use Rattle.ticket_tree.proofs.OnPlaces.{has_resource-any}
use Rattle.ticket_tree.proofs.PlainRows.{apart_resource}
use Rattle.ticket_rows.specs.Homes.{entry_of, home_of, has_resource}
use Rattle.ticket_items.specs.Ids.{mem, are_distinct}
use Rattle.ticket_tree.specs.Part.{is_linked}
use Rattle.ticket_rows.specs.Place.{Place, places, places_from, resource_place, below, path_of}
use Rattle.ticket_rows.specs.Ticket.{IsValid, ids, ids_of, node_ids}
use Rattle.ticket_items.specs.declared.node_row.NodeRow.{NodeRow}
use Rattle.spawn.proofs.Among.{apart_lists, out_of_both, mem_front, mem_back}
use Rattle.spawn.proofs.Outside.{around_places}
use Rattle.spawn.proofs.Split.{path_after, Around}
use Rattle.plain_shop.specs.Claim.{links, is_linked_below}
use Rattle.spawn.proofs.Holding.{any_or}

-- ---- rows one behind the other

pub ids-append : (xs ys : List NodeRow) → ids (xs ++ ys) ≡ ids xs ++ ids ys
ids-append [] ys = refl
ids-append (r ∷ xs) ys = ap (λ is. ids_of r ++ is) (ids-append xs ys) ∙ sym (append_assoc (ids_of r) (ids xs) (ids ys))

home_skip : (x : List ℕ) (r : NodeRow) (rows : List NodeRow)
    → mem x (map (λ y. y.id) r.resources) ≡ false → home_of (r ∷ rows) x ≡ home_of rows x
home_skip x r rows out = home_of-cons x r rows ∙ ap (λ b. cond b (Some r.id) (home_of rows x)) out

own_out : (x : List ℕ) (r : NodeRow) (rows : List NodeRow) → mem x (ids (r ∷ rows)) ≡ false
    → (mem x (map (λ y. y.id) r.resources) ≡ false) × (mem x (ids rows) ≡ false)
own_out x r rows out = out_of_both x (map (λ y. y.id) r.resources) (ids rows) (or_parts (bytes_eq r.id x) _ out).1

pub home_behind : (x : List ℕ) (xs ys : List NodeRow) → mem x (ids xs) ≡ false
    → home_of (xs ++ ys) x ≡ home_of ys x
home_behind x [] ys out = refl
home_behind x (r ∷ xs) ys out =
    let parts = own_out x r xs out in
    home_skip x r (xs ++ ys) parts.0 ∙ home_behind x xs ys parts.1

home_front_at : (b : Bool) (h : List ℕ) (x : List ℕ) (r : NodeRow) (xs ys : List NodeRow)
    → (home_of xs x ≡ Some h → home_of (xs ++ ys) x ≡ Some h)
    → cond b (Some r.id) (home_of xs x) ≡ Some h
    → cond b (Some r.id) (home_of (xs ++ ys) x) ≡ Some h
home_front_at true h x r xs ys go e = e
home_front_at false h x r xs ys go e = go e

pub home_front : (x h : List ℕ) (xs ys : List NodeRow) → home_of xs x ≡ Some h
    → home_of (xs ++ ys) x ≡ Some h
home_front x h [] ys e = cc
home_front x h (r ∷ xs) ys e =
    home_of-cons x r (xs ++ ys) ∙ home_front_at (mem x (map (λ y. y.id) r.resources)) h x r xs ys (home_front x h xs ys) (sym (home_of-cons x r xs) ∙ e)

pub or_right : (a b : Bool) → b ≡ true → (a || b) ≡ true
or_right true b h = refl
or_right false b h = h

home_at : (b : Bool) (x h : List ℕ) (r : NodeRow) (rows : List NodeRow)
    → mem x (map (λ y. y.id) r.resources) ≡ b
    → (home_of rows x ≡ Some h → (mem x (ids rows) ≡ true) × (mem h (node_ids rows) ≡ true))
    → cond b (Some r.id) (home_of rows x) ≡ Some h
    → (mem x (ids (r ∷ rows)) ≡ true) × (mem h (node_ids (r ∷ rows)) ≡ true)
home_at true x h r rows own go e = (
  or_right (bytes_eq r.id x) _ (mem_front x (map (λ y. y.id) r.resources) (ids rows) own),
  ap (λ b. b || mem h (node_ids rows)) (ap (bytes_eq r.id) (sym (ap (λ o. option_map_or (λ i. i) o r.id) e)) ∙ bytes_eq-same r.id),
)
home_at false x h r rows own go e =
    let later = go e in
    (or_right (bytes_eq r.id x) _ (mem_back x (map (λ y. y.id) r.resources) (ids rows) later.0), or_right (bytes_eq r.id h) (mem h (node_ids rows)) later.1)

-- a resource with a home stands among the rows, and so does its home
pub home_stands : (x h : List ℕ) (rows : List NodeRow) → home_of rows x ≡ Some h
    → (mem x (ids rows) ≡ true) × (mem h (node_ids rows) ≡ true)
home_stands x h [] e = cc
home_stands x h (r ∷ rows) e = home_at (mem x (map (λ y. y.id) r.resources)) x h r rows refl (home_stands x h rows) (sym (home_of-cons x r rows) ∙ e)

no_entry : {X : Type 0} (o : Option (X × List ℕ)) → option_map (λ e. e.1) o ≡ None
    → is_some o ≡ false
no_entry None h = refl
no_entry (Some e) h = cc

-- what is no node's id and has no home stands nowhere
pub homeless : (x : List ℕ) (rows : List NodeRow) → mem x (node_ids rows) ≡ false
    → home_of rows x ≡ None → mem x (ids rows) ≡ false
homeless x rows no_node none =
    mem-ids x rows ∙ any_or (λ r. bytes_eq r.id x) (holds x) rows (any_key (λ r. r.id) x rows ∙ no_node) (has_resource-any rows x ∙ no_entry (entry_of rows x) none)

-- ---- around a node

pub ids_around : (rows : List NodeRow) (n : List ℕ) → (at : Around rows n)
    → ids rows ≡ ids at.front ++ (ids (at.root ∷ at.inner) ++ ids at.back)
ids_around rows n at =
    let mid = at.root ∷ at.inner in
    ap ids at.whole ∙ ids-append (at.front ++ mid) at.back ∙ ap (λ is. is ++ ids at.back) (ids-append at.front mid) ∙ append_assoc (ids at.front) (ids mid) (ids at.back)

pub nodes_around : (rows : List NodeRow) (n : List ℕ) → (at : Around rows n)
    → node_ids rows ≡ node_ids at.front ++ (node_ids (at.root ∷ at.inner) ++ node_ids at.back)
nodes_around rows n at =
    let mid = at.root ∷ at.inner in
    ap node_ids at.whole ∙ map-append (λ r. r.id) (at.front ++ mid) at.back ∙ ap (λ is. is ++ node_ids at.back) (map-append (λ r. r.id) at.front mid) ∙ append_assoc (node_ids at.front) (node_ids mid) (node_ids at.back)

pub only_at : (b : Bool) (x : List ℕ) (xs ys : List (List ℕ)) → are_distinct (xs ++ ys) ≡ true
    → mem x xs ≡ b → mem x ys ≡ true → b ≡ false
only_at false x xs ys apart e there = refl
only_at true x xs ys apart e there = absurd (true≢false (sym there ∙ apart_lists x xs ys apart e))

-- an id that stands below n stands nowhere else
pub only_inside : (rows : List NodeRow) (n x : List ℕ) → IsValid rows → (at : Around rows n)
    → mem x (ids (at.root ∷ at.inner)) ≡ true → mem x (ids at.front) ≡ false
only_inside rows n x valid at there =
    only_at (mem x (ids at.front)) x (ids at.front) (ids (at.root ∷ at.inner) ++ ids at.back) (ap are_distinct (sym (ids_around rows n at)) ∙ valid.distinct) refl (mem_front x (ids (at.root ∷ at.inner)) (ids at.back) there)

-- the home of a resource at home below n
pub home_inside : (rows : List NodeRow) (n x h : List ℕ) → IsValid rows → (at : Around rows n)
    → home_of (at.root ∷ at.inner) x ≡ Some h → home_of rows x ≡ Some h
home_inside rows n x h valid at home =
    let mid = at.root ∷ at.inner in
    let out = only_inside rows n x valid at (home_stands x h mid home).0 in
    ap (λ rs. home_of rs x) (at.whole ∙ append_assoc at.front mid at.back) ∙ home_behind x at.front (mid ++ at.back) out ∙ home_front x h mid at.back home

-- the path of a row has ids of rows in front of it
pub after_out : (x : List ℕ) (before : Path) (rows : List NodeRow) → mem x before ≡ false
    → mem x (node_ids rows) ≡ false → mem x (path_after before rows) ≡ false
after_out x before [] off out = off
after_out x before (r ∷ rows) off out =
    let parts = or_parts (bytes_eq r.id x) (mem x (node_ids rows)) out in
    after_out x (path_of before r) rows (or_from _ _ parts.0 (mem-drop x _ before off)) parts.1

abbrev pub tail : Path → Path
tail [] = []
tail (y ∷ ys) = ys

-- a node below n isn't above it
pub not_above : (rows : List NodeRow) (n h : List ℕ) → IsValid rows → (at : Around rows n)
    → mem h (node_ids (at.root ∷ at.inner)) ≡ true → mem h at.up ≡ false
not_above rows n h valid at there =
    let mid = at.root ∷ at.inner in
    let apart : are_distinct (node_ids at.front ++ (node_ids mid ++ node_ids at.back)) ≡ true = ap are_distinct (sym (nodes_around rows n at)) ∙ node_ids_distinct rows valid.distinct in
    let out = only_at (mem h (node_ids at.front)) h (node_ids at.front) (node_ids mid ++ node_ids at.back) apart refl (mem_front h (node_ids mid) (node_ids at.back) there) in
    let path = path_after [] at.front in
    let up : drop (length path - (at.root.depth - 1)) path ≡ at.up = ap tail at.path in
    ap (mem h) (sym up) ∙ mem-drop h (length path - (at.root.depth - 1)) path (after_out h [] at.front refl out)

known_home : {X : Type 0} (o : Option (X × List ℕ)) (h : List ℕ) → option_map (λ e. e.1) o ≡ Some h
    → is_some o ≡ true
known_home None h e = cc
known_home (Some y) h e = refl

-- a resource without a home below n stands outside
pub homeless_inside : (rows : List NodeRow) (n x h : List ℕ) → IsValid rows → (at : Around rows n)
    → home_of rows x ≡ Some h → home_of (at.root ∷ at.inner) x ≡ None
    → mem x (ids (at.root ∷ at.inner)) ≡ false
homeless_inside rows n x h valid at home none =
    let known : has_resource rows x ≡ true = known_home (entry_of rows x) h home in
    let no_node = ap (mem x) (sym (nodes_around rows n at)) ∙ apart_resource rows x valid known in
    homeless x (at.root ∷ at.inner) (out_of_both x (node_ids (at.root ∷ at.inner)) (node_ids at.back) (out_of_both x (node_ids at.front) (node_ids (at.root ∷ at.inner) ++ node_ids at.back) no_node).1).0 none

-- ---- links from below n

any_back : {X : Type 0} (f : X → Bool) (xs ys : List X) → list_any f ys ≡ true
    → list_any f (xs ++ ys) ≡ true
any_back f [] ys h = h
any_back f (x ∷ xs) ys h = or_right (f x) _ (any_back f xs ys h)

first_at : {X : Type 0} (b : Bool) (f : X → Bool) (xs ys : List X)
    → (list_any f xs ≡ true → list_any f (xs ++ ys) ≡ true) → (b || list_any f xs) ≡ true
    → (b || list_any f (xs ++ ys)) ≡ true
first_at true f xs ys go h = refl
first_at false f xs ys go h = go h

any_first : {X : Type 0} (f : X → Bool) (xs ys : List X) → list_any f xs ≡ true
    → list_any f (xs ++ ys) ≡ true
any_first f [] ys h = cc
any_first f (x ∷ xs) ys h = first_at (f x) f xs ys (any_first f xs ys) h

pub all_later : {X : Type 0} (f : X → Bool) (xs ys : List X) → list_all f (xs ++ ys) ≡ true
    → list_all f ys ≡ true
all_later f [] ys all = all
all_later f (x ∷ xs) ys all = all_later f xs ys (and_parts (f x) (list_all f (xs ++ ys)) all).1

linked_at : (here : Bool) (n x : List ℕ) (path : Path) (r : NodeRow) (rest : List Place)
    (later : Bool)
    → list_any (λ l. bytes_eq l.rref x) r.links ≡ here → mem n path ≡ true → (here || later) ≡ true
    → (later ≡ true → list_any (λ p. below n p && links x p) rest ≡ true)
    → ((mem n path && list_any (λ l. bytes_eq l.rref x) r.links)
    || list_any (λ p. below n p && links x p) (map (resource_place path) r.resources ++ rest))
    ≡ true
linked_at true n x path r rest later e on linked go = ap (λ b. b || list_any (λ p. below n p && links x p) (map (resource_place path) r.resources ++ rest)) (and_from _ _ on e)
linked_at false n x path r rest later e on linked go =
    or_right _ _ (any_back (λ p. below n p && links x p) (map (resource_place path) r.resources) rest (go linked))

linked_places : (n x : List ℕ) (before : Path) (rows : List NodeRow)
    → list_all (below n) (places_from before rows) ≡ true → is_linked rows x ≡ true
    → list_any (λ p. below n p && links x p) (places_from before rows) ≡ true
linked_places n x before [] all linked = cc
linked_places n x before (r ∷ rows) all linked =
    let path = path_of before r in
    let parts = and_parts (mem n path) _ all in
    linked_at (list_any (λ l. bytes_eq l.rref x) r.links) n x path r (places_from path rows) (is_linked rows x) refl parts.0 linked
    (λ later. linked_places n x path rows (all_later (below n) (map (resource_place path) r.resources) (places_from path rows) parts.1) later)

-- what a row below n links is linked below n
pub linked_below : (rows : List NodeRow) (n x : List ℕ) → (at : Around rows n)
    → is_linked (at.root ∷ at.inner) x ≡ true → is_linked_below (places rows) n x ≡ true
linked_below rows n x at linked =
    let ps = around_places rows n at in
    let f : Place → Bool = λ p. below n p && links x p in
    ap (list_any f) ps.whole ∙ any_back f ps.front (ps.inner ++ ps.back) (any_first f ps.inner ps.back (ap (list_any f) ps.inner_is ∙ linked_places n x (path_after [] at.front) (at.root ∷ at.inner) at.all_inner linked))
