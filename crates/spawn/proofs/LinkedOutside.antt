-- What is linked outside a node, by the home of a resource and by the links of the rows below the
-- node.
use Rattle.std.proofs.Common.{◌≡◌, ◌∙◌, ℕ, ◌&&◌, ◌||◌, Bool, true, false, not, List, [], ◌∷◌, ◌++◌}
use Rattle.std.proofs.Common.{map, Option, Some, None, is_some, refl, sym, ap, Bor}
use Rattle.std.proofs.lemmas.Bool.{true≢false, and_parts, or_parts, or_from}
use Rattle.std.specs.List.{filter, list_all, list_any}
use Rattle.std.specs.Option.{option_map, option_map_or}
use Rattle.std.specs.Str.{bytes_eq}
use Rattle.std.specs.BTreeSet.{BTreeSet}
use Rattle.ticket_items.proofs.Apart.{or_none}
use Rattle.ticket_tree.proofs.OnPlaces.{stands_among, stands_resource}
use Rattle.ticket_rows.proofs.ResourcePlaces.{home_is}
use Rattle.ticket_rows.specs.Homes.{entry_of, home_of}
use Rattle.ticket_items.specs.Ids.{mem, are_distinct}
use Rattle.ticket_tree.specs.Part.{is_linked}
use Rattle.ticket_rows.specs.Place.{Place, places, places_from, resource_place, resource_places}
use Rattle.ticket_rows.specs.Place.{node_places, place_at, is_node, is_below, below, home_at}
use Rattle.ticket_rows.specs.Place.{path_of}
use Rattle.ticket_rows.specs.Ticket.{IsValid, has_node}
use Rattle.ticket_items.specs.declared.node_row.NodeRow.{NodeRow}
use Rattle.ticket_items.specs.declared.resource.Resource.{Resource}
use Rattle.spawn.proofs.Outside.{around_places, found_kept, kept_found, kept_passes, all_found}
use Rattle.spawn.proofs.RowsBelow.{rows_below-around}
use Rattle.spawn.proofs.Split.{path_after, around, Around}
use Rattle.spawn.proofs.Standing.{held_some, ids_apart, place_of_resource, resource_stands}
use Rattle.plain_shop.specs.Claim.{ids_of, links, is_linked_below, is_linked_outside, linked_outside}
use Rattle.ticket_tree.specs.At.{rows_below}
use Rattle.spawn.specs.IdSet.{IsSetOf}

-- ---- links from below n

or_first : (a b c : Bool) → ((a || b) || c) ≡ (a || (b || c))
or_first true b c = refl
or_first false b c = refl

pub any-append : {X : Type 0} (f : X → Bool) (xs ys : List X)
    → list_any f (xs ++ ys) ≡ (list_any f xs || list_any f ys)
any-append f [] ys = refl
any-append f (x ∷ xs) ys = ap (λ b. f x || b) (any-append f xs ys) ∙ sym (or_first (f x) (list_any f xs) (list_any f ys))

-- whether a node below n links the resource
abbrev links_below : List ℕ → List ℕ → Place → Bool
links_below n x p = below n p && links x p

none_links : (n x : List ℕ) (tree : List Place) → list_any (below n) tree ≡ false
    → list_any (links_below n x) tree ≡ false
none_links n x [] none = refl
none_links n x (p ∷ tree) none =
    let parts = or_parts (below n p) (list_any (below n) tree) none in
    or_from _ _ (ap (λ b. b && links x p) parts.0) (none_links n x tree parts.1)

and_none : (b : Bool) → (b && false) ≡ false
and_none true = refl
and_none false = refl

pool_links : (n x : List ℕ) (path : List (List ℕ)) (pool : List Resource) (rest : List Place)
    → list_any (links_below n x) (map (resource_place path) pool ++ rest)
    ≡ list_any (links_below n x) rest
pool_links n x path [] rest = refl
pool_links n x path (y ∷ pool) rest = ap (λ b. b || list_any (links_below n x) (map (resource_place path) pool ++ rest)) (and_none (mem n path)) ∙ pool_links n x path pool rest

later_all : (f : Place → Bool) (xs ys : List Place) → list_all f (xs ++ ys) ≡ true
    → list_all f ys ≡ true
later_all f [] ys all = all
later_all f (x ∷ xs) ys all = later_all f xs ys (and_parts (f x) (list_all f (xs ++ ys)) all).1

rows_link : (n x : List ℕ) (before : List (List ℕ)) (rows : List NodeRow)
    → list_all (below n) (places_from before rows) ≡ true
    → list_any (links_below n x) (places_from before rows) ≡ is_linked rows x
rows_link n x before [] all = refl
rows_link n x before (r ∷ rows) all =
    let path = path_of before r in
    let parts = and_parts (mem n path) (list_all (below n) (map (resource_place path) r.resources ++ places_from path rows)) all in
    let own : Bool = list_any (λ l. bytes_eq l.rref x) r.links in
    ap (λ b. (b && own) || list_any (links_below n x) (map (resource_place path) r.resources ++ places_from path rows)) parts.0
    ∙ ap (λ b. own || b) (pool_links n x path r.resources (places_from path rows) ∙ rows_link n x path rows (later_all (below n) (map (resource_place path) r.resources) (places_from path rows) parts.1))

-- a resource is linked below n just if a row there links it
pub linked_below_is : (rows : List NodeRow) (n x : List ℕ) → (at : Around rows n)
    → is_linked_below (places rows) n x ≡ is_linked (at.root ∷ at.inner) x
linked_below_is rows n x at =
    let ps = around_places rows n at in
    let f : Place → Bool = links_below n x in
    ap (list_any f) ps.whole ∙ any-append f ps.front (ps.inner ++ ps.back) ∙ ap (λ b. b || list_any f (ps.inner ++ ps.back)) (none_links n x ps.front ps.none_front)
    ∙ any-append f ps.inner ps.back ∙ ap (λ b. list_any f ps.inner || b) (none_links n x ps.back ps.none_back) ∙ or_none (list_any f ps.inner)
    ∙ ap (list_any f) ps.inner_is ∙ rows_link n x (path_after [] at.front) (at.root ∷ at.inner) at.all_inner

-- ---- what is linked outside n

kept_by : (b kept : Bool) (f : Place → Bool) (tree : List Place) (x : List ℕ) (p : Place)
    → are_distinct (ids_of tree) ≡ true → place_at tree x ≡ Some p → f p ≡ b
    → mem x (ids_of (filter f tree)) ≡ kept → kept ≡ b
kept_by true kept f tree x p apart found e k = sym k ∙ found_kept f tree x p found e
kept_by false false f tree x p apart found e k = refl
kept_by false true f tree x p apart found e k =
    let other = kept_found f tree x apart k in
    absurd (true≢false (sym other.2 ∙ sym (ap (λ o. option_map_or f o true) (sym found ∙ other.1)) ∙ e))

-- what stands at a place is among those that pass a test just if it does
pub kept_is : (f : Place → Bool) (tree : List Place) (x : List ℕ) (p : Place)
    → are_distinct (ids_of tree) ≡ true → place_at tree x ≡ Some p
    → mem x (ids_of (filter f tree)) ≡ f p
kept_is f tree x p apart found = kept_by (f p) (mem x (ids_of (filter f tree))) f tree x p apart found refl refl

same_place : (p q : Place) → Some p ≡ Some q → p ≡ q
same_place p q e = ap (λ o. option_map_or (λ r. r) o p) e

outside_by : (tree : List Place) (n x : List ℕ) (p : Place) (below_n : Bool)
    → not (is_node p) ≡ true → below n p ≡ below_n → p.id ≡ x
    → is_linked_outside tree n p ≡ (not below_n && is_linked_below tree n x)
outside_by tree n x p below_n resource e named =
    ap (λ b. (b && not (below n p)) && is_linked_below tree n p.id) resource ∙ ap (λ b. not b && is_linked_below tree n p.id) e ∙ ap (λ i. not below_n && is_linked_below tree n i) named

pub linked_outside_is : (rows : List NodeRow) (n x h : List ℕ) → IsValid rows → (at : Around rows n)
    → home_of rows x ≡ Some h
    → mem x (ids_of (linked_outside (places rows) n))
    ≡ (not (is_below (node_places rows) h n) && is_linked (at.root ∷ at.inner) x)
linked_outside_is rows n x h valid at home =
    let tree = places rows in
    let found = held_some home_at (place_at (resource_places rows) x) h (home_is rows x ∙ home) in
    let there = place_of_resource rows x found.0 valid found.1 in
    let stands = resource_stands rows x h valid home in
    let same = same_place found.0 stands.place (sym there ∙ stands.there) in
    let resource = ap (λ p. not (is_node p)) (sym same) ∙ all_found (λ p. not (is_node p)) (resource_places rows) x found.0 (kept_passes (λ p. not (is_node p)) tree) found.1 in
    kept_is (is_linked_outside tree n) tree x stands.place (ids_apart rows valid) stands.there
    ∙ outside_by tree n x stands.place (is_below (node_places rows) h n) resource (stands.below_as n) stands.id
    ∙ ap (λ b. not (is_below (node_places rows) h n) && b) (linked_below_is rows n x at)

no_entry : {X : Type 0} (o : Option (X × List ℕ)) → option_map (λ e. e.1) o ≡ None
    → is_some o ≡ false
no_entry None h = refl
no_entry (Some e) h = cc

missing_at : (b : Bool) (rows : List NodeRow) (n x : List ℕ) → IsValid rows → home_of rows x ≡ None
    → mem x (ids_of (linked_outside (places rows) n)) ≡ b → b ≡ false
missing_at false rows n x valid none e = refl
missing_at true rows n x valid none e =
    let tree = places rows in
    let other = kept_found (is_linked_outside tree n) tree x (ids_apart rows valid) e in
    let resource = (and_parts (not (is_node other.0)) (not (below n other.0)) (and_parts (not (is_node other.0) && not (below n other.0)) (is_linked_below tree n other.0.id) other.2).0).0 in
    let stands = found_kept (λ p. not (is_node p)) tree x other.0 other.1 resource in
    absurd (true≢false (sym stands ∙ sym (stands_among (resource_places rows) x) ∙ stands_resource rows x ∙ no_entry (entry_of rows x) none))

-- what is no resource isn't linked outside
pub missing_outside : (rows : List NodeRow) (n x : List ℕ) → IsValid rows → home_of rows x ≡ None
    → mem x (ids_of (linked_outside (places rows) n)) ≡ false
missing_outside rows n x valid none = missing_at (mem x (ids_of (linked_outside (places rows) n))) rows n x valid none refl

-- ---- with the rows below n

pub with_rows_below : (rows below_n : List NodeRow) (n x h : List ℕ) → IsValid rows
    → has_node rows n ≡ true → below_n ≡ rows_below rows n → home_of rows x ≡ Some h
    → (not (is_below (node_places rows) h n) && is_linked below_n x)
    ≡ mem x (ids_of (linked_outside (places rows) n))
with_rows_below rows below_n n x h valid known is home =
    let at = around rows n valid known in
    ap (λ rs. not (is_below (node_places rows) h n) && is_linked rs x) (is ∙ rows_below-around rows n valid at) ∙ sym (linked_outside_is rows n x h valid at home)

-- ---- sets of ids

pub same_set : (f g : List ℕ → Bool) (s : BTreeSet (Bor (List ℕ))) → ((x : List ℕ) → f x ≡ g x)
    → IsSetOf f s → IsSetOf g s
same_set f g s same is = record { just = λ x. is.just x ∙ same x }
