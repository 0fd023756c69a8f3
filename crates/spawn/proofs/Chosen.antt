-- The resources linked outside a node, as they stand in the pools of the rows around it.
use Rattle.std.proofs.Common.{◌≡◌, ◌∙◌, ℕ, ◌&&◌, ◌||◌, Bool, true, false, not, cond, List, [], ◌∷◌}
use Rattle.std.proofs.Common.{◌++◌, map, Some, refl, sym, ap, append_assoc}
use Rattle.std.proofs.lemmas.Bool.{true≢false, and_parts, and_from, not-true}
use Rattle.std.proofs.lemmas.List.{map-append}
use Rattle.std.proofs.lemmas.Slice.Eq.{bytes_eq-Decides}
use Rattle.std.specs.List.{filter, list_all}
use Rattle.std.specs.Str.{bytes_eq}
use Rattle.ticket_items.proofs.Apart.{bytes_eq-same}
use Rattle.ticket_rows.specs.Homes.{homes, pool_with_home}
use Rattle.ticket_items.specs.Ids.{mem, are_distinct}
use Rattle.ticket_items.specs.Resource.{resource_ids}
use Rattle.ticket_tree.specs.Part.{is_linked}
use Rattle.ticket_rows.specs.Place.{Place, places, places_from, resource_place, place_at, is_node}
use Rattle.ticket_rows.specs.Place.{below, named_thing, named_thing_at, path_of}
use Rattle.ticket_rows.specs.Ticket.{IsValid, ids}
use Rattle.ticket_items.specs.declared.node_row.NodeRow.{NodeRow}
use Rattle.ticket_items.specs.declared.resource.Resource.{Resource}
use Rattle.spawn.proofs.Among.{apart_lists, distinct_back, mem_back, out_of_both}
use Rattle.spawn.proofs.RowsBelow.{homes-append, own_pool, filter-append}
use Rattle.spawn.proofs.HomesBelow.{ids_around, or_right, only_at}
use Rattle.spawn.proofs.LinkedOutside.{linked_below_is}
use Rattle.spawn.proofs.Outside.{found_stands, inside, outside}
use Rattle.spawn.proofs.Split.{Around, all-append}
use Rattle.spawn.proofs.Standing.{ids_apart}
use Rattle.plain_shop.specs.Claim.{ids_of, is_linked_below, is_linked_outside, linked_outside}
use Rattle.spawn.specs.Parts.{resources}

-- ---- resources row by row

pub resources_cons : (r : NodeRow) (rows : List NodeRow)
    → resources (r ∷ rows) ≡ r.resources ++ resources rows
resources_cons r rows = map-append {A = Resource × List ℕ} (λ e. e.0) (pool_with_home r) (homes rows) ∙ ap (λ xs. xs ++ resources rows) (own_pool r.id r.resources)

pub resources-append : (xs ys : List NodeRow) → resources (xs ++ ys) ≡ resources xs ++ resources ys
resources-append xs ys = ap (map (λ e. e.0)) (homes-append xs ys) ∙ map-append {A = Resource × List ℕ} (λ e. e.0) (homes xs) (homes ys)

-- ---- filters that keep the same

same_at : {X : Type 0} (b : Bool) (x : X) (xs ys : List X) → xs ≡ ys
    → cond b (x ∷ xs) xs ≡ cond b (x ∷ ys) ys
same_at true x xs ys e = ap (λ zs. x ∷ zs) e
same_at false x xs ys e = e

pub filter_as : {X : Type 0} (f g : X → Bool) (xs : List X) → ((x : X) → f x ≡ g x)
    → filter f xs ≡ filter g xs
filter_as f g [] same = refl
filter_as f g (x ∷ xs) same = ap (λ b. cond b (x ∷ filter f xs) (filter f xs)) (same x) ∙ same_at (g x) x (filter f xs) (filter g xs) (filter_as f g xs same)

pub same_where : {X : Type 0} (t f g : X → Bool) (xs : List X) → list_all t xs ≡ true
    → ((x : X) → t x ≡ true → f x ≡ g x) → filter f xs ≡ filter g xs
same_where t f g [] all same = refl
same_where t f g (x ∷ xs) all same =
    let parts = and_parts (t x) (list_all t xs) all in
    ap (λ b. cond b (x ∷ filter f xs) (filter f xs)) (same x parts.0) ∙ same_at (g x) x (filter f xs) (filter g xs) (same_where t f g xs parts.1 same)

none_where : {X : Type 0} (t f : X → Bool) (xs : List X) → list_all t xs ≡ true
    → ((x : X) → t x ≡ true → f x ≡ false) → filter f xs ≡ []
none_where t f [] all none = refl
none_where t f (x ∷ xs) all none =
    let parts = and_parts (t x) (list_all t xs) all in
    ap (λ b. cond b (x ∷ filter f xs) (filter f xs)) (none x parts.0) ∙ none_where t f xs parts.1 none

pub all_too : {X : Type 0} (f g : X → Bool) (xs : List X) → ((x : X) → f x ≡ true → g x ≡ true)
    → list_all f xs ≡ true → list_all g xs ≡ true
all_too f g [] go all = refl
all_too f g (x ∷ xs) go all =
    let parts = and_parts (f x) (list_all f xs) all in
    and_from _ _ (go x parts.0) (all_too f g xs go parts.1)

twice_at : {X : Type 0} (a b : Bool) (g : X → Bool) (x : X) (xs ys : List X) → g x ≡ b
    → filter g xs ≡ ys → filter g (cond a (x ∷ xs) xs) ≡ cond (a && b) (x ∷ ys) ys
twice_at true b g x xs ys e go = ap (λ c. cond c (x ∷ filter g xs) (filter g xs)) e ∙ same_at b x (filter g xs) ys go
twice_at false b g x xs ys e go = go

pub filter_twice : {X : Type 0} (f g : X → Bool) (xs : List X)
    → filter g (filter f xs) ≡ filter (λ x. f x && g x) xs
filter_twice f g [] = refl
filter_twice f g (x ∷ xs) = twice_at (f x) (g x) g x (filter f xs) (filter (λ y. f y && g y) xs) refl (filter_twice f g xs)

-- ---- resources among places

-- whether a resource stands at the place whose id passes a test
abbrev pub keep : (List ℕ → Bool) → Place → Bool
keep t p = not (is_node p) && t p.id

pool_at : {Y : Type 0} (b : Bool) (k : Place → Y) (k' : Resource → Y) (p : Place) (x : Resource)
    (ps : List Place) (xs : List Resource) (rest : List Y)
    → k p ≡ k' x → map k ps ≡ map k' xs ++ rest
    → map k (cond b (p ∷ ps) ps) ≡ map k' (cond b (x ∷ xs) xs) ++ rest
pool_at true k k' p x ps xs rest e go = ap (λ y. y ∷ map k ps) e ∙ ap (λ ys. k' x ∷ ys) go
pool_at false k k' p x ps xs rest e go = go

pool_kept : {Y : Type 0} (k : Place → Y) (k' : Resource → Y)
    → ((path : List (List ℕ)) (x : Resource) → k (resource_place path x) ≡ k' x)
    → (t : List ℕ → Bool) (path : List (List ℕ)) (pool : List Resource) (rest : List Place)
    → map k (filter (keep t) (map (resource_place path) pool ++ rest))
    ≡ map k' (filter (λ x. t x.id) pool) ++ map k (filter (keep t) rest)
pool_kept k k' same t path [] rest = refl
pool_kept k k' same t path (x ∷ pool) rest =
    pool_at (t x.id) k k' (resource_place path x) x (filter (keep t) (map (resource_place path) pool ++ rest)) (filter (λ y. t y.id) pool) (map k (filter (keep t) rest)) (same path x) (pool_kept k k' same t path pool rest)

kept_from : {Y : Type 0} (k : Place → Y) (k' : Resource → Y)
    → ((path : List (List ℕ)) (x : Resource) → k (resource_place path x) ≡ k' x)
    → (t : List ℕ → Bool) (before : List (List ℕ)) (rows : List NodeRow)
    → map k (filter (keep t) (places_from before rows))
    ≡ map k' (filter (λ x. t x.id) (resources rows))
kept_from k k' same t before [] = refl
kept_from k k' same t before (r ∷ rows) =
    let f : Resource → Bool = λ x. t x.id in
    pool_kept k k' same t (path_of before r) r.resources (places_from (path_of before r) rows) ∙ ap (λ ys. map k' (filter f r.resources) ++ ys) (kept_from k k' same t (path_of before r) rows)
    ∙ sym (map-append k' (filter f r.resources) (filter f (resources rows))) ∙ ap (map k') (sym (filter-append f r.resources (resources rows)) ∙ ap (filter f) (sym (resources_cons r rows)))

-- the ids of the resources that pass, and what of them never changes
pub kept_ids : (t : List ℕ → Bool) (rows : List NodeRow)
    → ids_of (filter (keep t) (places rows)) ≡ resource_ids (filter (λ x. t x.id) (resources rows))
kept_ids t rows = kept_from (λ p. p.id) (λ x. x.id) (λ path x. refl) t [] rows

pub kept_fixed : (t : List ℕ → Bool) (rows : List NodeRow)
    → map named_thing_at (filter (keep t) (places rows))
    ≡ map named_thing (filter (λ x. t x.id) (resources rows))
kept_fixed t rows = kept_from named_thing_at named_thing (λ path x. refl) t [] rows

-- ---- each place is found by its id

abbrev pub AllOwn : List Place → List Place → Type 0
AllOwn all [] = Unit {0}
AllOwn all (p ∷ tree) = (place_at all p.id ≡ Some p) × AllOwn all tree

apart_at : (here : Bool) (q : Place) (tree : List Place) (y : List ℕ) → bytes_eq q.id y ≡ here
    → mem q.id (ids_of tree) ≡ false → mem y (ids_of tree) ≡ true → here ≡ false
apart_at false q tree y e out there = refl
apart_at true q tree y e out there = absurd (true≢false (sym there ∙ ap (λ i. mem i (ids_of tree)) (sym ((bytes_eq-Decides q.id y).0 e)) ∙ out))

pub all_own : (all tree : List Place)
    → ((y : List ℕ) (p : Place) → place_at tree y ≡ Some p → place_at all y ≡ Some p)
    → are_distinct (ids_of tree) ≡ true → AllOwn all tree
all_own all [] finds apart = tt
all_own all (q ∷ tree) finds apart =
    let parts = and_parts (not (mem q.id (ids_of tree))) (are_distinct (ids_of tree)) apart in (
      finds q.id q (ap (λ b. cond b (Some q) (place_at tree q.id)) (bytes_eq-same q.id)),
      all_own all tree (λ y p found. finds y p (ap (λ b. cond b (Some q) (place_at tree y)) (apart_at (bytes_eq q.id y) q tree y refl (not-true _ parts.0) (found_stands tree y p found)) ∙ found)) parts.1,
    )

own_as : (all : List Place) (f g : Place → Bool) (tree : List Place) → AllOwn all tree
    → ((p : Place) → place_at all p.id ≡ Some p → f p ≡ g p) → filter f tree ≡ filter g tree
own_as all f g [] own same = refl
own_as all f g (p ∷ tree) own same = ap (λ b. cond b (p ∷ filter f tree) (filter f tree)) (same p own.0) ∙ same_at (g p) p (filter f tree) (filter g tree) (own_as all f g tree own.1 same)

-- ---- what is linked outside n

-- whether an id doesn't stand below n, and a row there links it
abbrev pub wanted : {rows : List NodeRow} {n : List ℕ} → Around rows n → List ℕ → Bool
wanted at x = not (mem x (ids (at.root ∷ at.inner))) && is_linked (at.root ∷ at.inner) x

below_by : (b : Bool) (rows : List NodeRow) (n x : List ℕ) (p : Place) → IsValid rows
    → (at : Around rows n) → mem x (ids (at.root ∷ at.inner)) ≡ b
    → place_at (places rows) x ≡ Some p → below n p ≡ b
below_by true rows n x p valid at e found = inside rows n x p valid at e found
below_by false rows n x p valid at e found = outside rows n x p at e found

and_assoc : (a b c : Bool) → ((a && b) && c) ≡ (a && (b && c))
and_assoc true b c = refl
and_assoc false b c = refl

outside_is : (rows : List NodeRow) (n : List ℕ) (p : Place) → IsValid rows → (at : Around rows n)
    → place_at (places rows) p.id ≡ Some p
    → is_linked_outside (places rows) n p ≡ keep (wanted at) p
outside_is rows n p valid at found =
    let mid = at.root ∷ at.inner in
    ap (λ b. (not (is_node p) && not b) && is_linked_below (places rows) n p.id) (below_by (mem p.id (ids mid)) rows n p.id p valid at refl found)
    ∙ ap (λ b. (not (is_node p) && not (mem p.id (ids mid))) && b) (linked_below_is rows n p.id at)
    ∙ and_assoc (not (is_node p)) (not (mem p.id (ids mid))) (is_linked mid p.id)

pub linked_kept : (rows : List NodeRow) (n : List ℕ) → IsValid rows → (at : Around rows n)
    → linked_outside (places rows) n ≡ filter (keep (wanted at)) (places rows)
linked_kept rows n valid at =
    let tree = places rows in
    own_as tree (is_linked_outside tree n) (keep (wanted at)) tree (all_own tree tree (λ y p found. found) (ids_apart rows valid)) (λ p found. outside_is rows n p valid at found)

-- those of them that pass one test more
pub linked_and : (rows : List NodeRow) (n : List ℕ) (q : List ℕ → Bool) → IsValid rows
    → (at : Around rows n)
    → filter (λ p. q p.id) (linked_outside (places rows) n)
    ≡ filter (keep (λ x. wanted at x && q x)) (places rows)
linked_and rows n q valid at =
    ap (filter (λ p. q p.id)) (linked_kept rows n valid at) ∙ filter_twice (keep (wanted at)) (λ p. q p.id) (places rows)
    ∙ filter_as (λ p. keep (wanted at) p && q p.id) (keep (λ x. wanted at x && q x)) (places rows) (λ p. and_assoc (not (is_node p)) (wanted at p.id) (q p.id))

-- ---- as the pools around n have them

stand_pool : (pool : List Resource) (rest : List (List ℕ))
    → list_all (λ x. mem x.id (resource_ids pool ++ rest)) pool ≡ true
stand_pool [] rest = refl
stand_pool (y ∷ pool) rest =
    and_from _ _ (ap (λ b. b || mem y.id (resource_ids pool ++ rest)) (bytes_eq-same y.id)) (all_too (λ x. mem x.id (resource_ids pool ++ rest)) (λ x. mem x.id (y.id ∷ resource_ids pool ++ rest)) pool (λ x there. or_right (bytes_eq y.id x.id) _ there) (stand_pool pool rest))

-- resources of rows stand there
pub all_stand : (rows : List NodeRow) → list_all (λ x. mem x.id (ids rows)) (resources rows) ≡ true
all_stand [] = refl
all_stand (r ∷ rows) =
    let f : Resource → Bool = λ x. mem x.id (ids (r ∷ rows)) in
    ap (list_all f) (resources_cons r rows)
    ∙ all-append f r.resources (resources rows) (all_too (λ x. mem x.id (resource_ids r.resources ++ ids rows)) f r.resources (λ x there. or_right (bytes_eq r.id x.id) _ there) (stand_pool r.resources (ids rows)))
    (all_too (λ x. mem x.id (ids rows)) f (resources rows) (λ x there. or_right (bytes_eq r.id x.id) _ (mem_back x.id (resource_ids r.resources) (ids rows) there)) (all_stand rows))

pub around_kept : (rows : List NodeRow) (n : List ℕ) (q : List ℕ → Bool) → IsValid rows
    → (at : Around rows n)
    → filter (λ x. wanted at x.id && q x.id) (resources rows)
    ≡ filter (λ x. is_linked (at.root ∷ at.inner) x.id && q x.id) (resources at.front)
    ++ filter (λ x. is_linked (at.root ∷ at.inner) x.id && q x.id) (resources at.back)
around_kept rows n q valid at =
    let mid = at.root ∷ at.inner in
    let f : Resource → Bool = λ x. wanted at x.id && q x.id in
    let g : Resource → Bool = λ x. is_linked mid x.id && q x.id in
    let apart : are_distinct (ids at.front ++ (ids mid ++ ids at.back)) ≡ true = ap are_distinct (sym (ids_around rows n at)) ∙ valid.distinct in
    let later = distinct_back (ids at.front) (ids mid ++ ids at.back) apart in
    let skips : (x : Resource) (b : Bool) → mem x.id (ids mid) ≡ b → f x ≡ ((not b && is_linked mid x.id) && q x.id) = λ x b e. ap (λ c. (not c && is_linked mid x.id) && q x.id) e in
    let first = same_where (λ x. mem x.id (ids at.front)) f g (resources at.front) (all_stand at.front) (λ x there. skips x false (out_of_both x.id (ids mid) (ids at.back) (apart_lists x.id (ids at.front) (ids mid ++ ids at.back) apart there)).0) in
    let none = none_where (λ x. mem x.id (ids mid)) f (resources mid) (all_stand mid) (λ x there. skips x true there) in
    let last = same_where (λ x. mem x.id (ids at.back)) f g (resources at.back) (all_stand at.back) (λ x there. skips x false (only_at (mem x.id (ids mid)) x.id (ids mid) (ids at.back) later refl there)) in
    ap (λ rs. filter f (resources rs)) (at.whole ∙ append_assoc at.front mid at.back)
    ∙ ap (filter f) (resources-append at.front (mid ++ at.back) ∙ ap (λ xs. resources at.front ++ xs) (resources-append mid at.back))
    ∙ filter-append f (resources at.front) (resources mid ++ resources at.back)
    ∙ ap (λ xs. xs ++ filter f (resources mid ++ resources at.back)) first
    ∙ ap (λ xs. filter g (resources at.front) ++ xs) (filter-append f (resources mid) (resources at.back) ∙ ap (λ xs. xs ++ filter f (resources at.back)) none ∙ last)
