-- The rows below a node are its own and the deeper ones behind it.
use Rattle.std.proofs.Common.{◌≡◌, ◌∙◌, ℕ, Bool, true, false, cond, List, [], ◌∷◌, ◌++◌}
use Rattle.std.proofs.Common.{map, refl, sym, ap, subst, append-nil, ◌+◌, ◌<◌, length}
use Rattle.std.proofs.Common.{take, get_or, append_assoc}
use Rattle.std.proofs.lemmas.Bool.{and_parts, or_parts}
use Rattle.std.proofs.lemmas.List.{map-append, take_more}
use Rattle.std.specs.List.{filter, list_all, list_any}
use Rattle.ticket_rows.proofs.Below.{Path}
use Rattle.ticket_tree.proofs.OwnPlaces.{OwnPlaces, own_places-rows, stands_below}
use Rattle.ticket_items.specs.Ids.{mem}
use Rattle.ticket_rows.specs.Place.{Place, resource_place, places_from, node_places}
use Rattle.ticket_rows.specs.Place.{below, is_below, path_of}
use Rattle.ticket_rows.specs.Ticket.{IsValid}
use Rattle.ticket_items.specs.declared.node_row.NodeRow.{NodeRow}
use Rattle.spawn.proofs.Split.{path_after, path_after-append, Around}
use Rattle.spawn.specs.Parts.{resources}
use Rattle.spawn.proofs.HomesBelow.{all_later}
use Rattle.ticket_tree.specs.At.{rows_below}
use Rattle.ticket_rows.specs.Homes.{homes, pool_with_home}
use Rattle.ticket_items.specs.declared.resource.Resource.{Resource}

-- ---- the places of the rows of two lists, one behind the other

own_front : (tree : List Place) (before : Path) (xs ys : List NodeRow)
    → OwnPlaces tree before (xs ++ ys) → OwnPlaces tree before xs
own_front tree before [] ys own = tt
own_front tree before (r ∷ xs) ys own = (own.0, own_front tree (path_of before r) xs ys own.1)

pub own_back : (tree : List Place) (before : Path) (xs ys : List NodeRow)
    → OwnPlaces tree before (xs ++ ys) → OwnPlaces tree (path_after before xs) ys
own_back tree before [] ys own = own
own_back tree before (r ∷ xs) ys own = own_back tree (path_of before r) xs ys own.1

-- ---- which of them are below n

any_front : {X : Type 0} (f : X → Bool) (xs ys : List X) → list_any f (xs ++ ys) ≡ false
    → list_any f ys ≡ false
any_front f [] ys none = none
any_front f (x ∷ xs) ys none = any_front f xs ys (or_parts (f x) (list_any f (xs ++ ys)) none).1

pub kept_none : (tree : List Place) (n : List ℕ) (before : Path) (rows : List NodeRow)
    → OwnPlaces tree before rows → list_any (below n) (places_from before rows) ≡ false
    → filter (λ r. is_below tree r.id n) rows ≡ []
kept_none tree n before [] own none = refl
kept_none tree n before (r ∷ rows) own none =
    let path = path_of before r in
    let parts = or_parts (mem n path) _ none in
    ap (λ b. cond b (r ∷ filter (λ s. is_below tree s.id n) rows) (filter (λ s. is_below tree s.id n) rows)) (stands_below tree n r path false own.0 parts.0)
    ∙ kept_none tree n path rows own.1 (any_front (below n) (map (resource_place path) r.resources) (places_from path rows) parts.1)

kept_all : (tree : List Place) (n : List ℕ) (before : Path) (rows : List NodeRow)
    → OwnPlaces tree before rows → list_all (below n) (places_from before rows) ≡ true
    → filter (λ r. is_below tree r.id n) rows ≡ rows
kept_all tree n before [] own all = refl
kept_all tree n before (r ∷ rows) own all =
    let path = path_of before r in
    let parts = and_parts (mem n path) _ all in
    ap (λ b. cond b (r ∷ filter (λ s. is_below tree s.id n) rows) (filter (λ s. is_below tree s.id n) rows)) (stands_below tree n r path true own.0 parts.0)
    ∙ ap (λ rs. r ∷ rs) (kept_all tree n path rows own.1 (all_later (below n) (map (resource_place path) r.resources) (places_from path rows) parts.1))

filtered_at : {X : Type 0} (b : Bool) (f : X → Bool) (x : X) (xs ys : List X)
    → filter f (xs ++ ys) ≡ filter f xs ++ filter f ys
    → cond b (x ∷ filter f (xs ++ ys)) (filter f (xs ++ ys))
    ≡ cond b (x ∷ filter f xs) (filter f xs) ++ filter f ys
filtered_at true f x xs ys e = ap (λ rs. x ∷ rs) e
filtered_at false f x xs ys e = e

pub filter-append : {X : Type 0} (f : X → Bool) (xs ys : List X)
    → filter f (xs ++ ys) ≡ filter f xs ++ filter f ys
filter-append f [] ys = refl
filter-append f (x ∷ xs) ys = filtered_at (f x) f x xs ys (filter-append f xs ys)

-- the rows below n
pub rows_below-around : (rows : List NodeRow) (n : List ℕ) → IsValid rows → (at : Around rows n)
    → rows_below rows n ≡ at.root ∷ at.inner
rows_below-around rows n valid at =
    let tree = node_places rows in
    let f : NodeRow → Bool = λ r. is_below tree r.id n in
    let mid = at.root ∷ at.inner in
    let own = subst (OwnPlaces tree []) at.whole (own_places-rows rows valid) in
    let own_first = own_front tree [] (at.front ++ mid) at.back own in
    ap (filter f) at.whole ∙ filter-append f (at.front ++ mid) at.back ∙ ap (λ rs. rs ++ filter f at.back) (filter-append f at.front mid)
    ∙ ap (λ rs. (rs ++ filter f mid) ++ filter f at.back) (kept_none tree n [] at.front (own_front tree [] at.front mid own_first) at.none_front)
    ∙ ap (λ rs. rs ++ filter f at.back) (kept_all tree n (path_after [] at.front) mid (own_back tree [] at.front mid own_first) at.all_inner)
    ∙ ap (λ rs. mid ++ rs) (kept_none tree n (path_after (path_after [] at.front) mid) at.back (subst (λ p. OwnPlaces tree p at.back) (path_after-append [] at.front mid) (own_back tree [] (at.front ++ mid) at.back own)) at.none_back)
    ∙ append-nil mid

-- ---- resources row by row

pub homes-append : (xs ys : List NodeRow) → homes (xs ++ ys) ≡ homes xs ++ homes ys
homes-append [] ys = refl
homes-append (r ∷ xs) ys = ap (λ es. pool_with_home r ++ es) (homes-append xs ys) ∙ sym (append_assoc (pool_with_home r) (homes xs) (homes ys))

pub own_pool : (h : List ℕ) (pool : List Resource)
    → map {A = Resource × List ℕ} (λ e. e.0) (map (λ (x : Resource). (x, h)) pool) ≡ pool
own_pool h [] = refl
own_pool h (x ∷ pool) = ap (λ xs. x ∷ xs) (own_pool h pool)

pub resources_last : (rows : List NodeRow) (r : NodeRow)
    → resources (rows ++ r ∷ []) ≡ resources rows ++ r.resources
resources_last rows r =
    ap (map (λ e. e.0)) (homes-append rows (r ∷ []) ∙ ap (λ es. homes rows ++ es) (append-nil (pool_with_home r))) ∙ map-append {A = Resource × List ℕ} (λ e. e.0) (homes rows) (pool_with_home r) ∙ ap (λ xs. resources rows ++ xs) (own_pool r.id r.resources)

-- those that pass a test, of one row more
pub kept_more : (f : Resource → Bool) (rows : List NodeRow) (i : ℕ) (r : NodeRow) → i < length rows
    → r ≡ get_or rows i r
    → filter f (resources (take (i + 1) rows))
    ≡ filter f (resources (take i rows)) ++ filter f r.resources
kept_more f rows i r within is =
    ap (λ rs. filter f (resources rs)) (take_more rows i r within ∙ ap (λ s. take i rows ++ s ∷ []) (sym is)) ∙ ap (filter f) (resources_last (take i rows) r) ∙ filter-append f (resources (take i rows)) r.resources

-- what was there, and what one row more adds to it
pub gains : {X : Type 0} (new mid old xs ys all : List X) → new ≡ mid ++ ys → mid ≡ old ++ xs
    → all ≡ xs ++ ys → new ≡ old ++ all
gains new mid old xs ys all last before whole = last ∙ ap (λ zs. zs ++ ys) before ∙ append_assoc old xs ys ∙ ap (λ zs. old ++ zs) (sym whole)
