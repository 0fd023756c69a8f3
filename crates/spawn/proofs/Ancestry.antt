-- The ancestors of a node are the rows on the way to it.
use Rattle.std.proofs.Common.{◌≡◌, ◌∙◌, ℕ, zero, suc, ◌+◌, ◌-◌, ◌<◌, true, not, cond, List, [], ◌∷◌}
use Rattle.std.proofs.Common.{◌++◌, length, map, take, drop, reverse, get_or, Some, Bor, is_some}
use Rattle.std.proofs.Common.{refl, sym, ap, subst, append_assoc, arith}
use Rattle.std.proofs.lemmas.Bool.{and_parts}
use Rattle.std.proofs.lemmas.List.{map-append, take_more, take_at, take-map, take-append-drop}
use Rattle.std.proofs.lemmas.List.{reverse-append, length-reverse, length-drop}
use Rattle.std.specs.Option.{option_map_or}
use Rattle.ticket_items.proofs.Apart.{bytes_eq-same}
use Rattle.ticket_rows.proofs.Below.{Path, Follows, Follows-outline, mem-node_ids}
use Rattle.ticket_rows.proofs.NodePlaces.{node_ids_distinct}
use Rattle.ticket_tree.proofs.Parents.{other_id}
use Rattle.ticket_items.specs.Ids.{mem, are_distinct}
use Rattle.ticket_rows.specs.Place.{node_place, node_places, place_at, path_of}
use Rattle.ticket_rows.specs.Ticket.{IsValid, node_ids, row_of}
use Rattle.ticket_items.specs.declared.node_row.NodeRow.{NodeRow}
use Rattle.spawn.proofs.HomesBelow.{tail}
use Rattle.ticket_tree.proofs.OwnPlaces.{OwnPlaces, own_places-rows}
use Rattle.spawn.proofs.RowsBelow.{own_back}
use Rattle.spawn.proofs.Split.{path_after, follows_front, Around}
use Rattle.spawn.specs.Parts.{above, ancestor, ancestors, as_ancestor, way_from}

abbrev pub borrowed : List (Bor NodeRow) → List NodeRow
borrowed rows = map (λ s. s.now) rows

pub borrowed_ancestors : (rows : List (Bor NodeRow))
    → map (λ s. as_ancestor s.now) rows ≡ map as_ancestor (borrowed rows)
borrowed_ancestors [] = refl
borrowed_ancestors (r ∷ rows) = ap (λ as'. as_ancestor r.now ∷ as') (borrowed_ancestors rows)

-- one row more
way_last : (before xs : List NodeRow) (r : NodeRow)
    → way_from before (xs ++ r ∷ []) ≡ take (r.depth - 1) (way_from before xs) ++ r ∷ []
way_last before [] r = refl
way_last before (s ∷ xs) r = way_last (take (s.depth - 1) before ++ s ∷ []) xs r

pub way_more : (rows : List NodeRow) (i : ℕ) (d : NodeRow) → i < length rows
    → way_from [] (take (i + 1) rows)
    ≡ take ((get_or rows i d).depth - 1) (way_from [] (take i rows)) ++ get_or rows i d ∷ []
way_more rows i d within = ap (way_from []) (take_more rows i d within) ∙ way_last [] (take i rows) (get_or rows i d)

-- ---- each row is found by its id

abbrev AllOwn : List NodeRow → List NodeRow → Type 0
AllOwn all [] = Unit {0}
AllOwn all (r ∷ rows) = (row_of all r.id ≡ Some r) × AllOwn all rows

own_rows : (all rows : List NodeRow)
    → ((y : List ℕ) (r : NodeRow) → row_of rows y ≡ Some r → row_of all y ≡ Some r)
    → are_distinct (node_ids rows) ≡ true → AllOwn all rows
own_rows all [] finds apart = tt
own_rows all (r ∷ rows) finds apart = (
  finds r.id r (ap (λ b. cond b (Some r) (row_of rows r.id)) (bytes_eq-same r.id)),
  own_rows all rows (λ y s found. finds y s (ap (λ b. cond b (Some r) (row_of rows y)) (other_id r rows y apart (mem-node_ids rows y ∙ ap is_some found)) ∙ found)) (and_parts (not (mem r.id (node_ids rows))) (are_distinct (node_ids rows)) apart).1,
)

own_take : (all : List NodeRow) (n : ℕ) (rows : List NodeRow) → AllOwn all rows
    → AllOwn all (take n rows)
own_take all zero rows own = tt
own_take all (suc n) [] own = tt
own_take all (suc n) (r ∷ rows) own = (own.0, own_take all n rows own.1)

own_append : (all xs ys : List NodeRow) → AllOwn all xs → AllOwn all ys → AllOwn all (xs ++ ys)
own_append all [] ys own more = more
own_append all (r ∷ xs) ys own more = (own.0, own_append all xs ys own.1 more)

own_front : (all xs ys : List NodeRow) → AllOwn all (xs ++ ys) → AllOwn all xs
own_front all [] ys own = tt
own_front all (r ∷ xs) ys own = (own.0, own_front all xs ys own.1)

way_own : (all before rows : List NodeRow) → AllOwn all before → AllOwn all rows
    → AllOwn all (way_from before rows)
way_own all before [] first own = first
way_own all before (r ∷ rows) first own = way_own all (take (r.depth - 1) before ++ r ∷ []) rows (own_append all (take (r.depth - 1) before) (r ∷ []) (own_take all (r.depth - 1) before first) (own.0, tt)) own.1

as_found : (all rows : List NodeRow) → AllOwn all rows
    → map (ancestor all) (map (λ r. r.id) rows) ≡ map as_ancestor rows
as_found all [] own = refl
as_found all (r ∷ rows) own =
    ap (λ o. record { node_id = r.id; job_part = option_map_or (λ s. s.job_part) o [] } ∷ map (ancestor all) (map (λ s. s.id) rows)) own.0 ∙ ap (λ as'. as_ancestor r ∷ as') (as_found all rows own.1)

-- ---- the ancestors of a node

pub reverse-cons : {X : Type 0} (x : X) (xs : List X) → reverse (x ∷ xs) ≡ reverse xs ++ x ∷ []
reverse-cons x xs = reverse-append (x ∷ []) xs

take_reverse : {X : Type 0} (kept cut : ℕ) (xs : List X) → kept + cut ≡ length xs
    → take kept (reverse xs) ≡ reverse (drop cut xs)
take_reverse kept cut xs e =
    let long : length (reverse (drop cut xs)) ≡ kept = length-reverse (drop cut xs) ∙ length-drop cut xs ∙ omega (arith, e) in
    ap (λ ys. take kept (reverse ys)) (sym (take-append-drop cut xs)) ∙ ap (take kept) (reverse-append (take cut xs) (drop cut xs)) ∙ take_at (reverse (drop cut xs)) (reverse (take cut xs)) kept long

pub ids_of_way : (before rows : List NodeRow) (path : Path) → Follows path rows
    → map (λ r. r.id) before ≡ reverse path
    → map (λ r. r.id) (way_from before rows) ≡ reverse (path_after path rows)
ids_of_way before [] path follows same = same
ids_of_way before (r ∷ rows) path follows same =
    let kept : ℕ = r.depth - 1 in
    let cut : ℕ = length path - (r.depth - 1) in
    let rest : take kept (reverse path) ≡ reverse (drop cut path) = take_reverse kept cut path (omega (arith, follows.0, follows.1)) in
    ids_of_way (take kept before ++ r ∷ []) rows (path_of path r) follows.2
    (map-append (λ s. s.id) (take kept before) (r ∷ []) ∙ ap (λ is. is ++ r.id ∷ []) (sym (take-map (λ s. s.id) kept before) ∙ ap (take kept) same ∙ rest) ∙ sym (reverse-cons r.id (drop cut path)))

-- the path of a node in the ticket
pub root_place : (rows : List NodeRow) (n : List ℕ) → IsValid rows → (at : Around rows n)
    → place_at (node_places rows) n
    ≡ Some (node_place at.root (path_of (path_after [] at.front) at.root))
root_place rows n valid at =
    let tree = node_places rows in
    let later = (at.root ∷ at.inner) ++ at.back in
    let own = subst (OwnPlaces tree []) (at.whole ∙ append_assoc at.front (at.root ∷ at.inner) at.back) (own_places-rows rows valid) in
    ap (place_at tree) (sym at.named) ∙ (own_back tree [] at.front later own).0

pub above_is : (rows : List NodeRow) (n : List ℕ) → IsValid rows → (at : Around rows n)
    → above rows n ≡ reverse at.up
above_is rows n valid at =
    ap (λ o. reverse (option_map_or (λ p. drop 1 p.path) o [])) (root_place rows n valid at) ∙ ap (λ path. reverse (drop 1 path)) at.path

pub ancestors_are : (rows : List NodeRow) (n : List ℕ) → IsValid rows → (at : Around rows n)
    → map as_ancestor (take (at.root.depth - 1) (way_from [] at.front)) ≡ ancestors rows n
ancestors_are rows n valid at =
    let path = path_after [] at.front in
    let cut : ℕ = length path - (at.root.depth - 1) in
    let kept : ℕ = at.root.depth - 1 in
    let way = way_from [] at.front in
    let up : drop cut path ≡ at.up = ap tail at.path in
    let short : length path - cut ≡ length at.up = sym (length-drop cut path) ∙ ap length up in
    let follows = follows_front [] at.front ((at.root ∷ at.inner) ++ at.back) (subst (Follows []) (at.whole ∙ append_assoc at.front (at.root ∷ at.inner) at.back) (Follows-outline rows valid.tree)) in
    let ids : map (λ r. r.id) way ≡ reverse path = ids_of_way [] at.front [] follows refl in
    let whole_own = own_rows rows rows (λ y r found. found) (node_ids_distinct rows valid.distinct) in
    let own = way_own rows [] at.front tt (own_front rows at.front ((at.root ∷ at.inner) ++ at.back) (subst (AllOwn rows) (at.whole ∙ append_assoc at.front (at.root ∷ at.inner) at.back) whole_own)) in
    let above_ids : map (λ r. r.id) (take kept way) ≡ above rows n =
    sym (take-map (λ r. r.id) kept way) ∙ ap (take kept) ids ∙ take_reverse kept cut path (omega (arith, at.level, short)) ∙ ap reverse up ∙ sym (above_is rows n valid at) in
    sym (as_found rows (take kept way) (own_take rows kept way own)) ∙ ap (map (ancestor rows)) above_ids
