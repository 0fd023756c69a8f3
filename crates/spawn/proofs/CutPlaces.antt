-- The rows below a node, lifted to stand by themselves, have the places that they had, with their
-- paths cut at the node.
use Rattle.std.proofs.Common.{◌≡◌, ◌∙◌, ℕ, suc, ◌+◌, ◌-◌, ◌≤◌, Bool, true, false, cond, List, []}
use Rattle.std.proofs.Common.{◌∷◌, ◌++◌, length, map, drop, take, refl, sym, ap, append_assoc}
use Rattle.std.proofs.Common.{append-nil, arith, nat_lt}
use Rattle.std.proofs.lemmas.Bool.{and_parts, or_parts, ltb-true}
use Rattle.std.proofs.lemmas.List.{length-append, length-reverse, map-append, take_at}
use Rattle.std.specs.List.{filter, list_all, list_any}
use Rattle.ticket_rows.proofs.Below.{Path, below_x}
use Rattle.ticket_rows.specs.Place.{Place, node_place, resource_place, places_of, places_from}
use Rattle.ticket_rows.specs.Place.{places, below, path_of}
use Rattle.ticket_tree.specs.PartView.{cut_place}
use Rattle.ticket_items.specs.declared.node_row.NodeRow.{NodeRow}
use Rattle.ticket_items.specs.declared.resource.Resource.{Resource}
use Rattle.spawn.proofs.Ancestry.{above_is}
use Rattle.spawn.proofs.Outside.{around_places}
use Rattle.spawn.proofs.RowsBelow.{filter-append, rows_below-around}
use Rattle.spawn.proofs.Split.{AreDeep, Around, around, path_after}
use Rattle.spawn.specs.Laws.{CutPlaces}
use Rattle.spawn.specs.Parts.{above, lifted_row}

-- ---- paths through n, cut at n

cut_path : (q up : Path) (n : List ℕ)
    → take (length (q ++ n ∷ up) - length up) (q ++ n ∷ up) ≡ q ++ n ∷ []
cut_path q up n =
    let long : length (q ++ n ∷ up) ≡ length q + suc (length up) = length-append q (n ∷ up) in
    let short : length (q ++ n ∷ []) ≡ length q + 1 = length-append q (n ∷ []) in
    let kept : length (q ++ n ∷ []) ≡ length (q ++ n ∷ up) - length up = omega (arith, long, short) in
    ap (take (length (q ++ n ∷ up) - length up)) (sym (append_assoc q (n ∷ []) up)) ∙ take_at (q ++ n ∷ []) up (length (q ++ n ∷ up) - length up) kept

-- the path is short where so many ids are taken away
abbrev IsCut : ℕ → Path → Path → Type 0
IsCut levels path short = take (length path - levels) path ≡ short

cut_pool : (levels : ℕ) (path short : Path) (pool : List Resource) → IsCut levels path short
    → map (resource_place short) pool ≡ map (cut_place levels) (map (resource_place path) pool)
cut_pool levels path short [] e = refl
cut_pool levels path short (x ∷ pool) e = ap (λ p. resource_place p x ∷ map (resource_place short) pool) (sym e) ∙ ap (λ ps. cut_place levels (resource_place path x) ∷ ps) (cut_pool levels path short pool e)

cut_row : (levels : ℕ) (path short : Path) (r : NodeRow) (ps qs : List Place)
    → IsCut levels path short → ps ≡ map (cut_place levels) qs
    → places_of (lifted_row levels r) short ++ ps ≡ map (cut_place levels) (places_of r path ++ qs)
cut_row levels path short r ps qs e go =
    let first = cut_place levels (node_place r path) in
    let pool = map (resource_place path) r.resources in
    ap (λ p. node_place r p ∷ (map (resource_place short) r.resources ++ ps)) (sym e)
    ∙ ap (λ xs. first ∷ (xs ++ ps)) (cut_pool levels path short r.resources e)
    ∙ ap (λ xs. first ∷ (map (cut_place levels) pool ++ xs)) go
    ∙ ap (λ xs. first ∷ xs) (sym (map-append (cut_place levels) pool qs))

-- ---- the rows behind n

cut_from : (n : List ℕ) (up q : Path) (rows : List NodeRow) → AreDeep (suc (length up)) rows
    → places_from (q ++ n ∷ []) (map (lifted_row (length up)) rows)
    ≡ map (cut_place (length up)) (places_from (q ++ n ∷ up) rows)
cut_from n up q [] deep = refl
cut_from n up q (r ∷ rows) deep =
    let levels : ℕ = length up in
    let parts = and_parts (nat_lt (suc levels) r.depth) (list_all (λ s. nat_lt (suc levels) s.depth) rows) deep in
    let low : suc (suc levels) ≤ r.depth = ltb-true _ _ parts.0 in
    let kept : Path = r.id ∷ drop (length (q ++ n ∷ up) - (r.depth - 1)) q in
    let path : path_of (q ++ n ∷ up) r ≡ kept ++ n ∷ up = below_x n q up r low in
    let long : length (q ++ n ∷ up) ≡ length q + suc levels = length-append q (n ∷ up) in
    let short : length (q ++ n ∷ []) ≡ length q + 1 = length-append q (n ∷ []) in
    let less : length (q ++ n ∷ []) - ((r.depth - levels) - 1) ≡ length (q ++ n ∷ up) - (r.depth - 1) = omega (arith, low, long, short) in
    let lifted_path : path_of (q ++ n ∷ []) (lifted_row levels r) ≡ kept ++ n ∷ [] = below_x n q [] (lifted_row levels r) (omega (arith, low)) ∙ ap (λ m. (r.id ∷ drop m q) ++ n ∷ []) less in
    ap (λ p. places_of (lifted_row levels r) p ++ places_from p (map (lifted_row levels) rows)) lifted_path
    ∙ cut_row levels (kept ++ n ∷ up) (kept ++ n ∷ []) r (places_from (kept ++ n ∷ []) (map (lifted_row levels) rows)) (places_from (kept ++ n ∷ up) rows) (cut_path kept up n) (cut_from n up kept rows parts.1)
    ∙ ap (λ p. map (cut_place levels) (places_of r p ++ places_from p rows)) (sym path)

-- ---- n with the rows behind it

cut_below : (rows : List NodeRow) (n : List ℕ) → (at : Around rows n)
    → places (map (lifted_row (length at.up)) (at.root ∷ at.inner))
    ≡ map (cut_place (length at.up)) (places_from (path_after [] at.front) (at.root ∷ at.inner))
cut_below rows n at =
    let levels : ℕ = length at.up in
    let root = at.root in
    let inner = map (lifted_row levels) at.inner in
    let one : root.depth - levels ≡ 1 = omega (arith, at.level) in
    let root_path : path_of [] (lifted_row levels root) ≡ n ∷ [] = ap (λ d. root.id ∷ drop (0 - (d - 1)) []) one ∙ ap (λ i. i ∷ []) at.named in
    ap (λ p. places_of (lifted_row levels root) p ++ places_from p inner) root_path
    ∙ cut_row levels (n ∷ at.up) (n ∷ []) root (places_from (n ∷ []) inner) (places_from (n ∷ at.up) at.inner) (cut_path [] at.up n) (cut_from n at.up [] at.inner at.deep)
    ∙ ap (λ p. map (cut_place levels) (places_of root p ++ places_from p at.inner)) (sym at.path)

-- ---- the places below n

filter_all : {X : Type 0} (f : X → Bool) (xs : List X) → list_all f xs ≡ true → filter f xs ≡ xs
filter_all f [] all = refl
filter_all f (x ∷ xs) all =
    let parts = and_parts (f x) (list_all f xs) all in
    ap (λ b. cond b (x ∷ filter f xs) (filter f xs)) parts.0 ∙ ap (λ ys. x ∷ ys) (filter_all f xs parts.1)

filter_none : {X : Type 0} (f : X → Bool) (xs : List X) → list_any f xs ≡ false → filter f xs ≡ []
filter_none f [] none = refl
filter_none f (x ∷ xs) none =
    let parts = or_parts (f x) (list_any f xs) none in
    ap (λ b. cond b (x ∷ filter f xs) (filter f xs)) parts.0 ∙ filter_none f xs parts.1

pub places_below : (rows : List NodeRow) (n : List ℕ) → (at : Around rows n)
    → filter (below n) (places rows) ≡ places_from (path_after [] at.front) (at.root ∷ at.inner)
places_below rows n at =
    let ps = around_places rows n at in
    let f : Place → Bool = below n in
    ap (filter f) ps.whole ∙ filter-append f ps.front (ps.inner ++ ps.back)
    ∙ ap (λ xs. xs ++ filter f (ps.inner ++ ps.back)) (filter_none f ps.front ps.none_front)
    ∙ filter-append f ps.inner ps.back
    ∙ ap (λ xs. xs ++ filter f ps.back) (filter_all f ps.inner ps.all_inner)
    ∙ ap (λ xs. ps.inner ++ xs) (filter_none f ps.back ps.none_back)
    ∙ append-nil ps.inner ∙ ps.inner_is

pub cut_places : CutPlaces
cut_places rows n valid known =
    let at = around rows n valid known in
    let high : length (above rows n) ≡ length at.up = ap length (above_is rows n valid at) ∙ length-reverse at.up in
    ap (λ rs. places (map (lifted_row (length (above rows n))) rs)) (rows_below-around rows n valid at)
    ∙ ap (λ k. places (map (lifted_row k) (at.root ∷ at.inner))) high
    ∙ cut_below rows n at
    ∙ ap (λ k. map (cut_place k) (places_from (path_after [] at.front) (at.root ∷ at.inner))) (sym high)
    ∙ ap (map (cut_place (length (above rows n)))) (sym (places_below rows n at))
