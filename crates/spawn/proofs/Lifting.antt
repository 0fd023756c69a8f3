-- The rows below a node, lifted to stand by themselves: a tree, no deeper than before, with the ids
-- and the homes that they had.
use Rattle.std.proofs.Common.{◌≡◌, ◌∙◌, ℕ, suc, ◌+◌, ◌-◌, ◌≤◌, ◌&&◌, ◌==◌, true, List, [], ◌∷◌}
use Rattle.std.proofs.Common.{◌++◌, length, map, drop, refl, sym, ap, subst, not, arith, nat_le}
use Rattle.std.proofs.Common.{nat_lt}
use Rattle.std.proofs.lemmas.Bool.{and_parts, and_from, ltb-true, leb-true, le-leb}
use Rattle.std.proofs.lemmas.List.{length-append}
use Rattle.std.specs.List.{list_all}
use Rattle.ticket_rows.proofs.Below.{Path, Follows, below_x, length-path_of}
use Rattle.ticket_rows.specs.Homes.{homes}
use Rattle.ticket_rows.specs.Outline.{goes_on, is_outline}
use Rattle.ticket_rows.specs.Place.{path_of}
use Rattle.ticket_rows.specs.Ticket.{depths, ids, ids_of, are_shallow, are_unreserved, is_reserved}
use Rattle.ticket_rows.specs.Ticket.{max_depth}
use Rattle.ticket_items.specs.declared.node_row.NodeRow.{NodeRow}
use Rattle.ticket_items.specs.declared.resource.Resource.{Resource}
use Rattle.spawn.proofs.Split.{AreDeep}
use Rattle.spawn.specs.Parts.{lifted_row}

abbrev pub all_lifted : ℕ → List NodeRow → List NodeRow
all_lifted levels rows = map (lifted_row levels) rows

-- ---- the tree

goes_on_lifted : (n : List ℕ) (up front : Path) (rows : List NodeRow)
    → Follows (front ++ n ∷ up) rows → AreDeep (suc (length up)) rows
    → goes_on (suc (length front)) (depths (all_lifted (length up) rows)) ≡ true
goes_on_lifted n up front [] follows deep = refl
goes_on_lifted n up front (r ∷ rows) follows deep =
    let levels : ℕ = length up in
    let parts = and_parts (nat_lt (suc levels) r.depth) (list_all (λ s. nat_lt (suc levels) s.depth) rows) deep in
    let low : suc (suc levels) ≤ r.depth = ltb-true _ _ parts.0 in
    let kept : Path = r.id ∷ drop (length (front ++ n ∷ up) - (r.depth - 1)) front in
    let path : path_of (front ++ n ∷ up) r ≡ kept ++ n ∷ up = below_x n front up r low in
    let long : length (front ++ n ∷ up) ≡ length front + suc levels = length-append front (n ∷ up) in
    let own : length (kept ++ n ∷ up) ≡ length kept + suc levels = length-append kept (n ∷ up) in
    let deepness : length kept + suc levels ≡ r.depth = sym own ∙ ap length (sym path) ∙ length-path_of (front ++ n ∷ up) r follows.0 follows.1 in
    let high : r.depth ≤ suc (length (front ++ n ∷ up)) = follows.1 in
    let lifted_depth : r.depth - levels ≡ suc (length kept) = omega (arith, deepness) in
    and_from _ _ (and_from _ _ (le-leb 2 (r.depth - levels) (omega (arith, low))) (le-leb (r.depth - levels) (suc (suc (length front))) (omega (arith, high, long))))
    (ap (λ d. goes_on d (depths (all_lifted levels rows))) lifted_depth ∙ goes_on_lifted n up kept rows (subst (λ p. Follows p rows) path follows.2) parts.1)

pub outline_lifted : (n : List ℕ) (up : Path) (root : NodeRow) (inner : List NodeRow)
    → root.depth ≡ suc (length up) → Follows (n ∷ up) inner → AreDeep (suc (length up)) inner
    → is_outline (depths (all_lifted (length up) (root ∷ inner))) ≡ true
outline_lifted n up root inner level follows deep =
    let one : root.depth - length up ≡ 1 = omega (arith, level) in
    and_from _ _ (ap (λ d. d == 1) one) (goes_on_lifted n up [] inner follows deep)

-- ---- what lifting leaves

pub unreserved_lifted : (levels : ℕ) (rows : List NodeRow)
    → are_unreserved (all_lifted levels rows) ≡ are_unreserved rows
unreserved_lifted levels [] = refl
unreserved_lifted levels (r ∷ rows) = ap (λ b. not (is_reserved r.status) && b) (unreserved_lifted levels rows)

pub shallow_lifted : (levels : ℕ) (rows : List NodeRow) → are_shallow rows ≡ true
    → are_shallow (all_lifted levels rows) ≡ true
shallow_lifted levels [] shallow = refl
shallow_lifted levels (r ∷ rows) shallow =
    let parts = and_parts (nat_le r.depth max_depth) (are_shallow rows) shallow in
    and_from _ _ (le-leb (r.depth - levels) 32 (omega (arith, leb-true _ _ parts.0))) (shallow_lifted levels rows parts.1)

pub ids_lifted : (levels : ℕ) (rows : List NodeRow) → ids (all_lifted levels rows) ≡ ids rows
ids_lifted levels [] = refl
ids_lifted levels (r ∷ rows) = ap (λ is. ids_of r ++ is) (ids_lifted levels rows)

pub homes_lifted : (levels : ℕ) (rows : List NodeRow) → homes (all_lifted levels rows) ≡ homes rows
homes_lifted levels [] = refl
homes_lifted levels (r ∷ rows) = ap (λ es. map (λ (x : Resource). (x, r.id)) r.resources ++ es) (homes_lifted levels rows)
