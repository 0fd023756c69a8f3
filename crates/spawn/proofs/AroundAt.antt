-- At a node a ticket shows the rows around it.
use Rattle.std.proofs.Common.{◌≡◌, ◌∙◌, ℕ, zero, suc, ◌-◌, ◌||◌, true, not, List, [], ◌∷◌, ◌++◌}
use Rattle.std.proofs.Common.{length, take, drop, Some, refl, sym, ap, append_assoc, slice_get}
use Rattle.std.proofs.Common.{reverse, Option, None}
use Rattle.std.proofs.lemmas.Bool.{true≢false, and_parts, not-true}
use Rattle.std.proofs.lemmas.List.{take_at, drop_at, length-reverse, length-drop}
use Rattle.std.specs.Option.{option_map, option_map_or}
use Rattle.std.specs.Str.{bytes_eq}
use Rattle.ticket_items.proofs.Apart.{bytes_eq-same}
use Rattle.ticket_items.specs.Ids.{mem, are_distinct}
use Rattle.ticket_items.specs.declared.node_row.NodeRow.{NodeRow}
use Rattle.ticket_rows.proofs.NodePlaces.{node_ids_distinct}
use Rattle.ticket_rows.specs.Place.{Place, node_places, place_at}
use Rattle.ticket_rows.specs.Ticket.{IsValid, node_ids}
use Rattle.ticket_tree.specs.At.{IsAt}
use Rattle.ticket_tree.specs.declared.at.At.{At}
use Rattle.spawn.proofs.Ancestry.{root_place}
use Rattle.spawn.proofs.HomesBelow.{or_right}
use Rattle.spawn.proofs.RowsBelow.{rows_below-around}
use Rattle.spawn.proofs.Split.{Around}
use Rattle.spawn.specs.Parts.{above}

-- ---- where a row stands

at_end : (xs : List NodeRow) (y : NodeRow) (ys : List NodeRow)
    → slice_get (xs ++ y ∷ ys) (length xs) ≡ Some y
at_end [] y ys = refl
at_end (x ∷ xs) y ys = at_end xs y ys

stands_at : (rows : List NodeRow) (k : ℕ) (r : NodeRow) → slice_get rows k ≡ Some r
    → mem r.id (node_ids rows) ≡ true
stands_at [] k r e = cc
stands_at (s ∷ rows) zero r e = ap (λ b. b || mem r.id (node_ids rows)) (ap (λ o. bytes_eq (option_map_or (λ t. t.id) o s.id) r.id) e ∙ bytes_eq-same r.id)
stands_at (s ∷ rows) (suc k) r e = or_right (bytes_eq s.id r.id) (mem r.id (node_ids rows)) (stands_at rows k r e)

-- an id that stands later isn't the first one's
not_first : (s : NodeRow) (rows : List NodeRow) (x y : List ℕ)
    → are_distinct (node_ids (s ∷ rows)) ≡ true → s.id ≡ x → x ≡ y → mem y (node_ids rows) ≡ true
    → ⊥
not_first s rows x y apart e same there =
    true≢false (sym there ∙ ap (λ i. mem i (node_ids rows)) (sym (e ∙ same)) ∙ not-true _ (and_parts (not (mem s.id (node_ids rows))) (are_distinct (node_ids rows)) apart).0)

one_place : (rows : List NodeRow) (i j : ℕ) (r s : NodeRow) → are_distinct (node_ids rows) ≡ true
    → slice_get rows i ≡ Some r → slice_get rows j ≡ Some s → r.id ≡ s.id → i ≡ j
one_place [] i j r s apart e f same = cc
one_place (x ∷ rows) zero zero r s apart e f same = refl
one_place (x ∷ rows) zero (suc j) r s apart e f same = absurd (not_first x rows r.id s.id apart (ap (λ o. option_map_or (λ t. t.id) o x.id) e) same (stands_at rows j s f))
one_place (x ∷ rows) (suc i) zero r s apart e f same = absurd (not_first x rows s.id r.id apart (ap (λ o. option_map_or (λ t. t.id) o x.id) f) (sym same) (stands_at rows i r e))
one_place (x ∷ rows) (suc i) (suc j) r s apart e f same = ap suc (one_place rows i j r s (and_parts (not (mem x.id (node_ids rows))) (are_distinct (node_ids rows)) apart).1 e f same)

-- ---- what is shown

-- at n the rows around it are shown, and its depth
pub record Shows (rows : List NodeRow) (n : List ℕ) (a : At) (at : Around rows n) : Type 0 where
  pub front : a.front ≡ at.front
  pub below : a.below ≡ at.root ∷ at.inner
  pub behind : a.behind ≡ at.back
  pub depth : a.depth ≡ at.root.depth

pub shows : (rows : List NodeRow) (n : List ℕ) (a : At) → IsValid rows → IsAt rows n a
    → (at : Around rows n) → Shows rows n a at
shows rows n a valid is at =
    let mid = at.root ∷ at.inner in
    let below : a.below ≡ mid = is.below ∙ rows_below-around rows n valid at in
    let shown = is.whole ∙ append_assoc a.front a.below a.behind in
    let whole = at.whole ∙ append_assoc at.front mid at.back in
    let first : slice_get rows (length a.front) ≡ Some at.root =
    ap (λ rs. slice_get rs (length a.front)) (shown ∙ ap (λ rs. a.front ++ (rs ++ a.behind)) below) ∙ at_end a.front at.root (at.inner ++ a.behind) in
    let root : slice_get rows (length at.front) ≡ Some at.root = ap (λ rs. slice_get rs (length at.front)) whole ∙ at_end at.front at.root (at.inner ++ at.back) in
    let long : length a.front ≡ length at.front = one_place rows (length a.front) (length at.front) at.root at.root (node_ids_distinct rows valid.distinct) first root refl in
    let front : a.front ≡ at.front =
    sym (take_at a.front (a.below ++ a.behind) (length at.front) long) ∙ ap (take (length at.front)) (sym shown ∙ whole) ∙ take_at at.front (mid ++ at.back) (length at.front) refl in
    let last = length (at.front ++ mid) in
    let ends : length (a.front ++ a.below) ≡ last = ap (λ rs. length (rs ++ a.below)) front ∙ ap (λ rs. length (at.front ++ rs)) below in
    record {
      front = front;
      below = below;
      behind = sym (drop_at (a.front ++ a.below) a.behind last ends) ∙ ap (drop last) (sym is.whole ∙ at.whole) ∙ drop_at (at.front ++ mid) at.back last refl;
      depth = ap (λ o. option_map_or (λ d. d) o a.depth) (sym is.depth ∙ ap (option_map (λ p. length p.path)) (root_place rows n valid at)) ∙ ap length at.path ∙ sym at.level;
    }

-- ---- how many nodes stand above

levels_at : (o : Option Place) (depth : ℕ) → option_map (λ p. length p.path) o ≡ Some depth
    → depth - 1 ≡ length (reverse (option_map_or (λ p. drop 1 p.path) o []))
levels_at None depth e = cc
levels_at (Some p) depth e =
    let deep : depth ≡ length p.path = ap (λ o. option_map_or (λ d. d) o depth) (sym e) in
    ap (λ d. d - 1) deep ∙ sym (length-reverse (drop 1 p.path) ∙ length-drop 1 p.path)

-- as many nodes stand above a node as its depth tells
pub levels_are : (rows : List NodeRow) (n : List ℕ) (a : At) → IsAt rows n a
    → a.depth - 1 ≡ length (above rows n)
levels_are rows n a is = levels_at (place_at (node_places rows) n) a.depth is.depth
