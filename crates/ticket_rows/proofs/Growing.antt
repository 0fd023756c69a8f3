-- What the structural edits keep: a new resource or link in the pool of a node leaves the rows a
-- ticket.
use Rattle.std.proofs.Common.{◌≡◌, ℕ, ◌&&◌, Bool, true, false, not, cond, List, [], ◌∷◌, ◌++◌, map}
use Rattle.std.proofs.Common.{Option, Some, None, refl, sym, ap, ◌∙◌, nat_le}
use Rattle.std.proofs.lemmas.Bool.{true≢false, and_parts, and_from, not-true}
use Rattle.std.proofs.lemmas.List.Folds.{list_all-append}
use Rattle.std.proofs.lemmas.Slice.Eq.{bytes_eq-Decides}
use Rattle.std.specs.List.{list_all}
use Rattle.std.specs.Option.{option_map_or}
use Rattle.std.specs.Str.{bytes_eq}
use Rattle.ticket_items.proofs.AtKey.{at_key-none}
use Rattle.ticket_rows.proofs.Changes.{at_id}
use Rattle.ticket_rows.proofs.AtHome.{home_of-cons}
use Rattle.ticket_rows.proofs.NodePlaces.{nodes_from, node_places-rows, node_ids_distinct}
use Rattle.ticket_rows.specs.Edit.{with_row, reaches}
use Rattle.ticket_rows.specs.Homes.{home_of}
use Rattle.ticket_items.specs.Ids.{mem, are_distinct}
use Rattle.ticket_rows.specs.Outline.{is_outline}
use Rattle.ticket_rows.specs.Place.{Place, place_at, is_below, below, node_place, path_of}
use Rattle.ticket_rows.specs.Ticket.{IsValid, ids, ids_of, node_ids, is_reserved, max_depth}
use Rattle.ticket_rows.proofs.LinkWalk.{resolves, are_resolved_from, resolved_same, resolved_walk}
use Rattle.ticket_items.specs.declared.link.Link.{Link}
use Rattle.ticket_items.specs.declared.node_row.NodeRow.{NodeRow}

-- ---- a change of one row that keeps its id and its depth

pub kept_here : {Y : Type 0} (b : Bool) (h : NodeRow → Y) (f : NodeRow → NodeRow) (r : NodeRow)
    → h (f r) ≡ h r → h (cond b (f r) r) ≡ h r
kept_here true h f r e = e
kept_here false h f r e = refl

pub kept_map : {Y : Type 0} (h : NodeRow → Y) (x : List ℕ) (f : NodeRow → NodeRow)
    (rows : List NodeRow)
    → ((r : NodeRow) → h (f r) ≡ h r) → map h (with_row x f rows) ≡ map h rows
kept_map h x f [] keeps = refl
kept_map h x f (r ∷ rows) keeps = ap (λ y. y ∷ map h (with_row x f rows)) (kept_here (bytes_eq r.id x) h f r (keeps r)) ∙ ap (λ ys. h r ∷ ys) (kept_map h x f rows keeps)

pub kept_all : (p : NodeRow → Bool) (x : List ℕ) (f : NodeRow → NodeRow) (rows : List NodeRow)
    → ((r : NodeRow) → p (f r) ≡ p r) → list_all p (with_row x f rows) ≡ list_all p rows
kept_all p x f [] keeps = refl
kept_all p x f (r ∷ rows) keeps = ap (λ b. b && list_all p (with_row x f rows)) (kept_here (bytes_eq r.id x) p f r (keeps r)) ∙ ap (λ b. p r && b) (kept_all p x f rows keeps)

-- ---- a link more

abbrev pub add_link : Link → NodeRow → NodeRow
add_link l r = record r { links = r.links ++ l ∷ [] }

link_home : (x : List ℕ) (l : Link) (rows : List NodeRow) (y : List ℕ)
    → home_of (with_row x (add_link l) rows) y ≡ home_of rows y
link_home x l [] y = refl
link_home x l (r ∷ rows) y =
    let s : NodeRow = at_id x (add_link l) r in
    home_of-cons y s (with_row x (add_link l) rows)
    ∙ ap (λ ids. cond (mem y ids) (Some s.id) (home_of (with_row x (add_link l) rows) y)) (kept_here (bytes_eq r.id x) (λ t. map (λ z. z.id) t.resources) (add_link l) r refl)
    ∙ ap (λ i. cond (mem y (map (λ z. z.id) r.resources)) (Some i) (home_of (with_row x (add_link l) rows) y)) (kept_here (bytes_eq r.id x) (λ t. t.id) (add_link l) r refl)
    ∙ ap (λ o. cond (mem y (map (λ z. z.id) r.resources)) (Some r.id) o) (link_home x l rows y)
    ∙ sym (home_of-cons y r rows)

-- the link resolves at the place of x
abbrev ResolvesAt : List NodeRow → List ℕ → Link → List Place → Type 0
ResolvesAt all x l nodes = (p : Place) → place_at nodes x ≡ Some p → resolves all p.path l ≡ true

link_row : (b : Bool) (all : List NodeRow) (x : List ℕ) (l : Link) (before : List (List ℕ))
    (r : NodeRow) (rows : List NodeRow)
    → bytes_eq r.id x ≡ b → ResolvesAt all x l (nodes_from before (r ∷ rows))
    → mem r.id (node_ids rows) ≡ false
    → (list_all (resolves all (path_of before r)) r.links ≡ true)
    × (are_resolved_from all (path_of before r) rows ≡ true)
    → (ResolvesAt all x l (nodes_from (path_of before r) rows)
    → are_resolved_from all (path_of before r) (with_row x (add_link l) rows) ≡ true)
    → are_resolved_from all before (cond b (add_link l r) r ∷ with_row x (add_link l) rows) ≡ true
link_row true all x l before r rows e at alone parts go =
    let here : resolves all (path_of before r) l ≡ true = at (node_place r (path_of before r)) (ap (λ b. cond b (Some (node_place r (path_of before r))) (place_at (nodes_from (path_of before r) rows) x)) e) in
    let named : r.id ≡ x = (bytes_eq-Decides r.id x).0 e in
    and_from _ _ (list_all-append (resolves all (path_of before r)) r.links (l ∷ []) ∙ and_from _ _ parts.0 (and_from _ _ here refl))
    (ap (are_resolved_from all (path_of before r)) (at_key-none (λ s. s.id) x (add_link l) rows (ap (λ y. mem y (node_ids rows)) (sym named) ∙ alone)) ∙ parts.1)
link_row false all x l before r rows e at alone parts go =
    and_from _ _ parts.0 (go (λ p found. at p (ap (λ b. cond b (Some (node_place r (path_of before r))) (place_at (nodes_from (path_of before r) rows) x)) e ∙ found)))

link_resolved : (all : List NodeRow) (x : List ℕ) (l : Link) (before : List (List ℕ))
    (rows : List NodeRow)
    → ResolvesAt all x l (nodes_from before rows) → are_distinct (node_ids rows) ≡ true
    → are_resolved_from all before rows ≡ true
    → are_resolved_from all before (with_row x (add_link l) rows) ≡ true
link_resolved all x l before [] at apart resolved = refl
link_resolved all x l before (r ∷ rows) at apart resolved =
    let parts = and_parts _ _ apart in
    let old = and_parts _ _ resolved in
    link_row (bytes_eq r.id x) all x l before r rows refl at (not-true _ parts.0) old (λ later. link_resolved all x l (path_of before r) rows later parts.1 old.1)

reach_at : (all : List NodeRow) (x : List ℕ) (nodes : List Place) (p : Place)
    (home : Option (List ℕ))
    → place_at nodes x ≡ Some p → option_map_or (is_below nodes x) home false ≡ true
    → option_map_or (λ h. mem h p.path) home false ≡ true
reach_at all x nodes p None found h = absurd (true≢false (sym h))
reach_at all x nodes p (Some b) found h = sym (ap (λ o. option_map_or (below b) o false) found) ∙ h

resolves_at : (rows : List NodeRow) (x : List ℕ) (l : Link) → reaches rows x l.rref ≡ true
    → ResolvesAt rows x l (nodes_from [] rows)
resolves_at rows x l reached p found =
    reach_at rows x (nodes_from [] rows) p (home_of rows l.rref) found (ap (λ nodes. option_map_or (is_below nodes x) (home_of rows l.rref) false) (sym (node_places-rows rows)) ∙ reached)

link_ids : (x : List ℕ) (l : Link) (rows : List NodeRow)
    → ids (with_row x (add_link l) rows) ≡ ids rows
link_ids x l [] = refl
link_ids x l (r ∷ rows) = ap (λ is. is ++ ids (with_row x (add_link l) rows)) (kept_here (bytes_eq r.id x) ids_of (add_link l) r refl) ∙ ap (λ is. ids_of r ++ is) (link_ids x l rows)

pub IsValid-add_link : (x : List ℕ) (l : Link) (rows : List NodeRow) → reaches rows x l.rref ≡ true
    → IsValid rows → IsValid (with_row x (add_link l) rows)
IsValid-add_link x l rows reached valid =
    record {
      tree = ap is_outline (kept_map (λ r. r.depth) x (add_link l) rows (λ r. refl)) ∙ valid.tree;
      unreserved = kept_all (λ r. not (is_reserved r.status)) x (add_link l) rows (λ r. refl) ∙ valid.unreserved;
      distinct = ap are_distinct (link_ids x l rows) ∙ valid.distinct;
      shallow = kept_all (λ r. nat_le r.depth max_depth) x (add_link l) rows (λ r. refl) ∙ valid.shallow;
      resolved = resolved_walk (with_row x (add_link l) rows) ∙ resolved_same rows (with_row x (add_link l) rows) [] (with_row x (add_link l) rows) (link_home x l rows)
          ∙ link_resolved rows x l [] rows (resolves_at rows x l reached) (node_ids_distinct rows valid.distinct) (sym (resolved_walk rows) ∙ valid.resolved);
    }
