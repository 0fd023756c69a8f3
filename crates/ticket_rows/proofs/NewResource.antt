-- A new resource in the pool of a node leaves the rows a ticket.
use Rattle.std.proofs.Common.{◌≡◌, ℕ, ◌&&◌, ◌||◌, Bool, true, false, not, cond, List, [], ◌∷◌, ◌++◌}
use Rattle.std.proofs.Common.{map, Some, None, refl, sym, ap, ◌∙◌, append_assoc, nat_le}
use Rattle.std.proofs.lemmas.Bool.{true≢false, and_parts, and_from, or_parts, not-true}
use Rattle.std.proofs.lemmas.Bool.{not_from_false, or_from}
use Rattle.std.proofs.lemmas.List.{map-append}
use Rattle.std.proofs.lemmas.Slice.Eq.{bytes_eq-Decides}
use Rattle.std.specs.List.{list_all}
use Rattle.std.specs.Option.{option_map_or}
use Rattle.std.specs.Str.{bytes_eq}
use Rattle.ticket_items.proofs.Apart.{mem-append, or_none, bytes_eq-symm}
use Rattle.ticket_items.proofs.AtKey.{at_key-none}
use Rattle.ticket_rows.proofs.Changes.{at_id}
use Rattle.ticket_rows.proofs.AtHome.{home_of-cons}
use Rattle.ticket_rows.proofs.Growing.{kept_here, kept_map, kept_all}
use Rattle.ticket_rows.specs.Edit.{with_row}
use Rattle.ticket_rows.specs.Homes.{home_of}
use Rattle.ticket_items.specs.Ids.{mem, are_distinct}
use Rattle.ticket_rows.specs.Outline.{is_outline}
use Rattle.ticket_rows.specs.Place.{path_of}
use Rattle.ticket_rows.specs.Ticket.{IsValid, ids, ids_of, node_ids, is_reserved, max_depth}
use Rattle.ticket_rows.proofs.LinkWalk.{resolves, are_resolved_from, resolved_walk}
use Rattle.ticket_items.specs.declared.link.Link.{Link}
use Rattle.ticket_items.specs.declared.node_row.NodeRow.{NodeRow}
use Rattle.ticket_items.specs.declared.resource.Resource.{Resource}

abbrev pub add_resource : Resource → NodeRow → NodeRow
add_resource x r = record r { resources = r.resources ++ x ∷ [] }

-- ---- ids

-- one more id somewhere among those that are apart
pub insert_apart : (front : List (List ℕ)) (x : List ℕ) (back : List (List ℕ))
    → are_distinct (front ++ back) ≡ true → mem x (front ++ back) ≡ false
    → are_distinct (front ++ x ∷ back) ≡ true
insert_apart [] x back apart new = and_from _ _ (not_from_false _ new) apart
insert_apart (y ∷ front) x back apart new =
    let parts = and_parts _ _ apart in
    let news = or_parts (bytes_eq y x) (mem x (front ++ back)) new in
    let split = or_parts (mem y front) (mem y back) (sym (mem-append y front back) ∙ not-true _ parts.0) in
    let alone : mem y (front ++ x ∷ back) ≡ false = mem-append y front (x ∷ back) ∙ or_from _ _ split.0 (or_from _ _ (bytes_eq-symm x y ∙ news.0) split.1) in
    and_from _ _ (not_from_false _ alone) (insert_apart front x back parts.1 news.1)

-- the ids with one more are those before it, it, and those behind it
abbrev HasOneMore : List ℕ → List (List ℕ) → List (List ℕ) → Type 0
HasOneMore x old new = (front : List (List ℕ)) × (back : List (List ℕ)) × (old ≡ front ++ back) × (new ≡ front ++ x ∷ back)

more_behind : (x : List ℕ) (own old new : List (List ℕ)) → HasOneMore x old new
    → HasOneMore x (own ++ old) (own ++ new)
more_behind x own old new h =
    (own ++ h.0, h.1, ap (λ ys. own ++ ys) h.2 ∙ sym (append_assoc own h.0 h.1), ap (λ ys. own ++ ys) h.3 ∙ sym (append_assoc own h.0 (x ∷ h.1)))

ids_row : (b : Bool) (n : List ℕ) (x : Resource) (r : NodeRow) (rows : List NodeRow)
    → bytes_eq r.id n ≡ b → mem r.id (node_ids rows) ≡ false → (b || mem n (node_ids rows)) ≡ true
    → (mem n (node_ids rows) ≡ true
    → HasOneMore x.id (ids rows) (ids (with_row n (add_resource x) rows)))
    → HasOneMore x.id (ids (r ∷ rows))
    (ids_of (cond b (add_resource x r) r) ++ ids (with_row n (add_resource x) rows))
ids_row true n x r rows e alone there go =
    let named : r.id ≡ n = (bytes_eq-Decides r.id n).0 e in
    let same : with_row n (add_resource x) rows ≡ rows = at_key-none (λ s. s.id) n (add_resource x) rows (ap (λ y. mem y (node_ids rows)) (sym named) ∙ alone) in (
      ids_of r,
      ids rows,
      refl,
      ap (λ rs. ids_of (add_resource x r) ++ ids rs) same ∙ ap (λ is. (r.id ∷ is) ++ ids rows) (map-append (λ y. y.id) r.resources (x ∷ [])) ∙ append_assoc (ids_of r) (x.id ∷ []) (ids rows),
    )
ids_row false n x r rows e alone there go = more_behind x.id (ids_of r) (ids rows) (ids (with_row n (add_resource x) rows)) (go there)

ids_grown : (n : List ℕ) (x : Resource) (rows : List NodeRow) → are_distinct (node_ids rows) ≡ true
    → mem n (node_ids rows) ≡ true
    → HasOneMore x.id (ids rows) (ids (with_row n (add_resource x) rows))
ids_grown n x [] apart there = absurd (true≢false (sym there))
ids_grown n x (r ∷ rows) apart there =
    let parts = and_parts _ _ apart in
    ids_row (bytes_eq r.id n) n x r rows refl (not-true _ parts.0) there (λ later. ids_grown n x rows parts.1 later)

grown_apart : (x : List ℕ) (old new : List (List ℕ)) → HasOneMore x old new
    → are_distinct old ≡ true → mem x old ≡ false → are_distinct new ≡ true
grown_apart x old new h apart out = ap are_distinct h.3 ∙ insert_apart h.0 x h.1 (ap are_distinct (sym h.2) ∙ apart) (ap (mem x) (sym h.2) ∙ out)

-- ---- homes

-- an id of no resource has no home
pub no_home : (y : List ℕ) (rows : List NodeRow) → mem y (ids rows) ≡ false → home_of rows y ≡ None
no_home y [] out = refl
no_home y (r ∷ rows) out =
    let parts = or_parts (bytes_eq r.id y) _ out in
    let own = or_parts (mem y (map (λ z. z.id) r.resources)) (mem y (ids rows)) (sym (mem-append y (map (λ z. z.id) r.resources) (ids rows)) ∙ parts.1) in
    home_of-cons y r rows ∙ ap (λ b. cond b (Some r.id) (home_of rows y)) own.0 ∙ no_home y rows own.1

pool_same : (b : Bool) (x : Resource) (y : List ℕ) (r : NodeRow) → bytes_eq x.id y ≡ false
    → mem y (map (λ z. z.id) (cond b (add_resource x r) r).resources)
    ≡ mem y (map (λ z. z.id) r.resources)
pool_same true x y r other =
    ap (mem y) (map-append (λ z. z.id) r.resources (x ∷ [])) ∙ mem-append y (map (λ z. z.id) r.resources) (x.id ∷ [])
    ∙ ap (λ b. mem y (map (λ z. z.id) r.resources) || (b || false)) other ∙ or_none (mem y (map (λ z. z.id) r.resources))
pool_same false x y r other = refl

-- every other id has the home that it had
other_home : (n : List ℕ) (x : Resource) (rows : List NodeRow) (y : List ℕ)
    → bytes_eq x.id y ≡ false → home_of (with_row n (add_resource x) rows) y ≡ home_of rows y
other_home n x [] y other = refl
other_home n x (r ∷ rows) y other =
    let s : NodeRow = at_id n (add_resource x) r in
    home_of-cons y s (with_row n (add_resource x) rows)
    ∙ ap (λ b. cond b (Some s.id) (home_of (with_row n (add_resource x) rows) y)) (pool_same (bytes_eq r.id n) x y r other)
    ∙ ap (λ i. cond (mem y (map (λ z. z.id) r.resources)) (Some i) (home_of (with_row n (add_resource x) rows) y)) (kept_here (bytes_eq r.id n) (λ t. t.id) (add_resource x) r refl)
    ∙ ap (λ o. cond (mem y (map (λ z. z.id) r.resources)) (Some r.id) o) (other_home n x rows y other)
    ∙ sym (home_of-cons y r rows)

-- ---- links

still_at : (b : Bool) (all new : List NodeRow) (x : Resource) (path : List (List ℕ)) (y : List ℕ)
    → bytes_eq x.id y ≡ b → mem x.id (ids all) ≡ false
    → (bytes_eq x.id y ≡ false → home_of new y ≡ home_of all y)
    → option_map_or (λ h. mem h path) (home_of all y) false ≡ true
    → option_map_or (λ h. mem h path) (home_of new y) false ≡ true
still_at true all new x path y e out same h =
    let none : home_of all y ≡ None = ap (home_of all) (sym ((bytes_eq-Decides x.id y).0 e)) ∙ no_home x.id all out in
    absurd (true≢false (sym h ∙ ap (λ o. option_map_or (λ k. mem k path) o false) none))
still_at false all new x path y e out same h = ap (λ o. option_map_or (λ k. mem k path) o false) (same e) ∙ h

links_still : (all new : List NodeRow) (x : Resource) (path : List (List ℕ)) (links : List Link)
    → mem x.id (ids all) ≡ false
    → ((y : List ℕ) → bytes_eq x.id y ≡ false → home_of new y ≡ home_of all y)
    → list_all (resolves all path) links ≡ true → list_all (resolves new path) links ≡ true
links_still all new x path [] out same h = refl
links_still all new x path (l ∷ links) out same h =
    let parts = and_parts _ _ h in
    and_from _ _ (still_at (bytes_eq x.id l.rref) all new x path l.rref refl out (same l.rref) parts.0) (links_still all new x path links out same parts.1)

path_same : (b : Bool) (x : Resource) (before : List (List ℕ)) (r : NodeRow)
    → path_of before (cond b (add_resource x r) r) ≡ path_of before r
path_same true x before r = refl
path_same false x before r = refl

still_resolved : (all new : List NodeRow) (n : List ℕ) (x : Resource) (before : List (List ℕ))
    (rows : List NodeRow)
    → mem x.id (ids all) ≡ false
    → ((y : List ℕ) → bytes_eq x.id y ≡ false → home_of new y ≡ home_of all y)
    → are_resolved_from all before rows ≡ true
    → are_resolved_from new before (with_row n (add_resource x) rows) ≡ true
still_resolved all new n x before [] out same h = refl
still_resolved all new n x before (r ∷ rows) out same h =
    let parts = and_parts _ _ h in
    let s : NodeRow = at_id n (add_resource x) r in
    ap (λ path. list_all (resolves new path) s.links && are_resolved_from new path (with_row n (add_resource x) rows)) (path_same (bytes_eq r.id n) x before r)
    ∙ ap (λ links. list_all (resolves new (path_of before r)) links && are_resolved_from new (path_of before r) (with_row n (add_resource x) rows)) (kept_here (bytes_eq r.id n) (λ t. t.links) (add_resource x) r refl)
    ∙ and_from _ _ (links_still all new x (path_of before r) r.links out same parts.0) (still_resolved all new n x (path_of before r) rows out same parts.1)

-- ---- the whole

pub IsValid-add_resource : (n : List ℕ) (x : Resource) (rows : List NodeRow)
    → are_distinct (node_ids rows) ≡ true → mem n (node_ids rows) ≡ true
    → mem x.id (ids rows) ≡ false → IsValid rows → IsValid (with_row n (add_resource x) rows)
IsValid-add_resource n x rows apart there out valid =
    record {
      tree = ap is_outline (kept_map (λ r. r.depth) n (add_resource x) rows (λ r. refl)) ∙ valid.tree;
      unreserved = kept_all (λ r. not (is_reserved r.status)) n (add_resource x) rows (λ r. refl) ∙ valid.unreserved;
      distinct = grown_apart x.id (ids rows) (ids (with_row n (add_resource x) rows)) (ids_grown n x rows apart there) valid.distinct out;
      shallow = kept_all (λ r. nat_le r.depth max_depth) n (add_resource x) rows (λ r. refl) ∙ valid.shallow;
      resolved = resolved_walk (with_row n (add_resource x) rows) ∙ still_resolved rows (with_row n (add_resource x) rows) n x [] rows out (other_home n x rows) (sym (resolved_walk rows) ∙ valid.resolved);
    }
