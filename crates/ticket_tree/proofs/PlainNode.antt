-- A new node, seen on the places: it stands behind the last place below its parent.
use Rattle.std.proofs.Common.{◌≡◌, ℕ, suc, ◌+◌, ◌-◌, ◌≤◌, ◌||◌, Bool, true, false, cond, List, []}
use Rattle.std.proofs.Common.{◌∷◌, ◌++◌, length, drop, map, Some, refl, sym, ap, ◌∙◌, arith, nat_lt}
use Rattle.std.proofs.lemmas.Bool.{and_parts, and_from, or_parts, not-true, or_from, ltb-true}
use Rattle.std.proofs.lemmas.Bool.{ltb-false}
use Rattle.std.proofs.lemmas.List.{length-append, drop_at}
use Rattle.std.proofs.lemmas.List.Folds.{list_any-append}
use Rattle.std.proofs.lemmas.Slice.Eq.{bytes_eq-Decides}
use Rattle.std.specs.List.{list_all, list_any}
use Rattle.std.specs.Str.{bytes_eq}
use Rattle.ticket_items.proofs.Apart.{mem-append, bytes_eq-same, or_true}
use Rattle.ticket_rows.proofs.Below.{Follows, length-path_of, mem-drop, above_x, below_x}
use Rattle.ticket_rows.proofs.NewNode.{Bare, behind_deeper, child_walk, path_skips}
use Rattle.ticket_rows.proofs.NodePlaces.{nodes_from}
use Rattle.ticket_tree.proofs.PlainPlaces.{behind_or_first, behind_last-pass, behind_or_first-pass}
use Rattle.ticket_tree.proofs.PlainPlaces.{behind_or_first-none, behind_last-skip}
use Rattle.ticket_rows.specs.Edit.{behind_last}
use Rattle.ticket_items.specs.Ids.{mem, are_distinct}
use Rattle.ticket_rows.specs.Place.{Place, node_place, resource_place, places_of, places_from}
use Rattle.ticket_rows.specs.Place.{place_at, below, path_of}
use Rattle.ticket_rows.specs.Ticket.{node_ids}
use Rattle.ticket_items.specs.declared.node_row.NodeRow.{NodeRow}
use Rattle.ticket_items.specs.declared.resource.Resource.{Resource}

abbrev Path : Type 0
Path = List (List ℕ)

-- ---- what is below, and what isn't

pool_below : (n : List ℕ) (path : Path) (xs : List Resource) → mem n path ≡ true
    → list_all (below n) (map (resource_place path) xs) ≡ true
pool_below n path [] on = refl
pool_below n path (x ∷ xs) on = and_from _ _ on (pool_below n path xs on)

pool_beside : (n : List ℕ) (path : Path) (xs : List Resource) → mem n path ≡ false
    → list_any (below n) (map (resource_place path) xs) ≡ false
pool_beside n path [] off = refl
pool_beside n path (x ∷ xs) off = or_from _ _ off (pool_beside n path xs off)

none_below : (n : List ℕ) (before : Path) (rows : List NodeRow) → mem n before ≡ false
    → mem n (node_ids rows) ≡ false → list_any (below n) (places_from before rows) ≡ false
none_below n before [] off out = refl
none_below n before (r ∷ rows) off out =
    let parts = or_parts (bytes_eq r.id n) (mem n (node_ids rows)) out in
    let here : mem n (path_of before r) ≡ false = or_from _ _ parts.0 (mem-drop n (length before - (r.depth - 1)) before off) in
    or_from _ _ here (list_any-append (below n) (map (resource_place (path_of before r)) r.resources) (places_from (path_of before r) rows) ∙ or_from _ _ (pool_beside n (path_of before r) r.resources here) (none_below n (path_of before r) rows here parts.1))

-- ---- the new node's path

new_path : (n : List ℕ) (front up : Path) (row : NodeRow) → row.depth ≡ suc (suc (length up))
    → path_of (front ++ n ∷ up) row ≡ row.id ∷ n ∷ up
new_path n front up row deep =
    let long : length (front ++ n ∷ up) ≡ length front + suc (length up) = length-append front (n ∷ up) in
    let cut : length (front ++ n ∷ up) - (row.depth - 1) ≡ length front = omega arith in
    ap (λ k. row.id ∷ drop k (front ++ n ∷ up)) cut ∙ ap (λ ys. row.id ∷ ys) (drop_at front (n ∷ up) (length front) refl)

-- the places of a row without resources
bare_places : (row : NodeRow) (path : Path) (rest : List Place) → row.resources ≡ []
    → places_of row path ++ rest ≡ node_place row path ∷ rest
bare_places row path rest bare = ap (λ xs. (node_place row path ∷ map (resource_place path) xs) ++ rest) bare

-- ---- behind the node's row

abbrev Lands : List ℕ → Path → Path → NodeRow → List NodeRow → Type 0
Lands n front up row rows =
    behind_or_first (below n) (node_place row (row.id ∷ n ∷ up)) (places_from (front ++ n ∷ up) rows) ≡ places_from (front ++ n ∷ up) (behind_deeper (suc (length up)) row rows)

lands_row : (b : Bool) (n : List ℕ) (front up : Path) (row r : NodeRow) (rows : List NodeRow)
    → nat_lt (suc (length up)) r.depth ≡ b → row.depth ≡ suc (suc (length up)) → row.resources ≡ []
    → mem n up ≡ false → (bytes_eq r.id n ≡ false) × (mem n (node_ids rows) ≡ false)
    → ((front' : Path) → path_of (front ++ n ∷ up) r ≡ front' ++ n ∷ up
    → Lands n front' up row rows)
    → behind_or_first (below n) (node_place row (row.id ∷ n ∷ up))
    (places_from (front ++ n ∷ up) (r ∷ rows))
    ≡ places_from (front ++ n ∷ up)
    (cond b (r ∷ behind_deeper (suc (length up)) row rows) (row ∷ r ∷ rows))
lands_row true n front up row r rows e deep bare off out go =
    let path : Path = path_of (front ++ n ∷ up) r in
    let kept : Path = r.id ∷ drop (length (front ++ n ∷ up) - (r.depth - 1)) front in
    let same : path ≡ kept ++ n ∷ up = below_x n front up r (ltb-true _ _ e) in
    let on : mem n path ≡ true = ap (mem n) same ∙ mem-append n kept (n ∷ up) ∙ ap (λ b. mem n kept || (b || mem n up)) (bytes_eq-same n) ∙ or_true (mem n kept) in
    let new : Place = node_place row (row.id ∷ n ∷ up) in
    behind_or_first-pass (below n) new (places_of r path) (places_from path rows) (and_from _ _ on (pool_below n path r.resources on))
    ∙ ap (λ ps. places_of r path ++ ps)
    (ap (λ p. behind_or_first (below n) new (places_from p rows)) same ∙ go kept same ∙ ap (λ p. places_from p (behind_deeper (suc (length up)) row rows)) (sym same))
lands_row false n front up row r rows e deep bare off out go =
    let path : Path = path_of (front ++ n ∷ up) r in
    let new : Place = node_place row (row.id ∷ n ∷ up) in
    let shallow : r.depth ≤ suc (length up) = ltb-false _ _ e in
    let here : mem n path ≡ false = or_from _ _ out.0 (above_x n front up r off shallow) in
    let none : list_any (below n) (places_of r path ++ places_from path rows) ≡ false =
    or_from _ _ here (list_any-append (below n) (map (resource_place path) r.resources) (places_from path rows) ∙ or_from _ _ (pool_beside n path r.resources here) (none_below n path rows here out.1)) in
    let long : length (front ++ n ∷ up) ≡ length front + suc (length up) = length-append front (n ∷ up) in
    let skips : path_of (path_of (front ++ n ∷ up) row) r ≡ path = path_skips (suc (length up)) row r (front ++ n ∷ up) deep (omega arith) shallow in
    behind_or_first-none (below n) new (places_of r path ++ places_from path rows) none
    ∙ ap (λ p. new ∷ places_of r p ++ places_from p rows) (sym skips)
    ∙ ap (λ p. node_place row p ∷ places_of r (path_of (path_of (front ++ n ∷ up) row) r) ++ places_from (path_of (path_of (front ++ n ∷ up) row) r) rows) (sym (new_path n front up row deep))
    ∙ sym (bare_places row (path_of (front ++ n ∷ up) row) (places_from (path_of (front ++ n ∷ up) row) (r ∷ rows)) bare)

lands : (n : List ℕ) (front up : Path) (row : NodeRow) (rows : List NodeRow)
    → row.depth ≡ suc (suc (length up)) → row.resources ≡ [] → mem n up ≡ false
    → mem n (node_ids rows) ≡ false → Lands n front up row rows
lands n front up row [] deep bare off out =
    ap (λ p. node_place row p ∷ []) (sym (new_path n front up row deep)) ∙ sym (bare_places row (path_of (front ++ n ∷ up) row) [] bare)
lands n front up row (r ∷ rows) deep bare off out =
    let parts = or_parts (bytes_eq r.id n) (mem n (node_ids rows)) out in
    lands_row (nat_lt (suc (length up)) r.depth) n front up row r rows refl deep bare off parts (λ front' same. lands n front' up row rows deep bare off parts.1)

-- ---- the whole

some_same : (p q : Place) → Some p ≡ Some q → p ≡ q
some_same p q e = cc

-- what is known of the new row, whatever its depth
pub record IsBare (id kind job_part : List ℕ) (new : Bare) : Type 0 where
  pub deep : (d : ℕ) → (new d).depth ≡ d
  pub pool : (d : ℕ) → (new d).resources ≡ []
  pub place : (d : ℕ) (path : Path) → node_place (new d) path ≡ record { id = id; path = path; thing = Rattle.ticket_rows.specs.Place.node kind job_part [] }
  pub named : (d : ℕ) → (new d).id ≡ id

-- below the row of the node itself
lands_here : (before : Path) (r : NodeRow) (new : Bare) (rows : List NodeRow)
    (id kind job_part : List ℕ)
    → IsBare id kind job_part new → length (path_of before r) ≡ r.depth → mem r.id before ≡ false
    → mem r.id (node_ids rows) ≡ false
    → places_of r (path_of before r)
    ++ places_from (path_of before r) (behind_deeper r.depth (new (suc r.depth)) rows)
    ≡ behind_last (below r.id)
    (record {
      id = id;
      path = id
          ∷ path_of before r;
      thing = Rattle.ticket_rows.specs.Place.node kind job_part [];
    })
    (places_of r (path_of before r) ++ places_from (path_of before r) rows)
lands_here before r new rows id kind job_part bare long off out =
    let up : Path = drop (length before - (r.depth - 1)) before in
    let path : Path = path_of before r in
    let row : NodeRow = new (suc r.depth) in
    let deep : row.depth ≡ suc (suc (length up)) = bare.deep (suc r.depth) ∙ ap suc (sym long) in
    let place : Place = record { id = id; path = id ∷ path; thing = Rattle.ticket_rows.specs.Place.node kind job_part [] } in
    let same : node_place row (row.id ∷ path) ≡ place = ap (λ i. node_place row (i ∷ path)) (bare.named (suc r.depth)) ∙ bare.place (suc r.depth) (id ∷ path) in
    let on : mem r.id path ≡ true = ap (λ b. b || mem r.id up) (bytes_eq-same r.id) in
    let landed : Lands r.id [] up row rows = lands r.id [] up row rows deep (bare.pool (suc r.depth)) (mem-drop r.id (length before - (r.depth - 1)) before off) out in
    sym (behind_last-pass (below r.id) place (node_place r path) (map (resource_place path) r.resources ++ places_from path rows) on
    ∙ ap (λ ps. node_place r path ∷ ps) (behind_or_first-pass (below r.id) place (map (resource_place path) r.resources) (places_from path rows) (pool_below r.id path r.resources on)
    ∙ ap (λ ps. map (resource_place path) r.resources ++ ps)
    (ap (λ p. behind_or_first (below r.id) p (places_from path rows)) (sym same) ∙ landed ∙ ap (λ d. places_from path (behind_deeper d row rows)) long)))

child_row : (b : Bool) (n : List ℕ) (before : Path) (r : NodeRow) (new : Bare) (rows : List NodeRow)
    (id kind job_part : List ℕ) (p : Place)
    → bytes_eq r.id n ≡ b → IsBare id kind job_part new → length (path_of before r) ≡ r.depth
    → mem n before ≡ false → mem r.id (node_ids rows) ≡ false
    → cond b (Some (node_place r (path_of before r)))
    (place_at (nodes_from (path_of before r) rows) n)
    ≡ Some p
    → (mem n (path_of before r) ≡ false → place_at (nodes_from (path_of before r) rows) n ≡ Some p
    → places_from (path_of before r) (child_walk n new rows) ≡ behind_last (below n) (record {
      id = id;
      path = id
          ∷ p.path;
      thing = Rattle.ticket_rows.specs.Place.node kind job_part [];
    }) (places_from
    (path_of before r) rows))
    → places_of r (path_of before r)
    ++ places_from (path_of before r)
    (cond b (behind_deeper r.depth (new (suc r.depth)) rows) (child_walk n new rows))
    ≡ behind_last (below n)
    (record {
      id = id;
      path = id
          ∷ p.path;
      thing = Rattle.ticket_rows.specs.Place.node kind job_part [];
    })
    (places_of r (path_of before r) ++ places_from (path_of before r) rows)
child_row true n before r new rows id kind job_part p e bare long off alone found go =
    let named : r.id ≡ n = (bytes_eq-Decides r.id n).0 e in
    let same : node_place r (path_of before r) ≡ p = some_same (node_place r (path_of before r)) p found in
    lands_here before r new rows id kind job_part bare long (ap (λ m. mem m before) named ∙ off) alone
    ∙ ap (λ m. behind_last (below m) (record { id = id; path = id ∷ path_of before r; thing = Rattle.ticket_rows.specs.Place.node kind job_part [] }) (places_of r (path_of before r) ++ places_from (path_of before r) rows)) named
    ∙ ap (λ q. behind_last (below n) (record { id = id; path = id ∷ q.path; thing = Rattle.ticket_rows.specs.Place.node kind job_part [] }) (places_of r (path_of before r) ++ places_from (path_of before r) rows)) same
child_row false n before r new rows id kind job_part p e bare long off alone found go =
    let path : Path = path_of before r in
    let here : mem n path ≡ false = or_from _ _ e (mem-drop n (length before - (r.depth - 1)) before off) in
    ap (λ ps. places_of r path ++ ps) (go here found)
    ∙ sym (behind_last-skip (below n) (record { id = id; path = id ∷ p.path; thing = Rattle.ticket_rows.specs.Place.node kind job_part [] }) (places_of r path) (places_from path rows) (or_from _ _ here (pool_beside n path r.resources here)))

pub places-add_node : (n : List ℕ) (new : Bare) (id kind job_part : List ℕ) (p : Place)
    (before : Path) (rows : List NodeRow)
    → IsBare id kind job_part new → mem n before ≡ false → are_distinct (node_ids rows) ≡ true
    → Follows before rows → place_at (nodes_from before rows) n ≡ Some p
    → places_from before (child_walk n new rows)
    ≡ behind_last (below n)
    (record {
      id = id;
      path = id
          ∷ p.path;
      thing = Rattle.ticket_rows.specs.Place.node kind job_part [];
    })
    (places_from before rows)
places-add_node n new id kind job_part p before [] bare off apart follows found = cc
places-add_node n new id kind job_part p before (r ∷ rows) bare off apart follows found =
    let parts = and_parts _ _ apart in
    child_row (bytes_eq r.id n) n before r new rows id kind job_part p refl bare (length-path_of before r follows.0 follows.1) off (not-true _ parts.0) found
    (λ here later. places-add_node n new id kind job_part p (path_of before r) rows bare here parts.1 follows.2 later)
