-- The index of a ticket's rows goes with them.
use Rattle.std.proofs.Common.{◌≡◌, ℕ, zero, suc, ◌+◌, ◌<◌, ◌≤◌, Bool, true, false, cond, List, []}
use Rattle.std.proofs.Common.{◌∷◌, ◌++◌, length, map, take, drop, set, insert, Option, Some, None}
use Rattle.std.proofs.Common.{is_some, refl, sym, ap, ◌∙◌, slice_get, Result, Ok, Err, OnOk, OnErr}
use Rattle.std.proofs.Common.{subst, arith, length-take-le}
use Rattle.std.proofs.lemmas.List.{map-append, take-append-drop, length-map}
use Rattle.std.proofs.lemmas.Slice.Eq.{bytes_eq-Decides}
use Rattle.std.specs.Option.{option_map, option_map_or, option_and_then}
use Rattle.std.specs.Str.{bytes_eq}
use Rattle.ticket_items.proofs.Places.{same_found}
use Rattle.ticket_items.specs.Ids.{mem, are_distinct}
use Rattle.ticket_rows.proofs.AtPlaces.{map-at_place, map-set_row}
use Rattle.ticket_rows.proofs.Below.{run_length}
use Rattle.ticket_rows.proofs.Changes.{pool-kept}
use Rattle.ticket_rows.proofs.Growth.{finds_node, finds_resource, finds_same}
use Rattle.ticket_rows.proofs.NewNode.{own_place}
use Rattle.ticket_rows.proofs.NewResource.{add_resource}
use Rattle.ticket_rows.proofs.NodePlaces.{node_ids_distinct}
use Rattle.ticket_rows.proofs.Parents.{parents_grown, runs_grown, runs_nest}
use Rattle.ticket_rows.proofs.Shapes.{ids-shapes, length-runs-rows, node-rows, run-rows, run_ends}
use Rattle.ticket_rows.proofs.Shapes.{runs_grow, shape}
use Rattle.ticket_rows.specs.ChangedRow.{at_place, end_behind}
use Rattle.ticket_rows.specs.Edit.{with_resource}
use Rattle.ticket_rows.specs.Index.{AreAlike, Finds, IsIndex, Shape, Spots, ids_in, longer_run}
use Rattle.ticket_rows.specs.Index.{node_at, runs_of, shape_of, shapes_of, shifted_place, spot_under}
use Rattle.ticket_rows.specs.Index.{with_more}
use Rattle.ticket_rows.specs.Parents.{AreParents}
use Rattle.ticket_rows.specs.Ticket.{depths, ids}
use Rattle.ticket_rows.specs.declared.index.Index.{Index}
use Rattle.ticket_rows.specs.declared.spot.Spot.{Spot}
use Rattle.ticket_rows.specs.declared.spot.Spot.TheVariants.{OfNode, InPool}
use Rattle.ticket_items.specs.declared.node_row.NodeRow.{NodeRow}
use Rattle.ticket_items.specs.declared.resource.Resource.{Resource}

-- ---- rows that keep what an index tells

pub depths-shapes : (rows : List NodeRow) → depths rows ≡ map (λ s. s.depth) (shapes_of rows)
depths-shapes [] = refl
depths-shapes (r ∷ rows) = ap (λ ds. r.depth ∷ ds) (depths-shapes rows)

pub index_same : (old new : List NodeRow) (index : Index) → shapes_of new ≡ shapes_of old
    → IsIndex old index → IsIndex new index
index_same old new index same i =
    let runs : runs_of (depths old) ≡ runs_of (depths new)
    = ap runs_of (depths-shapes old ∙ ap (map (λ s. s.depth)) (sym same) ∙ sym (depths-shapes new)) in
    record {
      finds = subst (λ ss. Finds ss index.spots index.places.items) (sym same) i.finds;
      parents = subst (λ ns. AreParents ns index.places.items index.parents.items) runs i.parents;
      runs = i.runs ∙ runs;
    }

pub index_stays : {X E : Type 0} (result : Result X E) (old new changed : List NodeRow)
    (index : Index)
    → IsIndex old index → OnOk result (new ≡ changed) → shapes_of changed ≡ shapes_of old
    → OnErr result (new ≡ old) → IsIndex new index
index_stays (Ok x) old new changed index i done kept stay = index_same old new index (ap shapes_of done ∙ kept) i
index_stays (Err e) old new changed index i done kept stay = index_same old new index (ap shapes_of stay) i

pub shapes-with_resource : (x : List ℕ) (f : Resource → Resource) (rows : List NodeRow)
    → ((y : Resource) → (f y).id ≡ y.id) → shapes_of (with_resource x f rows) ≡ shapes_of rows
shapes-with_resource x f [] keeps = refl
shapes-with_resource x f (r ∷ rows) keeps =
    ap (λ is. shape r.id r.depth is ∷ shapes_of (with_resource x f rows)) (pool-kept x f r.resources keeps) ∙ ap (λ ss. shape_of r ∷ ss) (shapes-with_resource x f rows keeps)

-- ---- a new node

pub finds_insert : (rows : List NodeRow) (i : ℕ) (new : NodeRow) (spots next : Spots)
    (places moved : List ℕ)
    → i ≤ length rows → new.resources ≡ [] → mem new.id (ids rows) ≡ false
    → ((x : List ℕ) → spot_under next x
    ≡ cond (bytes_eq new.id x) (Some (OfNode (length places))) (spot_under spots x))
    → ((n : ℕ) → slice_get moved n ≡ option_map (shifted_place i) (slice_get places n))
    → length moved ≡ length places → Finds (shapes_of rows) spots places
    → Finds (shapes_of (insert rows i new)) next (moved ++ i ∷ [])
finds_insert rows i new spots next places moved within bare out put at long f =
    let front : List Shape = shapes_of (take i rows) in
    let back : List Shape = shapes_of (drop i rows) in
    let whole : front ++ back ≡ shapes_of rows = sym (map-append shape_of (take i rows) (drop i rows)) ∙ ap shapes_of (take-append-drop i rows) in
    let count : length front ≡ i = length-map (take i rows) shape_of ∙ length-take-le i rows within in
    let none : mem new.id (ids_in (front ++ back)) ≡ false = ap (λ ss. mem new.id (ids_in ss)) whole ∙ ap (mem new.id) (ids-shapes rows) ∙ out in
    let grown = finds_node front back (shape_of new) spots next places moved (ap (map (λ (x : Resource). x.id)) bare) none put (λ n. at n ∙ ap (λ k. option_map (shifted_place k) (slice_get places n)) (sym count)) long (subst (λ ss. Finds ss spots places) (sym whole) f) in
    subst (λ k. Finds (shapes_of (insert rows i new)) next (moved ++ k ∷ [])) count (subst (λ ss. Finds ss next (moved ++ length front ∷ [])) (sym (map-append shape_of (take i rows) (new ∷ drop i rows))) grown)

-- ---- a new resource

-- what is in front of a place, what stands there, and what is behind
abbrev Around : {X : Type 0} → List X → ℕ → X → Type 0
Around {X} xs k x =
    (front : List X) × (back : List X) × (xs ≡ front ++ x ∷ back) × (length front ≡ k)
    × ((y : X) → set xs k y ≡ front ++ y ∷ back)

around : {X : Type 0} (xs : List X) (k : ℕ) (x : X) → slice_get xs k ≡ Some x → Around xs k x
around [] k x at = cc
around (y ∷ xs) zero x at =
    let same : y ≡ x = cc in
    ([], xs, ap (λ t. t ∷ xs) same, refl, λ t. refl)
around (y ∷ xs) (suc k) x at =
    let h = around xs k x at in
    (y ∷ h.0, h.1, ap (λ ts. y ∷ ts) h.2, ap suc h.3, λ t. ap (λ ts. y ∷ ts) (h.4 t))

pub finds_at_place : (shapes : List Shape) (k : ℕ) (s : Shape) (y : List ℕ) (h : ℕ)
    (spots next : Spots) (places : List ℕ)
    → slice_get shapes k ≡ Some s → slice_get places h ≡ Some k → mem y (ids_in shapes) ≡ false
    → ((x : List ℕ) → spot_under next x
    ≡ cond (bytes_eq y x) (Some (InPool h (length s.pool))) (spot_under spots x))
    → Finds shapes spots places → Finds (at_place k (with_more y) shapes) next places
finds_at_place shapes k s y h spots next places there home out put f =
    let a = around shapes k s there in
    let grown : at_place k (with_more y) shapes ≡ a.0 ++ with_more y s ∷ a.1
    = ap (λ o. option_map_or (λ t. set shapes k (with_more y t)) o shapes) there ∙ a.4 (with_more y s) in
    subst (λ ss. Finds ss next places) (sym grown)
    (finds_resource a.0 a.1 s y h spots next places (home ∙ ap Some (sym a.3)) (ap (λ ss. mem y (ids_in ss)) (sym a.2) ∙ out) put (subst (λ ss. Finds ss spots places) a.2 f))

map_set : {X Y : Type 0} (f : X → Y) (xs : List X) (k : ℕ) (y : X)
    → map f (set xs k y) ≡ set (map f xs) k (f y)
map_set f [] k y = refl
map_set f (x ∷ xs) zero y = refl
map_set f (x ∷ xs) (suc k) y = ap (λ ys. f x ∷ ys) (map_set f xs k y)

pub shape-at : (rows : List NodeRow) (k : ℕ) (r : NodeRow) → slice_get rows k ≡ Some r
    → slice_get (shapes_of rows) k ≡ Some (shape_of r)
shape-at [] k r at = cc
shape-at (s ∷ rows) zero r at =
    let same : s ≡ r = cc in
    ap (λ t. Some (shape_of t)) same
shape-at (s ∷ rows) (suc k) r at = shape-at rows k r at

pub shapes-more : (rows : List NodeRow) (k : ℕ) (r : NodeRow) (x : Resource)
    → slice_get rows k ≡ Some r
    → shapes_of (at_place k (add_resource x) rows) ≡ at_place k (with_more x.id) (shapes_of rows)
shapes-more rows k r x at =
    ap (λ o. shapes_of (option_map_or (λ s. set rows k (add_resource x s)) o rows)) at ∙ map_set shape_of rows k (add_resource x r)
    ∙ ap (λ is. set (shapes_of rows) k (shape r.id r.depth is)) (map-append (λ y. y.id) r.resources (x ∷ []))
    ∙ sym (ap (λ o. option_map_or (λ s. set (shapes_of rows) k (with_more x.id s)) o (shapes_of rows)) (shape-at rows k r at))

-- ---- a copy

-- which nodes stand above, where nothing of that is changed
pub parents_kept : (rows : List NodeRow) (old new : Index) → IsIndex rows old
    → new.places.items ≡ old.places.items → new.parents.items ≡ old.parents.items
    → AreParents (runs_of (depths rows)) new.places.items new.parents.items
parents_kept rows old new i places parents =
    subst (λ ps. AreParents (runs_of (depths rows)) ps new.parents.items) (sym places)
    (subst (AreParents (runs_of (depths rows)) old.places.items) (sym parents) i.parents)

pub index_alike : (old new : List NodeRow) (a b : Index) → new ≡ old → AreAlike a b → IsIndex old a
    → IsIndex new b
index_alike old new a b same alike i =
    subst (λ rows. IsIndex rows b) (sym same)
    (record {
      finds = subst (Finds (shapes_of old) b.spots) (sym alike.places) (finds_same (shapes_of old) a.spots b.spots a.places.items alike.spots i.finds);
      parents = parents_kept old a b i alike.places alike.parents;
      runs = alike.runs ∙ i.runs;
    })

-- ---- what the index does for a new node

-- the end of the run at a place
pub end_told : (rows : List NodeRow) (k n : ℕ) (r : NodeRow) (index : Index) → IsIndex rows index
    → slice_get index.runs.items k ≡ Some n → slice_get rows k ≡ Some r
    → k + 1 + n ≡ end_behind rows k r
end_told rows k n r index i run at =
    ap (λ m. k + 1 + m) (same_found n (run_length r.depth (drop (k + 1) rows)) (slice_get (runs_of (depths rows)) k) (ap (λ ns. slice_get ns k) (sym i.runs) ∙ run) (run-rows rows k r at))

-- each run ends within the rows
pub runs_end : (rows : List NodeRow) (k n : ℕ) (index : Index) → IsIndex rows index
    → slice_get index.runs.items k ≡ Some n → k + n < length rows
runs_end rows k n index i run = run_ends rows k n (ap (λ ns. slice_get ns k) (sym i.runs) ∙ run)

pub places_within : (rows : List NodeRow) (n k : ℕ) (index : Index) → IsIndex rows index
    → slice_get index.places.items n ≡ Some k → k < length rows
places_within rows n k index i at = omega (arith, i.finds.within n k at, length-map rows shape_of)

pub runs_long : (rows : List NodeRow) (index : Index) → IsIndex rows index
    → length index.runs.items ≡ length rows
runs_long rows index i = ap length i.runs ∙ length-runs-rows rows

-- the columns with the new node's place and run
abbrev pub Columns : List NodeRow → Spots → List ℕ → List ℕ → List ℕ → Type 0
Columns rows spots places parents runs =
    Finds (shapes_of rows) spots places × AreParents (runs_of (depths rows)) places parents
    × (runs ≡ runs_of (depths rows))

pub columns_with_node : (rows : List NodeRow) (k n node : ℕ) (r new : NodeRow) (index : Index)
    (next : Spots) (moved longer : List ℕ)
    → IsIndex rows index → slice_get index.runs.items k ≡ Some n → slice_get rows k ≡ Some r
    → new.resources ≡ [] → new.depth ≡ suc r.depth → mem new.id (ids rows) ≡ false
    → ((x : List ℕ) → spot_under next x
    ≡ cond (bytes_eq new.id x) (Some (OfNode (length index.places.items)))
    (spot_under index.spots x))
    → ((m : ℕ) → slice_get moved m
    ≡ option_map (shifted_place (k + 1 + n)) (slice_get index.places.items m))
    → length moved ≡ length index.places.items
    → ((j : ℕ) → slice_get longer j ≡ option_map (longer_run k j) (slice_get index.runs.items j))
    → length longer ≡ length index.runs.items → slice_get index.places.items node ≡ Some k
    → Columns (insert rows (k + 1 + n) new) next (moved ++ (k + 1 + n) ∷ [])
    (index.parents.items ++ node ∷ []) (insert longer (k + 1 + n) 0)
columns_with_node rows k n node r new index next moved longer i run at bare one out put raise long grow longs came =
    let end : k + 1 + n ≡ end_behind rows k r = end_told rows k n r index i run at in
    let within : k + 1 + n ≤ length rows = omega (arith, runs_end rows k n index i run) in
    let old = runs_of (depths rows) in
    let more = λ (j : ℕ). grow j ∙ ap (λ ns. option_map (longer_run k j) (slice_get ns j)) i.runs in
    let runs : insert longer (k + 1 + n) 0 ≡ runs_of (depths (insert rows (k + 1 + n) new))
    = ap (λ e. insert longer e 0) end ∙ runs_grow rows k r new longer at one more ∙ ap (λ e. runs_of (depths (insert rows e new))) (sym end) in
    let grown = runs_grown old longer k (k + 1 + n) more (omega arith) (omega (arith, within, longs, runs_long rows index i)) in
    let parents = parents_grown old (insert longer (k + 1 + n) 0) index.places.items moved index.parents.items k n (k + 1 + n) node (runs_nest (depths rows)) (ap (λ ns. slice_get ns k) (sym i.runs) ∙ run) refl grown i.parents came raise long in (
      finds_insert rows (k + 1 + n) new index.spots next index.places.items moved within bare out put raise long i.finds,
      subst (λ ns. AreParents ns (moved ++ (k + 1 + n) ∷ []) (index.parents.items ++ node ∷ [])) runs parents,
      runs,
    )

-- ---- and for a new resource

pub finds_with_resource : (rows : List NodeRow) (k h : ℕ) (r : NodeRow) (y : List ℕ)
    (index : Index) (next : Spots)
    → IsIndex rows index → slice_get rows k ≡ Some r → slice_get index.places.items h ≡ Some k
    → mem y (ids rows) ≡ false
    → ((x : List ℕ) → spot_under next x
    ≡ cond (bytes_eq y x) (Some (InPool h (length r.resources))) (spot_under index.spots x))
    → Finds (at_place k (with_more y) (shapes_of rows)) next index.places.items
finds_with_resource rows k h r y index next i at home out put =
    finds_at_place (shapes_of rows) k (shape_of r) y h index.spots next index.places.items (shape-at rows k r at) home (ap (mem y) (ids-shapes rows) ∙ out)
    (λ x. put x ∙ ap (λ n. cond (bytes_eq y x) (Some (InPool h n)) (spot_under index.spots x)) (sym (length-map r.resources (λ z. z.id)))) i.finds

-- by its id a node is found where it stands
pub node_told : (rows : List NodeRow) (k : ℕ) (r : NodeRow) (index : Index) → IsIndex rows index
    → are_distinct (ids rows) ≡ true → slice_get rows k ≡ Some r
    → option_and_then (node_at index.places.items) (spot_under index.spots r.id) ≡ Some k
node_told rows k r index i apart at =
    i.finds.nodes r.id ∙ node-rows r.id rows ∙ own_place rows k r (node_ids_distinct rows apart) at

-- rows that got the resource have the index that has its id
pub index_with_resource : (rows : List NodeRow) (k : ℕ) (r : NodeRow) (x : Resource)
    (index : Index)
    → slice_get rows k ≡ Some r
    → Finds (at_place k (with_more x.id) (shapes_of rows)) index.spots index.places.items
    → AreParents (runs_of (depths rows)) index.places.items index.parents.items
    → index.runs.items ≡ runs_of (depths rows)
    → IsIndex (at_place k (add_resource x) rows) index
index_with_resource rows k r x index at f parents runs =
    let same = ap runs_of (sym (map-at_place (λ s. s.depth) (add_resource x) rows k (λ s. refl))) in
    record {
      finds = subst (λ ss. Finds ss index.spots index.places.items) (sym (shapes-more rows k r x at)) f;
      parents = subst (λ ns. AreParents ns index.places.items index.parents.items) same parents;
      runs = runs ∙ same;
    }

-- and those that didn't have the one from which the id was taken out again
pub index_again : (rows : List NodeRow) (y : List ℕ) (old mid new : Index) → IsIndex rows old
    → mem y (ids rows) ≡ false
    → ((x : List ℕ) → bytes_eq y x ≡ false → spot_under mid.spots x ≡ spot_under old.spots x)
    → ((x : List ℕ) → spot_under new.spots x ≡ cond (bytes_eq y x) None (spot_under mid.spots x))
    → new.places.items ≡ old.places.items → new.parents.items ≡ old.parents.items
    → new.runs.items ≡ runs_of (depths rows) → IsIndex rows new
index_again rows y old mid new i out others took places parents runs =
    record {
      finds = subst (Finds (shapes_of rows) new.spots) (sym places) (finds_same (shapes_of rows) old.spots new.spots old.places.items (λ x. by x (bytes_eq y x) refl) i.finds);
      parents = parents_kept rows old new i places parents;
      runs = runs;
    }
  where
    none : (o : Option Spot) → is_some o ≡ false → None ≡ o
    none None e = refl
    none (Some s) e = cc

    by : (x : List ℕ) (b : Bool) → bytes_eq y x ≡ b → spot_under new.spots x ≡ spot_under old.spots x
    by x true e =
        let same : y ≡ x = (bytes_eq-Decides y x).0 e in
        took x ∙ ap (λ b. cond b None (spot_under mid.spots x)) e
        ∙ none (spot_under old.spots x) (i.finds.ids x ∙ ap (mem x) (ids-shapes rows) ∙ ap (λ z. mem z (ids rows)) (sym same) ∙ out)
    by x false e = took x ∙ ap (λ b. cond b None (spot_under mid.spots x)) e ∙ others x e

-- a row whose pool got the resource
pub index_pushed : (rows : List NodeRow) (k : ℕ) (r : NodeRow) (x : Resource)
    (pool : List Resource) (index : Index)
    → slice_get rows k ≡ Some r → pool ≡ r.resources ++ x ∷ []
    → Finds (at_place k (with_more x.id) (shapes_of rows)) index.spots index.places.items
    → AreParents (runs_of (depths rows)) index.places.items index.parents.items
    → index.runs.items ≡ runs_of (depths rows)
    → IsIndex (set rows k (record r { resources = pool })) index
index_pushed rows k r x pool index at pushed f parents runs =
    subst (λ rs. IsIndex rs index)
    (ap (λ o. option_map_or (λ s. set rows k (add_resource x s)) o rows) at ∙ ap (λ xs. set rows k (record r { resources = xs })) (sym pushed))
    (index_with_resource rows k r x index at f parents runs)

-- a row whose pool is what it was
pub index_unpushed : (rows : List NodeRow) (k : ℕ) (r : NodeRow) (pool : List Resource)
    (index : Index)
    → slice_get rows k ≡ Some r → pool ≡ r.resources → IsIndex rows index
    → IsIndex (set rows k (record r { resources = pool })) index
index_unpushed rows k r pool index at same i =
    index_same rows (set rows k (record r { resources = pool })) index
    (map-set_row shape_of rows k (record r { resources = pool }) (slice_get rows k) refl (ap (option_map shape_of) at ∙ ap (λ (xs : List Resource). Some (shape r.id r.depth (map (λ y. y.id) xs))) (sym same))) i
