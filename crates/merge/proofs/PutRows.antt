-- The rows by id after a merge: of what the spawn claims they are the part's, and elsewhere the
-- ticket's.
use Rattle.std.proofs.Common.{◌≡◌, ◌∙◌, ℕ, ◌&&◌, ◌||◌, Bool, true, false, cond, List, [], ◌∷◌, ◌++◌}
use Rattle.std.proofs.Common.{length, map, Option, Some, None, is_some, refl, sym, ap}
use Rattle.std.proofs.lemmas.Bool.{or_from}
use Rattle.std.proofs.lemmas.List.{map-append}
use Rattle.std.specs.List.{find}
use Rattle.std.specs.Option.{option_map, option_map_or, option_or}
use Rattle.std.specs.Str.{bytes_eq}
use Rattle.ticket_items.proofs.Apart.{mem-append}
use Rattle.ticket_items.proofs.AtKey.{any_key}
use Rattle.ticket_items.proofs.Places.{is_some-find}
use Rattle.ticket_items.specs.Ids.{mem, are_distinct}
use Rattle.ticket_items.specs.Resource.{resource_ids}
use Rattle.ticket_rows.proofs.Below.{mem-node_ids}
use Rattle.ticket_rows.specs.Copies.{with_copies}
use Rattle.ticket_rows.specs.Place.{Place, Row, node_row, resource_row, places, place_at, below}
use Rattle.ticket_rows.specs.Ticket.{Job, IsValid, ids, node_ids}
use Rattle.ticket_tree.proofs.ById.{node_no_resource}
use Rattle.ticket_tree.proofs.OnPlaces.{stands_somewhere}
use Rattle.ticket_tree.proofs.PlainRows.{node_touched}
use Rattle.ticket_tree.specs.Part.{PartCopy}
use Rattle.ticket_tree.specs.PartView.{own_rows}
use Rattle.ticket_items.specs.declared.node_row.NodeRow.{NodeRow}
use Rattle.ticket_items.specs.declared.resource.Resource.{Resource}
use Rattle.spawn.proofs.Among.{out_of_both}
use Rattle.spawn.proofs.Entries.{IsOwn, entries, entries-append, look, look-append, look_copies}
use Rattle.spawn.proofs.Entries.{look_pool, look_resource, look_rows, missing_rows, pool_entries}
use Rattle.spawn.proofs.Entries.{some_first, some_pool, some_row}
use Rattle.spawn.proofs.GoodCopies.{changes_ids, good_node}
use Rattle.spawn.proofs.HomesBelow.{ids-append, ids_around, nodes_around, only_inside}
use Rattle.spawn.proofs.Outside.{some_of}
use Rattle.spawn.proofs.PartKept.{above_apart}
use Rattle.spawn.proofs.PartShows.{IsOutOf, copy_no_node, copy_outside, look_around, no_copy}
use Rattle.spawn.proofs.PartShows.{out_of_claim, stands_below}
use Rattle.spawn.proofs.Split.{Around, around}
use Rattle.spawn.proofs.Standing.{named}
use Rattle.plain_shop.specs.Claim.{is_claimed}
use Rattle.spawn.specs.Parts.{above, lifted_row, resources, resources_among}
use Rattle.spawn.specs.Records.{IsGood}
use Rattle.spawn.specs.Spawning.{parent_of}
use Rattle.spawn.specs.declared.records.spawn_rec.SpawnRec.{SpawnRec}
use Rattle.merge.proofs.PutPlaces.{deepened, deep_entries, put_around, put_shapes, same_ids}
use Rattle.merge.proofs.Replaced.{found_key, found_mapped, resource_from-id, resources-mapped}
use Rattle.merge.proofs.Replaced.{unfound}
use Rattle.merge.proofs.Returning.{first_ids, row_from-id}
use Rattle.merge.proofs.Told.{all_lifted}
use Rattle.merge.specs.Laws.{PutOfRows}
use Rattle.merge.specs.Put.{merged_audit, resource_from, row_from, rows_from}
use Rattle.merge.specs.Putting.{pool_from, with_resources}
use Rattle.merge.specs.Shape.{Fits, Shape, shape}

-- a change of rows that leaves their ids
ids_kept : (g : NodeRow → NodeRow) (rows : List NodeRow) → ((s : NodeRow) → (g s).id ≡ s.id)
    → node_ids (map g rows) ≡ node_ids rows
ids_kept g [] same = refl
ids_kept g (s ∷ rows) same = ap (λ i. i ∷ node_ids (map g rows)) (same s) ∙ ap (λ is. s.id ∷ is) (ids_kept g rows same)

-- ---- resources in the places of those of their ids

kept_at : (o : Option Resource) (xs : List Resource) (y : List ℕ)
    → ((z : Resource) → o ≡ Some z → z.id ≡ y) → find (λ x. bytes_eq x.id y) xs ≡ None
    → option_map (resource_from xs) o ≡ o
kept_at None xs y same none = refl
kept_at (Some z) xs y same none = ap (λ q. Some (option_map_or (λ w. w) q z)) (ap (λ i. find (λ x. bytes_eq x.id i) xs) (same z refl) ∙ none)

-- what is found among resources, when others have taken their places
pool_from-found : {V : Type 0} (g : Resource → V) (xs pool : List Resource) (y : List ℕ)
    → look (pool_entries g (map (resource_from xs) pool)) y
    ≡ option_map g (option_map (resource_from xs) (find (λ x. bytes_eq x.id y) pool))
pool_from-found g xs pool y = look_pool g (map (resource_from xs) pool) y ∙ ap (option_map g) (found_mapped (λ x. x.id) (resource_from xs) pool y (resource_from-id xs))

pool_kept : {V : Type 0} (g : Resource → V) (xs pool : List Resource) (y : List ℕ)
    → mem y (resource_ids xs) ≡ false
    → look (pool_entries g (map (resource_from xs) pool)) y ≡ look (pool_entries g pool) y
pool_kept g xs pool y out =
    pool_from-found g xs pool y
    ∙ ap (option_map g) (kept_at (find (λ x. bytes_eq x.id y) pool) xs y (λ z found. found_key (λ x. x.id) pool y z found) (unfound (λ x. x.id) xs y out))
    ∙ sym (look_pool g pool y)

-- what isn't among the new is found as it was
rows_kept : {V : Type 0} (f : NodeRow → V) (g : Resource → V) → IsOwn f
    → (xs : List Resource) (rows : List NodeRow) (y : List ℕ) → mem y (resource_ids xs) ≡ false
    → look (entries f g (with_resources xs rows)) y ≡ look (entries f g rows) y
rows_kept f g own xs [] y out = refl
rows_kept f g own xs (r ∷ rows) y out =
    let first = (r.id, f r) ∷ [] in
    let pool = pool_entries g r.resources in
    let new = pool_entries g (map (resource_from xs) r.resources) in
    let later = entries f g (with_resources xs rows) in
    ap (λ v. look (((r.id, v) ∷ new) ++ later) y) (own r r.depth (map (resource_from xs) r.resources))
    ∙ look-append first (new ++ later) y
    ∙ ap (option_or (look first y))
    (look-append new later y ∙ ap (λ o. option_or o (look later y)) (pool_kept g xs r.resources y out) ∙ ap (option_or (look pool y)) (rows_kept f g own xs rows y out) ∙ sym (look-append pool (entries f g rows) y))
    ∙ sym (look-append first (pool ++ entries f g rows) y)

taken_at : (o : Option Resource) (z : Resource) → is_some o ≡ true
    → Some (option_map_or (λ w. w) o z) ≡ o
taken_at None z there = cc
taken_at (Some w) z there = refl

some_found : (xs : List Resource) (y : List ℕ) → mem y (resource_ids xs) ≡ true
    → is_some (find (λ x. bytes_eq x.id y) xs) ≡ true
some_found xs y there = is_some-find (λ (x : Resource). bytes_eq x.id y) xs ∙ any_key (λ (x : Resource). x.id) y xs ∙ there

-- and what is among the new is found there
pool_taken : {V : Type 0} (g : Resource → V) (xs pool : List Resource) (y : List ℕ)
    → mem y (resource_ids xs) ≡ true → mem y (resource_ids pool) ≡ true
    → look (pool_entries g (map (resource_from xs) pool)) y ≡ look (pool_entries g xs) y
pool_taken g xs pool y there stands =
    let old = some_of (find (λ x. bytes_eq x.id y) pool) (some_found pool y stands) in
    pool_from-found g xs pool y
    ∙ ap (option_map g)
    (ap (option_map (resource_from xs)) old.1 ∙ ap (λ i. Some (option_map_or (λ w. w) (find (λ x. bytes_eq x.id i) xs) old.0)) (found_key (λ x. x.id) pool y old.0 old.1)
    ∙ taken_at (find (λ x. bytes_eq x.id y) xs) old.0 (some_found xs y there))
    ∙ sym (look_pool g xs y)

-- an id that stands in rows and is no node's is a resource's
stands_as_resource : (rows : List NodeRow) (y : List ℕ) → mem y (node_ids rows) ≡ false
    → mem y (ids rows) ≡ true → mem y (resource_ids (resources rows)) ≡ true
stands_as_resource rows y out there =
    sym (some_pool resource_row (resources rows) y) ∙ ap is_some (sym (look_resource node_row resource_row rows y out)) ∙ some_row node_row resource_row rows y ∙ there

-- ---- what is found when a part is put back

put_look : {V : Type 0} (f : NodeRow → V) (g : Resource → V) → IsOwn f
    → (t : Job) (r : SpawnRec) (p : PartCopy) (y : List ℕ) → IsValid t.rows → Fits t r p
    → (at : Around t.rows r.node)
    → look (entries f g (rows_from p t.rows)) y
    ≡ option_or (look (entries f g (with_resources p.rw at.front)) y)
    (option_or (look (entries f g p.rows) y) (look (entries f g (with_resources p.rw at.back)) y))
put_look f g own t r p y valid fits at =
    let put = put_around t r p valid fits at in
    let mid = at.root ∷ at.inner in
    let front = with_resources p.rw at.front in
    let deep = deepened mid p.rows in
    let back = with_resources p.rw at.back in
    ap (λ rs. look (entries f g rs) y) put.split
    ∙ ap (λ ls. look ls y) (entries-append f g front (deep ++ back)) ∙ look-append (entries f g front) (entries f g (deep ++ back)) y
    ∙ ap (option_or (look (entries f g front) y))
    (ap (λ ls. look ls y) (entries-append f g deep back) ∙ look-append (entries f g deep) (entries f g back) y
    ∙ ap (λ ls. option_or (look ls y) (look (entries f g back) y)) (deep_entries f g own (length (above t.rows r.node)) mid p.rows put.shapes))

-- below the node it is the part's
put_inside : {V : Type 0} (f : NodeRow → V) (g : Resource → V) → IsOwn f
    → (t : Job) (r : SpawnRec) (p : PartCopy) (y : List ℕ) → IsValid t.rows → IsGood t.rows r
    → Fits t r p → (at : Around t.rows r.node) → mem y (ids (at.root ∷ at.inner)) ≡ true
    → look (entries f g (rows_from p t.rows)) y ≡ look (entries f g (own_rows p)) y
put_inside f g own t r p y valid good fits at there =
    let rows = t.rows in
    let put = put_around t r p valid fits at in
    let front = with_resources p.rw at.front in
    let back = with_resources p.rw at.back in
    let no_front = ap (mem y) (same_ids front at.front put.front) ∙ only_inside rows r.node y valid at there in
    let none = ap (mem y) (first_ids p.rw (resources_among r.rw rows) fits.rw) ∙ no_copy rows r y valid good at there in
    put_look f g own t r p y valid fits at
    ∙ ap (λ o. option_or o (option_or (look (entries f g p.rows) y) (look (entries f g back) y))) (missing_rows f g front y no_front)
    ∙ some_first (look (entries f g p.rows) y) (look (entries f g back) y) (some_row f g p.rows y ∙ ap (mem y) put.part ∙ there)
    ∙ sym (look_rows f g own p.rows p.rw y none)

abbrev outer : {rows : List NodeRow} {n : List ℕ} → Around rows n → List NodeRow
outer at = at.front ++ at.back

-- elsewhere it is found outside of the part
put_outer : {V : Type 0} (f : NodeRow → V) (g : Resource → V) → IsOwn f
    → (t : Job) (r : SpawnRec) (p : PartCopy) (y : List ℕ) → IsValid t.rows → Fits t r p
    → (at : Around t.rows r.node) → mem y (ids (at.root ∷ at.inner)) ≡ false
    → look (entries f g (rows_from p t.rows)) y
    ≡ look (entries f g (with_resources p.rw (outer at))) y
put_outer f g own t r p y valid fits at out =
    let put = put_around t r p valid fits at in
    let front = with_resources p.rw at.front in
    let back = with_resources p.rw at.back in
    put_look f g own t r p y valid fits at
    ∙ ap (λ o. option_or (look (entries f g front) y) (option_or o (look (entries f g back) y))) (missing_rows f g p.rows y (ap (mem y) put.part ∙ out))
    ∙ sym (ap (λ rs. look (entries f g rs) y) (map-append (pool_from p.rw) at.front at.back) ∙ ap (λ ls. look ls y) (entries-append f g front back) ∙ look-append (entries f g front) (entries f g back) y)

around_outer : {V : Type 0} (f : NodeRow → V) (g : Resource → V) (rows : List NodeRow)
    (n y : List ℕ)
    → (at : Around rows n) → mem y (ids (at.root ∷ at.inner)) ≡ false
    → look (entries f g rows) y ≡ look (entries f g (outer at)) y
around_outer f g rows n y at out =
    look_around f g rows n y at
    ∙ ap (λ o. option_or (look (entries f g at.front) y) (option_or o (look (entries f g at.back) y))) (missing_rows f g (at.root ∷ at.inner) y out)
    ∙ sym (ap (λ ls. look ls y) (entries-append f g at.front at.back) ∙ look-append (entries f g at.front) (entries f g at.back) y)

-- what isn't claimed is as it was
put_unclaimed : {V : Type 0} (f : NodeRow → V) (g : Resource → V) → IsOwn f
    → (t : Job) (r : SpawnRec) (p : PartCopy) (y : List ℕ) → IsValid t.rows → Fits t r p
    → (at : Around t.rows r.node) → IsOutOf t.rows r at y
    → look (entries f g (rows_from p t.rows)) y ≡ look (entries f g t.rows) y
put_unclaimed f g own t r p y valid fits at out =
    put_outer f g own t r p y valid fits at out.below
    ∙ rows_kept f g own p.rw (outer at) y (ap (mem y) (first_ids p.rw (resources_among r.rw t.rows) fits.rw) ∙ out.copies)
    ∙ sym (around_outer f g t.rows r.node y at out.below)

-- ---- the copies that may be changed

outside_at : (a b c : Bool) → (a || (b || c)) ≡ true → b ≡ false → (a || c) ≡ true
outside_at true b c there out = refl
outside_at false true c there out = cc
outside_at false false c there out = there

outer_stands : (rows : List NodeRow) (n y : List ℕ) → (at : Around rows n) → mem y (ids rows) ≡ true
    → mem y (ids (at.root ∷ at.inner)) ≡ false → mem y (ids (outer at)) ≡ true
outer_stands rows n y at there out =
    let mid = ids (at.root ∷ at.inner) in
    let split = mem-append y (ids at.front) (mid ++ ids at.back) ∙ ap (λ b. mem y (ids at.front) || b) (mem-append y mid (ids at.back)) in
    ap (mem y) (ids-append at.front at.back) ∙ mem-append y (ids at.front) (ids at.back)
    ∙ outside_at (mem y (ids at.front)) (mem y mid) (mem y (ids at.back)) (sym split ∙ sym (ap (mem y) (ids_around rows n at)) ∙ there) out

outer_no_node : (rows : List NodeRow) (n y : List ℕ) → (at : Around rows n)
    → mem y (node_ids rows) ≡ false → mem y (node_ids (outer at)) ≡ false
outer_no_node rows n y at out =
    let mid = node_ids (at.root ∷ at.inner) in
    let parts = out_of_both y (node_ids at.front) (mid ++ node_ids at.back) (sym (ap (mem y) (nodes_around rows n at)) ∙ out) in
    ap (mem y) (map-append (λ (s : NodeRow). s.id) at.front at.back) ∙ mem-append y (node_ids at.front) (node_ids at.back) ∙ or_from _ _ parts.0 (out_of_both y mid (node_ids at.back) parts.1).1

-- of rows that aren't none
first_copies : {V : Type 0} (f : NodeRow → V) (g : Resource → V) → IsOwn f
    → (rows : List NodeRow) (s : Shape) (shapes : List Shape) (copies : List Resource) (y : List ℕ)
    → map shape rows ≡ s ∷ shapes → mem y (ids rows) ≡ false
    → look (entries f g (with_copies rows copies [])) y ≡ look (pool_entries g copies) y
first_copies f g own [] s shapes copies y same out = cc
first_copies f g own (r ∷ rows) s shapes copies y same out = look_copies f g own r rows copies y out

put_copied : {V : Type 0} (f : NodeRow → V) (g : Resource → V) → IsOwn f
    → (t : Job) (r : SpawnRec) (p : PartCopy) (y : List ℕ) → IsValid t.rows → IsGood t.rows r
    → Fits t r p → (at : Around t.rows r.node) → mem y (ids t.rows) ≡ true → mem y r.rw ≡ true
    → look (entries f g (rows_from p t.rows)) y ≡ look (entries f g (own_rows p)) y
put_copied f g own t r p y valid good fits at there chosen =
    let rows = t.rows in
    let put = put_around t r p valid fits at in
    let levels : ℕ = length (above rows r.node) in
    let out = copy_outside rows r y valid good at chosen in
    let no_node = copy_no_node rows r y valid good chosen in
    let no_outer = outer_no_node rows r.node y at no_node in
    let new = with_resources p.rw (outer at) in
    let copied = ap (mem y) (first_ids p.rw (resources_among r.rw rows) fits.rw) ∙ changes_ids rows r.rw y ∙ ap (λ b. b && mem y (resource_ids (resources rows))) chosen ∙ stands_as_resource rows y no_node there in
    put_outer f g own t r p y valid fits at out
    ∙ look_resource f g new y (ap (mem y) (ids_kept (pool_from p.rw) (outer at) (λ s. refl)) ∙ no_outer)
    ∙ ap (λ xs. look (pool_entries g xs) y) (resources-mapped (pool_from p.rw) (resource_from p.rw) (outer at) (λ s. refl))
    ∙ pool_taken g p.rw (resources (outer at)) y copied (stands_as_resource (outer at) y no_outer (outer_stands rows r.node y at there out))
    ∙ sym (first_copies f g own p.rows (shape (lifted_row levels at.root)) (map shape (all_lifted levels at.inner)) p.rw y put.shapes (ap (mem y) put.part ∙ out))

-- ---- the claim

claimed_at : {V : Type 0} (b : Bool) (f : NodeRow → V) (g : Resource → V) → IsOwn f
    → (t : Job) (r : SpawnRec) (p : PartCopy) (y : List ℕ) → IsValid t.rows → IsGood t.rows r
    → Fits t r p → (at : Around t.rows r.node) → mem y (ids t.rows) ≡ true
    → mem y (ids (at.root ∷ at.inner)) ≡ b → (b || mem y r.rw) ≡ true
    → look (entries f g (rows_from p t.rows)) y ≡ look (entries f g (own_rows p)) y
claimed_at true f g own t r p y valid good fits at there e claims = put_inside f g own t r p y valid good fits at e
claimed_at false f g own t r p y valid good fits at there e claims = put_copied f g own t r p y valid good fits at there claims

put_claimed : {V : Type 0} (f : NodeRow → V) (g : Resource → V) → IsOwn f
    → (t : Job) (r : SpawnRec) (p : PartCopy) (y : List ℕ) (q : Place) → IsValid t.rows
    → IsGood t.rows r → Fits t r p → (at : Around t.rows r.node)
    → place_at (places t.rows) y ≡ Some q
    → is_claimed r.node r.rw q ≡ true
    → look (entries f g (rows_from p t.rows)) y ≡ look (entries f g (own_rows p)) y
put_claimed f g own t r p y q valid good fits at found claims =
    claimed_at (mem y (ids (at.root ∷ at.inner))) f g own t r p y valid good fits at (sym (stands_somewhere t.rows y) ∙ ap is_some found) refl
    (ap (λ b. b || mem y r.rw) (stands_below t.rows r.node y q valid at found) ∙ ap (λ i. below r.node q || mem i r.rw) (sym (named (places t.rows) y q found)) ∙ claims)

merged_at : {V : Type 0} (o : Option Place) (b : Bool) (f : NodeRow → V) (g : Resource → V)
    → IsOwn f → (t : Job) (r : SpawnRec) (p : PartCopy) (y : List ℕ) → IsValid t.rows
    → IsGood t.rows r → Fits t r p → (at : Around t.rows r.node) → place_at (places t.rows) y ≡ o
    → option_map_or (is_claimed r.node r.rw) o false ≡ b
    → look (entries f g (rows_from p t.rows)) y
    ≡ cond b (look (entries f g (own_rows p)) y) (look (entries f g t.rows) y)
merged_at None true f g own t r p y valid good fits at found e = cc
merged_at (Some q) true f g own t r p y valid good fits at found e = put_claimed f g own t r p y q valid good fits at found e
merged_at o false f g own t r p y valid good fits at found e = put_unclaimed f g own t r p y valid fits at (out_of_claim o t.rows r y valid at found e)

own_row : IsOwn node_row
own_row r depth pool = refl

pub put_of_rows : PutOfRows
put_of_rows t r p time valid good fits y =
    let at = around t.rows r.node valid (good_node t.rows r good) in
    let rows = rows_from p t.rows in
    let u = parent_of t.rows r.node in
    let audit = merged_audit r time in
    let distinct = ap are_distinct (same_ids rows t.rows (put_shapes t r p valid fits at)) ∙ valid.distinct in
    let known = ap (mem u) (ids_kept (row_from p) t.rows (row_from-id p)) ∙ mem-node_ids t.rows u ∙ (above_apart t.rows r.node valid good.has_parent).1 in
    node_touched u (λ s. record s { audits = s.audits ++ audit ∷ [] }) (λ s. record s { audits = s.audits ++ audit ∷ [] }) rows y (record { id = λ s. refl; pool = λ s. refl; row = λ s. refl }) (node_no_resource u rows distinct known)
    ∙ ap (λ o. cond (bytes_eq u y) (option_map (λ (s : Row). record s { audits = s.audits ++ audit ∷ [] }) o) o)
    (merged_at (place_at (places t.rows) y) (option_map_or (is_claimed r.node r.rw) (place_at (places t.rows) y) false) node_row resource_row own_row t r p y valid good fits at refl refl)
