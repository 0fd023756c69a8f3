-- A part that fits moves nothing as it is put back.
use Rattle.std.proofs.Common.{◌≡◌, ◌∙◌, ℕ, ◌-◌, ◌||◌, Bool, true, false, cond, List, [], ◌∷◌, ◌++◌}
use Rattle.std.proofs.Common.{length, map, Option, Some, None, refl, sym, ap, subst, append_assoc}
use Rattle.std.proofs.lemmas.List.{map-append}
use Rattle.std.specs.List.{find}
use Rattle.std.specs.Option.{option_map, option_map_or}
use Rattle.std.specs.Str.{bytes_eq}
use Rattle.ticket_items.proofs.Apart.{bytes_eq-same}
use Rattle.ticket_items.specs.Ids.{mem, are_distinct}
use Rattle.ticket_rows.proofs.Below.{Path}
use Rattle.ticket_rows.proofs.NodePlaces.{node_ids_distinct}
use Rattle.ticket_rows.specs.Place.{Place, Thing, node_place, resource_place, places_from, places}
use Rattle.ticket_rows.specs.Place.{last_of, named_thing, path_of}
use Rattle.ticket_rows.specs.Ticket.{Job, IsValid, ids, node_ids, row_of}
use Rattle.ticket_tree.proofs.OnPlaces.{ids_of_places}
use Rattle.ticket_tree.proofs.PlainOneRow.{append_of_places}
use Rattle.ticket_tree.specs.Part.{PartCopy}
use Rattle.ticket_items.specs.declared.node_row.NodeRow.{NodeRow}
use Rattle.ticket_items.specs.declared.resource.Resource.{Resource}
use Rattle.spawn.proofs.Among.{AreApart, apart_lists, distinct_back, distinct_front, out_of_both}
use Rattle.spawn.proofs.Chosen.{resources-append, resources_cons}
use Rattle.spawn.proofs.Entries.{IsOwn, entries, entries_of, find_kept, pool_entries}
use Rattle.spawn.proofs.GoodCopies.{good_node, resources_apart}
use Rattle.spawn.proofs.HomesBelow.{nodes_around, or_right}
use Rattle.spawn.proofs.Lifting.{ids_lifted}
use Rattle.spawn.proofs.PartShows.{not_both}
use Rattle.spawn.proofs.RowsBelow.{rows_below-around}
use Rattle.spawn.proofs.Split.{Around, around}
use Rattle.plain_shop.specs.Claim.{ids_of}
use Rattle.spawn.specs.Parts.{above, lifted_row, resources, resources_among}
use Rattle.spawn.specs.Spawning.{parent_of}
use Rattle.spawn.specs.declared.records.spawn_rec.SpawnRec.{SpawnRec}
use Rattle.merge.proofs.Lawful.{AllOwn, all_own, by_id, own_back, own_front}
use Rattle.merge.proofs.Replaced.{unfound}
use Rattle.merge.proofs.Returning.{part_ids}
use Rattle.spawn.proofs.SameCopies.{heads}
use Rattle.merge.proofs.Told.{all_lifted}
use Rattle.merge.specs.Laws.{PutOfPlaces}
use Rattle.merge.specs.Put.{merged_audit, resource_from, row_from, rows_from}
use Rattle.merge.specs.Putting.{pool_from, with_resources}
use Rattle.merge.specs.Shape.{Fits, Shape, shape}

-- ---- where rows of one shape stand

abbrev fixed_place : Path → List ℕ × Thing → Place
fixed_place path f = record { id = f.0; path = path; thing = f.1 }

abbrev shape_path : Path → Shape → Path
shape_path before s = s.id ∷ last_of (s.depth - 1) before

abbrev shape_places : Path → List Shape → List Place
shape_places before [] = []
shape_places before (s ∷ shapes) = record { id = s.id; path = shape_path before s; thing = s.thing } ∷ (map (fixed_place (shape_path before s)) s.pool ++ shape_places (shape_path before s) shapes)

pool_places : (path : Path) (pool : List Resource)
    → map (resource_place path) pool ≡ map (fixed_place path) (map named_thing pool)
pool_places path [] = refl
pool_places path (x ∷ pool) = ap (λ ps. resource_place path x ∷ ps) (pool_places path pool)

places_by_shape : (before : Path) (rows : List NodeRow)
    → places_from before rows ≡ shape_places before (map shape rows)
places_by_shape before [] = refl
places_by_shape before (r ∷ rows) =
    let path = path_of before r in
    ap (λ ps. node_place r path ∷ (ps ++ places_from path rows)) (pool_places path r.resources) ∙ ap (λ ps. node_place r path ∷ (map (fixed_place path) (map named_thing r.resources) ++ ps)) (places_by_shape path rows)

pub same_places : (xs ys : List NodeRow) → map shape xs ≡ map shape ys → places xs ≡ places ys
same_places xs ys e = places_by_shape [] xs ∙ ap (shape_places []) e ∙ sym (places_by_shape [] ys)

pub same_ids : (xs ys : List NodeRow) → map shape xs ≡ map shape ys → ids xs ≡ ids ys
same_ids xs ys e = sym (ids_of_places [] xs) ∙ ap ids_of (same_places xs ys e) ∙ ids_of_places [] ys

-- ---- rows outside the part: their resources may be the part's

pub outside_put : (p : PartCopy) (rows : List NodeRow) → AreApart (node_ids rows) (node_ids p.rows)
    → map (row_from p) rows ≡ with_resources p.rw rows
outside_put p [] apart = refl
outside_put p (r ∷ rows) apart =
    let none : row_of p.rows r.id ≡ None = unfound (λ s. s.id) p.rows r.id (apart r.id (ap (λ b. b || mem r.id (node_ids rows)) (bytes_eq-same r.id))) in
    ap (λ o. option_map_or (λ (new : NodeRow). record new { depth = r.depth }) o (pool_from p.rw r) ∷ map (row_from p) rows) none
    ∙ ap (λ rs. pool_from p.rw r ∷ rs) (outside_put p rows (λ x there. apart x (or_right (bytes_eq r.id x) (mem x (node_ids rows)) there)))

mapped_at : {X : Type 0} (b : Bool) (x : Resource) (o : Option Resource) (f : Resource → X)
    (later : Option X)
    → option_map f o ≡ later → option_map f (cond b (Some x) o) ≡ cond b (Some (f x)) later
mapped_at true x o f later e = refl
mapped_at false x o f later e = e

found_fixed : (xs : List Resource) (y : List ℕ)
    → option_map named_thing (find (λ x. bytes_eq x.id y) xs) ≡ find (λ f. bytes_eq f.0 y) (map named_thing xs)
found_fixed [] y = refl
found_fixed (x ∷ xs) y = mapped_at (bytes_eq x.id y) x (find (λ z. bytes_eq z.id y) xs) named_thing (find (λ f. bytes_eq f.0 y) (map named_thing xs)) (found_fixed xs y)

fixed_at : (b : Bool) (o : Option Resource) (x : Resource)
    → option_map named_thing o ≡ option_map named_thing (cond b (Some x) None)
    → named_thing (option_map_or (λ y. y) o x) ≡ named_thing x
fixed_at b None x e = refl
fixed_at true (Some y) x e = ap (λ o. option_map_or (λ f. f) o (named_thing x)) e
fixed_at false (Some y) x e = cc

-- what of the resources never changes is the same in the part
pool_fixed : (t : Job) (r : SpawnRec) (p : PartCopy) (pool : List Resource) → Fits t r p
    → AllOwn by_id (resources t.rows) pool
    → map named_thing (map (resource_from p.rw) pool) ≡ map named_thing pool
pool_fixed t r p [] fits own = refl
pool_fixed t r p (x ∷ pool) fits own =
    let all = resources t.rows in
    let found = found_fixed p.rw x.id ∙ ap (find (λ f. bytes_eq f.0 x.id)) fits.rw ∙ sym (found_fixed (resources_among r.rw t.rows) x.id)
    ∙ ap (option_map named_thing) (find_kept by_id (λ i. mem i r.rw) x.id all ∙ ap (λ o. cond (mem x.id r.rw) o None) own.0) in
    ap (λ f. f ∷ map named_thing (map (resource_from p.rw) pool)) (fixed_at (mem x.id r.rw) (find (λ y. bytes_eq y.id x.id) p.rw) x found) ∙ ap (λ fs. named_thing x ∷ fs) (pool_fixed t r p pool fits own.1)

outside_shapes : (t : Job) (r : SpawnRec) (p : PartCopy) (rows : List NodeRow) → Fits t r p
    → AllOwn by_id (resources t.rows) (resources rows)
    → map shape (with_resources p.rw rows) ≡ map shape rows
outside_shapes t r p [] fits own = refl
outside_shapes t r p (s ∷ rows) fits own =
    let all = resources t.rows in
    let both = subst (AllOwn by_id all) (resources_cons s rows) own in
    ap (λ (pool : List (List ℕ × Thing)). record (shape s) { pool = pool } ∷ map shape (with_resources p.rw rows)) (pool_fixed t r p s.resources fits (own_front by_id all s.resources (resources rows) both))
    ∙ ap (λ ss. shape s ∷ ss) (outside_shapes t r p rows fits (own_back by_id all s.resources (resources rows) both))

-- ---- rows of the part: they are put in whole, at the depths that were there

abbrev pub deepened : List NodeRow → List NodeRow → List NodeRow
deepened [] news = []
deepened (o ∷ olds) [] = []
deepened (o ∷ olds) (n ∷ news) = record n { depth = o.depth } ∷ deepened olds news

inside_put : (p : PartCopy) (levels : ℕ) (olds news : List NodeRow)
    → AllOwn (λ (s : NodeRow). s.id) p.rows news
    → map shape news ≡ map shape (all_lifted levels olds)
    → map (row_from p) olds ≡ deepened olds news
inside_put p levels [] news own same = refl
inside_put p levels (o ∷ olds) [] own same = cc
inside_put p levels (o ∷ olds) (n ∷ news) own same =
    let parts = heads (shape n) (shape (lifted_row levels o)) (map shape news) (map shape (all_lifted levels olds)) same in
    let found : row_of p.rows o.id ≡ Some n = ap (λ s. row_of p.rows s.id) (sym parts.0) ∙ own.0 in
    ap (λ q. option_map_or (λ (new : NodeRow). record new { depth = o.depth }) q (pool_from p.rw o) ∷ map (row_from p) olds) found
    ∙ ap (λ rs. record n { depth = o.depth } ∷ rs) (inside_put p levels olds news own.1 parts.1)

pub deep_entries : {V : Type 0} (f : NodeRow → V) (g : Resource → V) → IsOwn f
    → (levels : ℕ) (olds news : List NodeRow) → map shape news ≡ map shape (all_lifted levels olds)
    → entries f g (deepened olds news) ≡ entries f g news
deep_entries f g own levels [] [] same = refl
deep_entries f g own levels [] (n ∷ news) same = cc
deep_entries f g own levels (o ∷ olds) [] same = refl
deep_entries f g own levels (o ∷ olds) (n ∷ news) same =
    let parts = heads (shape n) (shape (lifted_row levels o)) (map shape news) (map shape (all_lifted levels olds)) same in
    ap (λ v. ((n.id, v) ∷ pool_entries g n.resources) ++ entries f g (deepened olds news)) (own n o.depth n.resources) ∙ ap (λ ls. entries_of f g n ++ ls) (deep_entries f g own levels olds news parts.1)

deep_shapes : (levels : ℕ) (olds news : List NodeRow)
    → map shape news ≡ map shape (all_lifted levels olds)
    → map shape (deepened olds news) ≡ map shape olds
deep_shapes levels [] news same = refl
deep_shapes levels (o ∷ olds) [] same = cc
deep_shapes levels (o ∷ olds) (n ∷ news) same =
    let parts = heads (shape n) (shape (lifted_row levels o)) (map shape news) (map shape (all_lifted levels olds)) same in
    ap (λ (s : Shape). record s { depth = o.depth } ∷ map shape (deepened olds news)) parts.0 ∙ ap (λ ss. shape o ∷ ss) (deep_shapes levels olds news parts.1)

-- ---- the rows around the node

-- the rows of a ticket at the node of a spawn, when a part is put back
pub record PutAround (t : Job) (r : SpawnRec) (p : PartCopy)
    (at : Around t.rows r.node) : Type 0 where
  pub shapes : map shape p.rows ≡ map shape (all_lifted (length (above t.rows r.node)) (at.root ∷ at.inner))
  pub split : rows_from p t.rows ≡ with_resources p.rw at.front ++ (deepened (at.root ∷ at.inner) p.rows ++ with_resources p.rw at.back)
  pub front : map shape (with_resources p.rw at.front) ≡ map shape at.front
  pub back : map shape (with_resources p.rw at.back) ≡ map shape at.back
  pub part : ids p.rows ≡ ids (at.root ∷ at.inner)

apart_back : (xs ys : List (List ℕ)) → are_distinct (xs ++ ys) ≡ true → AreApart ys xs
apart_back xs ys apart x there = not_both (mem x xs) (mem x ys) (λ first. apart_lists x xs ys apart first) there

pub put_around : (t : Job) (r : SpawnRec) (p : PartCopy) → IsValid t.rows → Fits t r p
    → (at : Around t.rows r.node) → PutAround t r p at
put_around t r p valid fits at =
    let rows = t.rows in
    let n = r.node in
    let mid = at.root ∷ at.inner in
    let levels : ℕ = length (above rows n) in
    let all = resources rows in
    let shapes : map shape p.rows ≡ map shape (all_lifted levels mid) = fits.rows ∙ ap (λ rs. map shape (all_lifted levels rs)) (rows_below-around rows n valid at) in
    let nodes : node_ids p.rows ≡ node_ids mid = part_ids t r p fits ∙ ap node_ids (rows_below-around rows n valid at) in
    let distinct = node_ids_distinct rows valid.distinct in
    let apart : are_distinct (node_ids at.front ++ (node_ids mid ++ node_ids at.back)) ≡ true = ap are_distinct (sym (nodes_around rows n at)) ∙ distinct in
    let later = distinct_back (node_ids at.front) (node_ids mid ++ node_ids at.back) apart in
    let own_part = all_own (λ (s : NodeRow). s.id) p.rows p.rows (λ y s found. found) (ap are_distinct nodes ∙ distinct_front (node_ids mid) (node_ids at.back) later) in
    let own_pools = subst (AllOwn by_id all) (ap resources (at.whole ∙ append_assoc at.front mid at.back) ∙ resources-append at.front (mid ++ at.back) ∙ ap (λ xs. resources at.front ++ xs) (resources-append mid at.back))
    (all_own by_id all all (λ y x found. found) (resources_apart rows valid)) in
    let own_later = own_back by_id all (resources at.front) (resources mid ++ resources at.back) own_pools in
    record {
      shapes = shapes;
      split = ap (map (row_from p)) (at.whole ∙ append_assoc at.front mid at.back) ∙ map-append (row_from p) at.front (mid ++ at.back)
          ∙ ap (λ rs. rs ++ map (row_from p) (mid ++ at.back))
          (outside_put p at.front (λ x there. ap (mem x) nodes ∙ (out_of_both x (node_ids mid) (node_ids at.back) (apart_lists x (node_ids at.front) (node_ids mid ++ node_ids at.back) apart there)).0))
          ∙ ap (λ rs. with_resources p.rw at.front ++ rs)
          (map-append (row_from p) mid at.back ∙ ap (λ rs. rs ++ map (row_from p) at.back) (inside_put p levels mid p.rows own_part shapes)
          ∙ ap (λ rs. deepened mid p.rows ++ rs) (outside_put p at.back (λ x there. ap (mem x) nodes ∙ apart_back (node_ids mid) (node_ids at.back) later x there)));
      front = outside_shapes t r p at.front fits (own_front by_id all (resources at.front) (resources mid ++ resources at.back) own_pools);
      back = outside_shapes t r p at.back fits (own_back by_id all (resources mid) (resources at.back) own_later);
      part = same_ids p.rows (all_lifted levels mid) shapes ∙ ids_lifted levels mid;
    }

pub put_shapes : (t : Job) (r : SpawnRec) (p : PartCopy) → IsValid t.rows → Fits t r p
    → (at : Around t.rows r.node) → map shape (rows_from p t.rows) ≡ map shape t.rows
put_shapes t r p valid fits at =
    let put = put_around t r p valid fits at in
    let mid = at.root ∷ at.inner in
    let front' = with_resources p.rw at.front in
    let back' = with_resources p.rw at.back in
    ap (map shape) put.split ∙ map-append shape front' (deepened mid p.rows ++ back')
    ∙ ap (λ ss. ss ++ map shape (deepened mid p.rows ++ back')) put.front
    ∙ ap (λ ss. map shape at.front ++ ss) (map-append shape (deepened mid p.rows) back' ∙ ap (λ ss. ss ++ map shape back') (deep_shapes (length (above t.rows r.node)) mid p.rows put.shapes) ∙ ap (λ ss. map shape mid ++ ss) put.back)
    ∙ sym (ap (map shape) (at.whole ∙ append_assoc at.front mid at.back) ∙ map-append shape at.front (mid ++ at.back) ∙ ap (λ ss. map shape at.front ++ ss) (map-append shape mid at.back))

-- nothing moves
places_put : (t : Job) (r : SpawnRec) (p : PartCopy) → IsValid t.rows → Fits t r p
    → Around t.rows r.node → places (rows_from p t.rows) ≡ places t.rows
places_put t r p valid fits at = same_places (rows_from p t.rows) t.rows (put_shapes t r p valid fits at)

pub put_of_places : PutOfPlaces
put_of_places t r p time valid good fits =
    append_of_places (parent_of t.rows r.node) (merged_audit r time) (rows_from p t.rows) ∙ places_put t r p valid fits (around t.rows r.node valid (good_node t.rows r good))
