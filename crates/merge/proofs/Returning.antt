-- A part that fits may take the places of the ticket's rows, and the audit of its merge may be put
-- in before or after.
use Rattle.std.proofs.Common.{◌≡◌, ◌∙◌, ℕ, ◌||◌, Bool, true, false, not, cond, List, [], ◌∷◌, ◌++◌}
use Rattle.std.proofs.Common.{length, map, Option, Some, None, is_some, slice_get, refl, sym, ap}
use Rattle.std.proofs.lemmas.Bool.{true≢false, and_parts, not-true}
use Rattle.std.proofs.lemmas.Slice.Eq.{bytes_eq-Decides}
use Rattle.std.specs.List.{find, filter}
use Rattle.std.specs.Option.{option_map, option_map_or}
use Rattle.std.specs.Str.{bytes_eq}
use Rattle.ticket_items.proofs.Apart.{bytes_eq-same}
use Rattle.ticket_items.proofs.Places.{is_some-find}
use Rattle.ticket_rows.proofs.Below.{Path}
use Rattle.ticket_rows.proofs.Copies.{unreserved-copies}
use Rattle.ticket_rows.proofs.NodePlaces.{node_ids_distinct}
use Rattle.ticket_items.proofs.AtKey.{any_key}
use Rattle.ticket_rows.specs.Homes.{resource_of}
use Rattle.ticket_items.specs.Ids.{mem, are_distinct}
use Rattle.ticket_rows.specs.OneRow.{MayReplaceNode, MayReplaceResource, rows_with_audit}
use Rattle.ticket_tree.specs.Part.{PartCopy}
use Rattle.ticket_rows.specs.Copies.{with_copies}
use Rattle.ticket_items.specs.Resource.{resource_ids}
use Rattle.ticket_rows.specs.Place.{is_below, named_thing, node_places, node_thing, up}
use Rattle.ticket_rows.specs.Ticket.{Job, IsValid, are_unreserved, is_reserved, node_ids, row_of}
use Rattle.ticket_items.specs.declared.audit.Audit.{Audit}
use Rattle.ticket_items.specs.declared.node_row.NodeRow.{NodeRow}
use Rattle.ticket_items.specs.declared.resource.Resource.{Resource}
use Rattle.spawn.proofs.Among.{distinct_kept}
use Rattle.spawn.proofs.GoodCopies.{resources_apart, good_node}
use Rattle.spawn.proofs.HomesBelow.{not_above}
use Rattle.spawn.proofs.RowsBelow.{rows_below-around}
use Rattle.spawn.proofs.Outside.{some_of}
use Rattle.spawn.proofs.Split.{Around, around}
use Rattle.spawn.specs.Parts.{above, lifted_row, resources, resources_among}
use Rattle.ticket_tree.specs.At.{rows_below}
use Rattle.spawn.specs.Records.{IsGood}
use Rattle.spawn.specs.Spawning.{parent_of}
use Rattle.spawn.specs.declared.records.spawn_rec.SpawnRec.{SpawnRec}
use Rattle.merge.proofs.ParentRows.{up_is}
use Rattle.merge.proofs.Replaced.{found_key, found_mapped, unfound, resource_is, resources-mapped}
use Rattle.merge.proofs.Replaced.{resource_from-id}
use Rattle.spawn.proofs.SameCopies.{heads}
use Rattle.merge.proofs.Told.{all_lifted}
use Rattle.merge.specs.Put.{resource_from, row_from, rows_from}
use Rattle.merge.specs.Putting.{node_from, with_nodes, pool_from, with_resources}
use Rattle.merge.specs.Putting.{EachMayReplaceNode, EachMayReplaceResource, MayTakeNodes}
use Rattle.merge.specs.Putting.{MayTakeResources}
use Rattle.merge.specs.Shape.{Fits, shape}
use Rattle.merge.proofs.Lawful.{AllOwn}

-- ---- each is found by its key

other_at : (b : Bool) (x y : List ℕ) (xs : List (List ℕ)) → bytes_eq x y ≡ b → mem x xs ≡ false
    → mem y xs ≡ true → b ≡ false
other_at true x y xs e out there = absurd (true≢false (sym there ∙ ap (λ i. mem i xs) (sym ((bytes_eq-Decides x y).0 e)) ∙ out))
other_at false x y xs e out there = refl

own_all : {X : Type 0} (key : X → List ℕ) (all xs : List X)
    → ((y : List ℕ) (x : X) → find (λ z. bytes_eq (key z) y) xs ≡ Some x
    → find (λ z. bytes_eq (key z) y) all ≡ Some x)
    → are_distinct (map key xs) ≡ true → AllOwn key all xs
own_all key all [] finds apart = tt
own_all key all (x ∷ xs) finds apart =
    let parts = and_parts (not (mem (key x) (map key xs))) (are_distinct (map key xs)) apart in (
      finds (key x) x (ap (λ b. cond b (Some x) (find (λ z. bytes_eq (key z) (key x)) xs)) (bytes_eq-same (key x))),
      own_all key all xs
          (λ y s found. finds y s
          (ap (λ b. cond b (Some x) (find (λ z. bytes_eq (key z) y) xs))
          (other_at (bytes_eq (key x) y) (key x) y (map key xs) refl (not-true _ parts.0) (sym (any_key key y xs) ∙ sym (is_some-find (λ z. bytes_eq (key z) y) xs) ∙ ap is_some found))
          ∙ found))
          parts.1,
    )

own_at : {X : Type 0} (b : Bool) (key : X → List ℕ) (all : List X) (x : X) (xs : List X)
    → find (λ z. bytes_eq (key z) (key x)) all ≡ Some x → AllOwn key all xs
    → AllOwn key all (cond b (x ∷ xs) xs)
own_at true key all x xs own rest = (own, rest)
own_at false key all x xs own rest = rest

own_kept : {X : Type 0} (key : X → List ℕ) (all : List X) (f : X → Bool) (xs : List X)
    → AllOwn key all xs → AllOwn key all (filter f xs)
own_kept key all f [] own = tt
own_kept key all f (x ∷ xs) own = own_at (f x) key all x (filter f xs) own.0 (own_kept key all f xs own.1)

-- ---- nodes

pub first_ids : (news olds : List Resource) → map named_thing news ≡ map named_thing olds
    → resource_ids news ≡ resource_ids olds
first_ids [] [] e = refl
first_ids [] (y ∷ olds) e = cc
first_ids (x ∷ news) [] e = cc
first_ids (x ∷ news) (y ∷ olds) e =
    let parts = heads (named_thing x) (named_thing y) (map named_thing news) (map named_thing olds) e in
    ap (λ i. i ∷ resource_ids news) (ap (λ f. f.0) parts.0) ∙ ap (λ is. y.id ∷ is) (first_ids news olds parts.1)

one_node : (rows : List NodeRow) (levels : ℕ) (old new : NodeRow) → row_of rows old.id ≡ Some old
    → shape new ≡ shape (lifted_row levels old) → is_reserved new.status ≡ false
    → MayReplaceNode rows new
one_node rows levels old new own same free =
    record {
      old = old;
      there = ap (λ s. row_of rows s.id) same ∙ own;
      thing = ap (λ s. s.thing) same;
      resources = first_ids new.resources old.resources (ap (λ s. s.pool) same);
      status = free;
    }

each_node : (rows : List NodeRow) (levels : ℕ) (olds news : List NodeRow)
    → AllOwn (λ r. r.id) rows olds → map shape news ≡ map shape (all_lifted levels olds)
    → are_unreserved news ≡ true → EachMayReplaceNode rows news
each_node rows levels olds [] own same free = tt
each_node rows levels [] (n ∷ news) own same free = cc
each_node rows levels (o ∷ olds) (n ∷ news) own same free =
    let parts = heads (shape n) (shape (lifted_row levels o)) (map shape news) (map shape (all_lifted levels olds)) same in
    let statuses = and_parts (not (is_reserved n.status)) (are_unreserved news) free in
    (one_node rows levels o n own.0 parts.0 (not-true _ statuses.0), each_node rows levels olds news own.1 parts.1 statuses.1)

-- the nodes of a part that fits are those below the node
shape_ids : (levels : ℕ) (olds news : List NodeRow)
    → map shape news ≡ map shape (all_lifted levels olds) → node_ids news ≡ node_ids olds
shape_ids levels [] [] e = refl
shape_ids levels [] (n ∷ news) e = cc
shape_ids levels (o ∷ olds) [] e = cc
shape_ids levels (o ∷ olds) (n ∷ news) e =
    let parts = heads (shape n) (shape (lifted_row levels o)) (map shape news) (map shape (all_lifted levels olds)) e in
    ap (λ i. i ∷ node_ids news) (ap (λ s. s.id) parts.0) ∙ ap (λ is. o.id ∷ is) (shape_ids levels olds news parts.1)

pub part_ids : (t : Job) (r : SpawnRec) (p : PartCopy) → Fits t r p
    → node_ids p.rows ≡ node_ids (rows_below t.rows r.node)
part_ids t r p fits = shape_ids (length (above t.rows r.node)) (rows_below t.rows r.node) p.rows fits.rows

pub free_nodes : (t : Job) (r : SpawnRec) (p : PartCopy) → IsValid t.rows
    → are_unreserved p.rows ≡ true → Fits t r p → MayTakeNodes t.rows p.rows
free_nodes t r p valid free fits =
    let rows = t.rows in
    let below = rows_below rows r.node in
    let apart = node_ids_distinct rows valid.distinct in
    let f : NodeRow → Bool = λ s. is_below (node_places rows) s.id r.node in
    record {
      each = each_node rows (length (above rows r.node)) below p.rows (own_kept (λ s. s.id) rows f rows (own_all (λ s. s.id) rows rows (λ y x found. found) apart)) fits.rows free;
      distinct = ap are_distinct (part_ids t r p fits) ∙ distinct_kept (λ s. s.id) f rows apart;
    }

pub part_nodes : (t : Job) (r : SpawnRec) (p : PartCopy) → IsValid t.rows
    → IsValid (with_copies p.rows p.rw p.ro) → Fits t r p → MayTakeNodes t.rows p.rows
part_nodes t r p valid part_valid fits = free_nodes t r p valid (sym (unreserved-copies p.rows p.rw p.ro) ∙ part_valid.unreserved) fits

-- ---- resources

one_resource : (rows : List NodeRow) (old new : Resource)
    → find (λ z. bytes_eq z.id old.id) (resources rows) ≡ Some old → named_thing new ≡ named_thing old
    → MayReplaceResource rows new
one_resource rows old new own same =
    record {
      old = old;
      there = resource_is rows new.id ∙ ap (λ f. find (λ z. bytes_eq z.id f.0) (resources rows)) same ∙ own;
      thing = ap (λ f. f.1) same;
    }

each_resource : (rows : List NodeRow) (olds news : List Resource)
    → AllOwn (λ x. x.id) (resources rows) olds → map named_thing news ≡ map named_thing olds
    → EachMayReplaceResource rows news
each_resource rows olds [] own same = tt
each_resource rows [] (n ∷ news) own same = cc
each_resource rows (o ∷ olds) (n ∷ news) own same =
    let parts = heads (named_thing n) (named_thing o) (map named_thing news) (map named_thing olds) same in
    (one_resource rows o n own.0 parts.0, each_resource rows olds news own.1 parts.1)

pub part_copies : (t : Job) (r : SpawnRec) (p : PartCopy) → IsValid t.rows → Fits t r p
    → MayTakeResources t.rows p.rw
part_copies t r p valid fits =
    let all = resources t.rows in
    let f : Resource → Bool = λ x. mem x.id r.rw in
    let apart = resources_apart t.rows valid in
    record {
      each = each_resource t.rows (resources_among r.rw t.rows) p.rw (own_kept (λ x. x.id) all f all (own_all (λ x. x.id) all all (λ y x found. found) apart)) fits.rw;
      distinct = ap are_distinct (first_ids p.rw (resources_among r.rw t.rows) fits.rw) ∙ distinct_kept (λ x. x.id) f all apart;
    }

-- ---- a change of each row that keeps what a replacement asks for

record KeepsNodes (g : NodeRow → NodeRow) : Type 0 where
  id : (r : NodeRow) → (g r).id ≡ r.id
  thing : (r : NodeRow) → node_thing (g r) ≡ node_thing r
  pool : (r : NodeRow) → resource_ids (g r).resources ≡ resource_ids r.resources

node_kept : (g : NodeRow → NodeRow) (rows : List NodeRow) (x : NodeRow) → KeepsNodes g
    → MayReplaceNode rows x → MayReplaceNode (map g rows) x
node_kept g rows x keeps may =
    record {
      old = g may.old;
      there = found_mapped (λ r. r.id) g rows x.id keeps.id ∙ ap (option_map g) may.there;
      thing = may.thing ∙ sym (keeps.thing may.old);
      resources = may.resources ∙ sym (keeps.pool may.old);
      status = may.status;
    }

each_kept : (g : NodeRow → NodeRow) (rows new : List NodeRow) → KeepsNodes g
    → EachMayReplaceNode rows new → EachMayReplaceNode (map g rows) new
each_kept g rows [] keeps each = tt
each_kept g rows (x ∷ new) keeps each = (node_kept g rows x keeps each.0, each_kept g rows new keeps each.1)

same_ids : (new pool : List Resource)
    → resource_ids (map (resource_from new) pool) ≡ resource_ids pool
same_ids new [] = refl
same_ids new (x ∷ pool) = ap (λ i. i ∷ resource_ids (map (resource_from new) pool)) (resource_from-id new x) ∙ ap (λ is. x.id ∷ is) (same_ids new pool)

-- nodes may still take their places when resources have
pub nodes_behind_resources : (rows : List NodeRow) (copies : List Resource) (new : List NodeRow)
    → MayTakeNodes rows new → MayTakeNodes (with_resources copies rows) new
nodes_behind_resources rows copies new may =
    record {
      each = each_kept (pool_from copies) rows new (record { id = λ r. refl; thing = λ r. refl; pool = λ r. same_ids copies r.resources }) may.each;
      distinct = may.distinct;
    }

-- ---- an audit more

abbrev more : Audit → NodeRow → NodeRow
more audit r = record r { audits = r.audits ++ audit ∷ [] }

abbrev told : List ℕ → Audit → NodeRow → NodeRow
told n audit r = cond (bytes_eq r.id n) (more audit r) r

keeps_told : (n : List ℕ) (audit : Audit) → KeepsNodes (told n audit)
keeps_told n audit =
    record {
      id = λ r. same (λ s. s.id) (bytes_eq r.id n) (more audit r) r refl;
      thing = λ r. same node_thing (bytes_eq r.id n) (more audit r) r refl;
      pool = λ r. same (λ s. resource_ids s.resources) (bytes_eq r.id n) (more audit r) r refl;
    }
  where
    same : {Y : Type 0} (h : NodeRow → Y) (b : Bool) (s r : NodeRow) → h s ≡ h r → h (cond b s r) ≡ h r
    same h true s r e = e
    same h false s r e = refl

pub nodes_told : (n : List ℕ) (audit : Audit) (rows new : List NodeRow) → MayTakeNodes rows new
    → MayTakeNodes (rows_with_audit n audit rows) new
nodes_told n audit rows new may = record { each = each_kept (told n audit) rows new (keeps_told n audit) may.each; distinct = may.distinct }

pool_told : (b : Bool) (audit : Audit) (r : NodeRow)
    → (cond b (more audit r) r).resources ≡ r.resources
pool_told true audit r = refl
pool_told false audit r = refl

same_map : (pool : List Resource) → map (λ x. x) pool ≡ pool
same_map [] = refl
same_map (x ∷ pool) = ap (λ xs. x ∷ xs) (same_map pool)

same_resources : (n : List ℕ) (audit : Audit) (rows : List NodeRow)
    → resources (rows_with_audit n audit rows) ≡ resources rows
same_resources n audit rows = resources-mapped (told n audit) (λ x. x) rows (λ r. pool_told (bytes_eq r.id n) audit r ∙ sym (same_map r.resources)) ∙ same_map (resources rows)

resource_told : (n : List ℕ) (audit : Audit) (rows : List NodeRow) (y : List ℕ)
    → resource_of (rows_with_audit n audit rows) y ≡ resource_of rows y
resource_told n audit rows y = resource_is (rows_with_audit n audit rows) y ∙ ap (find (λ x. bytes_eq x.id y)) (same_resources n audit rows) ∙ sym (resource_is rows y)

each_resource_told : (n : List ℕ) (audit : Audit) (rows : List NodeRow) (new : List Resource)
    → EachMayReplaceResource rows new → EachMayReplaceResource (rows_with_audit n audit rows) new
each_resource_told n audit rows [] each = tt
each_resource_told n audit rows (x ∷ new) each =
    (record { old = each.0.old; there = resource_told n audit rows x.id ∙ each.0.there; thing = each.0.thing }, each_resource_told n audit rows new each.1)

pub copies_told : (n : List ℕ) (audit : Audit) (rows : List NodeRow) (new : List Resource)
    → MayTakeResources rows new → MayTakeResources (rows_with_audit n audit rows) new
copies_told n audit rows new may = record { each = each_resource_told n audit rows new may.each; distinct = may.distinct }

-- ---- the audit stands outside of the part

put_at : (b : Bool) (n : List ℕ) (audit : Audit) (p : PartCopy) (r : NodeRow) → bytes_eq r.id n ≡ b
    → row_of p.rows n ≡ None
    → node_from p.rows (pool_from p.rw (cond b (more audit r) r))
    ≡ cond b (more audit (row_from p r)) (row_from p r)
put_at true n audit p r e none =
    let out : row_of p.rows r.id ≡ None = ap (row_of p.rows) ((bytes_eq-Decides r.id n).0 e) ∙ none in
    ap (λ o. option_map_or (λ (x : NodeRow). record x { depth = r.depth }) o (pool_from p.rw (more audit r))) out
    ∙ sym (ap (λ o. more audit (option_map_or (λ (x : NodeRow). record x { depth = r.depth }) o (pool_from p.rw r))) out)
put_at false n audit p r e none = refl

row_id : (r : NodeRow) (pool : List Resource) (o : Option NodeRow)
    → ((x : NodeRow) → o ≡ Some x → x.id ≡ r.id)
    → (option_map_or (λ (x : NodeRow). record x { depth = r.depth }) o
    (record r { resources = pool })).id
    ≡ r.id
row_id r pool None same = refl
row_id r pool (Some x) same = same x refl

pub row_from-id : (p : PartCopy) (r : NodeRow) → (row_from p r).id ≡ r.id
row_from-id p r = row_id r (map (resource_from p.rw) r.resources) (row_of p.rows r.id) (λ x found. found_key (λ z. z.id) p.rows r.id x found)

pub put_told : (n : List ℕ) (audit : Audit) (p : PartCopy) (rows : List NodeRow)
    → row_of p.rows n ≡ None
    → with_nodes p.rows (with_resources p.rw (rows_with_audit n audit rows))
    ≡ rows_with_audit n audit (rows_from p rows)
put_told n audit p [] none = refl
put_told n audit p (r ∷ rows) none =
    ap (λ s. s ∷ with_nodes p.rows (with_resources p.rw (rows_with_audit n audit rows)))
    (put_at (bytes_eq r.id n) n audit p r refl none ∙ ap (λ i. cond (bytes_eq i n) (more audit (row_from p r)) (row_from p r)) (sym (row_from-id p r)))
    ∙ ap (λ rs. told n audit (row_from p r) ∷ rs) (put_told n audit p rows none)

in_front : (u : List ℕ) (path : Path) → slice_get path 0 ≡ Some u → mem u path ≡ true
in_front u [] e = cc
in_front u (x ∷ path) e = ap (λ b. b || mem u path) (ap (λ o. bytes_eq (option_map_or (λ i. i) o x) u) e ∙ bytes_eq-same u)

out_by : (b : Bool) (rows : List NodeRow) (n u : List ℕ) → IsValid rows → (at : Around rows n)
    → mem u (node_ids (at.root ∷ at.inner)) ≡ b → mem u at.up ≡ true → b ≡ false
out_by false rows n u valid at e above = refl
out_by true rows n u valid at e above = absurd (true≢false (sym above ∙ not_above rows n u valid at e))

-- the parent of the node isn't in the part
pub parent_out : (t : Job) (r : SpawnRec) (p : PartCopy) (u : List ℕ) → IsValid t.rows
    → (at : Around t.rows r.node) → Fits t r p → up (node_places t.rows) r.node ≡ Some u
    → row_of p.rows u ≡ None
parent_out t r p u valid at fits above =
    let on = in_front u at.up (sym (up_is t.rows r.node valid at) ∙ above) in
    let ids = part_ids t r p fits ∙ ap node_ids (rows_below-around t.rows r.node valid at) in
    unfound (λ s. s.id) p.rows u (ap (mem u) ids ∙ out_by (mem u (node_ids (at.root ∷ at.inner))) t.rows r.node u valid at refl on)

pub parent_of_out : (t : Job) (r : SpawnRec) (p : PartCopy) → IsValid t.rows → IsGood t.rows r
    → Fits t r p → row_of p.rows (parent_of t.rows r.node) ≡ None
parent_of_out t r p valid good fits =
    let found = some_of (up (node_places t.rows) r.node) good.has_parent in
    ap (row_of p.rows) (ap (λ o. option_map_or (λ u. u) o []) found.1) ∙ parent_out t r p found.0 valid (around t.rows r.node valid (good_node t.rows r good)) fits found.1
