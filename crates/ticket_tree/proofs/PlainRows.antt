-- Each act on the rows, seen on the rows by id.
use Rattle.std.proofs.Common.{◌≡◌, ℕ, suc, ◌||◌, Bool, true, false, cond, List, [], ◌∷◌, ◌++◌}
use Rattle.std.proofs.Common.{map, Option, Some, None, refl, sym, ap, ◌∙◌, append_assoc}
use Rattle.std.proofs.lemmas.Bool.{true≢false, and_parts, or_parts, not-true}
use Rattle.std.proofs.lemmas.List.{map-append}
use Rattle.std.proofs.lemmas.Grind.{flat_map-append}
use Rattle.std.proofs.lemmas.Slice.Eq.{bytes_eq-Decides}
use Rattle.std.specs.List.{find, list_any}
use Rattle.std.specs.Option.{option_map}
use Rattle.std.specs.Str.{bytes_eq}
use Rattle.ticket_items.proofs.Apart.{mem-append, bytes_eq-symm}
use Rattle.ticket_rows.proofs.AtHome.{holds, any-map}
use Rattle.ticket_items.proofs.AtKey.{at_key-none}
use Rattle.ticket_tree.proofs.ById.{Line, row_at, line_cond, keys_of_pool, row_at-touched, pool_ids}
use Rattle.ticket_tree.proofs.ById.{resource_ids, node_no_resource, resource_no_node, ChangesAs}
use Rattle.ticket_tree.proofs.ById.{rows_by_id-with_resource, rows_by_id-with_row}
use Rattle.ticket_rows.proofs.Growing.{add_link, kept_here}
use Rattle.ticket_rows.proofs.NewNode.{has_child, child_walk, walked_child}
use Rattle.ticket_rows.proofs.NewResource.{add_resource}
use Rattle.ticket_rows.proofs.NodePlaces.{node_ids_distinct}
use Rattle.ticket_tree.proofs.OnPlaces.{has_resource-any}
use Rattle.ticket_rows.proofs.Reasons.{node_among, target_known, resource_new, child_new}
use Rattle.ticket_items.specs.Act.{Act, NodeChange, ResourceChange, NodeAddition, act_of}
use Rattle.ticket_items.specs.Act.{NewNode, NewResource, NewLink}
use Rattle.ticket_rows.specs.Edit.{with_row, with_resource, act_rows, bare_row, lookups}
use Rattle.ticket_rows.specs.Edit.{changed_node, changed_resource}
use Rattle.ticket_rows.specs.EditRefusal.{act_refusal}
use Rattle.ticket_rows.specs.Homes.{has_resource}
use Rattle.ticket_items.specs.Ids.{mem, are_distinct}
use Rattle.ticket_tree.specs.Laws.{EditOfRows}
use Rattle.ticket_rows.specs.Place.{Row, node_row, resource_row, row_in, rows_by_id, rows_by_id_of}
use Rattle.ticket_tree.specs.PlainEdit.{act_rows_by_id, changed_row, changed_resource_row}
use Rattle.ticket_tree.specs.PlainEdit.{with_line, with_row_changed}
use Rattle.ticket_rows.specs.Ticket.{IsValid, has_node, ids, ids_of, node_ids}
use Rattle.ticket_items.specs.declared.node_row.NodeRow.{NodeRow}
use Rattle.ticket_items.specs.declared.resource.Resource.{Resource}

-- ---- one line more

swap : (a b : Bool) (m l : Row) (o : Option Row) → (a ≡ true → b ≡ false)
    → cond a (Some m) (cond b (Some l) o) ≡ cond b (Some l) (cond a (Some m) o)
swap true true m l o apart = absurd (true≢false (apart refl))
swap true false m l o apart = refl
swap false b m l o apart = refl

row_at-grown : (front : List Line) (l : Line) (back : List Line) (y : List ℕ)
    → mem l.0 (map (λ k. k.0) (front ++ back)) ≡ false
    → row_at (front ++ l ∷ back) y ≡ with_line l.0 l.1 (row_at (front ++ back)) y
row_at-grown [] l back y out = line_cond (bytes_eq l.0 y) l (find (λ k. bytes_eq k.0 y) back)
row_at-grown (m ∷ front) l back y out =
    let parts = or_parts (bytes_eq m.0 l.0) _ out in
    line_cond (bytes_eq m.0 y) m (find (λ k. bytes_eq k.0 y) (front ++ l ∷ back))
    ∙ ap (λ o. cond (bytes_eq m.0 y) (Some m.1) o) (row_at-grown front l back y parts.1)
    ∙ swap (bytes_eq m.0 y) (bytes_eq l.0 y) m.1 l.1 (row_at (front ++ back) y) (λ here. ap (bytes_eq l.0) (sym ((bytes_eq-Decides m.0 y).0 here)) ∙ bytes_eq-symm l.0 m.0 ∙ parts.0)
    ∙ ap (λ o. cond (bytes_eq l.0 y) (Some l.1) o) (sym (line_cond (bytes_eq m.0 y) m (find (λ k. bytes_eq k.0 y) (front ++ back))))

-- the lines have the ids of the rows
pub keys_of_lines : (rows : List NodeRow) → map (λ l. l.0) (rows_by_id rows) ≡ ids rows
keys_of_lines [] = refl
keys_of_lines (r ∷ rows) =
    map-append (λ l. l.0) (rows_by_id_of r) (rows_by_id rows) ∙ ap (λ is. (r.id ∷ is) ++ map (λ l. l.0) (rows_by_id rows)) (keys_of_pool r.resources) ∙ ap (λ is. ids_of r ++ is) (keys_of_lines rows)

grown : (old new : List Line) (l : Line) (front back : List Line) (y : List ℕ) → old ≡ front ++ back
    → new ≡ front ++ l ∷ back → mem l.0 (map (λ k. k.0) old) ≡ false
    → row_at new y ≡ with_line l.0 l.1 (row_at old) y
grown old new l front back y was now out =
    ap (λ ls. row_at ls y) now ∙ row_at-grown front l back y (ap (λ ls. mem l.0 (map (λ k. k.0) ls)) (sym was) ∙ out) ∙ ap (λ ls. with_line l.0 l.1 (row_at ls) y) (sym was)

-- ---- a new resource

abbrev LinesGrow : Line → List Line → List Line → Type 0
LinesGrow l old new = (front : List Line) × (back : List Line) × (old ≡ front ++ back) × (new ≡ front ++ l ∷ back)

grow_row : (b : Bool) (n : List ℕ) (x : Resource) (r : NodeRow) (rows : List NodeRow)
    → bytes_eq r.id n ≡ b → mem r.id (node_ids rows) ≡ false → (b || mem n (node_ids rows)) ≡ true
    → (mem n (node_ids rows) ≡ true
    → LinesGrow (x.id, resource_row x) (rows_by_id rows) (rows_by_id (with_row n (add_resource x) rows)))
    → LinesGrow (x.id, resource_row x) (rows_by_id (r ∷ rows))
    (rows_by_id_of (cond b (add_resource x r) r) ++ rows_by_id (with_row n (add_resource x) rows))
grow_row true n x r rows e alone there go =
    let named : r.id ≡ n = (bytes_eq-Decides r.id n).0 e in
    let same : with_row n (add_resource x) rows ≡ rows = at_key-none (λ s. s.id) n (add_resource x) rows (ap (λ y. mem y (node_ids rows)) (sym named) ∙ alone) in (
      rows_by_id_of r,
      rows_by_id rows,
      refl,
      ap (λ rs. rows_by_id_of (add_resource x r) ++ rows_by_id rs) same ∙ ap (λ ls. ((r.id, node_row r) ∷ ls) ++ rows_by_id rows) (map-append (λ (y : Resource). (y.id, resource_row y)) r.resources (x ∷ []))
          ∙ append_assoc (rows_by_id_of r) ((x.id, resource_row x) ∷ []) (rows_by_id rows),
    )
grow_row false n x r rows e alone there go =
    let h = go there in
    (rows_by_id_of r ++ h.0, h.1, ap (λ ls. rows_by_id_of r ++ ls) h.2 ∙ sym (append_assoc (rows_by_id_of r) h.0 h.1), ap (λ ls. rows_by_id_of r ++ ls) h.3 ∙ sym (append_assoc (rows_by_id_of r) h.0 ((x.id, resource_row x) ∷ h.1)))

resource_grows : (n : List ℕ) (x : Resource) (rows : List NodeRow)
    → are_distinct (node_ids rows) ≡ true → mem n (node_ids rows) ≡ true
    → LinesGrow (x.id, resource_row x) (rows_by_id rows) (rows_by_id (with_row n (add_resource x) rows))
resource_grows n x [] apart there = absurd (true≢false (sym there))
resource_grows n x (r ∷ rows) apart there =
    let parts = and_parts _ _ apart in
    grow_row (bytes_eq r.id n) n x r rows refl (not-true _ parts.0) there (λ later. resource_grows n x rows parts.1 later)

-- ---- a new node

node_grows : (x id kind job_part status : List ℕ) (rows : List NodeRow) → has_node rows x ≡ true
    → LinesGrow (id, record { status = status; attrs = []; audits = [] }) (rows_by_id rows)
    (rows_by_id (child_walk x (bare_row id kind job_part status) rows))
node_grows x id kind job_part status rows there =
    let h = has_child x (bare_row id kind job_part status) rows there in
    let n : NodeRow = bare_row id kind job_part status (suc h.0.depth) in
    (rows_by_id h.2.0, rows_by_id h.2.1, ap rows_by_id h.2.2 ∙ flat_map-append rows_by_id_of h.2.0 h.2.1, ap rows_by_id h.2.3 ∙ flat_map-append rows_by_id_of h.2.0 (n ∷ h.2.1))

-- ---- a new link

link_lines : (n : List ℕ) (rows : List NodeRow) (f : NodeRow → NodeRow)
    → ((r : NodeRow) → rows_by_id_of (f r) ≡ rows_by_id_of r) → rows_by_id (with_row n f rows) ≡ rows_by_id rows
link_lines n [] f same = refl
link_lines n (r ∷ rows) f same = ap (λ ls. ls ++ rows_by_id (with_row n f rows)) (kept_here (bytes_eq r.id n) rows_by_id_of f r (same r)) ∙ ap (λ ls. rows_by_id_of r ++ ls) (link_lines n rows f same)

touch_nothing : (b : Bool) (o : Option Row) → o ≡ cond b (option_map (λ r. r) o) o
touch_nothing true None = refl
touch_nothing true (Some r) = refl
touch_nothing false o = refl

-- ---- nodes are no resources

pub mem-resource_ids : (x : List ℕ) (rows : List NodeRow)
    → mem x (resource_ids rows) ≡ list_any (holds x) rows
mem-resource_ids x [] = refl
mem-resource_ids x (r ∷ rows) =
    mem-append x (pool_ids r) (resource_ids rows) ∙ ap (λ b. b || mem x (resource_ids rows)) (any-map x r.resources) ∙ ap (λ b. holds x r || b) (mem-resource_ids x rows)

pub apart_node : (rows : List NodeRow) (x : List ℕ) → IsValid rows → has_node rows x ≡ true
    → mem x (resource_ids rows) ≡ false
apart_node rows x valid known = node_no_resource x rows valid.distinct (node_among rows x known)

pub apart_resource : (rows : List NodeRow) (x : List ℕ) → IsValid rows → has_resource rows x ≡ true
    → mem x (node_ids rows) ≡ false
apart_resource rows x valid known = resource_no_node x rows valid.distinct (mem-resource_ids x rows ∙ has_resource-any rows x ∙ known)

-- ---- the law

pub node_touched : (x : List ℕ) (f : NodeRow → NodeRow) (g : Row → Row) (rows : List NodeRow)
    (y : List ℕ)
    → ChangesAs f g → mem x (resource_ids rows) ≡ false
    → row_in (with_row x f rows) y ≡ with_row_changed x g (row_in rows) y
node_touched x f g rows y alike out = ap (λ ls. row_at ls y) (rows_by_id-with_row x f g rows alike out) ∙ row_at-touched x g (rows_by_id rows) y

pub resource_touched : (x : List ℕ) (f : Resource → Resource) (g : Row → Row) (rows : List NodeRow)
    (y : List ℕ)
    → ((z : Resource) → (f z).id ≡ z.id)
    → ((z : Resource) → resource_row (f z) ≡ g (resource_row z)) → mem x (node_ids rows) ≡ false
    → row_in (with_resource x f rows) y ≡ with_row_changed x g (row_in rows) y
resource_touched x f g rows y id row out = ap (λ ls. row_at ls y) (rows_by_id-with_resource x f g rows id row out) ∙ row_at-touched x g (rows_by_id rows) y

pub act_of_rows : (a : Act) (at : ℕ) (rows : List NodeRow) → IsValid rows
    → act_refusal a (lookups rows) ≡ None → (y : List ℕ)
    → row_in (act_rows a at rows) y ≡ act_rows_by_id a at (row_in rows) y
act_of_rows (NodeChange n change) at rows valid free y =
    node_touched n (changed_node change at) (changed_row change at) rows y (record { id = λ r. refl; pool = λ r. refl; row = λ r. refl }) (apart_node rows n valid (target_known (NodeChange n change) (lookups rows) free))
act_of_rows (ResourceChange x change) at rows valid free y =
    resource_touched x (changed_resource change) (changed_resource_row change) rows y (λ z. refl) (λ z. refl) (apart_resource rows x valid (target_known (ResourceChange x change) (lookups rows) free))
act_of_rows (NodeAddition n (NewNode new)) at rows valid free y =
    let fit = child_new n new (lookups rows) free in
    let bare = bare_row new.id new.kind new.job_part new.status in
    let h = node_grows n new.id new.kind new.job_part new.status rows fit.0 in
    ap (λ rs. row_in rs y) (walked_child n bare rows valid fit.0)
    ∙ grown (rows_by_id rows) (rows_by_id (child_walk n bare rows)) (new.id, record { status = new.status; attrs = []; audits = [] }) h.0 h.1 y h.2 h.3 (ap (mem new.id) (keys_of_lines rows) ∙ fit.2)
act_of_rows (NodeAddition n (NewResource x)) at rows valid free y =
    let h = resource_grows n x rows (node_ids_distinct rows valid.distinct) (node_among rows n (target_known (NodeAddition n (NewResource x)) (lookups rows) free)) in
    grown (rows_by_id rows) (rows_by_id (with_row n (add_resource x) rows)) (x.id, resource_row x) h.0 h.1 y h.2 h.3 (ap (mem x.id) (keys_of_lines rows) ∙ resource_new n x (lookups rows) free)
act_of_rows (NodeAddition n (NewLink link)) at rows valid free y =
    ap (λ ls. row_at ls y) (link_lines n rows (add_link link) (λ r. refl)) ∙ touch_nothing (bytes_eq n y) (row_in rows y)

pub edit_of_rows : EditOfRows
edit_of_rows e at rows valid free y = act_of_rows (act_of e) at rows valid free y
