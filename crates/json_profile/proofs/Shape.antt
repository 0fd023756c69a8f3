-- What is written has no float, and nests little.
use Rattle.std.proofs.Common.{◌≡◌, ℕ, max, ◌+◌, ◌*◌, ◌<◌, ◌≤◌, ◌||◌, Bool, true, false, cond, List, [], ◌∷◌, refl, sym, ◌∙◌, arith, nat_lt}
use Rattle.std.proofs.lemmas.Bool.{and_parts, ltb-true, leb-true, or_from}
use Rattle.serde_json.specs.Data.{Data, Items, no_items, item, depth, items_depth}
use Rattle.serde_json.specs.Written.{has_float, items_have_float}
use Rattle.ticket_tree.specs.Part.{PartCopy}
use Rattle.ticket_rows.specs.Copies.{with_copies}
use Rattle.ticket_items.specs.SpawnId.{spawn_text}
use Rattle.ticket_rows.specs.Ticket.{Job, are_shallow}
use Rattle.ticket_items.specs.declared.ancestor.Ancestor.{Ancestor}
use Rattle.ticket_items.specs.declared.marks.Marks.{Marks}
use Rattle.ticket_items.specs.declared.node_row.NodeRow.{NodeRow}
use Rattle.ticket_items.specs.declared.resource.Resource.{Resource}
use Rattle.json_items.specs.TicketDraft.{RawRow}
use Rattle.json_text.specs.Marked.{no_marks, marked_rows}
use Rattle.json_text.specs.PartWritten.{part_root_data, copied_root, rows_data, part_data}
use Rattle.json_text.specs.Written.{Tree, children, job_data, node_data, root_data, shown_data, trees, trees_behind}
use Rattle.json_profile.proofs.Again.{raws_are_shallow, shallow-marked}
use Rattle.json_text.proofs.Plain.{attrs_plain, audits_plain, links_plain, pool_plain, ancestors_plain}
use Rattle.json_profile.proofs.PoolShape.{attrs_flat, audits_low, links_low, pool_low, ancestors_low}

-- ---- no float

-- the five members of a node that may have floats in them
parts_plain : (a b c d e : Bool) → a ≡ false → b ≡ false → c ≡ false → d ≡ false → e ≡ false → (a || (b || (c || (d || (e || false))))) ≡ false
parts_plain false false false false false p q r s t = refl
parts_plain true b c d e p q r s t = cc
parts_plain false true c d e p q r s t = cc
parts_plain false false true d e p q r s t = cc
parts_plain false false false true e p q r s t = cc
parts_plain false false false false true p q r s t = cc

node_plain : (r : RawRow) (kids : Items) → items_have_float kids ≡ false → has_float (node_data r kids) ≡ false
node_plain r kids h = parts_plain _ _ _ _ _ (attrs_plain r.row.attrs) (audits_plain r.row.audits) h (links_plain r.row.links) (pool_plain r.pool)

root_plain : (job : List ℕ) (r : RawRow) (kids : Items) → items_have_float kids ≡ false → has_float (root_data job r kids) ≡ false
root_plain job r kids h = parts_plain _ _ _ _ _ (attrs_plain r.row.attrs) (audits_plain r.row.audits) h (links_plain r.row.links) (pool_plain r.pool)

part_root_plain : (job spawn : List ℕ) (ancestors : List Ancestor) (r : RawRow) (kids : Items) → items_have_float kids ≡ false → has_float (part_root_data job spawn ancestors r kids) ≡ false
part_root_plain job spawn ancestors r kids h =
    or_from _ _ (ancestors_plain ancestors) (parts_plain _ _ _ _ _ (attrs_plain r.row.attrs) (audits_plain r.row.audits) h (links_plain r.row.links) (pool_plain r.pool))

abbrev ArePlain : List Tree → Type 0
ArePlain [] = Unit {0}
ArePlain (t ∷ ts) = (has_float t.value ≡ false) × ArePlain ts

children_plain_at : (deeper : Bool) (t : Tree) (kids : Items) → has_float t.value ≡ false → items_have_float kids ≡ false → items_have_float (cond deeper (item t.value kids) no_items) ≡ false
children_plain_at true t kids h rest = or_from _ _ h rest
children_plain_at false t kids h rest = refl

children_plain : (d : ℕ) (ts : List Tree) → ArePlain ts → items_have_float (children d ts) ≡ false
children_plain d [] h = refl
children_plain d (t ∷ ts) h = children_plain_at (nat_lt d t.depth) t (children d ts) h.0 (children_plain d ts h.1)

others_plain_at : (deeper : Bool) (d : ℕ) (t : Tree) (ts : List Tree) → ArePlain (t ∷ ts) → ArePlain (trees_behind d ts) → ArePlain (cond deeper (trees_behind d ts) (t ∷ ts))
others_plain_at true d t ts h rest = rest
others_plain_at false d t ts h rest = h

others_plain : (d : ℕ) (ts : List Tree) → ArePlain ts → ArePlain (trees_behind d ts)
others_plain d [] h = tt
others_plain d (t ∷ ts) h = others_plain_at (nat_lt d t.depth) d t ts h (others_plain d ts h.1)

trees_plain : (rows : List RawRow) → ArePlain (trees rows)
trees_plain [] = tt
trees_plain (r ∷ rows) = (node_plain r (children r.row.depth (trees rows)) (children_plain r.row.depth (trees rows) (trees_plain rows)), others_plain r.row.depth (trees rows) (trees_plain rows))

pub job_data_plain : (job : List ℕ) (rows : List RawRow) → has_float (job_data job rows) ≡ false
job_data_plain job [] = refl
job_data_plain job (r ∷ rows) = root_plain job r (children r.row.depth (trees rows)) (children_plain r.row.depth (trees rows) (trees_plain rows))

rows_data_plain : (job spawn : List ℕ) (ancestors : List Ancestor) (rows : List NodeRow) (changes reads : List Resource) → has_float (rows_data job spawn ancestors rows changes reads) ≡ false
rows_data_plain job spawn ancestors [] changes reads = refl
rows_data_plain job spawn ancestors (r ∷ rows) changes reads =
    let raws = marked_rows no_marks rows in
    part_root_plain job spawn ancestors (copied_root spawn changes reads r) (children r.depth (trees raws)) (children_plain r.depth (trees raws) (trees_plain raws))

pub part_data_plain : (p : PartCopy) → has_float (part_data p) ≡ false
part_data_plain p = rows_data_plain p.job_id (spawn_text p.spawn_id) p.ancestors p.rows p.rw p.ro

-- ---- nesting

node_nests : (r : RawRow) (kids : Items) → depth (node_data r kids) ≤ max 4 (2 + items_depth kids)
node_nests r kids = omega (arith, attrs_flat r.row.attrs, audits_low r.row.audits, links_low r.row.links, pool_low r.pool)

root_nests : (job : List ℕ) (r : RawRow) (kids : Items) → depth (root_data job r kids) ≤ max 4 (2 + items_depth kids)
root_nests job r kids = omega (arith, attrs_flat r.row.attrs, audits_low r.row.audits, links_low r.row.links, pool_low r.pool)

part_root_nests : (job spawn : List ℕ) (ancestors : List Ancestor) (r : RawRow) (kids : Items) → depth (part_root_data job spawn ancestors r kids) ≤ max 4 (2 + items_depth kids)
part_root_nests job spawn ancestors r kids = omega (arith, ancestors_low ancestors, attrs_flat r.row.attrs, audits_low r.row.audits, links_low r.row.links, pool_low r.pool)

low_from : (n k d : ℕ) → n ≤ max 4 (2 + k) → d ≤ 32 → k + 2 * d ≤ 66 → n + 2 * d ≤ 68
low_from n k d nests within low = omega arith

root_within : (n d : ℕ) → n + 2 * d ≤ 68 → n ≤ 68
root_within n d low = omega arith

-- which leaves room in the levels that are read
pub readable : (n : ℕ) → n ≤ 68 → n ≤ 127
readable n low = omega arith

-- each level of nodes has two of JSON, and the pools of the deepest four
abbrev AreLow : List Tree → Type 0
AreLow [] = Unit {0}
AreLow (t ∷ ts) = (depth t.value + 2 * t.depth ≤ 68) × AreLow ts

children_low_at : (deeper : Bool) (d : ℕ) (t : Tree) (kids : Items) → nat_lt d t.depth ≡ deeper → d ≤ 32 → depth t.value + 2 * t.depth ≤ 68 → items_depth kids + 2 * d ≤ 66 → items_depth (cond deeper (item t.value kids) no_items) + 2 * d ≤ 66
children_low_at true d t kids e within h rest =
    let deeper : d < t.depth = ltb-true _ _ e in
    omega arith
children_low_at false d t kids e within h rest = omega arith

children_low : (d : ℕ) (ts : List Tree) → d ≤ 32 → AreLow ts → items_depth (children d ts) + 2 * d ≤ 66
children_low d [] within h = omega arith
children_low d (t ∷ ts) within h = children_low_at (nat_lt d t.depth) d t (children d ts) refl within h.0 (children_low d ts within h.1)

others_low_at : (deeper : Bool) (d : ℕ) (t : Tree) (ts : List Tree) → AreLow (t ∷ ts) → AreLow (trees_behind d ts) → AreLow (cond deeper (trees_behind d ts) (t ∷ ts))
others_low_at true d t ts h rest = rest
others_low_at false d t ts h rest = h

others_low : (d : ℕ) (ts : List Tree) → AreLow ts → AreLow (trees_behind d ts)
others_low d [] h = tt
others_low d (t ∷ ts) h = others_low_at (nat_lt d t.depth) d t ts h (others_low d ts h.1)

trees_low : (rows : List RawRow) → raws_are_shallow rows ≡ true → AreLow (trees rows)
trees_low [] shallow = tt
trees_low (r ∷ rows) shallow =
    let d = r.row.depth in
    let parts = and_parts _ _ shallow in
    let rest : AreLow (trees rows) = trees_low rows parts.1 in
    let kids : items_depth (children d (trees rows)) + 2 * d ≤ 66 = children_low d (trees rows) (leb-true _ _ parts.0) rest in
    (low_from _ (items_depth (children d (trees rows))) d (node_nests r (children d (trees rows))) (leb-true _ _ parts.0) kids, others_low d (trees rows) rest)

-- a root of any form above such trees
nests_within : (root : Data) (d : ℕ) (rows : List RawRow) → raws_are_shallow rows ≡ true → d ≤ 32 → depth root ≤ max 4 (2 + items_depth (children d (trees rows))) → depth root ≤ 68
nests_within root d rows shallow within nests =
    let kids : items_depth (children d (trees rows)) + 2 * d ≤ 66 = children_low d (trees rows) within (trees_low rows shallow) in
    root_within _ d (low_from _ (items_depth (children d (trees rows))) d nests within kids)

job_data_nests : (job : List ℕ) (rows : List RawRow) → raws_are_shallow rows ≡ true → depth (job_data job rows) ≤ 68
job_data_nests job [] shallow = omega arith
job_data_nests job (r ∷ rows) shallow =
    let parts = and_parts _ _ shallow in
    nests_within (job_data job (r ∷ rows)) r.row.depth rows parts.1 (leb-true _ _ parts.0) (root_nests job r (children r.row.depth (trees rows)))

pub shown_data_low : (marks : Marks) (t : Job) → are_shallow t.rows ≡ true → depth (shown_data marks t) ≤ 68
shown_data_low marks t shallow = job_data_nests t.job_id (marked_rows marks t.rows) (shallow-marked marks t.rows ∙ shallow)

pub shown_data_nests : (marks : Marks) (t : Job) → are_shallow t.rows ≡ true → depth (shown_data marks t) ≤ 127
shown_data_nests marks t shallow = readable _ (shown_data_low marks t shallow)

rows_data_nests : (job spawn : List ℕ) (ancestors : List Ancestor) (rows : List NodeRow) (changes reads : List Resource) → are_shallow rows ≡ true → depth (rows_data job spawn ancestors rows changes reads) ≤ 68
rows_data_nests job spawn ancestors [] changes reads shallow = omega arith
rows_data_nests job spawn ancestors (r ∷ rows) changes reads shallow =
    let parts = and_parts _ _ shallow in
    let raws = marked_rows no_marks rows in
    let root = copied_root spawn changes reads r in
    nests_within (part_root_data job spawn ancestors root (children r.depth (trees raws))) r.depth raws (shallow-marked no_marks rows ∙ parts.1) (leb-true _ _ parts.0) (part_root_nests job spawn ancestors root (children r.depth (trees raws)))

shallow_copies : (rows : List NodeRow) (changes reads : List Resource) → are_shallow (with_copies rows changes reads) ≡ are_shallow rows
shallow_copies [] changes reads = refl
shallow_copies (r ∷ rows) changes reads = refl

pub part_data_low : (p : PartCopy) → are_shallow (with_copies p.rows p.rw p.ro) ≡ true → depth (part_data p) ≤ 68
part_data_low p shallow = rows_data_nests p.job_id (spawn_text p.spawn_id) p.ancestors p.rows p.rw p.ro (sym (shallow_copies p.rows p.rw p.ro) ∙ shallow)
