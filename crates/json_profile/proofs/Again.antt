-- What was written is read again.
use Rattle.std.proofs.Common.{◌≡◌, ℕ, suc, ◌≤◌, ◌&&◌, Bool, true, false, cond, List, [], ◌∷◌, ◌++◌, map, Option, Some, None, refl, sym, ap, ◌∙◌, subst, arith, nat_le, nat_lt, append_assoc, append-nil}
use Rattle.std.proofs.lemmas.Bool.{true≢false, and_from, and_parts, ltb-true, ltb-false, leb-true, lt-ltb, eqb-true}
use Rattle.std.specs.List.{list_all}
use Rattle.std.specs.Option.{option_map}
use Rattle.serde_json.specs.Data.{Items, no_items, item, array}
use Rattle.ticket_items.specs.Attrs.{Pairs}
use Rattle.ticket_rows.specs.Outline.{goes_on}
use Rattle.ticket_rows.specs.Ticket.{IsValid, depths, are_shallow}
use Rattle.ticket_items.specs.declared.ancestor.Ancestor.{Ancestor}
use Rattle.ticket_items.specs.declared.audit.Audit.{Audit}
use Rattle.ticket_items.specs.declared.link.Link.{Link}
use Rattle.ticket_items.specs.declared.marks.Marks.{Marks}
use Rattle.ticket_items.specs.declared.node_row.NodeRow.{NodeRow}
use Rattle.ticket_items.specs.declared.resource.Resource.{Resource}
use Rattle.json_items.specs.Audits.{audit_form}
use Rattle.json_items.specs.TicketDraft.{RawRow, RawTicket, are_bare, item_rows, next_depth, node_members, node_rows, own_row, raw_ticket, resources_of, root_members, ticket_form}
use Rattle.json_items.specs.Listed.{data_items, pool_form}
use Rattle.json_items.specs.PartDraft.{part_members}
use Rattle.json_items.specs.Resources.{MarkedResource}
use Rattle.json_items.specs.Resources.{resource_form}
use Rattle.json_items.specs.Links.{link_form}
use Rattle.json_items.specs.Attributes.{attr_members}
use Rattle.json_items.specs.Links.{link_data}
use Rattle.json_items.specs.Audits.{audit_data}
use Rattle.json_source.specs.Read.{◌>>=◌, text_pairs}
use Rattle.json_text.specs.Marked.{no_marks, marked_pool, marked_row, marked_rows}
use Rattle.json_text.specs.PartWritten.{part_root_data}
use Rattle.json_text.specs.Written.{Tree, children, job_data, node_data, pool_data, root_data, trees, trees_behind}
use Rattle.json_items.proofs.Again.{attrs_again}
use Rattle.json_profile.proofs.PoolAgain.{raw_resources-again, links-again, audits-again}

-- the resources of a row are those of its pool
abbrev pub IsWhole : RawRow → Type 0
IsWhole raw = resources_of raw.pool ≡ raw.row.resources

-- what the parts of a row make
abbrev made_row : NodeRow → Option Pairs → Option (List MarkedResource) → Option (List Link) → Option (List Audit) → Option RawRow
made_row r attrs resources links audits = do
  a ← attrs
  xs ← resources
  ls ← links
  us ← audits
  Some (record {
    row = record { id = r.id; depth = r.depth; kind = r.kind; job_part = r.job_part; status = r.status; attrs = a; resources = resources_of xs; links = ls; audits = us };
    pool = xs;
  })

row_made : (raw : RawRow) (attrs : Option Pairs) (resources : Option (List MarkedResource)) (links : Option (List Link)) (audits : Option (List Audit)) → IsWhole raw → attrs ≡ Some raw.row.attrs → resources ≡ Some raw.pool → links ≡ Some raw.row.links
    → audits ≡ Some raw.row.audits → made_row raw.row attrs resources links audits ≡ Some raw
row_made raw attrs resources links audits whole a x l u =
    let r = raw.row in
    ap (λ o. made_row r o resources links audits) a ∙ ap (λ o. made_row r (Some r.attrs) o links audits) x ∙ ap (λ o. made_row r (Some r.attrs) (Some raw.pool) o audits) l
    ∙ ap (made_row r (Some r.attrs) (Some raw.pool) (Some r.links)) u
    ∙ ap (λ xs. Some (record {
      row = record { id = r.id; depth = r.depth; kind = r.kind; job_part = r.job_part; status = r.status; attrs = r.attrs; resources = xs; links = r.links; audits = r.audits };
      pool = raw.pool;
    })) whole

row_again : (raw : RawRow) → IsWhole raw → made_row raw.row (text_pairs (attr_members raw.row.attrs)) (pool_form resource_form (Some (array (pool_data raw.pool)))) (pool_form link_form (Some (array (data_items link_data raw.row.links)))) (pool_form audit_form (Some (array (data_items audit_data raw.row.audits)))) ≡ Some raw
row_again raw whole = row_made raw _ _ _ _ whole (attrs_again raw.row.attrs) (raw_resources-again raw.pool) (links-again raw.row.links) (audits-again raw.row.audits)

-- a node's own members
pub own_row-node_data : (raw : RawRow) (kids : Items) → IsWhole raw → own_row node_members raw.row.depth (node_data raw kids) ≡ Some raw
unfolding own_row
own_row-node_data raw kids whole = row_again raw whole

pub own_row-root_data : (job : List ℕ) (raw : RawRow) (kids : Items) → IsWhole raw → own_row root_members raw.row.depth (root_data job raw kids) ≡ Some raw
unfolding own_row
own_row-root_data job raw kids whole = row_again raw whole

pub own_row-part_root_data : (job spawn : List ℕ) (ancestors : List Ancestor) (raw : RawRow) (kids : Items) → IsWhole raw → own_row part_members raw.row.depth (part_root_data job spawn ancestors raw kids) ≡ Some raw
unfolding own_row
own_row-part_root_data job spawn ancestors raw kids whole = row_again raw whole

-- the rows of a node: its own, and its children's
pub node_rows-node_data : (raw : RawRow) (kids : Items) → IsWhole raw → node_rows node_members raw.row.depth (node_data raw kids) ≡ option_map (λ rows. raw ∷ rows) (item_rows (next_depth raw.row.depth) kids)
node_rows-node_data raw kids whole = ap (λ o. o >>= λ row. option_map (λ rows. row ∷ rows) (item_rows (next_depth raw.row.depth) kids)) (own_row-node_data raw kids whole)

pub node_rows-root_data : (job : List ℕ) (raw : RawRow) (kids : Items) → IsWhole raw → node_rows root_members raw.row.depth (root_data job raw kids) ≡ option_map (λ rows. raw ∷ rows) (item_rows (next_depth raw.row.depth) kids)
node_rows-root_data job raw kids whole = ap (λ o. o >>= λ row. option_map (λ rows. row ∷ rows) (item_rows (next_depth raw.row.depth) kids)) (own_row-root_data job raw kids whole)

pub node_rows-part_root_data : (job spawn : List ℕ) (ancestors : List Ancestor) (raw : RawRow) (kids : Items) → IsWhole raw
    → node_rows part_members raw.row.depth (part_root_data job spawn ancestors raw kids) ≡ option_map (λ rows. raw ∷ rows) (item_rows (next_depth raw.row.depth) kids)
node_rows-part_root_data job spawn ancestors raw kids whole =
    ap (λ o. o >>= λ row. option_map (λ rows. row ∷ rows) (item_rows (next_depth raw.row.depth) kids)) (own_row-part_root_data job spawn ancestors raw kids whole)

-- ---- rows that show marks

abbrev pub raw_depths : List RawRow → List ℕ
raw_depths raws = map (λ r. r.row.depth) raws

abbrev pub raws_are_shallow : List RawRow → Bool
raws_are_shallow raws = list_all (λ r. nat_le r.row.depth 32) raws

abbrev pub AllWhole : List RawRow → Type 0
AllWhole [] = Unit {0}
AllWhole (r ∷ raws) = IsWhole r × AllWhole raws

pub raw_depths-marked : (marks : Marks) (rows : List NodeRow) → raw_depths (marked_rows marks rows) ≡ depths rows
raw_depths-marked marks [] = refl
raw_depths-marked marks (r ∷ rows) = ap (λ ds. r.depth ∷ ds) (raw_depths-marked marks rows)

pub shallow-marked : (marks : Marks) (rows : List NodeRow) → raws_are_shallow (marked_rows marks rows) ≡ are_shallow rows
shallow-marked marks [] = refl
shallow-marked marks (r ∷ rows) = ap (λ b. nat_le r.depth 32 && b) (shallow-marked marks rows)

marked_whole : (marks : Marks) (rs : List Resource) → resources_of (marked_pool marks rs) ≡ rs
marked_whole marks [] = refl
marked_whole marks (r ∷ rs) = ap (λ more. r ∷ more) (marked_whole marks rs)

pub AllWhole-marked : (marks : Marks) (rows : List NodeRow) → AllWhole (marked_rows marks rows)
AllWhole-marked marks [] = tt
AllWhole-marked marks (r ∷ rows) = (marked_whole marks r.resources, AllWhole-marked marks rows)

-- rows with no marks are those rows
pub unmarked_rows : (rows : List NodeRow) → map (λ r. r.row) (marked_rows no_marks rows) ≡ rows
unmarked_rows [] = refl
unmarked_rows (r ∷ rows) = ap (λ more. r ∷ more) (unmarked_rows rows)

unmarked_pool : (rs : List Resource) → are_bare (marked_pool no_marks rs) ≡ true
unmarked_pool [] = refl
unmarked_pool (r ∷ rs) = unmarked_pool rs

pub unmarked_bare : (rows : List NodeRow) → list_all (λ r. are_bare r.pool) (marked_rows no_marks rows) ≡ true
unmarked_bare [] = refl
unmarked_bare (r ∷ rows) = and_from _ _ (unmarked_pool r.resources) (unmarked_bare rows)

-- ---- trees of rows

-- the trees never stand deeper than the one before them, the first no deeper than this
abbrev pub Falls : ℕ → List Tree → Type 0
Falls most [] = Unit {0}
Falls most (t ∷ ts) = (t.depth ≤ most) × Falls t.depth ts

falls_at : (deeper : Bool) (depth : ℕ) (t : Tree) (ts : List Tree) → nat_lt depth t.depth ≡ deeper → t.depth ≤ suc depth → Falls t.depth ts → (Falls (suc depth) ts → Falls depth (trees_behind depth ts)) → Falls depth (cond deeper (trees_behind depth ts) (t ∷ ts))
falls_at true depth t ts e top rest go =
    let same : t.depth ≡ suc depth = omega (arith, ltb-true _ _ e) in
    go (subst (λ d. Falls d ts) same rest)
falls_at false depth t ts e top rest go = (ltb-false _ _ e, rest)

Falls-trees_behind : (depth : ℕ) (ts : List Tree) → Falls (suc depth) ts → Falls depth (trees_behind depth ts)
Falls-trees_behind depth [] h = tt
Falls-trees_behind depth (t ∷ ts) h = falls_at (nat_lt depth t.depth) depth t ts refl h.0 h.1 (Falls-trees_behind depth ts)

pub Falls-trees : (above : ℕ) (rows : List RawRow) → goes_on above (raw_depths rows) ≡ true → Falls (suc above) (trees rows)
Falls-trees above [] h = tt
Falls-trees above (r ∷ rows) h =
    let parts = and_parts _ _ h in
    let bounds = and_parts _ _ parts.0 in
    (leb-true _ _ bounds.1, Falls-trees_behind r.row.depth (trees rows) (Falls-trees r.row.depth rows parts.1))

-- the rows of trees, each read at its depth
abbrev pub tree_rows : List Tree → Option (List RawRow)
tree_rows [] = Some []
tree_rows (t ∷ ts) = node_rows node_members t.depth t.value >>= λ first. option_map (λ rest. first ++ rest) (tree_rows ts)

-- ---- options of lists

joined : {X : Type 0} (o k r : Option (List X)) → (o >>= λ first. option_map (λ rest. first ++ rest) (k >>= λ kids. option_map (λ rest. kids ++ rest) r)) ≡ ((o >>= λ first. option_map (λ rest. first ++ rest) k) >>= λ kids. option_map (λ rest. kids ++ rest) r)
joined None k r = refl
joined (Some first) None r = refl
joined (Some first) (Some kids) None = refl
joined (Some first) (Some kids) (Some rest) = ap Some (sym (append_assoc first kids rest))

none_before : {X : Type 0} (r : Option (List X)) → option_map (λ rest. [] ++ rest) r ≡ r
none_before None = refl
none_before (Some rest) = refl

first_before : {X : Type 0} (x : X) (k r : Option (List X)) → (option_map (λ xs. x ∷ xs) k >>= λ first. option_map (λ rest. first ++ rest) r) ≡ option_map (λ xs. x ∷ xs) (k >>= λ kids. option_map (λ rest. kids ++ rest) r)
first_before x None r = refl
first_before x (Some kids) None = refl
first_before x (Some kids) (Some rest) = refl

none_behind : {X : Type 0} (k : Option (List X)) → (k >>= λ kids. option_map (λ rest. kids ++ rest) (Some [])) ≡ k
none_behind None = refl
none_behind (Some kids) = ap Some (append-nil kids)

-- ---- trees are read as their rows

split_at : (deeper : Bool) (depth : ℕ) (t : Tree) (ts : List Tree) → nat_lt depth t.depth ≡ deeper → t.depth ≤ suc depth
    → (Falls (suc depth) ts → tree_rows ts ≡ (item_rows (suc depth) (children depth ts) >>= λ kids. option_map (λ rest. kids ++ rest) (tree_rows (trees_behind depth ts)))) → Falls t.depth ts
    → tree_rows (t ∷ ts) ≡ (item_rows (suc depth) (cond deeper (item t.value (children depth ts)) no_items) >>= λ kids. option_map (λ rest. kids ++ rest) (tree_rows (cond deeper (trees_behind depth ts) (t ∷ ts))))
split_at true depth t ts e top go rest =
    let same : t.depth ≡ suc depth = omega (arith, ltb-true _ _ e) in
    ap (λ d. node_rows node_members d t.value >>= λ first. option_map (λ more. first ++ more) (tree_rows ts)) same
    ∙ ap (λ o. node_rows node_members (suc depth) t.value >>= λ first. option_map (λ more. first ++ more) o) (go (subst (λ d. Falls d ts) same rest))
    ∙ joined (node_rows node_members (suc depth) t.value) (item_rows (suc depth) (children depth ts)) (tree_rows (trees_behind depth ts))
split_at false depth t ts e top go rest = sym (none_before (tree_rows (t ∷ ts)))

-- the trees in front that stand deeper are a list of children, and the others follow
tree_rows-split : (depth : ℕ) (ts : List Tree) → Falls (suc depth) ts → tree_rows ts ≡ (item_rows (suc depth) (children depth ts) >>= λ kids. option_map (λ rest. kids ++ rest) (tree_rows (trees_behind depth ts)))
tree_rows-split depth [] h = refl
tree_rows-split depth (t ∷ ts) h = split_at (nat_lt depth t.depth) depth t ts refl h.0 (tree_rows-split depth ts) h.1

next_within : (depth : ℕ) → depth ≤ 32 → next_depth depth ≡ suc depth
next_within depth h = omega arith

pub tree_rows-trees : (above : ℕ) (rows : List RawRow) → goes_on above (raw_depths rows) ≡ true → raws_are_shallow rows ≡ true → AllWhole rows → tree_rows (trees rows) ≡ Some rows
tree_rows-trees above [] outline shallow whole = refl
tree_rows-trees above (r ∷ rows) outline shallow whole =
    let d = r.row.depth in
    let parts = and_parts _ _ outline in
    let within = and_parts _ _ shallow in
    let next : next_depth d ≡ suc d = next_within d (leb-true _ _ within.0) in
    let kids = children d (trees rows) in
    ap (λ o. o >>= λ first. option_map (λ rest. first ++ rest) (tree_rows (trees_behind d (trees rows)))) (node_rows-node_data r kids whole.0 ∙ ap (λ n. option_map (λ more. r ∷ more) (item_rows n kids)) next)
    ∙ first_before r (item_rows (suc d) kids) (tree_rows (trees_behind d (trees rows)))
    ∙ ap (option_map (λ more. r ∷ more)) (sym (tree_rows-split d (trees rows) (Falls-trees d rows parts.1)) ∙ tree_rows-trees d rows parts.1 within.1 whole.1)

-- ---- the root's trees are its children

abbrev pub AllDeep : List Tree → Type 0
AllDeep [] = Unit {0}
AllDeep (t ∷ ts) = (2 ≤ t.depth) × AllDeep ts

deep_at : (deeper : Bool) (depth : ℕ) (t : Tree) (ts : List Tree) → 2 ≤ t.depth → AllDeep ts → AllDeep (trees_behind depth ts) → AllDeep (cond deeper (trees_behind depth ts) (t ∷ ts))
deep_at true depth t ts low rest go = go
deep_at false depth t ts low rest go = (low, rest)

AllDeep-trees_behind : (depth : ℕ) (ts : List Tree) → AllDeep ts → AllDeep (trees_behind depth ts)
AllDeep-trees_behind depth [] h = tt
AllDeep-trees_behind depth (t ∷ ts) h = deep_at (nat_lt depth t.depth) depth t ts h.0 h.1 (AllDeep-trees_behind depth ts h.1)

AllDeep-trees : (above : ℕ) (rows : List RawRow) → goes_on above (raw_depths rows) ≡ true → AllDeep (trees rows)
AllDeep-trees above [] h = tt
AllDeep-trees above (r ∷ rows) h =
    let parts = and_parts _ _ h in
    let bounds = and_parts _ _ parts.0 in
    (leb-true _ _ bounds.0, AllDeep-trees_behind r.row.depth (trees rows) (AllDeep-trees r.row.depth rows parts.1))

trees_behind-none : (ts : List Tree) → AllDeep ts → trees_behind 1 ts ≡ []
trees_behind-none [] h = refl
trees_behind-none (t ∷ ts) h = ap (λ b. cond b (trees_behind 1 ts) (t ∷ ts)) (lt-ltb 1 t.depth h.0) ∙ trees_behind-none ts h.1

-- the trees behind a root are its children, and are read as their rows
pub item_rows-trees : (rows : List RawRow) → goes_on 1 (raw_depths rows) ≡ true → raws_are_shallow rows ≡ true → AllWhole rows → item_rows 2 (children 1 (trees rows)) ≡ Some rows
item_rows-trees rows outline shallow whole =
    sym (none_behind (item_rows 2 (children 1 (trees rows)))) ∙ ap (λ ts. item_rows 2 (children 1 (trees rows)) >>= λ kids. option_map (λ rest. kids ++ rest) (tree_rows ts)) (sym (trees_behind-none (trees rows) (AllDeep-trees 1 rows outline)))
    ∙ sym (tree_rows-split 1 (trees rows) (Falls-trees 1 rows outline)) ∙ tree_rows-trees 1 rows outline shallow whole

-- the same of rows that show marks
pub item_rows-marked : (marks : Marks) (rows : List NodeRow) → goes_on 1 (depths rows) ≡ true → are_shallow rows ≡ true → item_rows 2 (children 1 (trees (marked_rows marks rows))) ≡ Some (marked_rows marks rows)
item_rows-marked marks rows outline shallow =
    item_rows-trees (marked_rows marks rows) (ap (goes_on 1) (raw_depths-marked marks rows) ∙ outline) (shallow-marked marks rows ∙ shallow) (AllWhole-marked marks rows)

-- ---- tickets

abbrev bare_ticket : List ℕ → List NodeRow → RawTicket
bare_ticket job rows = record { job = record { job_id = job; rows = rows }; bare = true }

unmarked_ticket : (job : List ℕ) (rows : List NodeRow) → raw_ticket job (marked_rows no_marks rows) ≡ bare_ticket job rows
unmarked_ticket job rows =
    ap (λ rs. record { job = record { job_id = job; rows = rs }; bare = list_all (λ r. are_bare r.pool) (marked_rows no_marks rows) }) (unmarked_rows rows) ∙ ap (λ b. record { job = record { job_id = job; rows = rows }; bare = b }) (unmarked_bare rows)

root_again : (job : List ℕ) (raw : RawRow) (kids : Items) (raws : List RawRow) → IsWhole raw → raw.row.depth ≡ 1 → item_rows 2 kids ≡ Some raws → ticket_form (root_data job raw kids) ≡ Some (raw_ticket job (raw ∷ raws))
unfolding ticket_form
root_again job raw kids raws whole one read =
    let all : node_rows root_members 1 (root_data job raw kids) ≡ Some (raw ∷ raws) =
    ap (λ d. node_rows root_members d (root_data job raw kids)) (sym one) ∙ node_rows-root_data job raw kids whole ∙ ap (λ d. option_map (λ more. raw ∷ more) (item_rows (next_depth d) kids)) one ∙ ap (option_map (λ more. raw ∷ more)) read in
    ap (λ o. o >>= λ rows. Some (raw_ticket job rows)) all

pub ticket_form-ticket_data : (job : List ℕ) (rows : List NodeRow) → IsValid rows → ticket_form (job_data job (marked_rows no_marks rows)) ≡ Some (bare_ticket job rows)
ticket_form-ticket_data job [] valid = absurd (true≢false (sym valid.tree))
ticket_form-ticket_data job (r ∷ rows) valid =
    let parts = and_parts _ _ valid.tree in
    let one : r.depth ≡ 1 = eqb-true _ _ parts.0 in
    let within = and_parts _ _ valid.shallow in
    let raws = marked_rows no_marks rows in
    let all : item_rows 2 (children 1 (trees raws)) ≡ Some raws = item_rows-marked no_marks rows parts.1 within.1 in
    root_again job (marked_row no_marks r) (children r.depth (trees raws)) raws (marked_whole no_marks r.resources) one (ap (λ d. item_rows 2 (children d (trees raws))) one ∙ all) ∙ ap Some (unmarked_ticket job (r ∷ rows))
