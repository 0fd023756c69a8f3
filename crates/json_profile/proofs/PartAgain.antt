-- A part that was written is read again.
use Rattle.std.proofs.Common.{◌≡◌, ℕ, ◌+◌, ◌&&◌, Bool, true, false, cond, List, [], ◌∷◌, ◌++◌, length, map, Option, Some, Ok, Err, unwrap_or, refl, sym, ap, ◌∙◌, arith, append_assoc}
use Rattle.std.proofs.lemmas.Bool.{true≢false, and_from, and_parts, eqb-true}
use Rattle.std.proofs.lemmas.List.{map-append, take_at, drop_at}
use Rattle.std.specs.List.{list_all, prefix_len, take_while}
use Rattle.std.specs.Option.{option_map, option_map_or}
use Rattle.std.specs.Str.{bytes_eq}
use Rattle.ticket_items.proofs.Apart.{bytes_eq-same}
use Rattle.ticket_items.proofs.SpawnTexts.{spawn_of-spawn_text}
use Rattle.ticket_items.specs.Names.{is_name}
use Rattle.ticket_tree.specs.Part.{PartCopy}
use Rattle.ticket_rows.specs.Copies.{with_copies}
use Rattle.ticket_items.specs.SpawnId.{is_spawn_number, spawn_text}
use Rattle.ticket_rows.specs.Ticket.{IsValid}
use Rattle.ticket_items.specs.declared.ancestor.Ancestor.{Ancestor}
use Rattle.ticket_items.specs.declared.node_row.NodeRow.{NodeRow}
use Rattle.ticket_items.specs.declared.resource.Resource.{Resource}
use Rattle.json_items.specs.TicketDraft.{resources_of, node_rows, item_rows, next_depth}
use Rattle.json_items.specs.TicketForm.{row_has_names, row_has_texts}
use Rattle.json_items.specs.Validation.{checked_value}
use Rattle.json_items.specs.Shown.{shown_rw, shown_ro}
use Rattle.json_items.specs.PartDraft.{Groups, RawPart, RowsAndCopies, behind, groups_of, is_change, is_own, is_read, part_form, part_members, raw_part, rows_and_copies, rows_and_copies_of}
use Rattle.json_items.specs.Ancestors.{ancestor_form}
use Rattle.json_items.proofs.Again.{each_again, ancestor_again}
use Rattle.json_items.specs.Ancestors.{ancestor_has_names}
use Rattle.json_items.specs.PartForm.{copies_have_names, copies_have_texts, has_names, part_fault, part_of_raw, part_read}
use Rattle.json_items.specs.Resources.{MarkedResource}
use Rattle.json_items.specs.Shown.{nothing_shown}
use Rattle.json_items.specs.Resources.{all_showing}
use Rattle.json_source.specs.Read.{◌>>=◌, some_if}
use Rattle.json_items.specs.Spawns.{spawn_named}
use Rattle.json_text.specs.Marked.{no_marks, marked_rows}
use Rattle.json_text.specs.PartWritten.{ancestor_data, copies_pool, root_pool, part_root_data, copied_root, rows_data, part_data}
use Rattle.json_text.specs.Written.{children, trees}
use Rattle.json_profile.proofs.Again.{node_rows-part_root_data, item_rows-marked, unmarked_rows, unmarked_bare}
use Rattle.json_profile.proofs.PoolAgain.{resources_of-all_showing}
use Rattle.json_profile.proofs.RoundTrip.{no_fault, three}
use Rattle.ticket_items.specs.declared.refusal.Refusal.TheVariants.{NotProfile}

-- ---- the groups of a pool

-- the first of them, if there is one, fails the test
abbrev Stops : (MarkedResource → Bool) → List MarkedResource → Type 0
Stops p [] = Unit {0}
Stops p (r ∷ raws) = p r ≡ false

prefix_len-front : (p : MarkedResource → Bool) (xs ys : List MarkedResource) → list_all p xs ≡ true → Stops p ys → length xs ≡ prefix_len p (xs ++ ys)
prefix_len-front p [] [] all stop = refl
prefix_len-front p [] (y ∷ ys) all stop = sym (ap (λ b. cond b (1 + prefix_len p ys) 0) stop)
prefix_len-front p (x ∷ xs) ys all stop =
    let parts = and_parts (p x) (list_all p xs) all in
    let rest = prefix_len-front p xs ys parts.1 stop in
    let here : prefix_len p (x ∷ (xs ++ ys)) ≡ 1 + prefix_len p (xs ++ ys) = ap (λ b. cond b (1 + prefix_len p (xs ++ ys)) 0) parts.0 in
    omega (arith, rest, here)

take_while-front : (p : MarkedResource → Bool) (xs ys : List MarkedResource) → list_all p xs ≡ true → Stops p ys → take_while p (xs ++ ys) ≡ xs
take_while-front p xs ys all stop = take_at xs ys (prefix_len p (xs ++ ys)) (prefix_len-front p xs ys all stop)

behind-front : (p : MarkedResource → Bool) (xs ys : List MarkedResource) → list_all p xs ≡ true → Stops p ys → behind p (xs ++ ys) ≡ ys
behind-front p xs ys all stop = drop_at xs ys (prefix_len p (xs ++ ys)) (prefix_len-front p xs ys all stop)

all_own : (rs : List Resource) → list_all is_own (all_showing nothing_shown rs) ≡ true
all_own [] = refl
all_own (r ∷ rs) = all_own rs

only_same : (spawn : List ℕ) (rest : Bool) → rest ≡ true → ((bytes_eq spawn spawn && true) && true && rest) ≡ true
only_same spawn rest e = and_from _ _ (and_from _ _ (and_from _ _ (bytes_eq-same spawn) refl) refl) e

all_change : (spawn : List ℕ) (rs : List Resource) → list_all (is_change spawn) (all_showing (shown_rw spawn) rs) ≡ true
all_change spawn [] = refl
all_change spawn (r ∷ rs) = only_same spawn _ (all_change spawn rs)

all_read : (spawn : List ℕ) (rs : List Resource) → list_all (is_read spawn) (all_showing (shown_ro spawn) rs) ≡ true
all_read spawn [] = refl
all_read spawn (r ∷ rs) = only_same spawn _ (all_read spawn rs)

stops_own : (spawn : List ℕ) (changes reads : List Resource) → Stops is_own (copies_pool spawn changes reads)
stops_own spawn [] [] = tt
stops_own spawn [] (r ∷ reads) = refl
stops_own spawn (r ∷ changes) reads = refl

stops_change : (spawn : List ℕ) (reads : List Resource) → Stops (is_change spawn) (all_showing (shown_ro spawn) reads)
stops_change spawn [] = tt
stops_change spawn (r ∷ reads) = refl

abbrev tested_groups : List ℕ → List MarkedResource → List MarkedResource → List MarkedResource → Option Groups
tested_groups spawn own changes reads = some_if (list_all (is_read spawn) reads) >>= λ _. Some (record { own = own; rw = changes; ro = reads })

abbrev cut_groups : List ℕ → List MarkedResource → List MarkedResource → Option Groups
cut_groups spawn own copies = tested_groups spawn own (take_while (is_change spawn) copies) (behind (is_change spawn) copies)

groups_of-root_pool : (spawn : List ℕ) (own changes reads : List Resource)
    → groups_of spawn (root_pool spawn own changes reads) ≡ Some (record { own = all_showing nothing_shown own; rw = all_showing (shown_rw spawn) changes; ro = all_showing (shown_ro spawn) reads })
groups_of-root_pool spawn own changes reads =
    let bare = all_showing nothing_shown own in
    let copies = copies_pool spawn changes reads in
    let free = all_showing (shown_rw spawn) changes in
    let locked = all_showing (shown_ro spawn) reads in
    ap (λ xs. cut_groups spawn xs (behind is_own (bare ++ copies))) (take_while-front is_own bare copies (all_own own) (stops_own spawn changes reads))
    ∙ ap (cut_groups spawn bare) (behind-front is_own bare copies (all_own own) (stops_own spawn changes reads))
    ∙ ap (λ xs. tested_groups spawn bare xs (behind (is_change spawn) (free ++ locked))) (take_while-front (is_change spawn) free locked (all_change spawn changes) (stops_change spawn reads))
    ∙ ap (tested_groups spawn bare free) (behind-front (is_change spawn) free locked (all_change spawn changes) (stops_change spawn reads))
    ∙ ap (λ b. some_if b >>= λ _. Some (record { own = bare; rw = free; ro = locked })) (all_read spawn reads)

whole_pool : (spawn : List ℕ) (own changes reads : List Resource) → resources_of (root_pool spawn own changes reads) ≡ own ++ changes ++ reads
whole_pool spawn own changes reads =
    map-append (λ r. r.resource) (all_showing nothing_shown own) (copies_pool spawn changes reads)
    ∙ ap (λ xs. xs ++ resources_of (copies_pool spawn changes reads)) (resources_of-all_showing nothing_shown own)
    ∙ ap (λ xs. own ++ xs) (map-append (λ r. r.resource) (all_showing (shown_rw spawn) changes) (all_showing (shown_ro spawn) reads) ∙ ap (λ xs. xs ++ resources_of (all_showing (shown_ro spawn) reads)) (resources_of-all_showing (shown_rw spawn) changes) ∙ ap (λ xs. changes ++ xs) (resources_of-all_showing (shown_ro spawn) reads))
    ∙ sym (append_assoc own changes reads)

-- ---- rows and ancestors

part_rows : (job spawn : List ℕ) (ancestors : List Ancestor) (r : NodeRow) (rows : List NodeRow) (changes reads : List Resource) → IsValid (with_copies (r ∷ rows) changes reads)
    → node_rows part_members 1 (rows_data job spawn ancestors (r ∷ rows) changes reads) ≡ Some (copied_root spawn changes reads r ∷ marked_rows no_marks rows)
part_rows job spawn ancestors r rows changes reads valid =
    let outline = and_parts _ _ valid.tree in
    let shallow = and_parts _ _ valid.shallow in
    let one : r.depth ≡ 1 = eqb-true _ _ outline.0 in
    let raws = marked_rows no_marks rows in
    let root = copied_root spawn changes reads r in
    let kids = children r.depth (trees raws) in
    let below : item_rows 2 kids ≡ Some raws = ap (λ d. item_rows 2 (children d (trees raws))) one ∙ item_rows-marked no_marks rows outline.1 shallow.1 in
    ap (λ d. node_rows part_members d (part_root_data job spawn ancestors root kids)) (sym one)
    ∙ node_rows-part_root_data job spawn ancestors root kids (whole_pool spawn r.resources changes reads)
    ∙ ap (λ d. option_map (λ more. root ∷ more) (item_rows (next_depth d) kids)) one
    ∙ ap (option_map (λ more. root ∷ more)) below

abbrev taken_of : List NodeRow → List Resource → List Resource → Option RowsAndCopies
taken_of rows changes reads = Some (record { rows = rows; rw = changes; ro = reads })

part_taken : (spawn : List ℕ) (r : NodeRow) (rows : List NodeRow) (changes reads : List Resource)
    → rows_and_copies spawn (copied_root spawn changes reads r ∷ marked_rows no_marks rows) ≡ taken_of (r ∷ rows) changes reads
part_taken spawn r rows changes reads =
    let raws = marked_rows no_marks rows in
    let root = copied_root spawn changes reads r in
    let free = resources_of (all_showing (shown_rw spawn) changes) in
    let locked = resources_of (all_showing (shown_ro spawn) reads) in
    ap (λ b. some_if b >>= λ _. groups_of spawn root.pool >>= λ g. Some (rows_and_copies_of root.row raws g)) (unmarked_bare rows)
    ∙ ap (λ o. o >>= λ g. Some (rows_and_copies_of root.row raws g)) (groups_of-root_pool spawn r.resources changes reads)
    ∙ ap (λ xs. taken_of (record r { resources = xs } ∷ map (λ x. x.row) raws) free locked) (resources_of-all_showing nothing_shown r.resources)
    ∙ ap (λ xs. taken_of (r ∷ xs) free locked) (unmarked_rows rows)
    ∙ ap (λ xs. taken_of (r ∷ rows) xs locked) (resources_of-all_showing (shown_rw spawn) changes)
    ∙ ap (taken_of (r ∷ rows) changes) (resources_of-all_showing (shown_ro spawn) reads)

-- ---- parts

part_form-rows_data : (job spawn : List ℕ) (ancestors : List Ancestor) (rows : List NodeRow) (changes reads : List Resource) → IsValid (with_copies rows changes reads)
    → part_form (rows_data job spawn ancestors rows changes reads) ≡ Some (record { job_id = job; spawn = spawn_named spawn; ancestors = ancestors; rows = rows; rw = changes; ro = reads })
unfolding part_form
part_form-rows_data job spawn ancestors [] changes reads valid = absurd (true≢false (sym valid.tree))
part_form-rows_data job spawn ancestors (r ∷ rows) changes reads valid =
    ap (λ o. o >>= λ above. node_rows part_members 1 (rows_data job spawn ancestors (r ∷ rows) changes reads) >>= λ raws. rows_and_copies spawn raws >>= λ t. Some (raw_part job (spawn_named spawn) above t)) (each_again ancestor_form ancestor_data ancestor_again ancestors)
    ∙ ap (λ o. o >>= λ raws. rows_and_copies spawn raws >>= λ t. Some (raw_part job (spawn_named spawn) ancestors t)) (part_rows job spawn ancestors r rows changes reads valid)
    ∙ ap (λ o. o >>= λ t. Some (raw_part job (spawn_named spawn) ancestors t)) (part_taken spawn r rows changes reads)

-- what is known of a part whose names and texts are such
pub record IsKnown (p : PartCopy) : Type 0 where
  pub number : is_spawn_number p.spawn_id ≡ true
  pub valid : IsValid (with_copies p.rows p.rw p.ro)
  pub job : is_name p.job_id ≡ true
  pub ancestors : list_all ancestor_has_names p.ancestors ≡ true
  pub names : list_all row_has_names p.rows ≡ true
  pub texts : list_all row_has_texts p.rows ≡ true
  pub copy_names : copies_have_names p.rw p.ro ≡ true
  pub copy_texts : copies_have_texts p.rw p.ro ≡ true

abbrev raw_of : PartCopy → RawPart
raw_of p = record { job_id = p.job_id; spawn = p.spawn_id; ancestors = p.ancestors; rows = p.rows; rw = p.rw; ro = p.ro }

names_of : (p : PartCopy) → IsKnown p → has_names (raw_of p) ≡ true
names_of p known = and_from _ _ (and_from _ _ (and_from _ _ (and_from _ _ known.job known.number) known.ancestors) known.names) known.copy_names

-- the text of its spawn names it
part_read_raw : (p : PartCopy) → IsKnown p → part_form (part_data p) ≡ Some (raw_of p)
part_read_raw p known =
    part_form-rows_data p.job_id (spawn_text p.spawn_id) p.ancestors p.rows p.rw p.ro known.valid
    ∙ ap (λ o. Some (record (raw_of p) { spawn = unwrap_or o 0 })) (spawn_of-spawn_text p.spawn_id known.number)

pub part_again : (p : PartCopy) → IsKnown p → part_read (part_data p) ≡ Ok p
part_again p known =
    ap (λ o. option_map_or (λ raw. checked_value (part_fault raw) (part_of_raw raw)) o (Err NotProfile)) (part_read_raw p known)
    ∙ ap (λ f. checked_value f p) (three _ _ _ (names_of p known) (and_from _ _ known.texts known.copy_texts) (no_fault (with_copies p.rows p.rw p.ro) known.valid))
