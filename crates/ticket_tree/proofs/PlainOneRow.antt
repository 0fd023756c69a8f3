-- The calls that change one row, on the plain ticket.
use Rattle.std.proofs.Common.{◌≡◌, ℕ, ◌||◌, Bool, true, false, cond, List, [], ◌∷◌, ◌++◌, map}
use Rattle.std.proofs.Common.{Option, Some, None, is_some, refl, sym, ap, ◌∙◌}
use Rattle.std.proofs.lemmas.Bool.{true≢false, and_parts, not-true}
use Rattle.std.proofs.lemmas.List.{append-nil}
use Rattle.std.proofs.lemmas.Slice.Eq.{bytes_eq-Decides}
use Rattle.std.specs.List.{find, list_any}
use Rattle.std.specs.Option.{option_map}
use Rattle.std.specs.Str.{bytes_eq}
use Rattle.ticket_items.proofs.Apart.{mem-append, or_true, front_distinct, other_part}
use Rattle.ticket_items.proofs.Apart.{later_distinct}
use Rattle.ticket_rows.proofs.AtHome.{in_pool, in_pool_or_later, any-map}
use Rattle.ticket_items.proofs.AtKey.{at_key-none}
use Rattle.ticket_tree.proofs.ById.{Line, row_at, line_cond, pool_ids, keys_of_pool}
use Rattle.ticket_rows.proofs.Changes.{with_resource-none}
use Rattle.ticket_rows.proofs.NodePlaces.{node_ids_distinct}
use Rattle.ticket_rows.proofs.OneRows.{at_key-same, with_resource-same}
use Rattle.ticket_tree.proofs.PlainPlaces.{places-with_row, places-with_resource}
use Rattle.ticket_tree.proofs.PlainRows.{apart_node, apart_resource, node_touched, resource_touched}
use Rattle.ticket_rows.specs.Edit.{with_row, with_resource}
use Rattle.ticket_items.specs.Resource.{with_item}
use Rattle.ticket_rows.specs.Homes.{homes, entry_of, resource_of}
use Rattle.ticket_items.specs.Ids.{mem, are_distinct}
use Rattle.ticket_tree.specs.Laws.{AppendOfPlaces, AppendOfRows, ReplacedNodeOfPlaces}
use Rattle.ticket_tree.specs.Laws.{ReplacedNodeOfRows, ReplacedResourceOfPlaces}
use Rattle.ticket_tree.specs.Laws.{ReplacedResourceOfRows, names_of}
use Rattle.ticket_rows.specs.Place.{Thing, node, resource, links_of, Row, node_place}
use Rattle.ticket_rows.specs.Place.{places, resource_place, resource_row, row_in, rows_by_id, rows_by_id_of}
use Rattle.ticket_tree.specs.PlainEdit.{or_row}
use Rattle.ticket_rows.specs.Ticket.{ids, ids_of, row_of}
use Rattle.ticket_items.specs.declared.node_row.NodeRow.{NodeRow}
use Rattle.ticket_items.specs.declared.resource.Resource.{Resource}

-- ---- an audit more

pub append_of_places : AppendOfPlaces
append_of_places n audit rows = places-with_row n (λ r. record r { audits = r.audits ++ audit ∷ [] }) [] rows (record { path = λ before r. refl; places = λ path r. refl })

pub append_of_rows : AppendOfRows
append_of_rows n audit rows valid known y =
    node_touched n (λ r. record r { audits = r.audits ++ audit ∷ [] }) (λ r. record r { audits = r.audits ++ audit ∷ [] }) rows y (record { id = λ r. refl; pool = λ r. refl; row = λ r. refl }) (apart_node rows n valid known)

-- ---- a resource in the place of another

pub replaced_resource_of_rows : ReplacedResourceOfRows
replaced_resource_of_rows x rows valid known y =
    ap (λ rs. row_in rs y) (with_resource-same x rows) ∙ resource_touched x.id (λ z. record x { id = z.id }) (λ _. resource_row x) rows y (λ z. refl) (λ z. refl) (apart_resource rows x.id valid known)

first_of_pair : (b : Bool) (h : List ℕ) (o : Option Resource) (e : Option (Resource × List ℕ))
    → option_map (λ p. p.0) (cond b (option_map (λ z. (z, h)) o) e)
    ≡ cond b o (option_map (λ p. p.0) e)
first_of_pair true h None e = refl
first_of_pair true h (Some z) e = refl
first_of_pair false h o e = refl

-- the resource of an id stands in the first pool that has it, or later
pub resource_of-cons : (x : List ℕ) (r : NodeRow) (rows : List NodeRow)
    → resource_of (r ∷ rows) x
    ≡ cond (list_any (λ z. bytes_eq z.id x) r.resources) (in_pool x r.resources)
    (resource_of rows x)
resource_of-cons x r rows =
    ap (option_map (λ p. p.0)) (in_pool_or_later x r.id r.resources (homes rows)) ∙ first_of_pair (list_any (λ z. bytes_eq z.id x) r.resources) r.id (in_pool x r.resources) (entry_of rows x)

found_here : (b : Bool) (x : List ℕ) (f g : Resource → Resource) (r : NodeRow) (rows : List NodeRow)
    (old : Resource)
    → list_any (λ z. bytes_eq z.id x) r.resources ≡ b
    → cond b (in_pool x r.resources) (resource_of rows x) ≡ Some old
    → are_distinct (pool_ids r ++ ids rows) ≡ true → (bytes_eq old.id x ≡ true → f old ≡ g old)
    → (resource_of rows x ≡ Some old → with_resource x f rows ≡ with_resource x g rows)
    → with_resource x f (r ∷ rows) ≡ with_resource x g (r ∷ rows)
found_here true x f g r rows old e found apart same later =
    let out : mem x (ids rows) ≡ false = other_part x (pool_ids r) (ids rows) apart (any-map x r.resources ∙ e) in
    ap (λ pool. record r { resources = pool } ∷ with_resource x f rows) (at_key-same (λ z. z.id) x f g r.resources old found (front_distinct (pool_ids r) (ids rows) apart) same)
    ∙ ap (λ rs. record r { resources = with_item x g r.resources } ∷ rs) (with_resource-none x f rows out ∙ sym (with_resource-none x g rows out))
found_here false x f g r rows old e found apart same later =
    let out : mem x (pool_ids r) ≡ false = any-map x r.resources ∙ e in
    ap (λ pool. record r { resources = pool } ∷ with_resource x f rows) (at_key-none (λ z. z.id) x f r.resources out ∙ sym (at_key-none (λ z. z.id) x g r.resources out))
    ∙ ap (λ rs. record r { resources = with_item x g r.resources } ∷ rs) (later found)

-- two changes of the resource of an id are one where they make the same of it
with_resource-found : (x : List ℕ) (f g : Resource → Resource) (rows : List NodeRow)
    (old : Resource)
    → resource_of rows x ≡ Some old → are_distinct (ids rows) ≡ true
    → (bytes_eq old.id x ≡ true → f old ≡ g old) → with_resource x f rows ≡ with_resource x g rows
with_resource-found x f g [] old found apart same = refl
with_resource-found x f g (r ∷ rows) old found apart same =
    let parts = and_parts _ _ apart in
    found_here (list_any (λ z. bytes_eq z.id x) r.resources) x f g r rows old refl (sym (resource_of-cons x r rows) ∙ found) parts.1 same
    (λ there. with_resource-found x f g rows old there (later_distinct (pool_ids r) (ids rows) parts.1) same)

-- the texts that tell what stands at a place: a Type or a name, a part of the job or a Class
abbrev pub name_in : Thing → List ℕ
name_in (node kind job_part links) = kind
name_in (resource name class) = name

abbrev pub class_in : Thing → List ℕ
class_in (node kind job_part links) = job_part
class_in (resource name class) = class

placed_as : (x old : Resource) → x.id ≡ old.id → x.name ≡ old.name → x.class ≡ old.class
    → x ≡ record old { status = x.status; attrs = x.attrs }
placed_as x old id name class = ap (λ i. record x { id = i }) id ∙ ap (λ n. record x { id = old.id; name = n }) name ∙ ap (λ c. record x { id = old.id; name = old.name; class = c }) class

pub replaced_resource_of_places : ReplacedResourceOfPlaces
replaced_resource_of_places x rows valid may =
    ap places
    (with_resource-found x.id (λ _. x) (λ z. record z { status = x.status; attrs = x.attrs }) rows may.old may.there valid.distinct
    (λ named. placed_as x may.old (sym ((bytes_eq-Decides may.old.id x.id).0 named)) (ap name_in may.thing) (ap class_in may.thing)))
    ∙ places-with_resource x.id (λ z. record z { status = x.status; attrs = x.attrs }) [] rows (λ path z. refl)

-- ---- a node in the place of another: places

-- resources in the place of others, each with the id, name and Class of the one in whose place it
-- is
abbrev beside : List Resource → List Resource → List Resource
beside [] olds = olds
beside (x ∷ news) [] = []
beside (x ∷ news) (y ∷ olds) = record y { status = x.status; attrs = x.attrs } ∷ beside news olds

places-beside : (path : List (List ℕ)) (news olds : List Resource)
    → map (resource_place path) (beside news olds) ≡ map (resource_place path) olds
places-beside path [] olds = refl
places-beside path (x ∷ news) [] = refl
places-beside path (x ∷ news) (y ∷ olds) = ap (λ ps. resource_place path y ∷ ps) (places-beside path news olds)

head_same : {X : Type 0} (a b : X) (xs ys : List X) → a ∷ xs ≡ b ∷ ys → (a ≡ b) × (xs ≡ ys)
head_same a b xs ys e = (cc, cc)

beside-same : (news olds : List Resource) → map (λ x. x.id) news ≡ map (λ x. x.id) olds
    → names_of news ≡ names_of olds → news ≡ beside news olds
beside-same [] [] id names = refl
beside-same [] (y ∷ olds) id names = cc
beside-same (x ∷ news) [] id names = cc
beside-same (x ∷ news) (y ∷ olds) id names =
    let first = head_same _ _ _ _ id in
    let named = head_same _ _ _ _ names in
    ap (λ z. z ∷ news) (placed_as x y first.0 (ap (λ p. p.0) named.0) (ap (λ p. p.1) named.0)) ∙ ap (λ zs. record y { status = x.status; attrs = x.attrs } ∷ zs) (beside-same news olds first.1 named.1)

-- a row in the place of another, where all that tells where it stands is kept
abbrev in_place : NodeRow → NodeRow → NodeRow
in_place row r = record r { status = row.status; attrs = row.attrs; resources = beside row.resources r.resources; audits = row.audits }

in_place-same : (row old : NodeRow) → row.id ≡ old.id → row.kind ≡ old.kind
    → row.job_part ≡ old.job_part → row.links ≡ old.links
    → row.resources ≡ beside row.resources old.resources
    → record row { depth = old.depth } ≡ in_place row old
in_place-same row old id kind job_part links pool =
    ap (λ i. record row { id = i; depth = old.depth }) id
    ∙ ap (λ k. record row { id = old.id; depth = old.depth; kind = k }) kind
    ∙ ap (λ p. record row { id = old.id; depth = old.depth; kind = old.kind; job_part = p }) job_part
    ∙ ap (λ l. record row { id = old.id; depth = old.depth; kind = old.kind; job_part = old.job_part; links = l }) links
    ∙ ap (λ xs. record row { id = old.id; depth = old.depth; kind = old.kind; job_part = old.job_part; links = old.links; resources = xs }) pool

pub replaced_node_of_places : ReplacedNodeOfPlaces
replaced_node_of_places row rows valid may names =
    ap places
    (at_key-same (λ r. r.id) row.id (λ r. record row { depth = r.depth }) (in_place row) rows may.old may.there (node_ids_distinct rows valid.distinct)
    (λ named. in_place-same row may.old (sym ((bytes_eq-Decides may.old.id row.id).0 named)) (ap name_in may.thing) (ap class_in may.thing) (ap links_of may.thing) (beside-same row.resources may.old.resources may.resources names)))
    ∙ places-with_row row.id (in_place row) [] rows (record { path = λ before r. refl; places = λ path r. ap (λ ps. node_place r path ∷ ps) (places-beside path row.resources r.resources) })

-- ---- a node in the place of another: rows by id

or_row_at : (b : Bool) (r : Row) (o p : Option Row)
    → cond b (Some r) (or_row o p) ≡ or_row (cond b (Some r) o) p
or_row_at true r o p = refl
or_row_at false r o p = refl

row_at-append : (ls ms : List Line) (y : List ℕ)
    → row_at (ls ++ ms) y ≡ or_row (row_at ls y) (row_at ms y)
row_at-append [] ms y = refl
row_at-append (l ∷ ls) ms y =
    line_cond (bytes_eq l.0 y) l (find (λ k. bytes_eq k.0 y) (ls ++ ms)) ∙ ap (λ o. cond (bytes_eq l.0 y) (Some l.1) o) (row_at-append ls ms y)
    ∙ or_row_at (bytes_eq l.0 y) l.1 (row_at ls y) (row_at ms y) ∙ ap (λ o. or_row o (row_at ms y)) (sym (line_cond (bytes_eq l.0 y) l (find (λ k. bytes_eq k.0 y) ls)))

some_at : (b c : Bool) (r : Row) (o : Option Row) → is_some o ≡ c
    → is_some (cond b (Some r) o) ≡ (b || c)
some_at true c r o e = refl
some_at false c r o e = e

is_some-row_at : (ls : List Line) (y : List ℕ) → is_some (row_at ls y) ≡ mem y (map (λ l. l.0) ls)
is_some-row_at [] y = refl
is_some-row_at (l ∷ ls) y = ap is_some (line_cond (bytes_eq l.0 y) l (find (λ k. bytes_eq k.0 y) ls)) ∙ some_at (bytes_eq l.0 y) (mem y (map (λ k. k.0) ls)) l.1 (row_at ls y) (is_some-row_at ls y)

is_some-rows_by_id_of : (r : NodeRow) (y : List ℕ) → is_some (row_at (rows_by_id_of r) y) ≡ mem y (ids_of r)
is_some-rows_by_id_of r y = is_some-row_at (rows_by_id_of r) y ∙ ap (λ is. mem y (r.id ∷ is)) (keys_of_pool r.resources)

hides : (own old rest : Option Row) → is_some own ≡ is_some old
    → or_row own rest ≡ or_row own (or_row old rest)
hides (Some r) old rest same = refl
hides None None rest same = refl
hides None (Some r) rest same = absurd (true≢false (sym same))

swaps : (first own rest : Option Row) → (is_some first ≡ true → is_some own ≡ false)
    → or_row first (or_row own rest) ≡ or_row own (or_row first rest)
swaps None own rest apart = refl
swaps (Some r) None rest apart = refl
swaps (Some r) (Some s) rest apart = absurd (true≢false (apart refl))

among_here : (b : Bool) (x y : List ℕ) (r old : NodeRow) (rows : List NodeRow)
    → cond b (Some r) (row_of rows x) ≡ Some old → mem y (ids_of old) ≡ true
    → (row_of rows x ≡ Some old → mem y (ids rows) ≡ true) → mem y (ids_of r ++ ids rows) ≡ true
among_here true x y r old rows found there later =
    let here : r ≡ old = cc in
    mem-append y (ids_of r) (ids rows) ∙ ap (λ b. b || mem y (ids rows)) (ap (λ s. mem y (ids_of s)) here ∙ there)
among_here false x y r old rows found there later = mem-append y (ids_of r) (ids rows) ∙ ap (λ b. mem y (ids_of r) || b) (later found) ∙ or_true (mem y (ids_of r))

-- the ids of a row that is found stand among all
among : (x y : List ℕ) (old : NodeRow) (rows : List NodeRow) → row_of rows x ≡ Some old
    → mem y (ids_of old) ≡ true → mem y (ids rows) ≡ true
among x y old [] found there = cc
among x y old (r ∷ rows) found there = among_here (bytes_eq r.id x) x y r old rows found there (λ later. among x y old rows later there)

not_both : (a b c : Bool) → (a ≡ true → c ≡ false) → (b ≡ true → c ≡ true) → a ≡ true → b ≡ false
not_both a true c out in_c here = absurd (true≢false (sym (in_c refl) ∙ out here))
not_both a false c out in_c here = refl

replaced_here : (b : Bool) (x y : List ℕ) (row r old : NodeRow) (rows : List NodeRow)
    → bytes_eq r.id x ≡ b → cond b (Some r) (row_of rows x) ≡ Some old
    → are_distinct (ids_of r ++ ids rows) ≡ true → mem r.id (map (λ s. s.id) rows) ≡ false
    → ids_of row ≡ ids_of old
    → (row_of rows x ≡ Some old
    → row_in (with_row x (λ s. record row { depth = s.depth }) rows) y ≡ or_row (row_at
    (rows_by_id_of row) y) (row_in rows y))
    → row_in
    (cond b (record row { depth = r.depth }) r
    ∷ with_row x (λ s. record row { depth = s.depth }) rows) y
    ≡ or_row (row_at (rows_by_id_of row) y) (row_in (r ∷ rows) y)
replaced_here true x y row r old rows e found apart alone same later =
    let here : r ≡ old = cc in
    let f : NodeRow → NodeRow = λ s. record row { depth = s.depth } in
    let out : mem x (map (λ s. s.id) rows) ≡ false = ap (λ i. mem i (map (λ s. s.id) rows)) (sym ((bytes_eq-Decides r.id x).0 e)) ∙ alone in
    ap (λ rs. row_at (rows_by_id_of row ++ rows_by_id rs) y) (at_key-none (λ s. s.id) x f rows out) ∙ row_at-append (rows_by_id_of row) (rows_by_id rows) y
    ∙ hides (row_at (rows_by_id_of row) y) (row_at (rows_by_id_of r) y) (row_in rows y) (is_some-rows_by_id_of row y ∙ ap (mem y) (same ∙ ap ids_of (sym here)) ∙ sym (is_some-rows_by_id_of r y))
    ∙ ap (or_row (row_at (rows_by_id_of row) y)) (sym (row_at-append (rows_by_id_of r) (rows_by_id rows) y))
replaced_here false x y row r old rows e found apart alone same later =
    row_at-append (rows_by_id_of r) (rows_by_id (with_row x (λ s. record row { depth = s.depth }) rows)) y
    ∙ ap (or_row (row_at (rows_by_id_of r) y)) (later found)
    ∙ swaps (row_at (rows_by_id_of r) y) (row_at (rows_by_id_of row) y) (row_in rows y)
    (λ here. is_some-rows_by_id_of row y
    ∙ not_both (mem y (ids_of r)) (mem y (ids_of row)) (mem y (ids rows)) (λ there. other_part y (ids_of r) (ids rows) apart there) (λ there. among x y old rows found (ap (mem y) (sym same) ∙ there)) (sym (is_some-rows_by_id_of r y) ∙ here))
    ∙ ap (or_row (row_at (rows_by_id_of row) y)) (sym (row_at-append (rows_by_id_of r) (rows_by_id rows) y))

replaced_from : (x y : List ℕ) (row old : NodeRow) (rows : List NodeRow) → row_of rows x ≡ Some old
    → are_distinct (ids rows) ≡ true → are_distinct (map (λ s. s.id) rows) ≡ true
    → ids_of row ≡ ids_of old
    → row_in (with_row x (λ s. record row { depth = s.depth }) rows) y
    ≡ or_row (row_at (rows_by_id_of row) y) (row_in rows y)
replaced_from x y row old [] found apart nodes same = cc
replaced_from x y row old (r ∷ rows) found apart nodes same =
    let parts = and_parts _ _ nodes in
    replaced_here (bytes_eq r.id x) x y row r old rows refl found apart (not-true _ parts.0) same (λ there. replaced_from x y row old rows there (later_distinct (ids_of r) (ids rows) apart) parts.1 same)

named_id : (b : Bool) (x : List ℕ) (r old : NodeRow) (later : Option NodeRow) → bytes_eq r.id x ≡ b
    → cond b (Some r) later ≡ Some old → (later ≡ Some old → old.id ≡ x) → old.id ≡ x
named_id true x r old later e found go =
    let here : r ≡ old = cc in
    ap (λ s. s.id) (sym here) ∙ (bytes_eq-Decides r.id x).0 e
named_id false x r old later e found go = go found

-- the row of an id has it
pub row_of-id : (rows : List NodeRow) (x : List ℕ) (old : NodeRow) → row_of rows x ≡ Some old
    → old.id ≡ x
row_of-id [] x old found = cc
row_of-id (r ∷ rows) x old found = named_id (bytes_eq r.id x) x r old (row_of rows x) refl found (row_of-id rows x old)

pub replaced_node_of_rows : ReplacedNodeOfRows
replaced_node_of_rows row rows valid may y =
    let same : ids_of row ≡ ids_of may.old = ap (λ i. i ∷ map (λ x. x.id) row.resources) (sym (row_of-id rows row.id may.old may.there)) ∙ ap (λ is. may.old.id ∷ is) may.resources in
    replaced_from row.id y row may.old rows may.there valid.distinct (node_ids_distinct rows valid.distinct) same ∙ ap (λ ls. or_row (row_at ls y) (row_in rows y)) (sym (append-nil (rows_by_id_of row)))
