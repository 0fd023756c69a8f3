-- An edit makes of the rows by id what it makes of them on the plain ticket.
use Rattle.std.proofs.Common.{◌≡◌, ℕ, ◌||◌, Bool, true, false, cond, List, [], ◌∷◌, ◌++◌, map}
use Rattle.std.proofs.Common.{Option, Some, None, refl, sym, ap, ◌∙◌}
use Rattle.std.proofs.lemmas.Bool.{true≢false, and_parts, or_parts, not-true, or_from}
use Rattle.std.proofs.lemmas.List.{map-append}
use Rattle.std.proofs.lemmas.Slice.Eq.{bytes_eq-Decides}
use Rattle.std.specs.List.{find, flat_map}
use Rattle.std.specs.Option.{option_map}
use Rattle.std.specs.Str.{bytes_eq}
use Rattle.ticket_items.proofs.Apart.{mem-append, bytes_eq-symm, or_true, later_part}
use Rattle.ticket_items.proofs.Apart.{later_distinct}
use Rattle.ticket_items.proofs.AtKey.{at_key, at_key-none}
use Rattle.ticket_rows.specs.Edit.{with_row, with_resource}
use Rattle.ticket_items.specs.Resource.{with_item}
use Rattle.ticket_items.specs.Ids.{mem, are_distinct}
use Rattle.ticket_rows.specs.Place.{Row, node_row, resource_row, rows_by_id, rows_by_id_of}
use Rattle.ticket_tree.specs.PlainEdit.{with_row_changed}
use Rattle.ticket_rows.specs.Ticket.{ids, node_ids}
use Rattle.ticket_items.specs.declared.node_row.NodeRow.{NodeRow}
use Rattle.ticket_items.specs.declared.resource.Resource.{Resource}

abbrev pub Line : Type 0
Line = List ℕ × Row

abbrev pub row_at : List Line → List ℕ → Option Row
row_at ls y = option_map (λ l. l.1) (find (λ l. bytes_eq l.0 y) ls)

abbrev pub line_with : (Row → Row) → Line → Line
line_with g l = (l.0, g l.1)

-- ---- one line changed

key_kept : (b : Bool) (g : Row → Row) (l : Line) → (cond b (line_with g l) l).0 ≡ l.0
key_kept true g l = refl
key_kept false g l = refl

row_changed : (b : Bool) (g : Row → Row) (l : Line)
    → (cond b (line_with g l) l).1 ≡ cond b (g l.1) l.1
row_changed true g l = refl
row_changed false g l = refl

touch_at : (here is : Bool) (g : Row → Row) (r s : Row) (later old : Option Row)
    → (here ≡ true → s ≡ cond is (g r) r) → later ≡ cond is (option_map g old) old
    → cond here (Some s) later
    ≡ cond is (option_map g (cond here (Some r) old)) (cond here (Some r) old)
touch_at true true g r s later old row rest = ap Some (row refl)
touch_at true false g r s later old row rest = ap Some (row refl)
touch_at false is g r s later old row rest = rest

pub line_cond : (b : Bool) (l : Line) (o : Option Line)
    → option_map (λ k. k.1) (cond b (Some l) o) ≡ cond b (Some l.1) (option_map (λ k. k.1) o)
line_cond true l o = refl
line_cond false l o = refl

touch_none : (is : Bool) (g : Row → Row) → None ≡ cond is (option_map g None) None
touch_none true g = refl
touch_none false g = refl

pub row_at-touched : (x : List ℕ) (g : Row → Row) (ls : List Line) (y : List ℕ)
    → row_at (at_key (λ l. l.0) x (line_with g) ls) y ≡ with_row_changed x g (row_at ls) y
row_at-touched x g [] y = touch_none (bytes_eq x y) g
row_at-touched x g (l ∷ ls) y =
    let is : Bool = bytes_eq l.0 x in
    let m : Line = cond is (line_with g l) l in
    let later : List Line = at_key (λ k. k.0) x (line_with g) ls in
    line_cond (bytes_eq m.0 y) m (find (λ k. bytes_eq k.0 y) later)
    ∙ ap (λ i. cond (bytes_eq i y) (Some m.1) (row_at later y)) (key_kept is g l)
    ∙ touch_at (bytes_eq l.0 y) (bytes_eq x y) g l.1 m.1 (row_at later y) (row_at ls y)
    (λ here. row_changed is g l ∙ ap (λ b. cond b (g l.1) l.1) (bytes_eq-symm l.0 x ∙ ap (bytes_eq x) ((bytes_eq-Decides l.0 y).0 here))) (row_at-touched x g ls y)
    ∙ ap (λ o. cond (bytes_eq x y) (option_map g o) o) (sym (line_cond (bytes_eq l.0 y) l (find (λ k. bytes_eq k.0 y) ls)))

-- ---- ids of nodes, and ids of resources

abbrev pub pool_ids : NodeRow → List (List ℕ)
pool_ids r = map (λ y. y.id) r.resources

abbrev pub resource_ids : List NodeRow → List (List ℕ)
resource_ids rows = flat_map pool_ids rows

no_resource_id : (x : List ℕ) (rows : List NodeRow) → mem x (ids rows) ≡ false
    → mem x (resource_ids rows) ≡ false
no_resource_id x [] out = refl
no_resource_id x (r ∷ rows) out =
    let parts = or_parts (bytes_eq r.id x) _ out in
    let own = or_parts (mem x (pool_ids r)) (mem x (ids rows)) (sym (mem-append x (pool_ids r) (ids rows)) ∙ parts.1) in
    mem-append x (pool_ids r) (resource_ids rows) ∙ or_from _ _ own.0 (no_resource_id x rows own.1)

among_at : (b : Bool) (x : List ℕ) (own rest : List (List ℕ)) (c : Bool) → (b || c) ≡ true
    → (c ≡ true → mem x rest ≡ true) → (b || mem x (own ++ rest)) ≡ true
among_at true x own rest c there later = refl
among_at false x own rest c there later = mem-append x own rest ∙ ap (λ b. mem x own || b) (later there) ∙ or_true (mem x own)

pub among_ids : (x : List ℕ) (rows : List NodeRow) → mem x (node_ids rows) ≡ true
    → mem x (ids rows) ≡ true
among_ids x [] there = there
among_ids x (r ∷ rows) there = among_at (bytes_eq r.id x) x (pool_ids r) (ids rows) (mem x (node_ids rows)) there (among_ids x rows)

first_other : (b : Bool) (x y : List ℕ) (xs ys : List (List ℕ)) → bytes_eq y x ≡ b
    → mem y (xs ++ ys) ≡ false → mem x ys ≡ true → b ≡ false
first_other true x y xs ys e out there =
    absurd (true≢false (sym there ∙ ap (λ z. mem z ys) (sym ((bytes_eq-Decides y x).0 e)) ∙ later_part y xs ys out))
first_other false x y xs ys e out there = refl

pub first_out : (x : List ℕ) (xs ys : List (List ℕ)) → are_distinct (xs ++ ys) ≡ true
    → mem x ys ≡ true → mem x xs ≡ false
first_out x [] ys apart there = refl
first_out x (y ∷ xs) ys apart there =
    let parts = and_parts _ _ apart in
    or_from _ _ (first_other (bytes_eq y x) x y xs ys refl (not-true _ parts.0) there) (first_out x xs ys parts.1 there)

kinds_at : (b : Bool) (x : List ℕ) (r : NodeRow) (rows : List NodeRow) → bytes_eq r.id x ≡ b
    → (mem r.id (pool_ids r ++ ids rows) ≡ false) × (are_distinct (pool_ids r ++ ids rows) ≡ true)
    → (b || mem x (node_ids rows)) ≡ true
    → (mem x (node_ids rows) ≡ true → mem x (resource_ids rows) ≡ false)
    → mem x (pool_ids r ++ resource_ids rows) ≡ false
kinds_at true x r rows e parts there go =
    let named : r.id ≡ x = (bytes_eq-Decides r.id x).0 e in
    let out : mem x (pool_ids r ++ ids rows) ≡ false = ap (λ y. mem y (pool_ids r ++ ids rows)) (sym named) ∙ parts.0 in
    let own = or_parts (mem x (pool_ids r)) (mem x (ids rows)) (sym (mem-append x (pool_ids r) (ids rows)) ∙ out) in
    mem-append x (pool_ids r) (resource_ids rows) ∙ or_from _ _ own.0 (no_resource_id x rows own.1)
kinds_at false x r rows e parts there go =
    mem-append x (pool_ids r) (resource_ids rows) ∙ or_from _ _ (first_out x (pool_ids r) (ids rows) parts.1 (among_ids x rows there)) (go there)

-- where all ids are apart, a node's id is no resource's
pub node_no_resource : (x : List ℕ) (rows : List NodeRow) → are_distinct (ids rows) ≡ true
    → mem x (node_ids rows) ≡ true → mem x (resource_ids rows) ≡ false
node_no_resource x [] apart there = refl
node_no_resource x (r ∷ rows) apart there =
    let parts = and_parts _ _ apart in
    kinds_at (bytes_eq r.id x) x r rows refl (not-true _ parts.0, parts.1) there (node_no_resource x rows (later_distinct (pool_ids r) (ids rows) parts.1))

or_out : (b c : Bool) → (b ≡ true → c ≡ false) → c ≡ true → b ≡ false
or_out true c h there = absurd (true≢false (sym there ∙ h refl))
or_out false c h there = refl

-- and a resource's is no node's
pub resource_no_node : (x : List ℕ) (rows : List NodeRow) → are_distinct (ids rows) ≡ true
    → mem x (resource_ids rows) ≡ true → mem x (node_ids rows) ≡ false
resource_no_node x rows apart there = or_out (mem x (node_ids rows)) (mem x (resource_ids rows)) (node_no_resource x rows apart) there

-- ---- a change of a node's row

pub keys_of_pool : (pool : List Resource)
    → map (λ l. l.0) (map {B = Line} (λ y. (y.id, resource_row y)) pool) ≡ map (λ y. y.id) pool
keys_of_pool [] = refl
keys_of_pool (y ∷ pool) = ap (λ is. y.id ∷ is) (keys_of_pool pool)

at_key-append : (x : List ℕ) (g : Row → Row) (xs ys : List Line)
    → at_key (λ l. l.0) x (line_with g) (xs ++ ys)
    ≡ at_key (λ l. l.0) x (line_with g) xs ++ at_key (λ l. l.0) x (line_with g) ys
at_key-append x g xs ys = map-append (λ l. cond (bytes_eq l.0 x) (line_with g l) l) xs ys

-- f changes of a row what g changes of its plain row, and leaves its id and its pool
pub record ChangesAs (f : NodeRow → NodeRow) (g : Row → Row) : Type 0 where
  pub id : (r : NodeRow) → (f r).id ≡ r.id
  pub pool : (r : NodeRow) → (f r).resources ≡ r.resources
  pub row : (r : NodeRow) → node_row (f r) ≡ g (node_row r)

abbrev pub pool_lines : List Resource → List Line
pool_lines pool = map (λ y. (y.id, resource_row y)) pool

node_line : (b : Bool) (f : NodeRow → NodeRow) (g : Row → Row) (r : NodeRow) → ChangesAs f g
    → rows_by_id_of (cond b (f r) r)
    ≡ cond b (line_with g (r.id, node_row r)) (r.id, node_row r) ∷ pool_lines r.resources
node_line true f g r alike =
    ap (λ i. (i, node_row (f r)) ∷ pool_lines (f r).resources) (alike.id r) ∙ ap (λ pool. (r.id, node_row (f r)) ∷ pool_lines pool) (alike.pool r) ∙ ap (λ row. (r.id, row) ∷ pool_lines r.resources) (alike.row r)
node_line false f g r alike = refl

pub rows_by_id-with_row : (x : List ℕ) (f : NodeRow → NodeRow) (g : Row → Row) (rows : List NodeRow)
    → ChangesAs f g → mem x (resource_ids rows) ≡ false
    → rows_by_id (with_row x f rows) ≡ at_key (λ l. l.0) x (line_with g) (rows_by_id rows)
rows_by_id-with_row x f g [] alike out = refl
rows_by_id-with_row x f g (r ∷ rows) alike out =
    let parts = or_parts (mem x (pool_ids r)) (mem x (resource_ids rows)) (sym (mem-append x (pool_ids r) (resource_ids rows)) ∙ out) in
    let own : at_key (λ l. l.0) x (line_with g) (pool_lines r.resources) ≡ pool_lines r.resources =
    at_key-none (λ l. l.0) x (line_with g) (pool_lines r.resources) (ap (mem x) (keys_of_pool r.resources) ∙ parts.0) in
    let first : Line = cond (bytes_eq r.id x) (line_with g (r.id, node_row r)) (r.id, node_row r) in
    ap (λ ls. ls ++ rows_by_id (with_row x f rows)) (node_line (bytes_eq r.id x) f g r alike)
    ∙ ap (λ ls. (first ∷ pool_lines r.resources) ++ ls) (rows_by_id-with_row x f g rows alike parts.1)
    ∙ ap (λ ls. (first ∷ ls) ++ at_key (λ l. l.0) x (line_with g) (rows_by_id rows)) (sym own)
    ∙ sym (at_key-append x g (rows_by_id_of r) (rows_by_id rows))

-- ---- a change of a resource

pool_line : (b : Bool) (f : Resource → Resource) (g : Row → Row) (y : Resource) → (f y).id ≡ y.id
    → resource_row (f y) ≡ g (resource_row y)
    → ((cond b (f y) y).id, resource_row (cond b (f y) y))
    ≡ cond b (line_with g (y.id, resource_row y)) (y.id, resource_row y)
pool_line true f g y id row = ap (λ i. (i, resource_row (f y))) id ∙ ap (λ r. (y.id, r)) row
pool_line false f g y id row = refl

lines_of_pool : (x : List ℕ) (f : Resource → Resource) (g : Row → Row) (pool : List Resource)
    → ((y : Resource) → (f y).id ≡ y.id)
    → ((y : Resource) → resource_row (f y) ≡ g (resource_row y))
    → pool_lines (with_item x f pool) ≡ at_key (λ l. l.0) x (line_with g) (pool_lines pool)
lines_of_pool x f g [] id row = refl
lines_of_pool x f g (y ∷ pool) id row =
    ap (λ l. l ∷ pool_lines (with_item x f pool)) (pool_line (bytes_eq y.id x) f g y (id y) (row y)) ∙ ap (λ ls. cond (bytes_eq y.id x) (line_with g (y.id, resource_row y)) (y.id, resource_row y) ∷ ls) (lines_of_pool x f g pool id row)

pub rows_by_id-with_resource : (x : List ℕ) (f : Resource → Resource) (g : Row → Row)
    (rows : List NodeRow)
    → ((y : Resource) → (f y).id ≡ y.id)
    → ((y : Resource) → resource_row (f y) ≡ g (resource_row y)) → mem x (node_ids rows) ≡ false
    → rows_by_id (with_resource x f rows) ≡ at_key (λ l. l.0) x (line_with g) (rows_by_id rows)
rows_by_id-with_resource x f g [] id row out = refl
rows_by_id-with_resource x f g (r ∷ rows) id row out =
    let parts = or_parts (bytes_eq r.id x) (mem x (node_ids rows)) out in
    let own : Line = (r.id, node_row r) in
    ap (λ ls. (own ∷ ls) ++ rows_by_id (with_resource x f rows)) (lines_of_pool x f g r.resources id row)
    ∙ ap (λ ls. (own ∷ at_key (λ l. l.0) x (line_with g) (pool_lines r.resources)) ++ ls) (rows_by_id-with_resource x f g rows id row parts.1)
    ∙ ap (λ b. (cond b (line_with g own) own ∷ at_key (λ l. l.0) x (line_with g) (pool_lines r.resources)) ++ at_key (λ l. l.0) x (line_with g) (rows_by_id rows)) (sym parts.0)
    ∙ sym (at_key-append x g (rows_by_id_of r) (rows_by_id rows))
