-- A change of each row that keeps where it stands: the rows stay a ticket.
use Rattle.std.proofs.Common.{◌≡◌, ℕ, zero, suc, ◌-◌, ◌&&◌, Bool, true, false, not, cond, List, []}
use Rattle.std.proofs.Common.{◌∷◌, ◌++◌, map, length, drop, Option, Some, None, refl, sym, ap, ◌∙◌}
use Rattle.std.proofs.Common.{set, get_or, slice_get, nat_le}
use Rattle.std.proofs.lemmas.Bool.{and_parts, and_from, or_parts, cond_both}
use Rattle.std.specs.List.{flat_map, list_all, position}
use Rattle.std.specs.Option.{option_map}
use Rattle.std.specs.Str.{bytes_eq}
use Rattle.std.proofs.lemmas.Option.{slice_get-get_or}
use Rattle.ticket_items.proofs.Places.{position-cons, below_length}
use Rattle.ticket_items.proofs.FirstFault.{unless_holds}
use Rattle.ticket_items.specs.Act.{Change, NewStatus, status_after}
use Rattle.ticket_rows.specs.Edit.{with_row, with_resource, changed_node}
use Rattle.ticket_rows.specs.EditRefusal.{change_refusal}
use Rattle.ticket_items.specs.Resource.{with_item}
use Rattle.ticket_items.proofs.Apart.{mem-append, later_distinct, front_distinct, other_part}
use Rattle.ticket_rows.proofs.AtHome.{holds, any-map, home_of-cons}
use Rattle.ticket_items.proofs.AtKey.{write_at_key, at_key-none}
use Rattle.ticket_rows.proofs.NodePlaces.{node_ids_distinct}
use Rattle.ticket_rows.proofs.LinkWalk.{resolves, are_resolved_from, links_same, resolved_walk}
use Rattle.ticket_rows.specs.Homes.{home_of}
use Rattle.ticket_items.specs.Ids.{mem, are_distinct}
use Rattle.ticket_rows.specs.Outline.{is_outline}
use Rattle.ticket_rows.specs.Place.{path_of}
use Rattle.ticket_rows.specs.Ticket.{IsValid, ids, ids_of, is_reserved, max_depth}
use Rattle.ticket_items.specs.declared.refusal.Refusal.TheVariants.{ReservedStatus}
use Rattle.ticket_items.specs.declared.resource.Resource.{Resource}
use Rattle.ticket_items.specs.declared.node_row.NodeRow.{NodeRow}

-- ---- what a change of each row keeps

-- g keeps where a row stands, the ids of its pool and its links, and gives no reserved Status
pub record KeepsTicket (g : NodeRow → NodeRow) : Type 0 where
  pub id : (r : NodeRow) → (g r).id ≡ r.id
  pub depth : (r : NodeRow) → (g r).depth ≡ r.depth
  pub pool : (r : NodeRow) → map (λ x. x.id) (g r).resources ≡ map (λ x. x.id) r.resources
  pub links : (r : NodeRow) → (g r).links ≡ r.links
  pub status : (r : NodeRow) → not (is_reserved r.status) ≡ true → not (is_reserved (g r).status) ≡ true

cond_same : {X Y : Type 0} (h : X → Y) (b : Bool) (x y : X) → h x ≡ h y → h (cond b x y) ≡ h y
cond_same h true x y e = e
cond_same h false x y e = refl

-- a change of the row of one id
abbrev pub at_id : List ℕ → (NodeRow → NodeRow) → NodeRow → NodeRow
at_id x f r = cond (bytes_eq r.id x) (f r) r

pub keeps-at_id : (x : List ℕ) (f : NodeRow → NodeRow) → KeepsTicket f → KeepsTicket (at_id x f)
keeps-at_id x f keeps =
    record {
      id = λ r. cond_same (λ s. s.id) (bytes_eq r.id x) (f r) r (keeps.id r);
      depth = λ r. cond_same (λ s. s.depth) (bytes_eq r.id x) (f r) r (keeps.depth r);
      pool = λ r. cond_same (λ s. map (λ y. y.id) s.resources) (bytes_eq r.id x) (f r) r (keeps.pool r);
      links = λ r. cond_same (λ s. s.links) (bytes_eq r.id x) (f r) r (keeps.links r);
      status = λ r free. cond_both (bytes_eq r.id x) (f r) r (λ s. not (is_reserved s.status) ≡ true) (λ _. keeps.status r free) (λ _. free);
    }

map-kept : {Y : Type 0} (h : NodeRow → Y) (g : NodeRow → NodeRow) (rows : List NodeRow)
    → ((r : NodeRow) → h (g r) ≡ h r) → map h (map g rows) ≡ map h rows
map-kept h g [] keeps = refl
map-kept h g (r ∷ rows) keeps = ap (λ y. y ∷ map h (map g rows)) (keeps r) ∙ ap (λ ys. h r ∷ ys) (map-kept h g rows keeps)

flat-kept : {Y : Type 0} (h : NodeRow → List Y) (g : NodeRow → NodeRow) (rows : List NodeRow)
    → ((r : NodeRow) → h (g r) ≡ h r) → flat_map h (map g rows) ≡ flat_map h rows
flat-kept h g [] keeps = refl
flat-kept h g (r ∷ rows) keeps = ap (λ ys. ys ++ flat_map h (map g rows)) (keeps r) ∙ ap (λ ys. h r ++ ys) (flat-kept h g rows keeps)

all-kept : (p : NodeRow → Bool) (g : NodeRow → NodeRow) (rows : List NodeRow)
    → ((r : NodeRow) → p r ≡ true → p (g r) ≡ true) → list_all p rows ≡ true
    → list_all p (map g rows) ≡ true
all-kept p g [] keeps h = refl
all-kept p g (r ∷ rows) keeps h =
    let parts = and_parts _ _ h in
    and_from _ _ (keeps r parts.0) (all-kept p g rows keeps parts.1)

-- ---- homes

home_of-kept : (g : NodeRow → NodeRow) (rows : List NodeRow) (x : List ℕ) → KeepsTicket g
    → home_of (map g rows) x ≡ home_of rows x
home_of-kept g [] x keeps = refl
home_of-kept g (r ∷ rows) x keeps =
    home_of-cons x (g r) (map g rows)
    ∙ ap (λ ids. cond (mem x ids) (Some (g r).id) (home_of (map g rows) x)) (keeps.pool r)
    ∙ ap (λ h. cond (mem x (map (λ y. y.id) r.resources)) (Some h) (home_of (map g rows) x)) (keeps.id r)
    ∙ ap (λ o. cond (mem x (map (λ y. y.id) r.resources)) (Some r.id) o) (home_of-kept g rows x keeps)
    ∙ sym (home_of-cons x r rows)

-- ---- links

path-kept : (g : NodeRow → NodeRow) (before : List (List ℕ)) (r : NodeRow) → KeepsTicket g
    → path_of before (g r) ≡ path_of before r
path-kept g before r keeps =
    ap (λ i. i ∷ drop (length before - ((g r).depth - 1)) before) (keeps.id r) ∙ ap (λ d. r.id ∷ drop (length before - (d - 1)) before) (keeps.depth r)

resolved-kept : (g : NodeRow → NodeRow) (old new : List NodeRow) (before : List (List ℕ))
    (rows : List NodeRow)
    → KeepsTicket g → ((x : List ℕ) → home_of new x ≡ home_of old x)
    → are_resolved_from new before (map g rows) ≡ are_resolved_from old before rows
resolved-kept g old new before [] keeps same = refl
resolved-kept g old new before (r ∷ rows) keeps same =
    ap (λ path. list_all (resolves new path) (g r).links && are_resolved_from new path (map g rows)) (path-kept g before r keeps)
    ∙ ap (λ links. list_all (resolves new (path_of before r)) links && are_resolved_from new (path_of before r) (map g rows)) (keeps.links r)
    ∙ ap (λ b. b && are_resolved_from new (path_of before r) (map g rows)) (links_same old new (path_of before r) r.links same)
    ∙ ap (λ b. list_all (resolves old (path_of before r)) r.links && b) (resolved-kept g old new (path_of before r) rows keeps same)

-- ---- the whole

ids_of-kept : (g : NodeRow → NodeRow) (r : NodeRow) → KeepsTicket g → ids_of (g r) ≡ ids_of r
ids_of-kept g r keeps = ap (λ i. i ∷ map (λ x. x.id) (g r).resources) (keeps.id r) ∙ ap (λ is. r.id ∷ is) (keeps.pool r)

pub IsValid-kept : (g : NodeRow → NodeRow) (rows : List NodeRow) → KeepsTicket g → IsValid rows
    → IsValid (map g rows)
IsValid-kept g rows keeps valid =
    record {
      tree = ap is_outline (map-kept (λ r. r.depth) g rows keeps.depth) ∙ valid.tree;
      unreserved = all-kept (λ r. not (is_reserved r.status)) g rows keeps.status valid.unreserved;
      distinct = ap are_distinct (flat-kept ids_of g rows (λ r. ids_of-kept g r keeps)) ∙ valid.distinct;
      shallow = all-kept (λ r. nat_le r.depth max_depth) g rows (λ r h. ap (λ d. nat_le d max_depth) (keeps.depth r) ∙ h) valid.shallow;
      resolved = resolved_walk (map g rows) ∙ resolved-kept g rows (map g rows) [] rows keeps (λ x. home_of-kept g rows x keeps) ∙ sym (resolved_walk rows) ∙ valid.resolved;
    }

pub IsValid-with_row : (x : List ℕ) (f : NodeRow → NodeRow) (rows : List NodeRow) → KeepsTicket f
    → IsValid rows → IsValid (with_row x f rows)
IsValid-with_row x f rows keeps valid = IsValid-kept (at_id x f) rows (keeps-at_id x f keeps) valid

-- ---- the changes of rows

status-kept : (change : Change) (old : List ℕ) → change_refusal change ≡ None
    → not (is_reserved old) ≡ true → not (is_reserved (status_after change old)) ≡ true
status-kept (NewStatus status) old allowed free = unless_holds (not (is_reserved status)) ReservedStatus allowed
status-kept change old allowed free = free

pub keeps-changed_node : (change : Change) (at : ℕ) → change_refusal change ≡ None
    → KeepsTicket (changed_node change at)
keeps-changed_node change at allowed = record { id = λ r. refl; depth = λ r. refl; pool = λ r. refl; links = λ r. refl; status = λ r free. status-kept change r.status allowed free }

pub pool-kept : (x : List ℕ) (f : Resource → Resource) (pool : List Resource)
    → ((y : Resource) → (f y).id ≡ y.id)
    → map (λ y. y.id) (with_item x f pool) ≡ map (λ y. y.id) pool
pool-kept x f [] keeps = refl
pool-kept x f (y ∷ pool) keeps =
    ap (λ i. i ∷ map (λ z. z.id) (with_item x f pool)) (cond_same (λ z. z.id) (bytes_eq y.id x) (f y) y (keeps y)) ∙ ap (λ is. y.id ∷ is) (pool-kept x f pool keeps)

pub keeps-resources : (x : List ℕ) (f : Resource → Resource) → ((y : Resource) → (f y).id ≡ y.id)
    → KeepsTicket (λ r. record r { resources = with_item x f r.resources })
keeps-resources x f keeps = record { id = λ r. refl; depth = λ r. refl; pool = λ r. pool-kept x f r.resources keeps; links = λ r. refl; status = λ r h. h }

pub IsValid-with_resource : (x : List ℕ) (f : Resource → Resource) (rows : List NodeRow)
    → ((y : Resource) → (f y).id ≡ y.id) → IsValid rows → IsValid (with_resource x f rows)
IsValid-with_resource x f rows keeps valid = IsValid-kept (λ r. record r { resources = with_item x f r.resources }) rows (keeps-resources x f keeps) valid

-- ---- a write at the place that was found

-- a write of f at the place that was found among the rows as they were seen
pub change_at : (x : List ℕ) (f : NodeRow → NodeRow) (rows seen : List NodeRow) (k : ℕ)
    (s : NodeRow)
    → seen ≡ rows → are_distinct (ids rows) ≡ true → position (λ r. bytes_eq r.id x) seen ≡ Some k
    → s ≡ get_or rows k s → set rows k (f s) ≡ with_row x f rows
change_at x f rows seen k s same apart found is = write_at_key (λ r. r.id) x f rows seen k s same (node_ids_distinct rows apart) found is

-- ---- a write in the pool that was found

-- the ids of a pool are apart
pub pool_apart : (rows : List NodeRow) (k : ℕ) (r : NodeRow) → are_distinct (ids rows) ≡ true
    → slice_get rows k ≡ Some r → are_distinct (map (λ y. y.id) r.resources) ≡ true
pool_apart [] k r apart at = cc
pool_apart (s ∷ rows) zero r apart at =
    let same : s ≡ r = cc in
    ap (λ t. are_distinct (map (λ y. y.id) t.resources)) (sym same) ∙ front_distinct (map (λ y. y.id) s.resources) (ids rows) (and_parts _ _ apart).1
pool_apart (s ∷ rows) (suc k) r apart at = pool_apart rows k r (later_distinct (map (λ y. y.id) s.resources) (ids rows) (and_parts _ _ apart).1) at

-- an id that isn't there changes no resource
pub with_resource-none : (x : List ℕ) (f : Resource → Resource) (rows : List NodeRow)
    → mem x (ids rows) ≡ false → with_resource x f rows ≡ rows
with_resource-none x f [] out = refl
with_resource-none x f (r ∷ rows) out =
    let parts = or_parts (bytes_eq r.id x) _ out in
    let own = or_parts (mem x (map (λ y. y.id) r.resources)) (mem x (ids rows)) (sym (mem-append x (map (λ y. y.id) r.resources) (ids rows)) ∙ parts.1) in
    ap (λ pool. record r { resources = pool } ∷ with_resource x f rows) (at_key-none (λ y. y.id) x f r.resources own.0) ∙ ap (λ rs. r ∷ rs) (with_resource-none x f rows own.1)

abbrev pub with_pool : List ℕ → (Resource → Resource) → NodeRow → NodeRow
with_pool x f r = record r { resources = with_item x f r.resources }

set_pool : (here : Bool) (later : Option ℕ) (x : List ℕ) (f : Resource → Resource) (r : NodeRow)
    (rows : List NodeRow) (k : ℕ) (s : NodeRow)
    → holds x r ≡ here → cond here (Some 0) (option_map suc later) ≡ Some k
    → slice_get (r ∷ rows) k ≡ Some s
    → are_distinct (map (λ y. y.id) r.resources ++ ids rows) ≡ true
    → ((j : ℕ) → later ≡ Some j → slice_get rows j ≡ Some s
    → set rows j (with_pool x f s) ≡ with_resource x f rows)
    → set (r ∷ rows) k (with_pool x f s) ≡ with_resource x f (r ∷ rows)
set_pool true later x f r rows zero s e found at apart go =
    let same : r ≡ s = cc in
    ap (λ t. with_pool x f t ∷ rows) (sym same) ∙ ap (λ rs. with_pool x f r ∷ rs) (sym (with_resource-none x f rows (other_part x (map (λ y. y.id) r.resources) (ids rows) apart (any-map x r.resources ∙ e))))
set_pool true later x f r rows (suc k) s e found at apart go = cc
set_pool false None x f r rows k s e found at apart go = cc
set_pool false (Some j) x f r rows zero s e found at apart go = cc
set_pool false (Some j) x f r rows (suc k) s e found at apart go =
    let next : k ≡ j = cc in
    let rest : set rows k (with_pool x f s) ≡ with_resource x f rows = ap (λ i. set rows i (with_pool x f s)) next ∙ go j refl (ap (slice_get rows) (sym next) ∙ at) in
    ap (λ rs. r ∷ rs) rest ∙ ap (λ pool. record r { resources = pool } ∷ with_resource x f rows) (sym (at_key-none (λ y. y.id) x f r.resources (any-map x r.resources ∙ e)))

set-with_resource : (x : List ℕ) (f : Resource → Resource) (rows : List NodeRow) (k : ℕ)
    (s : NodeRow)
    → are_distinct (ids rows) ≡ true → position (holds x) rows ≡ Some k → slice_get rows k ≡ Some s
    → set rows k (with_pool x f s) ≡ with_resource x f rows
set-with_resource x f [] k s apart found at = cc
set-with_resource x f (r ∷ rows) k s apart found at =
    let parts = and_parts _ _ apart in
    set_pool (holds x r) (position (holds x) rows) x f r rows k s refl (sym (position-cons (holds x) r rows) ∙ found) at parts.1 (λ j e a. set-with_resource x f rows j s (later_distinct (map (λ y. y.id) r.resources) (ids rows) parts.1) e a)

-- the row at the place that was found among the rows as they were seen
pub home_at_place : (x : List ℕ) (rows seen : List NodeRow) (k : ℕ) (s : NodeRow) → seen ≡ rows
    → position (holds x) seen ≡ Some k → s ≡ get_or rows k s → slice_get rows k ≡ Some s
home_at_place x rows seen k s same found is =
    slice_get-get_or rows k s (below_length (holds x) rows k (ap (position (holds x)) (sym same) ∙ found)) ∙ ap Some (sym is)

pub change_pool_at : (x : List ℕ) (f : Resource → Resource) (rows seen : List NodeRow) (k : ℕ)
    (s : NodeRow)
    → seen ≡ rows → are_distinct (ids rows) ≡ true → position (holds x) seen ≡ Some k
    → s ≡ get_or rows k s → set rows k (with_pool x f s) ≡ with_resource x f rows
change_pool_at x f rows seen k s same apart found is =
    set-with_resource x f rows k s apart (ap (position (holds x)) (sym same) ∙ found) (home_at_place x rows seen k s same found is)
