-- A part stays what it is while nothing moves and no row below its node changes.
use Rattle.std.proofs.Common.{◌≡◌, ◌∙◌, ◌⊎◌, ℕ, ◌-◌, Bool, true, false, cond, List, [], ◌∷◌, ◌++◌}
use Rattle.std.proofs.Common.{length, map, drop, reverse, Option, Some, None, Result, Ok, is_some}
use Rattle.std.proofs.Common.{slice_get, inl, inr, refl, sym, ap, arith}
use Rattle.std.proofs.lemmas.Bool.{true≢false}
use Rattle.std.proofs.lemmas.List.{map-append, length-append}
use Rattle.std.proofs.lemmas.Slice.Eq.{bytes_eq-Decides}
use Rattle.std.specs.List.{filter}
use Rattle.std.specs.Option.{option_map, option_map_or, option_and_then}
use Rattle.std.specs.Str.{bytes_eq}
use Rattle.ticket_tree.proofs.Parents.{one_parent_each}
use Rattle.ticket_tree.proofs.PlainOneRow.{append_of_places}
use Rattle.ticket_tree.proofs.OnPlaces.{stands_node}
use Rattle.ticket_items.specs.Ids.{mem}
use Rattle.ticket_tree.specs.Laws.{HasParentAt, IsRootAt}
use Rattle.ticket_rows.specs.OneRow.{rows_with_audit}
use Rattle.ticket_tree.specs.Part.{part_copy}
use Rattle.ticket_rows.specs.Place.{Place, places, node_places, nodes_in, place_at, parent, up}
use Rattle.ticket_rows.specs.Place.{is_below, below}
use Rattle.ticket_items.specs.SpawnId.{is_spawn_number}
use Rattle.ticket_rows.specs.Ticket.{Job, IsValid, has_node, row_of, first_of, unless}
use Rattle.ticket_items.specs.declared.audit.Audit.{Audit}
use Rattle.ticket_items.specs.declared.node_row.NodeRow.{NodeRow}
use Rattle.ticket_items.specs.declared.refusal.Refusal.{Refusal}
use Rattle.ticket_items.specs.declared.refusal.Refusal.TheVariants.{UnknownNode, IsRoot}
use Rattle.ticket_items.specs.declared.refusal.Refusal.TheVariants.{UnknownResource, NotLinked}
use Rattle.ticket_items.specs.declared.refusal.Refusal.TheVariants.{TooManySpawns}
use Rattle.spawn.proofs.Ancestry.{reverse-cons}
use Rattle.spawn.proofs.Chosen.{resources_cons}
use Rattle.spawn.specs.Parts.{above, ancestor, ancestors, lifted_row, part_for, resources}
use Rattle.spawn.specs.Parts.{resources_among}
use Rattle.ticket_tree.specs.At.{rows_below}
use Rattle.spawn.specs.Spawning.{new_record, parent_of, spawn_refusal}
use Rattle.spawn.specs.declared.records.spawn_rec.SpawnRec.{SpawnRec}
use Rattle.spawn.proofs.Outside.{some_of}

-- ---- rows that change, each for itself

-- a change of rows leaves their ids, job parts and resources
pub record KeepsNames (g : NodeRow → NodeRow) : Type 0 where
  pub id : (r : NodeRow) → (g r).id ≡ r.id
  pub job_part : (r : NodeRow) → (g r).job_part ≡ r.job_part
  pub resources : (r : NodeRow) → (g r).resources ≡ r.resources

found_at : (here : Bool) (g : NodeRow → NodeRow) (r : NodeRow) (o later : Option NodeRow)
    → o ≡ option_map g later → cond here (Some (g r)) o ≡ option_map g (cond here (Some r) later)
found_at true g r o later e = refl
found_at false g r o later e = e

row_of_changed : (g : NodeRow → NodeRow) → KeepsNames g → (rows : List NodeRow) (x : List ℕ)
    → row_of (map g rows) x ≡ option_map g (row_of rows x)
row_of_changed g keeps [] x = refl
row_of_changed g keeps (r ∷ rows) x =
    ap (λ i. cond (bytes_eq i x) (Some (g r)) (row_of (map g rows) x)) (keeps.id r) ∙ found_at (bytes_eq r.id x) g r (row_of (map g rows) x) (row_of rows x) (row_of_changed g keeps rows x)

part_at : (g : NodeRow → NodeRow) → KeepsNames g → (o : Option NodeRow)
    → option_map_or (λ r. r.job_part) (option_map g o) [] ≡ option_map_or (λ r. r.job_part) o []
part_at g keeps None = refl
part_at g keeps (Some r) = keeps.job_part r

ancestor_changed : (g : NodeRow → NodeRow) → KeepsNames g → (rows : List NodeRow) (a : List ℕ)
    → ancestor (map g rows) a ≡ ancestor rows a
ancestor_changed g keeps rows a =
    ap (λ o. record { node_id = a; job_part = option_map_or (λ r. r.job_part) o [] }) (row_of_changed g keeps rows a) ∙ ap (λ part. record { node_id = a; job_part = part }) (part_at g keeps (row_of rows a))

all_ancestors : (g : NodeRow → NodeRow) → KeepsNames g → (rows : List NodeRow) (ids : List (List ℕ))
    → map (ancestor (map g rows)) ids ≡ map (ancestor rows) ids
all_ancestors g keeps rows [] = refl
all_ancestors g keeps rows (a ∷ ids) = ap (λ x. x ∷ map (ancestor (map g rows)) ids) (ancestor_changed g keeps rows a) ∙ ap (λ xs. ancestor rows a ∷ xs) (all_ancestors g keeps rows ids)

resources_changed : (g : NodeRow → NodeRow) → KeepsNames g → (rows : List NodeRow)
    → resources (map g rows) ≡ resources rows
resources_changed g keeps [] = refl
resources_changed g keeps (r ∷ rows) =
    resources_cons (g r) (map g rows) ∙ ap (λ xs. xs ++ resources (map g rows)) (keeps.resources r) ∙ ap (λ xs. r.resources ++ xs) (resources_changed g keeps rows) ∙ sym (resources_cons r rows)

kept_at : (b : Bool) (f : NodeRow → Bool) (g : NodeRow → NodeRow) (r : NodeRow)
    (xs ys : List NodeRow)
    → f r ≡ b → (f r ≡ true → g r ≡ r) → xs ≡ ys → cond b (g r ∷ xs) xs ≡ cond b (r ∷ ys) ys
kept_at true f g r xs ys e same rest = ap (λ s. s ∷ xs) (same e) ∙ ap (λ zs. r ∷ zs) rest
kept_at false f g r xs ys e same rest = rest

filter_changed : (f : NodeRow → Bool) (g : NodeRow → NodeRow) → ((r : NodeRow) → f (g r) ≡ f r)
    → ((r : NodeRow) → f r ≡ true → g r ≡ r) → (rows : List NodeRow)
    → filter f (map g rows) ≡ filter f rows
filter_changed f g as' same [] = refl
filter_changed f g as' same (r ∷ rows) =
    ap (λ b. cond b (g r ∷ filter f (map g rows)) (filter f (map g rows))) (as' r) ∙ kept_at (f r) f g r (filter f (map g rows)) (filter f rows) refl (same r) (filter_changed f g as' same rows)

-- a part where rows change, but none below its node, and nothing moves
pub part_kept : (t : Job) (s : SpawnRec) (g : NodeRow → NodeRow) → KeepsNames g
    → places (map g t.rows) ≡ places t.rows
    → ((r : NodeRow) → is_below (node_places t.rows) r.id s.node ≡ true → g r ≡ r)
    → part_for (record t { rows = map g t.rows }) s ≡ part_for t s
part_kept t s g keeps still same =
    let rows = t.rows in
    let new = map g rows in
    let n = s.node in
    let high : above new n ≡ above rows n = ap (λ tree. reverse (option_map_or (λ p. drop 1 p.path) (place_at (nodes_in tree) n) [])) still in
    let f : NodeRow → Bool = λ r. is_below (node_places rows) r.id n in
    let below_n : rows_below new n ≡ rows_below rows n =
    ap (λ tree. filter (λ r. is_below (nodes_in tree) r.id n) new) still ∙ filter_changed f g (λ r. ap (λ i. is_below (node_places rows) i n) (keeps.id r)) same rows in
    ap (λ a. part_copy t.job_id s.id (map (ancestor new) a) (map (lifted_row (length a)) (rows_below new n)) (resources_among s.rw new) s.ro) high
    ∙ ap (λ a. part_copy t.job_id s.id a (map (lifted_row (length (above rows n))) (rows_below new n)) (resources_among s.rw new) s.ro) (all_ancestors g keeps rows (above rows n))
    ∙ ap (λ rs. part_copy t.job_id s.id (ancestors rows n) (map (lifted_row (length (above rows n))) rs) (resources_among s.rw new) s.ro) below_n
    ∙ ap (λ xs. part_copy t.job_id s.id (ancestors rows n) (map (lifted_row (length (above rows n))) (rows_below rows n)) (filter (λ x. mem x.id s.rw) xs) s.ro) (resources_changed g keeps rows)

-- ---- an audit at the parent

at_id : (b : Bool) (audit : Audit) (r : NodeRow)
    → (cond b (record r { audits = r.audits ++ audit ∷ [] }) r).id ≡ r.id
at_id true audit r = refl
at_id false audit r = refl

at_part : (b : Bool) (audit : Audit) (r : NodeRow)
    → (cond b (record r { audits = r.audits ++ audit ∷ [] }) r).job_part ≡ r.job_part
at_part true audit r = refl
at_part false audit r = refl

at_pool : (b : Bool) (audit : Audit) (r : NodeRow)
    → (cond b (record r { audits = r.audits ++ audit ∷ [] }) r).resources ≡ r.resources
at_pool true audit r = refl
at_pool false audit r = refl

audit_keeps : (x : List ℕ) (audit : Audit)
    → KeepsNames (λ r. cond (bytes_eq r.id x) (record r { audits = r.audits ++ audit ∷ [] }) r)
audit_keeps x audit = record { id = λ r. at_id (bytes_eq r.id x) audit r; job_part = λ r. at_part (bytes_eq r.id x) audit r; resources = λ r. at_pool (bytes_eq r.id x) audit r }

-- the parent of a node isn't below it
parent_by : (rows : List NodeRow) (n x : List ℕ) (p : Place) → up (node_places rows) n ≡ Some x
    → IsRootAt (node_places rows) n p ⊎ HasParentAt (node_places rows) n p
    → place_at (node_places rows) n ≡ Some p
    → (is_below (node_places rows) x n ≡ false) × (has_node rows x ≡ true)
parent_by rows n x p high (inl root) there = cc (ap (λ o. option_and_then parent o) there, ap (λ path. slice_get path 1) root.path)
parent_by rows n x p high (inr at) there =
    let same : at.parent.id ≡ x = ap (λ o. option_map_or (λ i. i) o x) (sym at.above ∙ high) in
    let found : place_at (node_places rows) x ≡ Some at.parent = ap (place_at (node_places rows)) (sym same) ∙ at.there in
    (ap (λ o. option_map_or (below n) o false) found ∙ at.once, sym (stands_node rows x) ∙ ap is_some found)

stood : (o : Option Place) → is_some (option_and_then parent o) ≡ true → (p : Place) × (o ≡ Some p)
stood None h = cc
stood (Some p) h = (p, refl)

pub above_apart : (rows : List NodeRow) (n : List ℕ) → IsValid rows
    → is_some (up (node_places rows) n) ≡ true
    → (is_below (node_places rows) (parent_of rows n) n ≡ false)
    × (has_node rows (parent_of rows n) ≡ true)
above_apart rows n valid has =
    let high = some_of (up (node_places rows) n) has in
    let there = stood (place_at (node_places rows) n) has in
    let is : parent_of rows n ≡ high.0 = ap (λ o. option_map_or (λ u. u) o []) high.1 in
    let parts = parent_by rows n high.0 there.0 high.1 (one_parent_each rows valid n there.0 there.1) there.1 in
    (ap (λ x. is_below (node_places rows) x n) is ∙ parts.0, ap (has_node rows) is ∙ parts.1)

same_row : (b : Bool) (audit : Audit) (r : NodeRow) (rows : List NodeRow) (n x : List ℕ)
    → bytes_eq r.id x ≡ b → is_below (node_places rows) x n ≡ false
    → is_below (node_places rows) r.id n ≡ true
    → cond b (record r { audits = r.audits ++ audit ∷ [] }) r ≡ r
same_row true audit r rows n x e apart there = absurd (true≢false (sym there ∙ ap (λ i. is_below (node_places rows) i n) ((bytes_eq-Decides r.id x).0 e) ∙ apart))
same_row false audit r rows n x e apart there = refl

-- the part of a spawn is the same once an audit more stands at the parent of its node
pub part_told : (t : Job) (s : SpawnRec) (audit : Audit) → IsValid t.rows
    → is_some (up (node_places t.rows) s.node) ≡ true
    → part_for (record t { rows = rows_with_audit (parent_of t.rows s.node) audit t.rows }) s
    ≡ part_for t s
part_told t s audit valid has =
    let x = parent_of t.rows s.node in
    part_kept t s (λ r. cond (bytes_eq r.id x) (record r { audits = r.audits ++ audit ∷ [] }) r) (audit_keeps x audit) (append_of_places x audit t.rows) (λ r there. same_row (bytes_eq r.id x) audit r t.rows s.node x refl (above_apart t.rows s.node valid has).0 there)

-- ---- the last of the ancestors

end_is : {X : Type 0} (xs : List X) (y : X) → slice_get (xs ++ y ∷ []) (length xs) ≡ Some y
end_is [] y = refl
end_is (x ∷ xs) y = end_is xs y

last_of : (rows : List NodeRow) (ys : List (List ℕ))
    → option_map (λ a. a.node_id)
    (slice_get (map (ancestor rows) (reverse ys)) (length (map (ancestor rows) (reverse ys)) - 1))
    ≡ slice_get ys 0
last_of rows [] = refl
last_of rows (y ∷ ys) =
    let front = map (ancestor rows) (reverse ys) in
    let whole : map (ancestor rows) (reverse (y ∷ ys)) ≡ front ++ ancestor rows y ∷ [] = ap (map (ancestor rows)) (reverse-cons y ys) ∙ map-append (ancestor rows) (reverse ys) (y ∷ []) in
    let place : length (front ++ ancestor rows y ∷ []) - 1 ≡ length front = omega (arith, length-append front (ancestor rows y ∷ [])) in
    ap (λ xs. option_map (λ a. a.node_id) (slice_get xs (length xs - 1))) whole ∙ ap (λ k. option_map (λ a. a.node_id) (slice_get (front ++ ancestor rows y ∷ []) k)) place ∙ ap (option_map (λ a. a.node_id)) (end_is front (ancestor rows y))

second : (path : List (List ℕ)) → slice_get (drop 1 path) 0 ≡ slice_get path 1
second [] = refl
second (x ∷ path) = refl

up_by : (o : Option Place)
    → slice_get (option_map_or (λ p. drop 1 p.path) o []) 0 ≡ option_and_then parent o
up_by None = refl
up_by (Some p) = second p.path

pub last_is : (rows : List NodeRow) (n : List ℕ)
    → option_map (λ a. a.node_id) (slice_get (ancestors rows n) (length (ancestors rows n) - 1))
    ≡ up (node_places rows) n
last_is rows n = last_of rows (option_map_or (λ p. drop 1 p.path) (place_at (node_places rows) n) []) ∙ up_by (place_at (node_places rows) n)

-- ---- what isn't refused

pub granted : (a b c d : Bool) (o : Option Refusal) (e : Bool)
    → first_of
    (unless a UnknownNode ∷ unless b IsRoot ∷ unless c UnknownResource ∷ unless d NotLinked ∷ o
    ∷ unless e TooManySpawns ∷ [])
    ≡ None
    → (a ≡ true) × (b ≡ true) × (e ≡ true)
granted false b c d o e none = cc
granted true false c d o e none = cc
granted true true false d o e none = cc
granted true true true false o e none = cc
granted true true true true (Some x) e none = cc
granted true true true true None false none = cc
granted true true true true None true none = (refl, refl, refl)

pub allowed : (rows : List NodeRow) (recs : List SpawnRec) (number : ℕ) (n : List ℕ)
    (ids : List (List ℕ))
    → spawn_refusal rows recs number n ids ≡ None
    → (has_node rows n ≡ true) × (is_some (up (node_places rows) n) ≡ true)
    × (is_spawn_number number ≡ true)
allowed rows recs number n ids none = granted (has_node rows n) (is_some (up (node_places rows) n)) _ _ _ (is_spawn_number number) none

pub mapped_some : {X Y : Type 0} (f : X → Y) (o : Option X) → is_some (option_map f o) ≡ is_some o
mapped_some f None = refl
mapped_some f (Some x) = refl

-- what was made of a number and a list is what is made of those that they are
pub same_record : (rows : List NodeRow) (i number : ℕ) (n worker : List ℕ) (xs ids : List (List ℕ))
    (time : ℕ)
    → i ≡ number → xs ≡ ids
    → new_record rows i n worker xs time ≡ new_record rows number n worker ids time
same_record rows i number n worker xs ids time e f = ap (λ k. new_record rows k n worker xs time) e ∙ ap (λ ys. new_record rows number n worker ys time) f

pub same_ok : (E : Type 0) (x y : ℕ) (e : Result ℕ E) → e ≡ Ok x → e ≡ Ok y → x ≡ y
same_ok E x y e p q = cc
