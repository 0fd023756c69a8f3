-- What an index tells of rows is what is found among them.
use Rattle.std.proofs.Common.{◌≡◌, ℕ, zero, suc, ◌+◌, ◌<◌, ◌≤◌, ◌||◌, Bool, true, false, not, cond, List}
use Rattle.std.proofs.Common.{[], ◌∷◌, ◌++◌, length, map, take, drop, get_or, Option, Some, None}
use Rattle.std.proofs.Common.{is_some, refl, sym, ap, ◌∙◌, arith, leb, slice_get, insert, add-one}
use Rattle.std.proofs.lemmas.List.{length-map, take_more, length-drop}
use Rattle.std.proofs.lemmas.Option.{slice_get-get_or}
use Rattle.std.specs.List.{find, list_any, position, position_or_len}
use Rattle.std.specs.Option.{option_map, option_and_then}
use Rattle.std.specs.Str.{bytes_eq}
use Rattle.ticket_items.proofs.Apart.{mem-append}
use Rattle.ticket_items.proofs.Places.{found_at_position, none_at_position, same_found}
use Rattle.ticket_items.specs.Ids.{mem}
use Rattle.ticket_rows.proofs.AtHome.{any-map, find-passes, holds, home_row, none-found}
use Rattle.ticket_rows.proofs.AtHome.{resource-found}
use Rattle.ticket_rows.proofs.Below.{run_length}
use Rattle.ticket_rows.proofs.InLists.{find-mapped, get_within, is_some-position, position-map}
use Rattle.ticket_rows.proofs.NewNode.{run_within}
use Rattle.ticket_rows.proofs.RunsGrow.{deeper, run_at, length-runs, runs_child, each_lengthened}
use Rattle.ticket_rows.proofs.RunsGrow.{with_one}
use Rattle.ticket_rows.specs.ChangedRow.{end_behind}
use Rattle.ticket_rows.specs.Homes.{home_of, resource_of}
use Rattle.ticket_rows.specs.Index.{Shape, shape_of, shapes_of, ids_in, node_place, home_place}
use Rattle.ticket_rows.specs.Index.{longer_run, pool_place, resource_place, runs_of}
use Rattle.ticket_rows.specs.Ticket.{depths, ids}
use Rattle.ticket_items.specs.declared.node_row.NodeRow.{NodeRow}
use Rattle.ticket_items.specs.declared.resource.Resource.{Resource}

abbrev pub shape : List ℕ → ℕ → List (List ℕ) → Shape
shape id depth pool = record { id = id; depth = depth; pool = pool }

-- ---- ids

pub ids-shapes : (rows : List NodeRow) → ids_in (shapes_of rows) ≡ ids rows
ids-shapes [] = refl
ids-shapes (r ∷ rows) = ap (λ is. r.id ∷ map (λ x. x.id) r.resources ++ is) (ids-shapes rows)

-- ---- places

pub node-rows : (x : List ℕ) (rows : List NodeRow)
    → node_place (shapes_of rows) x ≡ position (λ r. bytes_eq r.id x) rows
node-rows x rows = position-map (λ s. bytes_eq s.id x) (λ r. bytes_eq r.id x) shape_of rows (λ r. refl)

pub home-rows : (x : List ℕ) (rows : List NodeRow)
    → home_place (shapes_of rows) x ≡ position (holds x) rows
home-rows x rows = position-map (λ s. mem x s.pool) (holds x) shape_of rows (λ r. any-map x r.resources)

pool-row : (x : List ℕ) (pool : List Resource)
    → position (λ y. bytes_eq y x) (map (λ y. y.id) pool) ≡ position (λ y. bytes_eq y.id x) pool
pool-row x pool = position-map (λ y. bytes_eq y x) (λ y. bytes_eq y.id x) (λ y. y.id) pool (λ y. refl)

pool-rows : (x : List ℕ) (rows : List NodeRow)
    → pool_place (shapes_of rows) x
    ≡ option_and_then (λ r. position (λ y. bytes_eq y.id x) r.resources) (find (holds x) rows)
pool-rows x rows =
    ap (option_and_then (λ (s : Shape). position (λ y. bytes_eq y x) s.pool)) (find-mapped (λ s. mem x s.pool) (holds x) shape_of rows (λ r. any-map x r.resources)) ∙ row (find (holds x) rows)
  where
    row : (o : Option NodeRow)
        → option_and_then (λ (s : Shape). position (λ y. bytes_eq y x) s.pool) (option_map shape_of o)
        ≡ option_and_then (λ r. position (λ y. bytes_eq y.id x) r.resources) o
    row None = refl
    row (Some r) = pool-row x r.resources

-- where a resource stands, where its place is told
pub resource-there : (x : List ℕ) (rows : List NodeRow) (k j : ℕ)
    → resource_place (shapes_of rows) x ≡ Some (k, j)
    → (position (holds x) rows ≡ Some k) × (pool_place (shapes_of rows) x ≡ Some j)
resource-there x rows k j told = by (home_place (shapes_of rows) x) (pool_place (shapes_of rows) x) refl refl told
  where
    by : (h p : Option ℕ) → home_place (shapes_of rows) x ≡ h → pool_place (shapes_of rows) x ≡ p
        → option_and_then {U = ℕ × ℕ} (λ home. option_map (λ place. (home, place)) p) h ≡ Some (k, j)
        → (position (holds x) rows ≡ Some k) × (pool_place (shapes_of rows) x ≡ Some j)
    by None p e f h = cc
    by (Some a) None e f h = cc
    by (Some a) (Some b) e f h =
        let same : (a, b) ≡ (k, j) = cc in
        (sym (home-rows x rows) ∙ e ∙ ap (λ (t : ℕ × ℕ). Some t.0) same, f ∙ ap (λ (t : ℕ × ℕ). Some t.1) same)

-- the row of the home, and what stands in its pool
pub resource-at : (x : List ℕ) (rows : List NodeRow) (k j : ℕ) (r : NodeRow)
    → resource_place (shapes_of rows) x ≡ Some (k, j) → r ≡ get_or rows k r
    → slice_get r.resources j ≡ resource_of rows x
resource-at x rows k j r told is =
    let there = resource-there x rows k j told in
    let first : find (holds x) rows ≡ Some r = home_row rows x k r there.0 is in
    let place : position (λ y. bytes_eq y.id x) r.resources ≡ Some j
    = sym (pool-rows x rows ∙ ap (option_and_then (λ t. position (λ y. bytes_eq y.id x) t.resources)) first) ∙ there.1 in
    let at = found_at_position (λ y. bytes_eq y.id x) r.resources j place in
    at.2 ∙ sym at.1 ∙ sym (resource-found rows x r first)

-- no resource stands where no place is told
pub resource-nowhere : (x : List ℕ) (rows : List NodeRow)
    → resource_place (shapes_of rows) x ≡ None → position (holds x) rows ≡ None
resource-nowhere x rows told = by (position (holds x) rows) refl
  where
    found : (o : Option ℕ) → is_some o ≡ true → (k : ℕ)
        → option_and_then {U = ℕ × ℕ} (λ home. option_map (λ place. (home, place)) o) (Some k) ≡ None
        → position (holds x) rows ≡ None
    found None h k e = cc
    found (Some j) h k e = cc

    by : (o : Option ℕ) → position (holds x) rows ≡ o → position (holds x) rows ≡ None
    by None e = e
    by (Some k) e =
        let at = found_at_position (holds x) rows k e in
        let r : NodeRow = at.0 in
        let held : list_any (λ y. bytes_eq y.id x) r.resources ≡ true = find-passes (holds x) rows r at.1 in
        let told_pool : pool_place (shapes_of rows) x ≡ position (λ y. bytes_eq y.id x) r.resources
        = pool-rows x rows ∙ ap (option_and_then (λ t. position (λ y. bytes_eq y.id x) t.resources)) at.1 in
        (found (pool_place (shapes_of rows) x) (ap is_some told_pool ∙ is_some-position (λ y. bytes_eq y.id x) r.resources ∙ held) k
        (ap (option_and_then {U = ℕ × ℕ} (λ home. option_map (λ place. (home, place)) (pool_place (shapes_of rows) x))) (sym (home-rows x rows ∙ e)) ∙ told))

pub resource_missing : (x : List ℕ) (rows : List NodeRow) → position (holds x) rows ≡ None
    → resource_of rows x ≡ None
resource_missing x rows none = ap (option_map (λ t. t.0)) (none-found rows x none)

pub home_missing : (x : List ℕ) (rows : List NodeRow) → position (holds x) rows ≡ None
    → home_of rows x ≡ None
home_missing x rows none = ap (option_map (λ t. t.1)) (none-found rows x none)

-- ---- runs

pub deeper-rows : (d : ℕ) (rows : List NodeRow) → deeper d (depths rows) ≡ run_length d rows
deeper-rows d [] = refl
deeper-rows d (r ∷ rows) = ap (λ n. cond (not (leb r.depth d)) (1 + n) 0) (deeper-rows d rows)

drop-depths : (n : ℕ) (rows : List NodeRow) → drop n (depths rows) ≡ depths (drop n rows)
drop-depths zero rows = refl
drop-depths (suc n) [] = refl
drop-depths (suc n) (r ∷ rows) = drop-depths n rows

depth-at : (rows : List NodeRow) (k : ℕ) (r : NodeRow) → slice_get rows k ≡ Some r
    → slice_get (depths rows) k ≡ Some r.depth
depth-at [] k r at = cc
depth-at (s ∷ rows) zero r at =
    let same : s ≡ r = cc in
    ap (λ t. Some t.depth) same
depth-at (s ∷ rows) (suc k) r at = depth-at rows k r at

-- how many stand below the row at a place
pub run-rows : (rows : List NodeRow) (k : ℕ) (r : NodeRow) → slice_get rows k ≡ Some r
    → slice_get (runs_of (depths rows)) k ≡ Some (run_length r.depth (drop (k + 1) rows))
run-rows rows k r at =
    run_at (depths rows) k r.depth (depth-at rows k r at) ∙ ap (λ ds. Some (deeper r.depth ds)) (drop-depths (k + 1) rows) ∙ ap Some (deeper-rows r.depth (drop (k + 1) rows))

pub length-runs-rows : (rows : List NodeRow) → length (runs_of (depths rows)) ≡ length rows
length-runs-rows rows = length-runs (depths rows) ∙ length-map rows (λ r. r.depth)

pub runs_more : (rows : List NodeRow) (i : ℕ) (r : NodeRow) → i < length rows → r ≡ get_or rows i r
    → take (i + 1) (runs_of (depths rows))
    ≡ take i (runs_of (depths rows)) ++ run_length r.depth (drop (i + 1) rows) ∷ []
runs_more rows i r low is =
    let runs : List ℕ = runs_of (depths rows) in
    let within : i < length runs = omega (arith, length-runs-rows rows) in
    let at : slice_get rows i ≡ Some r = slice_get-get_or rows i r low ∙ ap Some (sym is) in
    take_more runs i 0 within ∙ ap (λ n. take i runs ++ n ∷ []) (same_found (get_or runs i 0) (run_length r.depth (drop (i + 1) rows)) (slice_get runs i) (slice_get-get_or runs i 0 within) (run-rows rows i r at))

none_run : (ds : List ℕ) (k : ℕ) → slice_get ds k ≡ None → slice_get (runs_of ds) k ≡ None
none_run [] k e = refl
none_run (d ∷ ds) zero e = cc
none_run (d ∷ ds) (suc k) e = none_run ds k e

none_depth : (rows : List NodeRow) (k : ℕ) → slice_get rows k ≡ None
    → slice_get (depths rows) k ≡ None
none_depth [] k e = refl
none_depth (r ∷ rows) zero e = cc
none_depth (r ∷ rows) (suc k) e = none_depth rows k e

-- a run that is told ends within the rows
pub run_ends : (rows : List NodeRow) (k n : ℕ) → slice_get (runs_of (depths rows)) k ≡ Some n
    → k + n < length rows
run_ends rows k n at = by (slice_get rows k) refl
  where
    by : (o : Option NodeRow) → slice_get rows k ≡ o → k + n < length rows
    by None e = cc (sym (none_run (depths rows) k (none_depth rows k e)) ∙ at)
    by (Some r) e =
        let is : n ≡ run_length r.depth (drop (k + 1) rows) = same_found n _ _ at (run-rows rows k r e) in
        let here : k < length rows = get_within rows k r e in
        omega (arith, is, run_within r.depth (drop (k + 1) rows), length-drop (k + 1) rows)

map-insert : {X Y : Type 0} (f : X → Y) (xs : List X) (i : ℕ) (y : X)
    → map f (insert xs i y) ≡ insert (map f xs) i (f y)
map-insert f [] zero y = refl
map-insert f [] (suc i) y = refl
map-insert f (x ∷ xs) zero y = refl
map-insert f (x ∷ xs) (suc i) y = ap (λ ys. f x ∷ ys) (map-insert f xs i y)

-- the runs of rows with a node more
pub runs_grow : (rows : List NodeRow) (k : ℕ) (r new : NodeRow) (next : List ℕ)
    → slice_get rows k ≡ Some r → new.depth ≡ suc r.depth
    → ((j : ℕ) → slice_get next j ≡ option_map (longer_run k j) (slice_get (runs_of (depths rows)) j))
    → insert next (end_behind rows k r) 0 ≡ runs_of (depths (insert rows (end_behind rows k r) new))
runs_grow rows k r new next at one each =
    let ds : List ℕ = depths rows in
    let end : k + 1 + deeper r.depth (drop (k + 1) ds) ≡ end_behind rows k r
    = ap (λ xs. k + 1 + deeper r.depth xs) (drop-depths (k + 1) rows) ∙ ap (λ n. k + 1 + n) (deeper-rows r.depth (drop (k + 1) rows)) in
    ap (λ ns. insert ns (end_behind rows k r) 0) (each_lengthened (runs_of ds) next k each)
    ∙ ap (λ i. insert (with_one k (runs_of ds)) i 0) (sym end) ∙ sym (runs_child ds k r.depth (depth-at rows k r at))
    ∙ ap (λ i. runs_of (insert ds i (suc r.depth))) end
    ∙ ap (λ d. runs_of (insert ds (end_behind rows k r) d)) (sym one)
    ∙ ap runs_of (sym (map-insert (λ (t : NodeRow). t.depth) rows (end_behind rows k r) new))
