-- The rows of the nodes below a node are a run: the node's own row, and the deeper ones behind it.
use Rattle.std.proofs.Common.{◌≡◌, ℕ, zero, suc, ◌+◌, ◌-◌, ◌<◌, ◌≤◌, ◌&&◌, ◌||◌, Bool, true, false}
use Rattle.std.proofs.Common.{not, cond, List, [], ◌∷◌, ◌++◌, length, drop, Option, Some, None}
use Rattle.std.proofs.Common.{refl, sym, ap, ◌∙◌, subst, arith, ltb, leb, nat_le, nat_lt, is_some}
use Rattle.std.proofs.Common.{one-add, add-one, zero-add, slice_get}
use Rattle.std.proofs.lemmas.Bool.{true≢false, and_parts, and_from, or_parts, ltb-true, ltb-false}
use Rattle.std.proofs.lemmas.Bool.{leb-true, leb-false, lt-ltb, le-ltb, le-leb, lt-leb, eqb-true}
use Rattle.std.proofs.lemmas.Bool.{not-true, and_left, or_from}
use Rattle.std.proofs.lemmas.List.{length-append, length-drop, append_assoc, drop-append-le}
use Rattle.std.proofs.lemmas.List.{drop-drop, drop_at}
use Rattle.std.specs.List.{position, position_or_len}
use Rattle.std.specs.Option.{option_map, option_map_or}
use Rattle.std.specs.Str.{bytes_eq}
use Rattle.std.proofs.lemmas.Slice.Eq.{bytes_eq-Decides}
use Rattle.ticket_items.proofs.Places.{position-cons, below_length, passes_at_position}
use Rattle.ticket_items.proofs.Places.{none_at_position}
use Rattle.ticket_items.proofs.Apart.{mem-append, bytes_eq-same, or_true}
use Rattle.ticket_items.specs.Ids.{mem, are_distinct}
use Rattle.ticket_rows.specs.Outline.{goes_on, is_outline}
use Rattle.ticket_rows.proofs.NodePlaces.{nodes_from, node_places-rows, node_ids_distinct}
use Rattle.ticket_rows.specs.Place.{path_of, node_place, node_places, place_at, Place, below}
use Rattle.ticket_rows.specs.Place.{is_below, BoundsNodesBelow}
use Rattle.ticket_rows.specs.Ticket.{depths, ids, node_ids, row_of}
use Rattle.ticket_items.specs.declared.node_row.NodeRow.{NodeRow}

abbrev pub Path : Type 0
Path = List (List ℕ)

-- what drops from a list is no new member
pub mem-drop : (x : List ℕ) (n : ℕ) (xs : Path) → mem x xs ≡ false → mem x (drop n xs) ≡ false
mem-drop x zero xs h = h
mem-drop x (suc n) [] h = h
mem-drop x (suc n) (y ∷ xs) h = mem-drop x n xs (or_parts (bytes_eq y x) (mem x xs) h).1

-- ---- depths are lengths of paths

-- each row stands at most one level below the row before it, and at 1 at least
abbrev pub Follows : Path → List NodeRow → Type 0
Follows before [] = Unit {0}
Follows before (r ∷ rows) = (1 ≤ r.depth) × (r.depth ≤ suc (length before)) × Follows (path_of before r) rows

pub length-path_of : (before : Path) (r : NodeRow) → 1 ≤ r.depth → r.depth ≤ suc (length before)
    → length (path_of before r) ≡ r.depth
length-path_of before r low high = omega (arith, length-drop (length before - (r.depth - 1)) before)

follows_on : (before : Path) (rows : List NodeRow) → goes_on (length before) (depths rows) ≡ true
    → Follows before rows
follows_on before [] h = tt
follows_on before (r ∷ rows) h =
    let parts = and_parts _ _ h in
    let bounds = and_parts _ _ parts.0 in
    let low : 1 ≤ r.depth = omega (arith, leb-true 2 r.depth bounds.0) in
    let high : r.depth ≤ suc (length before) = leb-true _ _ bounds.1 in
    let long : length (path_of before r) ≡ r.depth = length-path_of before r low high in
    (low, high, follows_on (path_of before r) rows (ap (λ n. goes_on n (depths rows)) long ∙ parts.1))

pub Follows-outline : (rows : List NodeRow) → is_outline (depths rows) ≡ true → Follows [] rows
Follows-outline [] h = tt
Follows-outline (r ∷ rows) h =
    let parts = and_parts _ _ h in
    let one : r.depth ≡ 1 = eqb-true _ _ parts.0 in
    let low : 1 ≤ r.depth = omega arith in
    let high : r.depth ≤ suc (length {A = List ℕ} []) = omega arith in
    let long : length (path_of [] r) ≡ 1 = length-path_of [] r low high ∙ one in
    (low, high, follows_on (path_of [] r) rows (ap (λ n. goes_on n (depths rows)) long ∙ parts.1))

-- ---- rows that aren't below x

-- an id that is neither on the way nor in the rows is on no path
pub never : (x : List ℕ) (before : Path) (rows : List NodeRow) → mem x before ≡ false
    → mem x (node_ids rows) ≡ false → (k : ℕ) (p : Place)
    → slice_get (nodes_from before rows) k ≡ Some p → below x p ≡ false
never x before [] off out k p h = cc
never x before (r ∷ rows) off out zero p h =
    let parts = or_parts (bytes_eq r.id x) (mem x (node_ids rows)) out in
    let here : mem x (path_of before r) ≡ false = or_from _ _ parts.0 (mem-drop x _ before off) in
    let same : node_place r (path_of before r) ≡ p = cc in
    ap (below x) (sym same) ∙ here
never x before (r ∷ rows) off out (suc k) p h =
    let parts = or_parts (bytes_eq r.id x) (mem x (node_ids rows)) out in
    never x (path_of before r) rows (or_from _ _ parts.0 (mem-drop x _ before off)) parts.1 k p h

-- ---- the rows behind x

abbrev pub run_length : ℕ → List NodeRow → ℕ
run_length depth rows = position_or_len (λ r. nat_le r.depth depth) rows

-- what leads up from a row no deeper than x is above x
pub above_x : (x : List ℕ) (front up : Path) (r : NodeRow) → mem x up ≡ false
    → r.depth ≤ suc (length up)
    → mem x (drop (length (front ++ x ∷ up) - (r.depth - 1)) (front ++ x ∷ up)) ≡ false
above_x x front up r off shallow =
    let long : length (front ++ x ∷ up) ≡ length front + suc (length up) = length-append front (x ∷ up) in
    let more : ℕ = length up - (r.depth - 1) in
    let cut : length (front ++ x ∷ up) - (r.depth - 1) ≡ suc (length front) + more = omega arith in
    let past : drop (suc (length front)) (front ++ x ∷ up) ≡ up = ap (drop (suc (length front))) (sym (append_assoc front (x ∷ []) up)) ∙ drop_at (front ++ x ∷ []) up (suc (length front)) (length-append front (x ∷ []) ∙ add-one (length front)) in
    ap (λ n. mem x (drop n (front ++ x ∷ up))) cut ∙ ap (mem x) (sym (drop-drop more (suc (length front)) (front ++ x ∷ up)) ∙ ap (drop more) past) ∙ mem-drop x more up off

-- what leads up from a deeper row still has x, and what leads from it
pub below_x : (x : List ℕ) (front up : Path) (r : NodeRow) → suc (length up) < r.depth
    → path_of (front ++ x ∷ up) r
    ≡ (r.id ∷ drop (length (front ++ x ∷ up) - (r.depth - 1)) front) ++ x ∷ up
below_x x front up r deep =
    let long : length (front ++ x ∷ up) ≡ length front + suc (length up) = length-append front (x ∷ up) in
    ap (λ xs. r.id ∷ xs) (drop-append-le (length (front ++ x ∷ up) - (r.depth - 1)) front (x ∷ up) (omega arith))

suc_le_at : (b : Bool) (k n : ℕ) → leb k n ≡ b → leb (suc k) (suc n) ≡ b
suc_le_at true k n e = le-leb (suc k) (suc n) (omega (arith, leb-true k n e))
suc_le_at false k n e = lt-leb (suc k) (suc n) (omega (arith, leb-false k n e))

suc_lt_at : (b : Bool) (k n : ℕ) → ltb k n ≡ b → ltb (suc k) (1 + n) ≡ b
suc_lt_at true k n e = lt-ltb (suc k) (1 + n) (omega (arith, ltb-true k n e))
suc_lt_at false k n e = le-ltb (suc k) (1 + n) (omega (arith, ltb-false k n e))

-- what is to be shown of the rows behind x
abbrev Behind : List ℕ → Path → Path → List NodeRow → ℕ → Type 0
Behind x front up rows run = (k : ℕ) (p : Place) → slice_get (nodes_from (front ++ x ∷ up) rows) k ≡ Some p → below x p ≡ nat_lt k run

behind_row : (shallow : Bool) (x : List ℕ) (front up : Path) (r : NodeRow) (rows : List NodeRow)
    → leb r.depth (suc (length up)) ≡ shallow → mem x up ≡ false
    → mem x (node_ids (r ∷ rows)) ≡ false
    → ((front' : Path) → Behind x front' up rows (run_length (suc (length up)) rows))
    → Behind x front up (r ∷ rows) (cond (not shallow) (1 + run_length (suc (length up)) rows) 0)
behind_row true x front up r rows e off out later zero p h =
    let parts = or_parts (bytes_eq r.id x) (mem x (node_ids rows)) out in
    let same : node_place r (path_of (front ++ x ∷ up) r) ≡ p = cc in
    ap (below x) (sym same) ∙ or_from _ _ parts.0 (above_x x front up r off (leb-true _ _ e))
behind_row true x front up r rows e off out later (suc k) p h =
    let parts = or_parts (bytes_eq r.id x) (mem x (node_ids rows)) out in
    never x (path_of (front ++ x ∷ up) r) rows (or_from _ _ parts.0 (above_x x front up r off (leb-true _ _ e))) parts.1 k p h ∙ sym (le-ltb (suc k) 0 (omega arith))
behind_row false x front up r rows e off out later zero p h =
    let same : node_place r (path_of (front ++ x ∷ up) r) ≡ p = cc in
    let kept : Path = r.id ∷ drop (length (front ++ x ∷ up) - (r.depth - 1)) front in
    ap (below x) (sym same) ∙ ap (mem x) (below_x x front up r (leb-false _ _ e)) ∙ mem-append x kept (x ∷ up) ∙ ap (λ b. mem x kept || (b || mem x up)) (bytes_eq-same x) ∙ or_true (mem x kept)
    ∙ sym (lt-ltb 0 (1 + run_length (suc (length up)) rows) (omega arith))
behind_row false x front up r rows e off out later (suc k) p h =
    let kept : Path = r.id ∷ drop (length (front ++ x ∷ up) - (r.depth - 1)) front in
    later kept k p (subst (λ path. slice_get (nodes_from path rows) k ≡ Some p) (below_x x front up r (leb-false _ _ e)) h) ∙ sym (suc_lt_at _ k (run_length (suc (length up)) rows) refl)

-- behind x, whose parent's path is up: x is on the paths of the deeper rows that follow, and on no
-- others
pub behind : (x : List ℕ) (front up : Path) (rows : List NodeRow) → mem x up ≡ false
    → mem x (node_ids rows) ≡ false → Behind x front up rows (run_length (suc (length up)) rows)
behind x front up [] off out k p h = cc
behind x front up (r ∷ rows) off out k p h =
    let out_later : mem x (node_ids rows) ≡ false = (or_parts (bytes_eq r.id x) (mem x (node_ids rows)) out).1 in
    behind_row (leb r.depth (suc (length up))) x front up r rows refl off out (λ front'. behind x front' up rows off out_later) k p h

-- ---- the whole

-- x stands at `from`, and `to` ends the deeper rows behind it
abbrev pub RunOf : List NodeRow → List ℕ → ℕ → ℕ → Type 0
RunOf [] x from to = ⊥
RunOf (r ∷ rows) x zero to = (r.id ≡ x) × (to ≡ suc (run_length r.depth rows))
RunOf (r ∷ rows) x (suc from) zero = ⊥
RunOf (r ∷ rows) x (suc from) (suc to) = (bytes_eq r.id x ≡ false) × RunOf rows x from to

-- the rows of the run have x on their paths, and no others
abbrev pub Exact : Path → List NodeRow → List ℕ → ℕ → ℕ → Type 0
Exact before rows x from to = (k : ℕ) (p : Place) → slice_get (nodes_from before rows) k ≡ Some p → below x p ≡ (nat_le from k && nat_lt k to)

root_exact : (before : Path) (r : NodeRow) (rows : List NodeRow) (x : List ℕ) (to : ℕ)
    → Follows before (r ∷ rows) → mem x before ≡ false → are_distinct (node_ids (r ∷ rows)) ≡ true
    → RunOf (r ∷ rows) x zero to → Exact before (r ∷ rows) x zero to
root_exact before r rows x to follows off apart run zero p h =
    let same : node_place r (path_of before r) ≡ p = cc in
    let up : Path = drop (length before - (r.depth - 1)) before in
    let starts : leb 0 0 ≡ true = le-leb 0 0 (omega arith) in
    let within : ltb 0 to ≡ true = lt-ltb 0 to (omega arith) in
    ap (below x) (sym same) ∙ ap (λ b. b || mem x up) (ap (λ y. bytes_eq y x) run.0 ∙ bytes_eq-same x) ∙ sym (and_from _ _ starts within)
root_exact before r rows x to follows off apart run (suc k) p h =
    let parts = and_parts _ _ apart in
    let out : mem x (node_ids rows) ≡ false = ap (λ y. mem y (node_ids rows)) (sym run.0) ∙ not-true _ parts.0 in
    let up : Path = drop (length before - (r.depth - 1)) before in
    let deep : suc (length up) ≡ r.depth = length-path_of before r follows.0 follows.1 in
    let above : mem x up ≡ false = mem-drop x (length before - (r.depth - 1)) before off in
    let starts : leb 0 (suc k) ≡ true = le-leb 0 (suc k) (omega arith) in
    let named : slice_get (nodes_from ([] ++ x ∷ up) rows) k ≡ Some p = subst (λ y. slice_get (nodes_from (y ∷ up) rows) k ≡ Some p) run.0 h in
    behind x [] up rows above out k p named ∙ ap (λ d. ltb k (run_length d rows)) deep
    ∙ sym (ap (λ b. b && ltb (suc k) to) starts ∙ ap (ltb (suc k)) (run.1 ∙ sym (one-add (run_length r.depth rows))) ∙ suc_lt_at _ k (run_length r.depth rows) refl)

pub run_exact : (before : Path) (rows : List NodeRow) (x : List ℕ) (from to : ℕ)
    → Follows before rows → mem x before ≡ false → are_distinct (node_ids rows) ≡ true
    → RunOf rows x from to → Exact before rows x from to
run_exact before [] x from to follows off apart run k p h = absurd run
run_exact before (r ∷ rows) x zero to follows off apart run k p h = root_exact before r rows x to follows off apart run k p h
run_exact before (r ∷ rows) x (suc from) zero follows off apart run k p h = absurd run
run_exact before (r ∷ rows) x (suc from) (suc to) follows off apart run zero p h =
    let same : node_place r (path_of before r) ≡ p = cc in
    ap (below x) (sym same) ∙ or_from _ _ run.0 (mem-drop x _ before off) ∙ sym (and_left _ _ (lt-leb (suc from) 0 (omega arith)))
run_exact before (r ∷ rows) x (suc from) (suc to) follows off apart run (suc k) p h =
    let parts = and_parts _ _ apart in
    run_exact (path_of before r) rows x from to follows.2 (or_from _ _ run.0 (mem-drop x _ before off)) parts.1 run.1 k p h
    ∙ sym (ap (λ b. b && ltb (suc k) (suc to)) (suc_le_at _ from k refl) ∙ ap (λ b. leb from k && b) (ap (ltb (suc k)) (sym (one-add to)) ∙ suc_lt_at _ k to refl))

-- ---- what the code finds is the run

-- where x stands first, the deeper rows behind it make the run
run_of_row : (here : Bool) (later : Option ℕ) (r : NodeRow) (rows : List NodeRow) (x : List ℕ)
    (k n : ℕ) (s : NodeRow)
    → bytes_eq r.id x ≡ here → cond here (Some 0) (option_map suc later) ≡ Some k
    → slice_get (r ∷ rows) k ≡ Some s
    → n ≡ run_length s.depth (drop k rows)
    → ((j : ℕ) → later ≡ Some j → slice_get rows j ≡ Some s
    → n ≡ run_length s.depth (drop (suc j) rows) → RunOf rows x j (suc (j + n)))
    → RunOf (r ∷ rows) x k (suc (k + n))
run_of_row true later r rows x zero n s e found at run go =
    let same : r ≡ s = cc in
    ((bytes_eq-Decides r.id x).0 e, ap suc (zero-add n ∙ run ∙ ap (λ y. run_length y.depth rows) (sym same)))
run_of_row true later r rows x (suc k) n s e found at run go = cc
run_of_row false None r rows x k n s e found at run go = cc
run_of_row false (Some j) r rows x zero n s e found at run go = cc
run_of_row false (Some j) r rows x (suc k) n s e found at run go =
    let next : j ≡ k = cc in
    let rest : RunOf rows x k (suc (k + n)) =
    subst (λ i. RunOf rows x i (suc (i + n))) next (go j refl (subst (λ i. slice_get rows i ≡ Some s) (sym next) at) (run ∙ ap (λ i. run_length s.depth (drop (suc i) rows)) (sym next))) in
    let longer : suc (k + n) ≡ suc k + n = omega arith in
    (e, subst (λ i. RunOf rows x k i) longer rest)

pub run_of : (rows : List NodeRow) (x : List ℕ) (k n : ℕ) (s : NodeRow)
    → position (λ r. bytes_eq r.id x) rows ≡ Some k → slice_get rows k ≡ Some s
    → n ≡ run_length s.depth (drop (suc k) rows) → RunOf rows x k (suc (k + n))
run_of [] x k n s found at run = cc
run_of (r ∷ rows) x k n s found at run =
    run_of_row (bytes_eq r.id x) (position (λ y. bytes_eq y.id x) rows) r rows x k n s refl (sym (position-cons (λ y. bytes_eq y.id x) r rows) ∙ found) at run (λ j f a e. run_of rows x j n s f a e)

-- ---- the place of an id

same_at : {X Y : Type 0} (b : Bool) (x : X) (y : Y) (o : Option X) (q : Option Y)
    → is_some o ≡ is_some q → is_some (cond b (Some x) o) ≡ is_some (cond b (Some y) q)
same_at true x y o q h = refl
same_at false x y o q h = h

-- the id has the place of the row that stands there
abbrev pub HasPlace : Path → List NodeRow → List ℕ → ℕ → Type 0
HasPlace before rows a k = (p : Place) × (slice_get (nodes_from before rows) k ≡ Some p) × (place_at (nodes_from before rows) a ≡ Some p)

place_of_row : (here : Bool) (later : Option ℕ) (before : Path) (r : NodeRow) (rows : List NodeRow)
    (a : List ℕ) (k : ℕ)
    → bytes_eq r.id a ≡ here → cond here (Some 0) (option_map suc later) ≡ Some k
    → ((j : ℕ) → later ≡ Some j → HasPlace (path_of before r) rows a j)
    → HasPlace before (r ∷ rows) a k
place_of_row true later before r rows a zero e found go =
    (node_place r (path_of before r), refl, ap (λ b. cond b (Some (node_place r (path_of before r))) (place_at (nodes_from (path_of before r) rows) a)) e)
place_of_row true later before r rows a (suc k) e found go = cc
place_of_row false None before r rows a k e found go = cc
place_of_row false (Some j) before r rows a zero e found go = cc
place_of_row false (Some j) before r rows a (suc k) e found go =
    let next : j ≡ k = cc in
    let rest : HasPlace (path_of before r) rows a k = subst (HasPlace (path_of before r) rows a) next (go j refl) in
    (rest.0, rest.1, ap (λ b. cond b (Some (node_place r (path_of before r))) (place_at (nodes_from (path_of before r) rows) a)) e ∙ rest.2)

pub place_found : (before : Path) (rows : List NodeRow) (a : List ℕ) (k : ℕ)
    → position (λ r. bytes_eq r.id a) rows ≡ Some k → HasPlace before rows a k
place_found before [] a k found = cc
place_found before (r ∷ rows) a k found =
    place_of_row (bytes_eq r.id a) (position (λ y. bytes_eq y.id a) rows) before r rows a k refl (sym (position-cons (λ y. bytes_eq y.id a) r rows) ∙ found) (place_found (path_of before r) rows a)

-- the places are there for the rows
pub is_some-place_at : (before : Path) (rows : List NodeRow) (a : List ℕ)
    → is_some (place_at (nodes_from before rows) a) ≡ is_some (row_of rows a)
is_some-place_at before [] a = refl
is_some-place_at before (r ∷ rows) a = same_at (bytes_eq r.id a) _ _ _ _ (is_some-place_at (path_of before r) rows a)

-- ---- what `subtree` and `is_below` answer

pub bounds : (rows later : List NodeRow) (x : List ℕ) (k n : ℕ) (s : NodeRow)
    → later ≡ drop (k + 1) rows → is_outline (depths rows) ≡ true → are_distinct (ids rows) ≡ true
    → position (λ r. bytes_eq r.id x) rows ≡ Some k
    → slice_get rows k ≡ Some s
    → n ≡ run_length s.depth later → n ≤ length later → BoundsNodesBelow rows x k (k + 1 + n)
bounds rows later x k n s behind_k tree apart found at run fits =
    let within : k < length rows = below_length (λ r. bytes_eq r.id x) rows k found in
    let whole : RunOf rows x k (suc (k + n)) = run_of rows x k n s found at (run ∙ ap (run_length s.depth) (behind_k ∙ ap (λ i. drop i rows) (add-one k))) in
    let end : suc (k + n) ≡ k + 1 + n = omega arith in
    record {
      node = ap (option_map (λ r. r.id)) at ∙ ap Some ((bytes_eq-Decides s.id x).0 (passes_at_position (λ r. bytes_eq r.id x) rows k s found at));
      end = omega (arith, length-drop (k + 1) rows, ap length behind_k);
      exact = λ j p there.
          subst (λ to. Exact [] rows x k to) end (run_exact [] rows x k (suc (k + n)) (Follows-outline rows tree) refl (node_ids_distinct rows apart) whole) j p
          (ap (λ nodes. slice_get nodes j) (sym (node_places-rows rows)) ∙ there);
    }

some_at : {X : Type 0} (b : Bool) (x : X) (o : Option X) (c : Bool) → c ≡ is_some o
    → (b || c) ≡ is_some (cond b (Some x) o)
some_at true x o c h = refl
some_at false x o c h = h

-- the node_ids of the rows are those that are found
pub mem-node_ids : (rows : List NodeRow) (x : List ℕ)
    → mem x (node_ids rows) ≡ is_some (row_of rows x)
mem-node_ids [] x = refl
mem-node_ids (r ∷ rows) x = some_at (bytes_eq r.id x) r (row_of rows x) _ (mem-node_ids rows x)

-- an id is below those on its path
pub is_below-place : (rows : List NodeRow) (a b : List ℕ) (k : ℕ) → (h : HasPlace [] rows a k)
    → is_below (node_places rows) a b ≡ below b h.0
is_below-place rows a b k h = ap (λ nodes. is_below nodes a b) (node_places-rows rows) ∙ ap (λ o. option_map_or (below b) o false) h.2

none_from_is_some : {X : Type 0} (o : Option X) → is_some o ≡ false → o ≡ None
none_from_is_some None h = refl
none_from_is_some (Some x) h = absurd (true≢false h)

-- an unknown id is below none
pub below_none : (rows : List NodeRow) (a b : List ℕ) → position (λ r. bytes_eq r.id a) rows ≡ None
    → is_below (node_places rows) a b ≡ false
below_none rows a b none =
    ap (λ nodes. is_below nodes a b) (node_places-rows rows)
    ∙ ap (λ o. option_map_or (below b) o false) (none_from_is_some (place_at (nodes_from [] rows) a) (is_some-place_at [] rows a ∙ ap is_some (none_at_position (λ r. bytes_eq r.id a) rows none)))

below_unknown_at : (rows : List NodeRow) (a b : List ℕ) (o : Option ℕ)
    → position (λ r. bytes_eq r.id a) rows ≡ o → mem b (node_ids rows) ≡ false
    → is_below (node_places rows) a b ≡ false
below_unknown_at rows a b None e out = below_none rows a b e
below_unknown_at rows a b (Some k) e out =
    let h = place_found [] rows a k e in
    is_below-place rows a b k h ∙ never b [] rows refl out k h.0 h.1

-- nothing is below an unknown id
pub below_unknown : (rows : List NodeRow) (a b : List ℕ) → is_some (row_of rows b) ≡ false
    → is_below (node_places rows) a b ≡ false
below_unknown rows a b none = below_unknown_at rows a b _ refl (mem-node_ids rows b ∙ none)

-- a known id is below those whose rows bound it
pub below_bounds : (rows : List NodeRow) (a b : List ℕ) (k from to : ℕ)
    → position (λ r. bytes_eq r.id a) rows ≡ Some k → BoundsNodesBelow rows b from to
    → is_below (node_places rows) a b ≡ (nat_le from k && nat_lt k to)
below_bounds rows a b k from to found bounds =
    let h = place_found [] rows a k found in
    is_below-place rows a b k h ∙ bounds.exact k h.0 (ap (λ nodes. slice_get nodes k) (node_places-rows rows) ∙ h.1)
