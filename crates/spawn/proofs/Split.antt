-- The rows of a ticket around a node: those before it, its own with those below it, and those
-- behind.
use Rattle.std.proofs.Common.{◌≡◌, ◌∙◌, ℕ, suc, ◌-◌, ◌||◌, Bool, true, false, not, cond, List, []}
use Rattle.std.proofs.Common.{◌∷◌, ◌++◌, length, map, drop, refl, sym, ap, subst, nat_lt}
use Rattle.std.proofs.Common.{append_assoc}
use Rattle.std.proofs.lemmas.Bool.{and_parts, and_from, or_parts, or_from, ltb-true, ltb-false}
use Rattle.std.proofs.lemmas.Bool.{not-true}
use Rattle.std.proofs.lemmas.Slice.Eq.{bytes_eq-Decides}
use Rattle.std.specs.List.{list_all, list_any}
use Rattle.std.specs.Str.{bytes_eq}
use Rattle.ticket_items.proofs.Apart.{bytes_eq-same, mem-append, or_true}
use Rattle.ticket_rows.proofs.Below.{Path, Follows, Follows-outline, mem-drop, above_x, below_x}
use Rattle.ticket_rows.proofs.Below.{length-path_of, mem-node_ids}
use Rattle.ticket_rows.proofs.NodePlaces.{node_ids_distinct}
use Rattle.ticket_items.specs.Ids.{mem, are_distinct}
use Rattle.ticket_rows.specs.Place.{resource_place, places_of, places_from, below, path_of}
use Rattle.ticket_rows.specs.Ticket.{IsValid, has_node, node_ids}
use Rattle.ticket_items.specs.declared.node_row.NodeRow.{NodeRow}
use Rattle.ticket_items.specs.declared.resource.Resource.{Resource}

-- ---- the rows of two lists, one behind the other

-- the path of the last row
abbrev pub path_after : Path → List NodeRow → Path
path_after before [] = before
path_after before (r ∷ rows) = path_after (path_of before r) rows

pub places_from-append : (before : Path) (xs ys : List NodeRow)
    → places_from before (xs ++ ys) ≡ places_from before xs ++ places_from (path_after before xs) ys
places_from-append before [] ys = refl
places_from-append before (r ∷ xs) ys =
    ap (λ ps. places_of r (path_of before r) ++ ps) (places_from-append (path_of before r) xs ys) ∙ sym (append_assoc (places_of r (path_of before r)) (places_from (path_of before r) xs) (places_from (path_after (path_of before r) xs) ys))

pub path_after-append : (before : Path) (xs ys : List NodeRow)
    → path_after before (xs ++ ys) ≡ path_after (path_after before xs) ys
path_after-append before [] ys = refl
path_after-append before (r ∷ xs) ys = path_after-append (path_of before r) xs ys

-- ---- places of one row

any-append : {X : Type 0} (f : X → Bool) (xs ys : List X) → list_any f xs ≡ false
    → list_any f ys ≡ false → list_any f (xs ++ ys) ≡ false
any-append f [] ys p q = q
any-append f (x ∷ xs) ys p q =
    let parts = or_parts (f x) (list_any f xs) p in
    or_from _ _ parts.0 (any-append f xs ys parts.1 q)

pub all-append : {X : Type 0} (f : X → Bool) (xs ys : List X) → list_all f xs ≡ true
    → list_all f ys ≡ true → list_all f (xs ++ ys) ≡ true
all-append f [] ys p q = q
all-append f (x ∷ xs) ys p q =
    let parts = and_parts (f x) (list_all f xs) p in
    and_from _ _ parts.0 (all-append f xs ys parts.1 q)

none_in_pool : (n : List ℕ) (path : Path) (pool : List Resource) → mem n path ≡ false
    → list_any (below n) (map (resource_place path) pool) ≡ false
none_in_pool n path [] off = refl
none_in_pool n path (x ∷ pool) off = or_from _ _ off (none_in_pool n path pool off)

all_in_pool : (n : List ℕ) (path : Path) (pool : List Resource) → mem n path ≡ true
    → list_all (below n) (map (resource_place path) pool) ≡ true
all_in_pool n path [] on = refl
all_in_pool n path (x ∷ pool) on = and_from _ _ on (all_in_pool n path pool on)

-- ---- rows that aren't below n

pub none_below : (n : List ℕ) (before : Path) (rows : List NodeRow) → mem n before ≡ false
    → mem n (node_ids rows) ≡ false → list_any (below n) (places_from before rows) ≡ false
none_below n before [] off out = refl
none_below n before (r ∷ rows) off out =
    let parts = or_parts (bytes_eq r.id n) (mem n (node_ids rows)) out in
    let here : mem n (path_of before r) ≡ false = or_from _ _ parts.0 (mem-drop n _ before off) in
    any-append (below n) (places_of r (path_of before r)) (places_from (path_of before r) rows) (or_from _ _ here (none_in_pool n (path_of before r) r.resources here)) (none_below n (path_of before r) rows here parts.1)

-- ---- the run of a node: the deeper rows behind it

abbrev pub run : ℕ → List NodeRow → List NodeRow
run depth [] = []
run depth (r ∷ rows) = cond (nat_lt depth r.depth) (r ∷ run depth rows) []

abbrev pub rest : ℕ → List NodeRow → List NodeRow
rest depth [] = []
rest depth (r ∷ rows) = cond (nat_lt depth r.depth) (rest depth rows) (r ∷ rows)

run_rest_at : (deep : Bool) (depth : ℕ) (r : NodeRow) (rows : List NodeRow)
    → rows ≡ run depth rows ++ rest depth rows
    → r ∷ rows ≡ cond deep (r ∷ run depth rows) [] ++ cond deep (rest depth rows) (r ∷ rows)
run_rest_at true depth r rows e = ap (λ rs. r ∷ rs) e
run_rest_at false depth r rows e = refl

pub run_rest : (depth : ℕ) (rows : List NodeRow) → rows ≡ run depth rows ++ rest depth rows
run_rest depth [] = refl
run_rest depth (r ∷ rows) = run_rest_at (nat_lt depth r.depth) depth r rows (run_rest depth rows)

abbrev pub AreDeep : ℕ → List NodeRow → Type 0
AreDeep depth rows = list_all (λ r. nat_lt depth r.depth) rows ≡ true

run_deep_at : (deep : Bool) (depth : ℕ) (r : NodeRow) (rows : List NodeRow)
    → nat_lt depth r.depth ≡ deep → AreDeep depth (run depth rows)
    → AreDeep depth (cond deep (r ∷ run depth rows) [])
run_deep_at true depth r rows e all = and_from _ _ e all
run_deep_at false depth r rows e all = refl

pub run_deep : (depth : ℕ) (rows : List NodeRow) → AreDeep depth (run depth rows)
run_deep depth [] = refl
run_deep depth (r ∷ rows) = run_deep_at (nat_lt depth r.depth) depth r rows refl (run_deep depth rows)

-- the first of the rest is no deeper
abbrev pub IsShallowFirst : ℕ → List NodeRow → Type 0
IsShallowFirst depth [] = Unit {0}
IsShallowFirst depth (r ∷ rows) = nat_lt depth r.depth ≡ false

rest_shallow_at : (deep : Bool) (depth : ℕ) (r : NodeRow) (rows : List NodeRow)
    → nat_lt depth r.depth ≡ deep → IsShallowFirst depth (rest depth rows)
    → IsShallowFirst depth (cond deep (rest depth rows) (r ∷ rows))
rest_shallow_at true depth r rows e go = go
rest_shallow_at false depth r rows e go = e

pub rest_shallow : (depth : ℕ) (rows : List NodeRow) → IsShallowFirst depth (rest depth rows)
rest_shallow depth [] = tt
rest_shallow depth (r ∷ rows) = rest_shallow_at (nat_lt depth r.depth) depth r rows refl (rest_shallow depth rows)

-- ---- deeper rows behind a node stand below it

-- a path that leads through n, whose own way up is up
record Through (n : List ℕ) (up path : Path) : Type 0 where
  front : Path
  is : path ≡ front ++ n ∷ up

mem_through : (n : List ℕ) (up front : Path) → mem n (front ++ n ∷ up) ≡ true
mem_through n up front = mem-append n front (n ∷ up) ∙ ap (λ b. mem n front || (b || mem n up)) (bytes_eq-same n) ∙ or_true (mem n front)

all_below : (n : List ℕ) (up front : Path) (rows : List NodeRow) → AreDeep (suc (length up)) rows
    → list_all (below n) (places_from (front ++ n ∷ up) rows) ≡ true
all_below n up front [] deep = refl
all_below n up front (r ∷ rows) deep =
    let parts = and_parts (nat_lt (suc (length up)) r.depth) (list_all (λ s. nat_lt (suc (length up)) s.depth) rows) deep in
    let kept : Path = r.id ∷ drop (length (front ++ n ∷ up) - (r.depth - 1)) front in
    let path : path_of (front ++ n ∷ up) r ≡ kept ++ n ∷ up = below_x n front up r (ltb-true _ _ parts.0) in
    let here : mem n (path_of (front ++ n ∷ up) r) ≡ true = ap (mem n) path ∙ mem_through n up kept in
    all-append (below n) (places_of r (path_of (front ++ n ∷ up) r)) (places_from (path_of (front ++ n ∷ up) r) rows) (and_from _ _ here (all_in_pool n (path_of (front ++ n ∷ up) r) r.resources here))
    (subst (λ p. list_all (below n) (places_from p rows) ≡ true) (sym path) (all_below n up kept rows parts.1))

through_after : (n : List ℕ) (up front : Path) (rows : List NodeRow)
    → AreDeep (suc (length up)) rows → Through n up (path_after (front ++ n ∷ up) rows)
through_after n up front [] deep = record { front = front; is = refl }
through_after n up front (r ∷ rows) deep =
    let parts = and_parts (nat_lt (suc (length up)) r.depth) (list_all (λ s. nat_lt (suc (length up)) s.depth) rows) deep in
    let kept : Path = r.id ∷ drop (length (front ++ n ∷ up) - (r.depth - 1)) front in
    subst (λ p. Through n up (path_after p rows)) (sym (below_x n front up r (ltb-true _ _ parts.0))) (through_after n up kept rows parts.1)

-- ---- the rows behind the run

none_behind : (n : List ℕ) (up front : Path) (rows : List NodeRow) → mem n up ≡ false
    → mem n (node_ids rows) ≡ false → IsShallowFirst (suc (length up)) rows
    → list_any (below n) (places_from (front ++ n ∷ up) rows) ≡ false
none_behind n up front [] off out shallow = refl
none_behind n up front (r ∷ rows) off out shallow =
    let parts = or_parts (bytes_eq r.id n) (mem n (node_ids rows)) out in
    let path = path_of (front ++ n ∷ up) r in
    let here : mem n path ≡ false = or_from _ _ parts.0 (above_x n front up r off (ltb-false _ _ shallow)) in
    any-append (below n) (places_of r path) (places_from path rows) (or_from _ _ here (none_in_pool n path r.resources here)) (none_below n path rows here parts.1)

-- ---- a list of rows at a node

record SplitAt (before : Path) (rows : List NodeRow) (n : List ℕ) : Type 0 where
  front : List NodeRow
  root : NodeRow
  later : List NodeRow
  up : Path
  whole : rows ≡ front ++ root ∷ later
  named : root.id ≡ n
  out_front : mem n (node_ids front) ≡ false
  out_later : mem n (node_ids later) ≡ false
  path : path_of (path_after before front) root ≡ n ∷ up
  off : mem n up ≡ false
  level : root.depth ≡ suc (length up)
  follows : Follows (n ∷ up) later

split_at : (here : Bool) (before : Path) (r : NodeRow) (rows : List NodeRow) (n : List ℕ)
    → bytes_eq r.id n ≡ here → Follows before (r ∷ rows) → mem n before ≡ false
    → mem r.id (node_ids rows) ≡ false → (here || mem n (node_ids rows)) ≡ true
    → (mem n (path_of before r) ≡ false → mem n (node_ids rows) ≡ true
    → SplitAt (path_of before r) rows n)
    → SplitAt before (r ∷ rows) n
split_at true before r rows n e follows off once there go =
    let same : r.id ≡ n = (bytes_eq-Decides r.id n).0 e in
    let up : Path = drop (length before - (r.depth - 1)) before in
    let path : path_of before r ≡ n ∷ up = ap (λ x. x ∷ up) same in
    record {
      front = [];
      root = r;
      later = rows;
      up = up;
      whole = refl;
      named = same;
      out_front = refl;
      out_later = ap (λ x. mem x (node_ids rows)) (sym same) ∙ once;
      path = path;
      off = mem-drop n _ before off;
      level = sym (length-path_of before r follows.0 follows.1);
      follows = subst (λ p. Follows p rows) path follows.2;
    }
split_at false before r rows n e follows off once there go =
    let split = go (or_from _ _ e (mem-drop n _ before off)) there in
    record {
      front = r ∷ split.front;
      root = split.root;
      later = split.later;
      up = split.up;
      whole = ap (λ rs. r ∷ rs) split.whole;
      named = split.named;
      out_front = or_from _ _ e split.out_front;
      out_later = split.out_later;
      path = split.path;
      off = split.off;
      level = split.level;
      follows = split.follows;
    }

split_from : (before : Path) (rows : List NodeRow) (n : List ℕ) → Follows before rows
    → mem n before ≡ false → are_distinct (node_ids rows) ≡ true → mem n (node_ids rows) ≡ true
    → SplitAt before rows n
split_from before [] n follows off apart there = cc
split_from before (r ∷ rows) n follows off apart there =
    let parts = and_parts (not (mem r.id (node_ids rows))) (are_distinct (node_ids rows)) apart in
    split_at (bytes_eq r.id n) before r rows n refl follows off (not-true _ parts.0) there (λ off' there'. split_from (path_of before r) rows n follows.2 off' parts.1 there')

-- ---- a ticket at a node

-- the rows in front of n, its own with those below it, and those behind. `up` is the path of n's
-- parent.
pub record Around (rows : List NodeRow) (n : List ℕ) : Type 0 where
  pub front : List NodeRow
  pub root : NodeRow
  pub inner : List NodeRow
  pub back : List NodeRow
  pub up : Path
  pub whole : rows ≡ front ++ (root ∷ inner) ++ back
  pub named : root.id ≡ n
  pub path : path_of (path_after [] front) root ≡ n ∷ up
  pub off : mem n up ≡ false
  pub level : root.depth ≡ suc (length up)
  pub deep : AreDeep (suc (length up)) inner
  pub follows : Follows (n ∷ up) inner
  pub none_front : list_any (below n) (places_from [] front) ≡ false
  pub all_inner : list_all (below n) (places_from (path_after [] front) (root ∷ inner)) ≡ true
  pub none_back : list_any (below n) (places_from (path_after (path_after [] front) (root ∷ inner)) back) ≡ false

pub follows_front : (before : Path) (xs ys : List NodeRow) → Follows before (xs ++ ys)
    → Follows before xs
follows_front before [] ys follows = tt
follows_front before (r ∷ xs) ys follows = (follows.0, follows.1, follows_front (path_of before r) xs ys follows.2)

out_back : (n : List ℕ) (xs ys : List NodeRow) → mem n (node_ids (xs ++ ys)) ≡ false
    → mem n (node_ids ys) ≡ false
out_back n [] ys out = out
out_back n (r ∷ xs) ys out = out_back n xs ys (or_parts (bytes_eq r.id n) (mem n (node_ids (xs ++ ys))) out).1

pub around : (rows : List NodeRow) (n : List ℕ) → IsValid rows → has_node rows n ≡ true
    → Around rows n
around rows n valid known =
    let split = split_from [] rows n (Follows-outline rows valid.tree) refl (node_ids_distinct rows valid.distinct) (mem-node_ids rows n ∙ known) in
    let level : ℕ = suc (length split.up) in
    let inner = run level split.later in
    let back = rest level split.later in
    let cut : split.later ≡ inner ++ back = run_rest level split.later in
    let deep = run_deep level split.later in
    let first = path_after [] split.front in
    let end = path_after (n ∷ split.up) inner in
    let through = through_after n split.up [] inner deep in
    record {
      front = split.front;
      root = split.root;
      inner = inner;
      back = back;
      up = split.up;
      whole = split.whole ∙ ap (λ rs. split.front ++ split.root ∷ rs) cut ∙ sym (append_assoc split.front (split.root ∷ inner) back);
      named = split.named;
      path = split.path;
      off = split.off;
      level = split.level;
      deep = deep;
      follows = follows_front (n ∷ split.up) inner back (subst (Follows (n ∷ split.up)) cut split.follows);
      none_front = none_below n [] split.front refl split.out_front;
      all_inner = subst (λ p. list_all (below n) (places_of split.root p ++ places_from p inner) ≡ true) (sym split.path)
          (all-append (below n) (places_of split.root (n ∷ split.up)) (places_from (n ∷ split.up) inner) (and_from _ _ (mem_through n split.up []) (all_in_pool n (n ∷ split.up) split.root.resources (mem_through n split.up []))) (all_below n split.up [] inner deep));
      none_back = subst (λ p. list_any (below n) (places_from (path_after p inner) back) ≡ false) (sym split.path)
          (subst (λ p. list_any (below n) (places_from p back) ≡ false) (sym through.is)
          (none_behind n split.up through.front back split.off (out_back n inner back (ap (λ rs. mem n (node_ids rs)) (sym cut) ∙ split.out_later)) (rest_shallow level split.later)));
    }
