-- The first record that holds what stands at a node, by the nodes above it and by its copies.
use Rattle.std.proofs.Common.{◌≡◌, ◌∙◌, ℕ, suc, ◌+◌, ◌-◌, ◌<◌, ◌≤◌, ◌&&◌, ◌||◌, Bool, true, false}
use Rattle.std.proofs.Common.{not, cond, List, [], ◌∷◌, ◌++◌, length, take, drop, get_or, Some}
use Rattle.std.proofs.Common.{None, refl, sym, ap, subst, append_assoc, append-nil, arith, one-add}
use Rattle.std.proofs.Common.{slice_get, Option, Bor, is_some, nat_lt}
use Rattle.std.proofs.lemmas.Bool.{ltb-true, ltb-false}
use Rattle.std.proofs.lemmas.Option.{slice_get_past, slice_get-get_or}
use Rattle.std.proofs.lemmas.List.Folds.{find_at}
use Rattle.std.proofs.lemmas.List.{take_all, take_more, drop-drop, drop_all, take-append-drop}
use Rattle.std.proofs.lemmas.List.{length-take-le}
use Rattle.std.proofs.lemmas.List.Sums.{prefix_len-le-length}
use Rattle.std.specs.List.{find, position_or_len}
use Rattle.std.specs.Option.{option_copied, option_map_or, IfSome}
use Rattle.std.specs.Str.{bytes_eq}
use Rattle.ticket_items.proofs.Apart.{mem-append}
use Rattle.ticket_items.specs.Ids.{mem}
use Rattle.ticket_rows.proofs.Below.{Path, Follows, Follows-outline, length-path_of}
use Rattle.ticket_rows.specs.Place.{Place, path_of, last_of, below, is_below, node_places, place_at}
use Rattle.ticket_rows.specs.Ticket.{IsValid, has_node}
use Rattle.ticket_tree.proofs.OnPlaces.{stands_node}
use Rattle.ticket_tree.specs.At.{IsAt}
use Rattle.ticket_tree.specs.declared.at.At.{At}
use Rattle.spawn.proofs.Ancestry.{root_place}
use Rattle.spawn.proofs.AroundAt.{shows}
use Rattle.ticket_items.specs.declared.node_row.NodeRow.{NodeRow}
use Rattle.spawn.proofs.Holding.{claims_at}
use Rattle.spawn.proofs.Split.{path_after, path_after-append, follows_front, around}
use Rattle.spawn.specs.Records.{is_out}
use Rattle.spawn.specs.declared.records.spawn_rec.SpawnRec.{SpawnRec}

-- ---- the first of two kinds

nearer_row : {X : Type 0} (one other : Bool) (g : X → Bool) (x : X) (xs : List X) (n m : ℕ)
    → g x ≡ other → position_or_len g (take n xs) ≡ m
    → position_or_len g (take (cond (not one) (1 + n) 0) (x ∷ xs))
    ≡ cond (not (one || other)) (1 + m) 0
nearer_row true other g x xs n m e rest = refl
nearer_row false true g x xs n m e rest =
    ap (λ k. position_or_len g (take k (x ∷ xs))) (one-add n)
    ∙ ap (λ b. cond (not b) (1 + position_or_len g (take n xs)) 0) e
nearer_row false false g x xs n m e rest =
    ap (λ k. position_or_len g (take k (x ∷ xs))) (one-add n)
    ∙ ap (λ b. cond (not b) (1 + position_or_len g (take n xs)) 0) e ∙ ap (λ k. 1 + k) rest

nearer : {X : Type 0} (f g : X → Bool) (xs : List X)
    → position_or_len g (take (position_or_len f xs) xs) ≡ position_or_len (λ x. f x || g x) xs
nearer f g [] = refl
nearer f g (x ∷ xs) =
    nearer_row (f x) (g x) g x xs (position_or_len f xs) (position_or_len (λ y. f y || g y) xs) refl (nearer f g xs)

pub first_as : {X : Type 0} (f g : X → Bool) → ((x : X) → f x ≡ g x) → (xs : List X)
    → position_or_len f xs ≡ position_or_len g xs
first_as f g same [] = refl
first_as f g same (x ∷ xs) =
    ap (λ b. cond (not b) (1 + position_or_len f xs) 0) (same x) ∙ ap (λ n. cond (not (g x)) (1 + n) 0) (first_as f g same xs)

first_within : {X : Type 0} (f : X → Bool) (xs : List X) → position_or_len f xs ≤ length xs
first_within f xs = prefix_len-le-length (λ x. not (f x)) xs

-- ---- what leads up from a row

follows_last : (before : Path) (xs : List NodeRow) (r : NodeRow) → Follows before (xs ++ r ∷ [])
    → (1 ≤ r.depth) × (r.depth ≤ suc (length (path_after before xs)))
follows_last before [] r follows = (follows.0, follows.1)
follows_last before (s ∷ xs) r follows = follows_last (path_of before s) xs r follows.2

-- what leads up from a depth behind a row that stands higher, and behind one that doesn't
climb_higher : (depth : ℕ) (r : NodeRow) (path : Path) → r.depth < depth
    → 1 ≤ r.depth → r.depth ≤ suc (length path)
    → last_of (depth - 1) (path_of path r) ≡ path_of path r
climb_higher depth r path less low high =
    let long : length (path_of path r) ≡ r.depth = length-path_of path r low high in
    let none : length (path_of path r) - (depth - 1) ≡ 0 = omega (arith, less, long) in
    ap (λ n. drop n (path_of path r)) none

climb_deeper : (depth : ℕ) (r : NodeRow) (path : Path) → depth ≤ r.depth
    → 1 ≤ r.depth → r.depth ≤ suc (length path)
    → last_of (depth - 1) (path_of path r) ≡ last_of (depth - 1) path
climb_deeper depth r path more low high =
    let long : length (path_of path r) ≡ r.depth = length-path_of path r low high in
    let cut : ℕ = length path - (r.depth - 1) in
    let further : ℕ = r.depth - 1 - (depth - 1) in
    let one : length (path_of path r) - (depth - 1) ≡ suc further = omega (arith, more, low, long) in
    let whole : cut + further ≡ length path - (depth - 1) = omega (arith, more, low, high) in
    ap (λ n. drop n (path_of path r)) one ∙ drop-drop further cut path ∙ ap (λ n. drop n path) whole

-- ---- the last of the first i rows

last_row : (rows : List NodeRow) (i : ℕ) (r : NodeRow) → 0 < i → i ≤ length rows
    → r ≡ get_or rows (i - 1) r → take i rows ≡ take (i - 1) rows ++ r ∷ []
last_row rows i r some within is =
    let whole : i ≡ i - 1 + 1 = omega (arith, some) in
    ap (λ n. take n rows) whole ∙ take_more rows (i - 1) r (omega (arith, some, within)) ∙ ap (λ s. take (i - 1) rows ++ s ∷ []) (sym is)

last_path : (rows : List NodeRow) (i : ℕ) (r : NodeRow) → 0 < i → i ≤ length rows
    → r ≡ get_or rows (i - 1) r
    → path_after [] (take i rows) ≡ path_of (path_after [] (take (i - 1) rows)) r
last_path rows i r some within is =
    ap (path_after []) (last_row rows i r some within is) ∙ path_after-append [] (take (i - 1) rows) (r ∷ [])

last_follows : (rows : List NodeRow) (i : ℕ) (r : NodeRow) → Follows [] rows → 0 < i
    → i ≤ length rows → r ≡ get_or rows (i - 1) r
    → (1 ≤ r.depth) × (r.depth ≤ suc (length (path_after [] (take (i - 1) rows))))
last_follows rows i r follows some within is =
    let first = follows_front [] (take i rows) (drop i rows) (subst (Follows []) (sym (take-append-drop i rows)) follows) in
    follows_last [] (take (i - 1) rows) r (subst (Follows []) (last_row rows i r some within is) first)

-- ---- the records in front of the first that is out at a node that was met

abbrev pub out_at : List ℕ → SpawnRec → Bool
out_at n r = is_out r && bytes_eq n r.node

abbrev pub out_among : Path → SpawnRec → Bool
out_among seen r = is_out r && mem r.node seen

-- the nodes of the path that were met, when i rows are left and the last met stands at a depth
pub record Met (rows : List NodeRow) (path : Path) (recs : List SpawnRec) (i depth free : ℕ) : Type 0 where
  pub seen : Path
  pub whole : path ≡ seen ++ last_of (depth - 1) (path_after [] (take i rows))
  pub first : free ≡ position_or_len (out_among seen) recs

one_more : (out old new : Bool) → ((out && old) || (out && new)) ≡ (out && (old || (new || false)))
one_more false old new = refl
one_more true true new = refl
one_more true false true = refl
one_more true false false = refl

or_none : (b : Bool) → (b || false) ≡ b
or_none true = refl
or_none false = refl

next_first : (seen : Path) (n : List ℕ) (recs : List SpawnRec) (free next : ℕ)
    → free ≡ position_or_len (out_among seen) recs
    → next ≡ position_or_len (out_at n) (take free recs)
    → next ≡ position_or_len (out_among (seen ++ n ∷ [])) recs
next_first seen n recs free next first is =
    is ∙ ap (λ k. position_or_len (out_at n) (take k recs)) first ∙ nearer (out_among seen) (out_at n) recs
    ∙ first_as (λ r. out_among seen r || out_at n r) (out_among (seen ++ n ∷ [])) (λ r. one_more (is_out r) (mem r.node seen) (bytes_eq n r.node) ∙ ap (λ b. is_out r && b) (sym (mem-append r.node seen (n ∷ [])))) recs

-- the path of a node at a depth behind these rows
abbrev pub path_behind : List ℕ → ℕ → List NodeRow → Path
path_behind n depth front = n ∷ last_of (depth - 1) (path_after [] front)

pub met_first : (front : List NodeRow) (recs : List SpawnRec) (n : List ℕ) (depth free : ℕ)
    → free ≡ position_or_len (out_at n) recs
    → Met front (path_behind n depth front) recs (length front) depth free
met_first front recs n depth free first =
    record {
      seen = n ∷ [];
      whole = ap (path_behind n depth) (sym (take_all (length front) front (omega arith)));
      first = first ∙ first_as (out_at n) (out_among (n ∷ [])) (λ s. ap (λ b. is_out s && b) (sym (or_none (bytes_eq n s.node)))) recs;
    }

pub met_higher : (rows : List NodeRow) (path : Path) (recs : List SpawnRec)
    (i depth free next : ℕ) (r : NodeRow) → Follows [] rows → Met rows path recs i depth free
    → 0 < i → i ≤ length rows → r ≡ get_or rows (i - 1) r → r.depth < depth
    → next ≡ position_or_len (out_at r.id) (take free recs)
    → Met rows path recs (i - 1) r.depth next
met_higher rows path recs i depth free next r follow met some within is less found =
    let behind = path_after [] (take (i - 1) rows) in
    let follows = last_follows rows i r follow some within is in
    record {
      seen = met.seen ++ r.id ∷ [];
      whole = met.whole ∙ ap (λ p. met.seen ++ last_of (depth - 1) p) (last_path rows i r some within is) ∙ ap (λ p. met.seen ++ p) (climb_higher depth r behind less follows.0 follows.1)
          ∙ sym (append_assoc met.seen (r.id ∷ []) (last_of (r.depth - 1) behind));
      first = next_first met.seen r.id recs free next met.first found;
    }

pub met_deeper : (rows : List NodeRow) (path : Path) (recs : List SpawnRec)
    (i depth free : ℕ) (r : NodeRow) → Follows [] rows → Met rows path recs i depth free
    → 0 < i → i ≤ length rows → r ≡ get_or rows (i - 1) r → depth ≤ r.depth
    → Met rows path recs (i - 1) depth free
met_deeper rows path recs i depth free r follow met some within is more =
    let behind = path_after [] (take (i - 1) rows) in
    let follows = last_follows rows i r follow some within is in
    record {
      seen = met.seen;
      whole = met.whole ∙ ap (λ p. met.seen ++ last_of (depth - 1) p) (last_path rows i r some within is) ∙ ap (λ p. met.seen ++ p) (climb_deeper depth r behind more follows.0 follows.1);
      first = met.first;
    }

pub met_all : (rows : List NodeRow) (path : Path) (recs : List SpawnRec) (i depth free : ℕ)
    → Met rows path recs i depth free → i ≤ 0 → free ≡ position_or_len (out_among path) recs
met_all rows path recs i depth free met end =
    let none_left : i ≡ 0 = omega (arith, end) in
    let front : take i rows ≡ [] = ap (λ n. take n rows) none_left in
    let empty : Path = [] in
    let none : last_of (depth - 1) empty ≡ empty = drop_all (length empty - (depth - 1)) empty (omega arith) in
    met.first ∙ ap (λ seen. position_or_len (out_among seen) recs) (sym (met.whole ∙ ap (λ rs. met.seen ++ last_of (depth - 1) (path_after [] rs)) front ∙ ap (λ p. met.seen ++ p) none ∙ append-nil met.seen))

pub met_within : (rows : List NodeRow) (path : Path) (recs : List SpawnRec) (i depth free : ℕ)
    → Met rows path recs i depth free → free ≡ length (take free recs)
met_within rows path recs i depth free met =
    let within : free ≤ length recs = subst (λ n. n ≤ length recs) (sym met.first) (first_within (out_among met.seen) recs) in
    sym (length-take-le free recs within)

-- ---- the path of a node, as it is seen

pub front_follows : (rows : List NodeRow) (n : List ℕ) (a : At) → IsValid rows → IsAt rows n a
    → Follows [] a.front
front_follows rows n a valid is =
    follows_front [] a.front (a.below ++ a.behind) (subst (Follows []) (is.whole ∙ append_assoc a.front a.below a.behind) (Follows-outline rows valid.tree))

-- a node is below just those of its path
pub below_path : (rows : List NodeRow) (n : List ℕ) (a : At) → IsValid rows → IsAt rows n a
    → has_node rows n ≡ true → (x : List ℕ)
    → mem x (path_behind n a.depth a.front) ≡ is_below (node_places rows) n x
below_path rows n a valid is known x =
    let at = around rows n valid known in
    let seen = shows rows n a valid is at in
    ap (λ front. mem x (path_behind n a.depth front)) seen.front ∙ ap (λ depth. mem x (path_behind n depth at.front)) seen.depth
    ∙ ap (λ i. mem x (path_behind i at.root.depth at.front)) (sym at.named)
    ∙ sym (ap (λ o. option_map_or (below x) o false) (root_place rows n valid at))

none_first : {X : Type 0} (f : X → Bool) (xs : List X) → ((x : X) → f x ≡ false)
    → length xs ≡ position_or_len f xs
none_first f [] none = refl
none_first f (x ∷ xs) none = sym (ap (λ b. cond (not b) (1 + position_or_len f xs) 0) (none x) ∙ ap (λ n. 1 + n) (sym (none_first f xs none)) ∙ one-add (length xs))

and_none : (b : Bool) → (b && false) ≡ false
and_none true = refl
and_none false = refl

below_at_none : (o : Option Place) (x : List ℕ) → is_some o ≡ false
    → option_map_or (below x) o false ≡ false
below_at_none None x none = refl
below_at_none (Some p) x none = cc

-- an unknown node is below none
pub unknown_first : (rows : List NodeRow) (n : List ℕ) (recs : List SpawnRec)
    → has_node rows n ≡ false
    → length recs ≡ position_or_len (λ r. is_out r && is_below (node_places rows) n r.node) recs
unknown_first rows n recs unknown =
    none_first (λ r. is_out r && is_below (node_places rows) n r.node) recs (λ r. ap (λ b. is_out r && b) (below_at_none (place_at (node_places rows) n) r.node (stands_node rows n ∙ unknown)) ∙ and_none (is_out r))

-- ---- the records in front of the first that holds what stands under x at a node

either : (out one other : Bool) → ((out && one) || (out && other)) ≡ (out && (other || one))
either false one other = refl
either true true true = refl
either true true false = refl
either true false true = refl
either true false false = refl

pub claims_first : (rows : List NodeRow) (n x : List ℕ) (recs : List SpawnRec) (free next : ℕ)
    → free ≡ position_or_len (λ r. is_out r && mem x r.rw) recs
    → next
    ≡ position_or_len (λ r. is_out r && is_below (node_places rows) n r.node) (take free recs)
    → next ≡ position_or_len (claims_at rows x n) recs
claims_first rows n x recs free next first found =
    let copied : SpawnRec → Bool = λ r. is_out r && mem x r.rw in
    let out_above : SpawnRec → Bool = λ r. is_out r && is_below (node_places rows) n r.node in
    found ∙ ap (λ k. position_or_len out_above (take k recs)) first ∙ nearer copied out_above recs
    ∙ first_as (λ r. copied r || out_above r) (claims_at rows x n) (λ r. either (is_out r) (mem x r.rw) (is_below (node_places rows) n r.node)) recs

-- ---- the first itself

got : (o : Option (Bor SpawnRec)) (recs : List SpawnRec) (k : ℕ)
    → is_some o ≡ nat_lt k (length recs) → IfSome o (λ r. r.now ≡ get_or recs k r.now)
    → option_copied o ≡ slice_get recs k
got None recs k within is = sym (slice_get_past recs k (ltb-false k (length recs) (sym within)))
got (Some r) recs k within is = sym (slice_get-get_or recs k r.now (ltb-true k (length recs) (sym within)) ∙ ap Some (sym is))

pub got_first : (f : SpawnRec → Bool) (o : Option (Bor SpawnRec)) (recs : List SpawnRec) (k : ℕ)
    → is_some o ≡ nat_lt k (length recs) → IfSome o (λ r. r.now ≡ get_or recs k r.now)
    → k ≡ position_or_len f recs → option_copied o ≡ find f recs
got_first f o recs k within is first = got o recs k within is ∙ ap (slice_get recs) first ∙ sym (find_at f recs)
