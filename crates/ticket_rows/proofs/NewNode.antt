-- A new node as the last child of another leaves the rows a ticket; and where it stands among the
-- rows.
use Rattle.std.proofs.Common.{◌≡◌, ℕ, zero, suc, ◌+◌, ◌-◌, ◌<◌, ◌≤◌, ◌&&◌, Bool, true, false, not}
use Rattle.std.proofs.Common.{cond, ◌||◌, List, [], ◌∷◌, ◌++◌, map, length, take, drop, Option}
use Rattle.std.proofs.Common.{Some, None, is_some, refl, sym, ap, ◌∙◌, arith, ltb, leb, nat_le}
use Rattle.std.proofs.Common.{nat_lt, one-add, add-one, zero-add, subst, slice_get, get_or}
use Rattle.std.proofs.lemmas.Bool.{true≢false, and_parts, and_from, or_from, not-true}
use Rattle.std.proofs.lemmas.Bool.{not_from_false, ltb-true, ltb-false, leb-true, leb-false, le-leb}
use Rattle.std.proofs.lemmas.Bool.{lt-leb, lt-ltb, le-ltb, eqb-true}
use Rattle.std.proofs.lemmas.Slice.Eq.{bytes_eq-Decides}
use Rattle.std.proofs.lemmas.List.{drop-drop, length-drop}
use Rattle.std.proofs.lemmas.List.Folds.{list_all-append}
use Rattle.std.proofs.lemmas.Grind.{flat_map-append}
use Rattle.std.specs.List.{list_all, list_any, position, position_or_len}
use Rattle.std.specs.Option.{option_map, option_map_or}
use Rattle.std.specs.Str.{bytes_eq}
use Rattle.ticket_items.proofs.Apart.{bytes_eq-same, or_true}
use Rattle.ticket_rows.proofs.Below.{Follows, Follows-outline, length-path_of, run_length, bounds}
use Rattle.ticket_rows.proofs.Below.{below_bounds}
use Rattle.ticket_rows.proofs.AtHome.{home_of-cons}
use Rattle.ticket_rows.proofs.NewResource.{insert_apart}
use Rattle.ticket_items.proofs.Places.{position-cons, below_length, found_at_position}
use Rattle.ticket_items.proofs.Places.{none_at_position}
use Rattle.ticket_rows.proofs.NodePlaces.{node_ids_distinct}
use Rattle.std.proofs.lemmas.Option.{slice_get-get_or}
use Rattle.ticket_rows.specs.Edit.{behind_last, with_child, bare_row, has_room}
use Rattle.ticket_rows.specs.Homes.{home_of}
use Rattle.ticket_items.specs.Ids.{mem, are_distinct}
use Rattle.ticket_rows.specs.Outline.{goes_on, is_outline}
use Rattle.ticket_rows.specs.Place.{path_of, node_places, is_below, BoundsNodesBelow}
use Rattle.ticket_rows.specs.Ticket.{IsValid, ids, ids_of, depths, has_node, node_ids, row_of}
use Rattle.ticket_rows.specs.Ticket.{is_reserved, max_depth}
use Rattle.ticket_rows.proofs.LinkWalk.{resolves, are_resolved_from, resolved_same, resolved_walk}
use Rattle.ticket_items.specs.declared.node_row.NodeRow.{NodeRow}

abbrev pub Bare : Type 0
Bare = ℕ → NodeRow

-- ---- row by row

-- the rows, with a new one behind those in front that stand deeper
abbrev pub behind_deeper : ℕ → NodeRow → List NodeRow → List NodeRow
behind_deeper depth new [] = new ∷ []
behind_deeper depth new (r ∷ rows) = cond (nat_lt depth r.depth) (r ∷ behind_deeper depth new rows) (new ∷ r ∷ rows)

-- the rows, with a new one behind those that stand deeper behind the node of that id, one deeper
-- than it
abbrev pub child_walk : List ℕ → Bare → List NodeRow → List NodeRow
child_walk x new [] = []
child_walk x new (r ∷ rows) = r ∷ cond (bytes_eq r.id x) (behind_deeper r.depth (new (suc r.depth)) rows) (child_walk x new rows)

-- ---- where it stands

-- the rows, with n somewhere among them
abbrev pub HasOneMore : NodeRow → List NodeRow → List NodeRow → Type 0
HasOneMore n old new = (front : List NodeRow) × (back : List NodeRow) × (old ≡ front ++ back) × (new ≡ front ++ n ∷ back)

more_behind : (n r : NodeRow) (old new : List NodeRow) → HasOneMore n old new
    → HasOneMore n (r ∷ old) (r ∷ new)
more_behind n r old new h = (r ∷ h.0, h.1, ap (λ rs. r ∷ rs) h.2, ap (λ rs. r ∷ rs) h.3)

deeper_row : (b : Bool) (depth : ℕ) (n r : NodeRow) (rows : List NodeRow)
    → HasOneMore n rows (behind_deeper depth n rows)
    → HasOneMore n (r ∷ rows) (cond b (r ∷ behind_deeper depth n rows) (n ∷ r ∷ rows))
deeper_row true depth n r rows h = more_behind n r rows (behind_deeper depth n rows) h
deeper_row false depth n r rows h = ([], r ∷ rows, refl, refl)

behind_more : (depth : ℕ) (n : NodeRow) (rows : List NodeRow)
    → HasOneMore n rows (behind_deeper depth n rows)
behind_more depth n [] = ([], [], refl, refl)
behind_more depth n (r ∷ rows) = deeper_row (nat_lt depth r.depth) depth n r rows (behind_more depth n rows)

-- the row of x, and the rows with its new child
abbrev pub HasChild : List ℕ → Bare → List NodeRow → Type 0
HasChild x new rows = (r : NodeRow) × (row_of rows x ≡ Some r) × HasOneMore (new (suc r.depth)) rows (child_walk x new rows)

child_row : (b : Bool) (x : List ℕ) (new : Bare) (r : NodeRow) (rows : List NodeRow)
    → bytes_eq r.id x ≡ b → is_some (cond b (Some r) (row_of rows x)) ≡ true
    → (is_some (row_of rows x) ≡ true → HasChild x new rows)
    → (s : NodeRow) × (cond b (Some r) (row_of rows x) ≡ Some s)
    × HasOneMore (new (suc s.depth)) (r ∷ rows)
    (r ∷ cond b (behind_deeper r.depth (new (suc r.depth)) rows) (child_walk x new rows))
child_row true x new r rows e there go = (r, refl, more_behind (new (suc r.depth)) r rows (behind_deeper r.depth (new (suc r.depth)) rows) (behind_more r.depth (new (suc r.depth)) rows))
child_row false x new r rows e there go =
    let h = go there in
    (h.0, h.1, more_behind (new (suc h.0.depth)) r rows (child_walk x new rows) h.2)

pub has_child : (x : List ℕ) (new : Bare) (rows : List NodeRow) → has_node rows x ≡ true
    → HasChild x new rows
has_child x new [] there = absurd (true≢false (sym there))
has_child x new (r ∷ rows) there = child_row (bytes_eq r.id x) x new r rows refl there (has_child x new rows)

-- ---- the outline

deeper_goes : (b : Bool) (depth above : ℕ) (n r : NodeRow) (rows : List NodeRow)
    → nat_lt depth r.depth ≡ b → n.depth ≡ suc depth → 1 ≤ depth → depth ≤ above
    → (nat_le 2 r.depth ≡ true) × (nat_le r.depth (suc above) ≡ true)
    → goes_on r.depth (depths rows) ≡ true
    → (depth ≤ r.depth → goes_on r.depth (depths (behind_deeper depth n rows)) ≡ true)
    → goes_on above (depths (cond b (r ∷ behind_deeper depth n rows) (n ∷ r ∷ rows))) ≡ true
deeper_goes true depth above n r rows e deep low high bounds rest go =
    let more : depth < r.depth = ltb-true depth r.depth e in
    and_from _ _ (and_from _ _ bounds.0 bounds.1) (go (omega arith))
deeper_goes false depth above n r rows e deep low high bounds rest go =
    let less : r.depth ≤ depth = ltb-false depth r.depth e in
    let two : 2 ≤ n.depth = omega arith in
    let near : n.depth ≤ suc above = omega arith in
    let under : r.depth ≤ suc n.depth = omega arith in
    and_from _ _ (and_from _ _ (le-leb 2 n.depth two) (le-leb n.depth (suc above) near)) (and_from _ _ (and_from _ _ bounds.0 (le-leb r.depth (suc n.depth) under)) rest)

behind_goes : (depth above : ℕ) (n : NodeRow) (rows : List NodeRow) → n.depth ≡ suc depth
    → 1 ≤ depth → depth ≤ above → goes_on above (depths rows) ≡ true
    → goes_on above (depths (behind_deeper depth n rows)) ≡ true
behind_goes depth above n [] deep low high goes =
    let two : 2 ≤ n.depth = omega arith in
    let near : n.depth ≤ suc above = omega arith in
    and_from _ _ (and_from _ _ (le-leb 2 n.depth two) (le-leb n.depth (suc above) near)) refl
behind_goes depth above n (r ∷ rows) deep low high goes =
    let parts = and_parts _ _ goes in
    deeper_goes (nat_lt depth r.depth) depth above n r rows refl deep low high (and_parts _ _ parts.0) parts.1 (λ within. behind_goes depth r.depth n rows deep low within parts.1)

child_goes : (b : Bool) (x : List ℕ) (new : Bare) (r : NodeRow) (rows : List NodeRow)
    → ((d : ℕ) → (new d).depth ≡ d) → 1 ≤ r.depth → goes_on r.depth (depths rows) ≡ true
    → goes_on r.depth (depths (child_walk x new rows)) ≡ true
    → goes_on r.depth
    (depths (cond b (behind_deeper r.depth (new (suc r.depth)) rows) (child_walk x new rows)))
    ≡ true
child_goes true x new r rows deep low goes later = behind_goes r.depth r.depth (new (suc r.depth)) rows (deep (suc r.depth)) low (omega arith) goes
child_goes false x new r rows deep low goes later = later

child_walk_goes : (x : List ℕ) (new : Bare) (above : ℕ) (rows : List NodeRow)
    → ((d : ℕ) → (new d).depth ≡ d) → goes_on above (depths rows) ≡ true
    → goes_on above (depths (child_walk x new rows)) ≡ true
child_walk_goes x new above [] deep goes = refl
child_walk_goes x new above (r ∷ rows) deep goes =
    let parts = and_parts _ _ goes in
    let two : 2 ≤ r.depth = leb-true 2 r.depth (and_parts _ _ parts.0).0 in
    and_from _ _ parts.0 (child_goes (bytes_eq r.id x) x new r rows deep (omega arith) parts.1 (child_walk_goes x new r.depth rows deep parts.1))

child_walk_outline : (x : List ℕ) (new : Bare) (rows : List NodeRow) → ((d : ℕ) → (new d).depth ≡ d)
    → is_outline (depths rows) ≡ true → is_outline (depths (child_walk x new rows)) ≡ true
child_walk_outline x new [] deep outline = outline
child_walk_outline x new (r ∷ rows) deep outline =
    let parts = and_parts _ _ outline in
    let one : r.depth ≡ 1 = eqb-true _ _ parts.0 in
    let goes : goes_on r.depth (depths rows) ≡ true = ap (λ d. goes_on d (depths rows)) one ∙ parts.1 in
    and_from _ _ parts.0 (ap (λ d. goes_on d (depths (cond (bytes_eq r.id x) (behind_deeper r.depth (new (suc r.depth)) rows) (child_walk x new rows)))) (sym one)
    ∙ child_goes (bytes_eq r.id x) x new r rows deep (omega arith) goes (child_walk_goes x new r.depth rows deep goes))

-- ---- ids, homes, tests

all_more : (p : NodeRow → Bool) (n : NodeRow) (old new : List NodeRow) → HasOneMore n old new
    → p n ≡ true → list_all p old ≡ true → list_all p new ≡ true
all_more p n old new h passes all =
    let parts = and_parts _ _ (sym (list_all-append p h.0 h.1) ∙ ap (list_all p) (sym h.2) ∙ all) in
    ap (list_all p) h.3 ∙ list_all-append p h.0 (n ∷ h.1) ∙ and_from _ _ parts.0 (and_from _ _ passes parts.1)

ids_more : (n : NodeRow) (old new : List NodeRow) → n.resources ≡ [] → HasOneMore n old new
    → are_distinct (ids old) ≡ true → mem n.id (ids old) ≡ false → are_distinct (ids new) ≡ true
ids_more n old new bare h apart out =
    let was : ids old ≡ ids h.0 ++ ids h.1 = ap ids h.2 ∙ flat_map-append ids_of h.0 h.1 in
    let split : ids new ≡ ids h.0 ++ ids (n ∷ h.1) = ap ids h.3 ∙ flat_map-append ids_of h.0 (n ∷ h.1) in
    let alone : ids h.0 ++ ids (n ∷ h.1) ≡ ids h.0 ++ n.id ∷ ids h.1 = ap (λ pool. ids h.0 ++ ((n.id ∷ map (λ y. y.id) pool) ++ ids h.1)) bare in
    let now : ids new ≡ ids h.0 ++ n.id ∷ ids h.1 = split ∙ alone in
    ap are_distinct now ∙ insert_apart (ids h.0) n.id (ids h.1) (ap are_distinct (sym was) ∙ apart) (ap (mem n.id) (sym was) ∙ out)

home_skips : (y : List ℕ) (n : NodeRow) (front back : List NodeRow) → n.resources ≡ []
    → home_of (front ++ n ∷ back) y ≡ home_of (front ++ back) y
home_skips y n [] back bare = home_of-cons y n back ∙ ap (λ pool. cond (mem y (map (λ z. z.id) pool)) (Some n.id) (home_of back y)) bare
home_skips y n (r ∷ front) back bare =
    home_of-cons y r (front ++ n ∷ back) ∙ ap (λ o. cond (mem y (map (λ z. z.id) r.resources)) (Some r.id) o) (home_skips y n front back bare) ∙ sym (home_of-cons y r (front ++ back))

home_more : (n : NodeRow) (old new : List NodeRow) → n.resources ≡ [] → HasOneMore n old new
    → (y : List ℕ) → home_of new y ≡ home_of old y
home_more n old new bare h y = ap (λ rs. home_of rs y) h.3 ∙ home_skips y n h.0 h.1 bare ∙ ap (λ rs. home_of rs y) (sym h.2)

-- ---- the paths of the others

-- behind the new node, a row no deeper than its parent has the path that it had
pub path_skips : (depth : ℕ) (n r : NodeRow) (before : List (List ℕ)) → n.depth ≡ suc depth
    → depth ≤ length before → r.depth ≤ depth → path_of (path_of before n) r ≡ path_of before r
path_skips depth n r before deep high low =
    let cut : ℕ = length before - (n.depth - 1) in
    let rest : List (List ℕ) = drop cut before in
    let long : length rest ≡ length before - cut = length-drop cut before in
    let whole : suc (length rest) - (r.depth - 1) ≡ suc (length rest - (r.depth - 1)) = omega arith in
    let sum : cut + (length rest - (r.depth - 1)) ≡ length before - (r.depth - 1) = omega arith in
    ap (λ k. r.id ∷ drop k (n.id ∷ rest)) whole
    ∙ ap (λ ys. r.id ∷ ys) (drop-drop (length rest - (r.depth - 1)) cut before ∙ ap (λ k. drop k before) sum)

behind_row : (b : Bool) (all : List NodeRow) (depth : ℕ) (n r : NodeRow) (before : List (List ℕ))
    (rows : List NodeRow)
    → nat_lt depth r.depth ≡ b → n.depth ≡ suc depth → n.links ≡ [] → depth ≤ length before
    → (depth ≤ r.depth
    → are_resolved_from all (path_of before r) (behind_deeper depth n rows) ≡ are_resolved_from all (path_of before r) rows)
    → are_resolved_from all before (cond b (r ∷ behind_deeper depth n rows) (n ∷ r ∷ rows))
    ≡ are_resolved_from all before (r ∷ rows)
behind_row true all depth n r before rows e deep bare high go =
    let more : depth < r.depth = ltb-true depth r.depth e in
    ap (λ b. list_all (resolves all (path_of before r)) r.links && b) (go (omega arith))
behind_row false all depth n r before rows e deep bare high go =
    ap (λ links. list_all (resolves all (path_of before n)) links && are_resolved_from all (path_of before n) (r ∷ rows)) bare
    ∙ ap (λ p. list_all (resolves all p) r.links && are_resolved_from all p rows) (path_skips depth n r before deep high (ltb-false depth r.depth e))

behind_resolved : (all : List NodeRow) (depth : ℕ) (n : NodeRow) (before : List (List ℕ))
    (rows : List NodeRow)
    → n.depth ≡ suc depth → n.links ≡ [] → depth ≤ length before → Follows before rows
    → are_resolved_from all before (behind_deeper depth n rows) ≡ are_resolved_from all before rows
behind_resolved all depth n before [] deep bare high follows = ap (λ links. list_all (resolves all (path_of before n)) links && true) bare
behind_resolved all depth n before (r ∷ rows) deep bare high follows =
    let long : length (path_of before r) ≡ r.depth = length-path_of before r follows.0 follows.1 in
    behind_row (nat_lt depth r.depth) all depth n r before rows refl deep bare high (λ within. behind_resolved all depth n (path_of before r) rows deep bare (omega arith) follows.2)

child_resolved_row : (b : Bool) (all : List NodeRow) (x : List ℕ) (new : Bare) (r : NodeRow)
    (path : List (List ℕ)) (rows : List NodeRow)
    → ((d : ℕ) → (new d).depth ≡ d) → ((d : ℕ) → (new d).links ≡ []) → length path ≡ r.depth
    → Follows path rows
    → are_resolved_from all path (child_walk x new rows) ≡ are_resolved_from all path rows
    → are_resolved_from all path
    (cond b (behind_deeper r.depth (new (suc r.depth)) rows) (child_walk x new rows))
    ≡ are_resolved_from all path rows
child_resolved_row true all x new r path rows deep bare long follows later = behind_resolved all r.depth (new (suc r.depth)) path rows (deep (suc r.depth)) (bare (suc r.depth)) (omega arith) follows
child_resolved_row false all x new r path rows deep bare long follows later = later

child_resolved : (all : List NodeRow) (x : List ℕ) (new : Bare) (before : List (List ℕ))
    (rows : List NodeRow)
    → ((d : ℕ) → (new d).depth ≡ d) → ((d : ℕ) → (new d).links ≡ []) → Follows before rows
    → are_resolved_from all before (child_walk x new rows) ≡ are_resolved_from all before rows
child_resolved all x new before [] deep bare follows = refl
child_resolved all x new before (r ∷ rows) deep bare follows =
    ap (λ b. list_all (resolves all (path_of before r)) r.links && b)
    (child_resolved_row (bytes_eq r.id x) all x new r (path_of before r) rows deep bare (length-path_of before r follows.0 follows.1) follows.2 (child_resolved all x new (path_of before r) rows deep bare follows.2))

-- ---- what the code inserts

deeper_at : (b : Bool) (depth : ℕ) (n r : NodeRow) (rows : List NodeRow) → leb r.depth depth ≡ b
    → (take (position_or_len (λ s. nat_le s.depth depth) rows) rows ++ n
    ∷ drop (position_or_len (λ s. nat_le s.depth depth) rows) rows
    ≡ behind_deeper depth n rows)
    → take (cond (not b) (1 + position_or_len (λ s. nat_le s.depth depth) rows) 0) (r ∷ rows) ++ n
    ∷ drop (cond (not b) (1 + position_or_len (λ s. nat_le s.depth depth) rows) 0) (r ∷ rows)
    ≡ cond (nat_lt depth r.depth) (r ∷ behind_deeper depth n rows) (n ∷ r ∷ rows)
deeper_at true depth n r rows e later = ap (λ b. cond b (r ∷ behind_deeper depth n rows) (n ∷ r ∷ rows)) (sym (le-ltb depth r.depth (leb-true r.depth depth e)))
deeper_at false depth n r rows e later =
    let k : ℕ = position_or_len (λ s. nat_le s.depth depth) rows in
    ap (λ i. take i (r ∷ rows) ++ n ∷ drop i (r ∷ rows)) (one-add k) ∙ ap (λ rs. r ∷ rs) later
    ∙ ap (λ b. cond b (r ∷ behind_deeper depth n rows) (n ∷ r ∷ rows)) (sym (lt-ltb depth r.depth (leb-false r.depth depth e)))

pub insert_deeper : (depth : ℕ) (n : NodeRow) (rows : List NodeRow)
    → take (position_or_len (λ s. nat_le s.depth depth) rows) rows ++ n
    ∷ drop (position_or_len (λ s. nat_le s.depth depth) rows) rows
    ≡ behind_deeper depth n rows
insert_deeper depth n [] = refl
insert_deeper depth n (r ∷ rows) = deeper_at (leb r.depth depth) depth n r rows refl (insert_deeper depth n rows)

-- what is to be shown of the place k of the node and the number m of the rows below it
abbrev InsertsChild : List ℕ → Bare → List NodeRow → ℕ → ℕ → NodeRow → Type 0
InsertsChild x new rows k m s = take (suc (k + m)) rows ++ new (suc s.depth) ∷ drop (suc (k + m)) rows ≡ child_walk x new rows

child_at_row : (here : Bool) (later : Option ℕ) (x : List ℕ) (new : Bare) (r : NodeRow)
    (rows : List NodeRow) (k m : ℕ) (s : NodeRow)
    → bytes_eq r.id x ≡ here → cond here (Some 0) (option_map suc later) ≡ Some k
    → slice_get (r ∷ rows) k ≡ Some s
    → m ≡ position_or_len (λ t. nat_le t.depth s.depth) (drop k rows)
    → ((j : ℕ) → later ≡ Some j → slice_get rows j ≡ Some s
    → m ≡ position_or_len (λ t. nat_le t.depth s.depth) (drop (suc j) rows)
    → InsertsChild x new rows j m s)
    → InsertsChild x new (r ∷ rows) k m s
child_at_row true later x new r rows zero m s e found at count go =
    let same : r ≡ s = cc in
    let few : m ≡ position_or_len (λ t. nat_le t.depth r.depth) rows = count ∙ ap (λ t. position_or_len (λ u. nat_le u.depth t.depth) rows) (sym same) in
    ap (λ i. r ∷ take i rows ++ new (suc s.depth) ∷ drop i rows) (zero-add m ∙ few)
    ∙ ap (λ t. r ∷ take (position_or_len (λ u. nat_le u.depth r.depth) rows) rows ++ new (suc t.depth) ∷ drop (position_or_len (λ u. nat_le u.depth r.depth) rows) rows) (sym same)
    ∙ ap (λ rs. r ∷ rs) (insert_deeper r.depth (new (suc r.depth)) rows)
    ∙ ap (λ b. r ∷ cond b (behind_deeper r.depth (new (suc r.depth)) rows) (child_walk x new rows)) (sym e)
child_at_row true later x new r rows (suc k) m s e found at count go = cc
child_at_row false None x new r rows k m s e found at count go = cc
child_at_row false (Some j) x new r rows zero m s e found at count go = cc
child_at_row false (Some j) x new r rows (suc k) m s e found at count go =
    let next : j ≡ k = cc in
    let rest : InsertsChild x new rows k m s =
    subst (λ i. InsertsChild x new rows i m s) next (go j refl (ap (slice_get rows) next ∙ at) (count ∙ ap (λ i. position_or_len (λ t. nat_le t.depth s.depth) (drop (suc i) rows)) (sym next))) in
    let longer : suc k + m ≡ suc (k + m) = omega arith in
    ap (λ i. r ∷ take i rows ++ new (suc s.depth) ∷ drop i rows) longer ∙ ap (λ rs. r ∷ rs) rest
    ∙ ap (λ b. r ∷ cond b (behind_deeper r.depth (new (suc r.depth)) rows) (child_walk x new rows)) (sym e)

insert_child : (x : List ℕ) (new : Bare) (rows : List NodeRow) (k m : ℕ) (s : NodeRow)
    → position (λ r. bytes_eq r.id x) rows ≡ Some k → slice_get rows k ≡ Some s
    → m ≡ position_or_len (λ t. nat_le t.depth s.depth) (drop (suc k) rows)
    → InsertsChild x new rows k m s
insert_child x new [] k m s found at count = cc
insert_child x new (r ∷ rows) k m s found at count =
    child_at_row (bytes_eq r.id x) (position (λ y. bytes_eq y.id x) rows) x new r rows k m s refl (sym (position-cons (λ y. bytes_eq y.id x) r rows) ∙ found) at count (λ j f a c. insert_child x new rows j m s f a c)

-- ---- behind the last row that stands below the parent

none_from : {X : Type 0} (p : X → Bool) (xs : List X)
    → ((j : ℕ) (y : X) → slice_get xs j ≡ Some y → p y ≡ false) → list_any p xs ≡ false
none_from p [] h = refl
none_from p (x ∷ xs) h = or_from _ _ (h 0 x refl) (none_from p xs (λ j y e. h (suc j) y e))

some_at : {X : Type 0} (p : X → Bool) (xs : List X) (k : ℕ) → k < length xs
    → ((y : X) → slice_get xs k ≡ Some y → p y ≡ true) → list_any p xs ≡ true
some_at p [] k within h =
    let never : ⊥ = omega (arith, within) in
    absurd never
some_at p (x ∷ xs) zero within h = ap (λ b. b || list_any p xs) (h x refl)
some_at p (x ∷ xs) (suc k) within h =
    let inside : suc k < suc (length xs) = within in
    ap (λ b. p x || b) (some_at p xs k (omega (arith, inside)) h) ∙ or_true (p x)

and_none : (b : Bool) → (b && false) ≡ false
and_none true = refl
and_none false = refl

le_pred : (b : Bool) (from j : ℕ) → leb (from - 1) j ≡ b → leb from (suc j) ≡ b
le_pred true from j e = le-leb from (suc j) (omega (arith, leb-true _ _ e))
le_pred false from j e = lt-leb from (suc j) (omega (arith, leb-false _ _ e))

lt_next : (b : Bool) (j n : ℕ) → ltb j n ≡ b → ltb (suc j) (suc n) ≡ b
lt_next true j n e = lt-ltb (suc j) (suc n) (omega (arith, ltb-true _ _ e))
lt_next false j n e = le-ltb (suc j) (suc n) (omega (arith, ltb-false _ _ e))

-- those of a list that pass stand from one place up to another
abbrev PassBetween : {X : Type 0} → (X → Bool) → List X → ℕ → ℕ → Type 0
PassBetween {X} p xs from to = (j : ℕ) (y : X) → slice_get xs j ≡ Some y → p y ≡ (nat_le from j && nat_lt j to)

-- where they do, the new one comes at the end of these
pub behind_between : {X : Type 0} (p : X → Bool) (n : X) (xs : List X) (from to : ℕ)
    → PassBetween p xs from to → from < to → to ≤ length xs
    → behind_last p n xs ≡ take to xs ++ n ∷ drop to xs
behind_between p n [] from to on some within =
    let none : to ≤ 0 = within in
    let never : ⊥ = omega (arith, some, none) in
    absurd never
behind_between p n (x ∷ xs) from zero on some within =
    let never : ⊥ = omega (arith, some) in
    absurd never
behind_between p n (x ∷ xs) from (suc zero) on some within =
    let here : p x ≡ true = on 0 x refl ∙ and_from _ _ (le-leb from 0 (omega (arith, some))) (lt-ltb 0 1 (omega arith)) in
    let none : list_any p xs ≡ false = none_from p xs (λ j y e. on (suc j) y e ∙ ap (λ b. nat_le from (suc j) && b) (le-ltb (suc j) 1 (omega arith)) ∙ and_none (nat_le from (suc j))) in
    ap (λ b. cond (b && not (list_any p xs)) (x ∷ n ∷ xs) (x ∷ behind_last p n xs)) here ∙ ap (λ b. cond (not b) (x ∷ n ∷ xs) (x ∷ behind_last p n xs)) none
behind_between p n (x ∷ xs) from (suc (suc t)) on some within =
    let inside : suc (suc t) ≤ suc (length xs) = within in
    let more : list_any p xs ≡ true =
    some_at p xs t (omega (arith, inside)) (λ y e. on (suc t) y e ∙ and_from _ _ (le-leb from (suc t) (omega (arith, some))) (lt-ltb (suc t) (suc (suc t)) (omega arith))) in
    let later : PassBetween p xs (from - 1) (suc t) =
    λ j y e. on (suc j) y e ∙ ap (λ b. b && nat_lt (suc j) (suc (suc t))) (le_pred _ from j refl) ∙ ap (λ b. nat_le (from - 1) j && b) (lt_next _ j (suc t) refl) in
    ap (λ b. cond (p x && not b) (x ∷ n ∷ xs) (x ∷ behind_last p n xs)) more ∙ ap (λ b. cond b (x ∷ n ∷ xs) (x ∷ behind_last p n xs)) (and_none (p x))
    ∙ ap (λ ys. x ∷ ys) (behind_between p n xs (from - 1) (suc t) later (omega (arith, some)) (omega (arith, inside)))

-- an id that stands at a place stands there first
stands_at : (rows : List NodeRow) (k : ℕ) (r : NodeRow) → slice_get rows k ≡ Some r
    → mem r.id (node_ids rows) ≡ true
stands_at [] k r e = cc
stands_at (s ∷ rows) zero r e =
    let same : s ≡ r = cc in
    ap (λ t. bytes_eq t.id r.id || mem r.id (node_ids rows)) same ∙ ap (λ b. b || mem r.id (node_ids rows)) (bytes_eq-same r.id)
stands_at (s ∷ rows) (suc k) r e = ap (λ b. bytes_eq s.id r.id || b) (stands_at rows k r e) ∙ or_true (bytes_eq s.id r.id)

later_place : (b : Bool) (s r : NodeRow) (rows : List NodeRow) (j : ℕ) → bytes_eq s.id r.id ≡ b
    → mem s.id (node_ids rows) ≡ false → mem r.id (node_ids rows) ≡ true
    → position (λ t. bytes_eq t.id r.id) rows ≡ Some j
    → cond b (Some 0) (option_map suc (position (λ t. bytes_eq t.id r.id) rows)) ≡ Some (suc j)
later_place true s r rows j e alone there found =
    absurd (true≢false (sym there ∙ ap (λ i. mem i (node_ids rows)) (sym ((bytes_eq-Decides s.id r.id).0 e)) ∙ alone))
later_place false s r rows j e alone there found = ap (option_map suc) found

pub own_place : (rows : List NodeRow) (j : ℕ) (r : NodeRow) → are_distinct (node_ids rows) ≡ true
    → slice_get rows j ≡ Some r → position (λ t. bytes_eq t.id r.id) rows ≡ Some j
own_place [] j r apart e = cc
own_place (s ∷ rows) zero r apart e =
    let same : s ≡ r = cc in
    position-cons (λ t. bytes_eq t.id r.id) s rows
    ∙ ap (λ b. cond b (Some 0) (option_map suc (position (λ t. bytes_eq t.id r.id) rows))) (ap (λ t. bytes_eq t.id r.id) same ∙ bytes_eq-same r.id)
own_place (s ∷ rows) (suc j) r apart e =
    let parts = and_parts _ _ apart in
    position-cons (λ t. bytes_eq t.id r.id) s rows ∙ later_place (bytes_eq s.id r.id) s r rows j refl (not-true _ parts.0) (stands_at rows j r e) (own_place rows j r parts.1 e)

place_known : (o : Option ℕ) (rows : List NodeRow) (x : List ℕ)
    → position (λ r. bytes_eq r.id x) rows ≡ o → has_node rows x ≡ true
    → (k : ℕ) × (position (λ r. bytes_eq r.id x) rows ≡ Some k)
place_known None rows x e known = absurd (true≢false (sym known ∙ ap is_some (none_at_position (λ r. bytes_eq r.id x) rows e)))
place_known (Some k) rows x e known = (k, e)

run_within_row : (b : Bool) (n m : ℕ) → n ≤ m → cond (not b) (1 + n) 0 ≤ suc m
run_within_row true n m h = omega arith
run_within_row false n m h = omega (arith, h)

pub run_within : (d : ℕ) (rows : List NodeRow) → run_length d rows ≤ length rows
run_within d [] = omega arith
run_within d (r ∷ rows) = run_within_row (nat_le r.depth d) (run_length d rows) (length rows) (run_within d rows)

-- what the walk makes of valid rows
pub walked_child : (x : List ℕ) (new : Bare) (rows : List NodeRow) → IsValid rows
    → has_node rows x ≡ true → with_child x new rows ≡ child_walk x new rows
walked_child x new rows valid known =
    let at = place_known (position (λ r. bytes_eq r.id x) rows) rows x refl known in
    let k : ℕ = at.0 in
    let found = found_at_position (λ r. bytes_eq r.id x) rows k at.1 in
    let s : NodeRow = found.0 in
    let m : ℕ = run_length s.depth (drop (k + 1) rows) in
    let around : BoundsNodesBelow rows x k (k + 1 + m) = bounds rows (drop (k + 1) rows) x k m s refl valid.tree valid.distinct at.1 found.2 refl (run_within s.depth (drop (k + 1) rows)) in
    let below_x : NodeRow → Bool = λ r. is_below (node_places rows) r.id x in
    let apart = node_ids_distinct rows valid.distinct in
    let sum : k + 1 + m ≡ suc (k + m) = omega arith in
    ap (λ o. behind_last below_x (new (suc (option_map_or (λ r. r.depth) o 0))) rows) found.1
    ∙ behind_between below_x (new (suc s.depth)) rows k (k + 1 + m) (λ j r e. below_bounds rows r.id x j k (k + 1 + m) (own_place rows j r apart e) around) (omega arith) around.end
    ∙ ap (λ i. take i rows ++ new (suc s.depth) ∷ drop i rows) sum
    ∙ insert_child x new rows k m s at.1 found.2 (ap (λ i. run_length s.depth (drop i rows)) (add-one k))

-- an insert at the end of the rows below the node that was found is the node's new child
pub inserted_child : (x : List ℕ) (new : Bare) (rows seen later : List NodeRow) (k m : ℕ)
    (s : NodeRow)
    → IsValid rows → seen ≡ rows → later ≡ drop (k + 1) rows
    → position (λ r. bytes_eq r.id x) seen ≡ Some k → s ≡ get_or rows k s
    → m ≡ position_or_len (λ t. nat_le t.depth s.depth) later
    → take (k + 1 + m) rows ++ new (suc s.depth) ∷ drop (k + 1 + m) rows ≡ with_child x new rows
inserted_child x new rows seen later k m s valid same behind found is count =
    let here : position (λ r. bytes_eq r.id x) rows ≡ Some k = ap (position (λ r. bytes_eq r.id x)) (sym same) ∙ found in
    let at : slice_get rows k ≡ Some s = slice_get-get_or rows k s (below_length (λ r. bytes_eq r.id x) rows k here) ∙ ap Some (sym is) in
    let sum : k + 1 + m ≡ suc (k + m) = omega arith in
    ap (λ i. take i rows ++ new (suc s.depth) ∷ drop i rows) sum
    ∙ insert_child x new rows k m s here at (count ∙ ap (position_or_len (λ t. nat_le t.depth s.depth)) (behind ∙ ap (λ i. drop i rows) (add-one k)))
    ∙ sym (walked_child x new rows valid (ap is_some (found_at_position (λ r. bytes_eq r.id x) rows k here).1))

-- ---- the whole

pub room_at : (rows : List NodeRow) (x : List ℕ) (r : NodeRow) → row_of rows x ≡ Some r
    → has_room rows x ≡ true → nat_lt r.depth max_depth ≡ true
room_at rows x r found room = sym (ap (λ o. option_map_or (λ s. nat_lt s.depth max_depth) o false) found) ∙ room

pub IsValid-add_node : (x id kind job_part status : List ℕ) (rows : List NodeRow)
    → has_node rows x ≡ true → is_reserved status ≡ false → mem id (ids rows) ≡ false
    → has_room rows x ≡ true → IsValid rows
    → IsValid (with_child x (bare_row id kind job_part status) rows)
IsValid-add_node x id kind job_part status rows there free new room valid =
    let bare : Bare = bare_row id kind job_part status in
    let h = has_child x bare rows there in
    let n : NodeRow = bare (suc h.0.depth) in
    let shallow : suc h.0.depth ≤ max_depth = ltb-true h.0.depth max_depth (room_at rows x h.0 h.1 room) in
    let walked : IsValid (child_walk x bare rows) =
    record {
      tree = child_walk_outline x bare rows (λ d. refl) valid.tree;
      unreserved = all_more (λ r. not (is_reserved r.status)) n rows (child_walk x bare rows) h.2 (not_from_false _ free) valid.unreserved;
      distinct = ids_more n rows (child_walk x bare rows) refl h.2 valid.distinct new;
      shallow = all_more (λ r. nat_le r.depth max_depth) n rows (child_walk x bare rows) h.2 (le-leb (suc h.0.depth) max_depth shallow) valid.shallow;
      resolved = resolved_walk (child_walk x bare rows) ∙ resolved_same rows (child_walk x bare rows) [] (child_walk x bare rows) (home_more n rows (child_walk x bare rows) refl h.2)
          ∙ child_resolved rows x bare [] rows (λ d. refl) (λ d. refl) (Follows-outline rows valid.tree) ∙ sym (resolved_walk rows) ∙ valid.resolved;
    } in
    subst IsValid (sym (walked_child x bare rows valid there)) walked
