-- Valid rows are the preorder of the children: the rows behind a node, as far as they are deeper,
-- are what is below its children.
use Rattle.std.proofs.Common.{◌≡◌, ℕ, zero, suc, ◌+◌, ◌-◌, ◌<◌, ◌≤◌, ◌&&◌, ◌||◌, Bool, true, false}
use Rattle.std.proofs.Common.{cond, List, [], ◌∷◌, ◌++◌, map, length, drop, refl, sym, ap, ◌∙◌}
use Rattle.std.proofs.Common.{subst, arith, leb, nat_le, add-one, slice_get}
use Rattle.std.proofs.lemmas.Bool.{true≢false, and_parts, or_parts, or_from, leb-true, leb-false}
use Rattle.std.proofs.lemmas.Bool.{le-leb, lt-leb, eqb-true, not-true}
use Rattle.std.proofs.lemmas.List.{length-append, length-drop, append_assoc, drop-append-le}
use Rattle.std.proofs.lemmas.List.{drop-drop, drop_at}
use Rattle.std.specs.List.{filter, flat_map, list_all}
use Rattle.std.specs.Option.{option_map_or}
use Rattle.std.specs.Str.{bytes_eq}
use Rattle.ticket_items.proofs.Apart.{bytes_eq-same}
use Rattle.ticket_rows.proofs.Below.{Path, mem-drop, Follows, Follows-outline, length-path_of}
use Rattle.ticket_tree.proofs.Parents.{AreNew, here_new, later_new, there_later}
use Rattle.ticket_items.specs.Ids.{mem, are_distinct}
use Rattle.ticket_tree.specs.Laws.{RowsArePreorder}
use Rattle.ticket_rows.specs.Outline.{goes_on}
use Rattle.ticket_rows.proofs.NodePlaces.{nodes_from, node_places-rows, node_ids_distinct}
use Rattle.ticket_rows.specs.Place.{Place, node_place, is_child_of, kids, preorder, path_of}
use Rattle.ticket_rows.specs.Ticket.{node_ids, depths, max_depth}
use Rattle.ticket_items.specs.declared.node_row.NodeRow.{NodeRow}

-- ---- the rows behind a node

-- the node_ids of the first rows, as long as they are deeper than this
abbrev pub deeper_ids : ℕ → List NodeRow → Path
deeper_ids depth [] = []
deeper_ids depth (r ∷ rows) = cond (leb r.depth depth) [] (r.id ∷ deeper_ids depth rows)

-- of these, the node_ids of the rows that are one deeper
abbrev pub child_ids : ℕ → List NodeRow → Path
child_ids depth [] = []
child_ids depth (r ∷ rows) = cond (leb r.depth depth) [] (cond (leb r.depth (suc depth)) (r.id ∷ child_ids depth rows) (child_ids depth rows))

-- ---- the children of a node are the rows behind it that are one deeper

-- the ids of the places of which n is the parent
abbrev pub kids_from : List ℕ → Path → List NodeRow → Path
kids_from n before rows = map (λ p. p.id) (filter (is_child_of n) (nodes_from before rows))

-- whether n comes first
abbrev pub is_first : List ℕ → Path → Bool
is_first n path = option_map_or (λ u. bytes_eq u n) (slice_get path 0) false

cons_if : (b : Bool) (p : Place) (ps : List Place)
    → map (λ q. q.id) (cond b (p ∷ ps) ps) ≡ cond b (p.id ∷ map (λ q. q.id) ps) (map (λ q. q.id) ps)
cons_if true p ps = refl
cons_if false p ps = refl

kids_from-cons : (n : List ℕ) (before : Path) (r : NodeRow) (rows : List NodeRow)
    → kids_from n before (r ∷ rows)
    ≡ cond (is_first n (drop (length before - (r.depth - 1)) before))
    (r.id ∷ kids_from n (path_of before r) rows) (kids_from n (path_of before r) rows)
kids_from-cons n before r rows =
    cons_if (is_child_of n (node_place r (path_of before r))) (node_place r (path_of before r)) (filter (is_child_of n) (nodes_from (path_of before r) rows))

not_first : (n : List ℕ) (path : Path) → mem n path ≡ false → is_first n path ≡ false
not_first n [] out = refl
not_first n (y ∷ ys) out = (or_parts (bytes_eq y n) (mem n ys) out).0

not_first-append : (n : List ℕ) (front path : Path) → 1 ≤ length front → mem n front ≡ false
    → is_first n (front ++ path) ≡ false
not_first-append n [] path long out =
    let never : ⊥ = omega arith in
    absurd never
not_first-append n (y ∷ front) path long out = (or_parts (bytes_eq y n) (mem n front) out).0

-- a row no deeper than n hangs on what is above n
above_n : (n : List ℕ) (front up : Path) (r : NodeRow) → r.depth ≤ suc (length up)
    → mem n up ≡ false
    → mem n (drop (length (front ++ n ∷ up) - (r.depth - 1)) (front ++ n ∷ up)) ≡ false
above_n n front up r shallow out =
    let long : length (front ++ n ∷ up) ≡ length front + suc (length up) = length-append front (n ∷ up) in
    let more : ℕ = length up - (r.depth - 1) in
    let cut : length (front ++ n ∷ up) - (r.depth - 1) ≡ suc (length front) + more = omega arith in
    let past : drop (suc (length front)) (front ++ n ∷ up) ≡ up = ap (drop (suc (length front))) (sym (append_assoc front (n ∷ []) up)) ∙ drop_at (front ++ n ∷ []) up (suc (length front)) (length-append front (n ∷ []) ∙ add-one (length front)) in
    ap (λ m. mem n (drop m (front ++ n ∷ up))) cut ∙ ap (mem n) (sym (drop-drop more (suc (length front)) (front ++ n ∷ up)) ∙ ap (drop more) past) ∙ mem-drop n more up out

-- a deeper row hangs on n, or on what is between
below_n : (n : List ℕ) (front up : Path) (r : NodeRow) → suc (length up) < r.depth
    → drop (length (front ++ n ∷ up) - (r.depth - 1)) (front ++ n ∷ up)
    ≡ drop (length (front ++ n ∷ up) - (r.depth - 1)) front ++ n ∷ up
below_n n front up r deep =
    let long : length (front ++ n ∷ up) ≡ length front + suc (length up) = length-append front (n ∷ up) in
    drop-append-le (length (front ++ n ∷ up) - (r.depth - 1)) front (n ∷ up) (omega arith)

-- no row is a child of an id that is neither on the way nor among the rows
no_kids : (n : List ℕ) (before : Path) (rows : List NodeRow) → mem n before ≡ false
    → mem n (node_ids rows) ≡ false → kids_from n before rows ≡ []
no_kids n before [] off out = refl
no_kids n before (r ∷ rows) off out =
    let parts = or_parts (bytes_eq r.id n) (mem n (node_ids rows)) out in
    let up : Path = drop (length before - (r.depth - 1)) before in
    let above : mem n up ≡ false = mem-drop n (length before - (r.depth - 1)) before off in
    kids_from-cons n before r rows
    ∙ ap (λ b. cond b (r.id ∷ kids_from n (path_of before r) rows) (kids_from n (path_of before r) rows)) (not_first n up above)
    ∙ no_kids n (path_of before r) rows (or_from _ _ parts.0 above) parts.1

-- what is to be shown of the rows behind n
abbrev KidsBehind : List ℕ → Path → Path → List NodeRow → Type 0
KidsBehind n front up rows = kids_from n (front ++ n ∷ up) rows ≡ child_ids (suc (length up)) rows

kids_row : (shallow near : Bool) (n : List ℕ) (front up : Path) (r : NodeRow) (rows : List NodeRow)
    → leb r.depth (suc (length up)) ≡ shallow → leb r.depth (suc (suc (length up))) ≡ near
    → 1 ≤ r.depth → r.depth ≤ suc (length (front ++ n ∷ up)) → mem n front ≡ false
    → mem n up ≡ false → mem n (node_ids (r ∷ rows)) ≡ false
    → ((kept : Path) → path_of (front ++ n ∷ up) r ≡ (r.id ∷ kept) ++ n ∷ up → mem n kept ≡ false
    → KidsBehind n (r.id ∷ kept) up rows)
    → kids_from n (front ++ n ∷ up) (r ∷ rows)
    ≡ cond shallow []
    (cond near (r.id ∷ child_ids (suc (length up)) rows) (child_ids (suc (length up)) rows))
kids_row true near n front up r rows e f low high off_front off_up out later =
    let before : Path = front ++ n ∷ up in
    let parts = or_parts (bytes_eq r.id n) (mem n (node_ids rows)) out in
    let above : mem n (drop (length before - (r.depth - 1)) before) ≡ false = above_n n front up r (leb-true _ _ e) off_up in
    kids_from-cons n before r rows
    ∙ ap (λ b. cond b (r.id ∷ kids_from n (path_of before r) rows) (kids_from n (path_of before r) rows)) (not_first n _ above)
    ∙ no_kids n (path_of before r) rows (or_from _ _ parts.0 above) parts.1
kids_row false true n front up r rows e f low high off_front off_up out later =
    let before : Path = front ++ n ∷ up in
    let m : ℕ = length before - (r.depth - 1) in
    let long : length before ≡ length front + suc (length up) = length-append front (n ∷ up) in
    let kept : Path = drop m front in
    let deep : suc (length up) < r.depth = leb-false _ _ e in
    let split : drop m before ≡ kept ++ n ∷ up = below_n n front up r deep in
    let all : m ≡ length front = omega (arith, leb-true _ _ f) in
    let past : drop m before ≡ n ∷ up = ap (λ k. drop k before) all ∙ drop_at front (n ∷ up) (length front) refl in
    let way : path_of before r ≡ (r.id ∷ kept) ++ n ∷ up = ap (λ ys. r.id ∷ ys) split in
    kids_from-cons n before r rows
    ∙ ap (λ b. cond b (r.id ∷ kids_from n (path_of before r) rows) (kids_from n (path_of before r) rows)) (ap (is_first n) past ∙ bytes_eq-same n)
    ∙ ap (λ ys. r.id ∷ ys) (ap (λ path. kids_from n path rows) way ∙ later kept way (mem-drop n m front off_front))
kids_row false false n front up r rows e f low high off_front off_up out later =
    let before : Path = front ++ n ∷ up in
    let m : ℕ = length before - (r.depth - 1) in
    let long : length before ≡ length front + suc (length up) = length-append front (n ∷ up) in
    let kept : Path = drop m front in
    let deep : suc (length up) < r.depth = leb-false _ _ e in
    let split : drop m before ≡ kept ++ n ∷ up = below_n n front up r deep in
    let some : 1 ≤ length kept = omega (arith, leb-false _ _ f, length-drop m front) in
    let way : path_of before r ≡ (r.id ∷ kept) ++ n ∷ up = ap (λ ys. r.id ∷ ys) split in
    kids_from-cons n before r rows
    ∙ ap (λ b. cond b (r.id ∷ kids_from n (path_of before r) rows) (kids_from n (path_of before r) rows)) (ap (is_first n) split ∙ not_first-append n kept (n ∷ up) some (mem-drop n m front off_front))
    ∙ ap (λ path. kids_from n path rows) way ∙ later kept way (mem-drop n m front off_front)

kids_behind : (n : List ℕ) (front up : Path) (rows : List NodeRow) → Follows (front ++ n ∷ up) rows
    → mem n front ≡ false → mem n up ≡ false → mem n (node_ids rows) ≡ false
    → KidsBehind n front up rows
kids_behind n front up [] follows off_front off_up out = refl
kids_behind n front up (r ∷ rows) follows off_front off_up out =
    let parts = or_parts (bytes_eq r.id n) (mem n (node_ids rows)) out in
    kids_row (leb r.depth (suc (length up))) (leb r.depth (suc (suc (length up)))) n front up r rows refl refl follows.0 follows.1 off_front off_up out
    (λ kept way off. kids_behind n (r.id ∷ kept) up rows (subst (λ path. Follows path rows) way follows.2) (or_from _ _ parts.0 off) off_up parts.1)

-- each row's children are the rows behind it that are one deeper
abbrev pub KidsAre : List Place → List NodeRow → Type 0
KidsAre tree [] = Unit {0}
KidsAre tree (r ∷ rows) = (kids tree r.id ≡ child_ids r.depth rows) × KidsAre tree rows

-- the children of the rows' node_ids stand among the rows
abbrev pub KidsWithin : List Place → Path → List NodeRow → Type 0
KidsWithin tree before rows = (n : List ℕ) → mem n (node_ids rows) ≡ true → kids tree n ≡ kids_from n before rows

kids_here : (before : Path) (r : NodeRow) (rows : List NodeRow) → Follows before (r ∷ rows)
    → are_distinct (node_ids (r ∷ rows)) ≡ true → AreNew before (r ∷ rows)
    → kids_from r.id before (r ∷ rows) ≡ child_ids r.depth rows
kids_here before r rows follows apart new =
    let up : Path = drop (length before - (r.depth - 1)) before in
    let off : mem r.id up ≡ false = mem-drop r.id (length before - (r.depth - 1)) before (here_new before r rows new) in
    let deep : suc (length up) ≡ r.depth = length-path_of before r follows.0 follows.1 in
    kids_from-cons r.id before r rows
    ∙ ap (λ b. cond b (r.id ∷ kids_from r.id (path_of before r) rows) (kids_from r.id (path_of before r) rows)) (not_first r.id up off)
    ∙ kids_behind r.id [] up rows follows.2 refl off (not-true _ (and_parts _ _ apart).0)
    ∙ ap (λ d. child_ids d rows) deep

kids_later : (tree : List Place) (before : Path) (r : NodeRow) (rows : List NodeRow)
    → are_distinct (node_ids (r ∷ rows)) ≡ true → AreNew before (r ∷ rows)
    → KidsWithin tree before (r ∷ rows) → KidsWithin tree (path_of before r) rows
kids_later tree before r rows apart new within n there =
    let up : Path = drop (length before - (r.depth - 1)) before in
    let anywhere : mem n (node_ids (r ∷ rows)) ≡ true = there_later (bytes_eq r.id n) (mem n (node_ids rows)) there in
    let off : mem n up ≡ false = mem-drop n (length before - (r.depth - 1)) before (new n anywhere) in
    within n anywhere ∙ kids_from-cons n before r rows
    ∙ ap (λ b. cond b (r.id ∷ kids_from n (path_of before r) rows) (kids_from n (path_of before r) rows)) (not_first n up off)

kids_are : (tree : List Place) (before : Path) (rows : List NodeRow) → Follows before rows
    → are_distinct (node_ids rows) ≡ true → AreNew before rows → KidsWithin tree before rows
    → KidsAre tree rows
kids_are tree before [] follows apart new within = tt
kids_are tree before (r ∷ rows) follows apart new within =
    let here : mem r.id (node_ids (r ∷ rows)) ≡ true = ap (λ b. b || mem r.id (node_ids rows)) (bytes_eq-same r.id) in (
      within r.id here ∙ kids_here before r rows follows apart new,
      kids_are tree (path_of before r) rows follows.2 (and_parts _ _ apart).1 (later_new before r rows apart new) (kids_later tree before r rows apart new within),
    )

-- ---- what is drawn below each row

-- with so many levels each row's preorder is its id and the deeper ones behind it, if no row is
-- deeper than `most`
abbrev pub Drawn : ℕ → ℕ → List Place → List NodeRow → Type 0
Drawn most levels tree [] = Unit {0}
Drawn most levels tree (r ∷ rows) = (most < r.depth + levels → preorder levels tree r.id ≡ r.id ∷ deeper_ids r.depth rows) × Drawn most levels tree rows

forest_row : (shallow near : Bool) (draw : List ℕ → Path) (x : List ℕ) (run below children : Path)
    → (shallow ≡ true → near ≡ true) → (shallow ≡ false → near ≡ true → draw x ≡ x ∷ below)
    → run ≡ below ++ flat_map draw children
    → cond shallow [] (x ∷ run)
    ≡ cond near [] (x ∷ below)
    ++ flat_map draw (cond shallow [] (cond near (x ∷ children) children))
forest_row true true draw x run below children both drawn rest = refl
forest_row true false draw x run below children both drawn rest = absurd (true≢false (sym (both refl)))
forest_row false true draw x run below children both drawn rest =
    ap (λ ys. x ∷ ys) rest ∙ ap (λ ys. ys ++ flat_map draw children) (sym (drawn refl refl))
forest_row false false draw x run below children both drawn rest = ap (λ ys. x ∷ ys) rest

-- the rows deeper than `depth` are the still deeper ones at their front, and what is below each
-- that is one deeper
forest : (most levels : ℕ) (tree : List Place) (depth : ℕ) (rows : List NodeRow)
    → most < suc depth + levels → Drawn most levels tree rows
    → deeper_ids depth rows
    ≡ deeper_ids (suc depth) rows ++ flat_map (preorder levels tree) (child_ids depth rows)
forest most levels tree depth [] enough drawn = refl
forest most levels tree depth (r ∷ rows) enough drawn =
    forest_row (leb r.depth depth) (leb r.depth (suc depth)) (preorder levels tree) r.id (deeper_ids depth rows) (deeper_ids (suc depth) rows) (child_ids depth rows)
    (λ shallow. le-leb _ _ (omega (arith, leb-true r.depth depth shallow)))
    (λ deep near.
    let one : r.depth ≡ suc depth = omega (arith, leb-false r.depth depth deep, leb-true r.depth (suc depth) near) in
    drawn.0 (omega arith) ∙ ap (λ d. r.id ∷ deeper_ids d rows) one)
    (forest most levels tree depth rows enough drawn.1)

-- nothing behind a row is deeper by more than one at once
no_deeper : (depth : ℕ) (rows : List NodeRow) → goes_on depth (depths rows) ≡ true
    → deeper_ids (suc depth) rows ≡ []
no_deeper depth [] goes = refl
no_deeper depth (r ∷ rows) goes = ap (λ b. cond b [] (r.id ∷ deeper_ids (suc depth) rows)) (and_parts _ _ (and_parts _ _ goes).0).1

draw_none : (most : ℕ) (tree : List Place) (rows : List NodeRow)
    → list_all (λ r. nat_le r.depth most) rows ≡ true → Drawn most zero tree rows
draw_none most tree [] shallow = tt
draw_none most tree (r ∷ rows) shallow =
    let parts = and_parts (nat_le r.depth most) (list_all (λ s. nat_le s.depth most) rows) shallow in
    let fits : r.depth ≤ most = leb-true r.depth most parts.0 in
    (λ enough. let never : ⊥ = omega arith in absurd never, draw_none most tree rows parts.1)

draw_more : (most levels : ℕ) (tree : List Place) (above : ℕ) (rows : List NodeRow)
    → goes_on above (depths rows) ≡ true → KidsAre tree rows → Drawn most levels tree rows
    → Drawn most (suc levels) tree rows
draw_more most levels tree above [] goes kids_are drawn = tt
draw_more most levels tree above (r ∷ rows) goes kids_are drawn =
    let later : goes_on r.depth (depths rows) ≡ true = (and_parts (nat_le 2 r.depth && nat_le r.depth (suc above)) (goes_on r.depth (depths rows)) goes).1 in (
      λ enough.
          let fits : most < suc r.depth + levels = omega arith in
          ap (λ ys. r.id ∷ flat_map (preorder levels tree) ys) kids_are.0
          ∙ ap (λ ys. r.id ∷ ys) (sym (forest most levels tree r.depth rows fits drawn.1 ∙ ap (λ ys. ys ++ flat_map (preorder levels tree) (child_ids r.depth rows)) (no_deeper r.depth rows later))),
      draw_more most levels tree r.depth rows later kids_are.1 drawn.1,
    )

draws : (levels most : ℕ) (tree : List Place) (above : ℕ) (rows : List NodeRow)
    → goes_on above (depths rows) ≡ true → list_all (λ r. nat_le r.depth most) rows ≡ true
    → KidsAre tree rows → Drawn most levels tree rows
draws zero most tree above rows goes shallow kids_are = draw_none most tree rows shallow
draws (suc levels) most tree above rows goes shallow kids_are =
    draw_more most levels tree above rows goes kids_are (draws levels most tree above rows goes shallow kids_are)

-- ---- the whole

-- behind the root all rows are deeper
all_deeper : (above : ℕ) (rows : List NodeRow) → goes_on above (depths rows) ≡ true
    → deeper_ids 1 rows ≡ node_ids rows
all_deeper above [] goes = refl
all_deeper above (r ∷ rows) goes =
    let parts = and_parts _ _ goes in
    let low : 2 ≤ r.depth = leb-true 2 r.depth (and_parts _ _ parts.0).0 in
    ap (λ b. cond b [] (r.id ∷ deeper_ids 1 rows)) (lt-leb r.depth 1 (omega arith)) ∙ ap (λ ys. r.id ∷ ys) (all_deeper r.depth rows parts.1)

draw_whole : (levels most : ℕ) (tree : List Place) (r : NodeRow) (rows : List NodeRow)
    → most < 2 + levels → r.depth ≡ 1 → goes_on 1 (depths rows) ≡ true
    → list_all (λ s. nat_le s.depth most) rows ≡ true → KidsAre tree (r ∷ rows)
    → preorder (suc levels) tree r.id ≡ node_ids (r ∷ rows)
draw_whole levels most tree r rows enough one goes shallow kids_are =
    let drawn : Drawn most levels tree rows = draws levels most tree 1 rows goes shallow kids_are.1 in
    ap (λ ys. r.id ∷ flat_map (preorder levels tree) ys) (kids_are.0 ∙ ap (λ d. child_ids d rows) one)
    ∙ ap (λ ys. r.id ∷ ys) (sym (forest most levels tree 1 rows (omega arith) drawn ∙ ap (λ ys. ys ++ flat_map (preorder levels tree) (child_ids 1 rows)) (no_deeper 1 rows goes)))
    ∙ ap (λ ys. r.id ∷ ys) (all_deeper 1 rows goes)

pub rows_are_preorder : RowsArePreorder
rows_are_preorder r rows valid =
    let parts = and_parts _ _ valid.tree in
    let one : r.depth ≡ 1 = eqb-true _ _ parts.0 in
    let new : AreNew [] (r ∷ rows) = λ y h. refl in
    let within : KidsWithin (nodes_from [] (r ∷ rows)) [] (r ∷ rows) = λ n h. refl in
    let every : KidsAre (nodes_from [] (r ∷ rows)) (r ∷ rows) = kids_are (nodes_from [] (r ∷ rows)) [] (r ∷ rows) (Follows-outline (r ∷ rows) valid.tree) (node_ids_distinct (r ∷ rows) valid.distinct) new within in
    ap (λ nodes. preorder max_depth nodes r.id) (node_places-rows (r ∷ rows))
    ∙ draw_whole 31 max_depth (nodes_from [] (r ∷ rows)) r rows (omega arith) one parts.1 (and_parts _ _ valid.shallow).1 every
