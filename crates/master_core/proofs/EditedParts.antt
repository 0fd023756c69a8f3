-- An edit of what the master holds changes no part of a spawn that is out: the rows of its claim
-- stay, and the nodes above it keep their paths and their parts in the job.
use Rattle.std.proofs.Common.{◌≡◌, ◌∙◌, ℕ, ◌||◌, Bool, true, false, cond, List, []}
use Rattle.std.proofs.Common.{◌∷◌, map, Option, Some, None, is_some, slice_get, refl, sym, ap}
use Rattle.std.proofs.Common.{drop, reverse, length, ◌-◌}
use Rattle.std.proofs.lemmas.Bool.{true≢false}
use Rattle.std.proofs.lemmas.List.Sorted.{IsPermutation-reverse, list_any-IsPermutation}
use Rattle.std.proofs.lemmas.Slice.Eq.{bytes_eq-Decides}
use Rattle.std.specs.Option.{option_map, option_map_or}
use Rattle.std.specs.Str.{bytes_eq}
use Rattle.ticket_items.proofs.Apart.{bytes_eq-same}
use Rattle.ticket_items.specs.Ids.{mem}
use Rattle.ticket_items.specs.declared.ancestor.Ancestor.{Ancestor}
use Rattle.ticket_items.specs.declared.edit.Edit.{Edit}
use Rattle.ticket_items.specs.Act.{Act, NodeAddition, NewNode, NewResource, NewLink, act_of}
use Rattle.ticket_items.specs.Act.{act_target, act_added_id}
use Rattle.ticket_items.specs.declared.link.Link.{Link}
use Rattle.ticket_items.specs.declared.node_row.NodeRow.{NodeRow}
use Rattle.ticket_rows.proofs.Below.{Path, mem-drop, mem-node_ids}
use Rattle.ticket_rows.proofs.NodePlaces.{nodes_from, node_places-rows}
use Rattle.ticket_items.specs.Edit.{added_id, target}
use Rattle.ticket_rows.specs.Edit.{behind_last, job_after_edit, refusal_of}
use Rattle.ticket_rows.specs.Place.{Place, Row, Thing, node, resource, is_node}
use Rattle.ticket_rows.specs.Place.{is_node_thing, node_place, path_of}
use Rattle.ticket_rows.specs.Place.{place_at, places, node_places, nodes_in, row_in, last_of}
use Rattle.ticket_rows.specs.Ticket.{IsValid, Job, ids, node_ids, row_of}
use Rattle.ticket_tree.proofs.LookUps.{node_is_at_place, nodes_among_places}
use Rattle.ticket_tree.proofs.PlainEdits.{edit_of_places}
use Rattle.ticket_tree.proofs.PlainRows.{edit_of_rows}
use Rattle.ticket_tree.proofs.StaysValid.{edit_is_valid}
use Rattle.ticket_tree.specs.PlainEdit.{act_places, act_rows_by_id, with_link}
use Rattle.spawn.proofs.EditKeeps.{edit_keeps_claims}
use Rattle.spawn.proofs.HoldingsEdited.{new_nowhere}
use Rattle.spawn.proofs.Lawful.{claim_is_held}
use Rattle.spawn.proofs.Outside.{kept_found, found_stands}
use Rattle.spawn.proofs.PartStays.{part_stays}
use Rattle.spawn.proofs.GoodCopies.{good_node}
use Rattle.spawn.proofs.SoundPart.{false_by, node_among_ids}
use Rattle.spawn.proofs.Standing.{ids_apart}
use Rattle.ticket_tree.proofs.OnPlaces.{ids_of_places}
use Rattle.plain_shop.specs.Claim.{claim, ids_of, is_claimed}
use Rattle.spawn.specs.Laws.{StandApart}
use Rattle.spawn.specs.Parts.{ancestor, ancestors, part_for}
use Rattle.spawn.specs.Records.{is_out}
use Rattle.spawn.specs.Table.{holder_at, holder_of}
use Rattle.spawn.specs.declared.records.spawn_rec.SpawnRec.{SpawnRec}
use Rattle.world_items.specs.declared.holder.Holder.TheVariants.{Master, Spawn}

-- an edit of what the master holds keeps the part of each spawn that is out
abbrev pub EditKeepsParts : Type 0
EditKeepsParts =
    (t : Job) (recs : List SpawnRec) (e : Edit) (at : ℕ) (k : ℕ) (r : SpawnRec) → IsValid t.rows
    → StandApart t.rows recs → refusal_of e t.rows ≡ None
    → holder_of t.rows recs (target e) ≡ Some Master → slice_get recs k ≡ Some r
    → is_out r ≡ true → part_for (job_after_edit e at t) r ≡ part_for t r

-- ---- ancestors, by places

abbrev pub job_part_in : Thing → List ℕ
job_part_in (node kind job_part links) = job_part
job_part_in (resource name class) = []

-- what the ancestors of a part tell of a place: its path, and its part in the job
abbrev pub told : Place → List (List ℕ) × List ℕ
told p = (p.path, job_part_in p.thing)

abbrev pub Told : Type 0
Told = List (List ℕ) × List ℕ

abbrev pub told_at : List Place → List ℕ → Option Told
told_at tree a = option_map told (place_at tree a)

abbrev pub above_in : List Place → List ℕ → List (List ℕ)
above_in tree n = reverse (option_map_or (λ (t : Told). drop 1 t.0) (told_at tree n) [])

abbrev pub ancestor_in : List Place → List ℕ → Ancestor
ancestor_in tree a =
    record { node_id = a; job_part = option_map_or (λ (t : Told). t.1) (told_at tree a) [] }

abbrev pub ancestors_in : List Place → List ℕ → List Ancestor
ancestors_in tree n = map (ancestor_in tree) (above_in tree n)

path_told : (o : Option Place)
    → option_map_or (λ p. drop 1 p.path) o []
    ≡ option_map_or (λ (t : Told). drop 1 t.0) (option_map told o) []
path_told None = refl
path_told (Some p) = refl

no_place : (o : Option Place) → is_some o ≡ false → o ≡ None
no_place None e = refl
no_place (Some p) e = cc

job_part_at : (rows : List NodeRow) (a : List ℕ) → IsValid rows → (o : Option NodeRow)
    → row_of rows a ≡ o
    → option_map_or (λ r. r.job_part) (row_of rows a) []
    ≡ option_map_or (λ (t : Told). t.1) (told_at (node_places rows) a) []
job_part_at rows a valid (Some r) e =
    let found = node_is_at_place rows valid a r e in
    ap (λ o. option_map_or (λ s. s.job_part) o []) e ∙ sym (ap (λ o. option_map_or (λ (t : Told). t.1) (option_map told o) []) found.place)
job_part_at rows a valid None e =
    let none = no_place (place_at (node_places rows) a) ((nodes_among_places rows valid a).0 ∙ ap is_some e) in
    ap (λ o. option_map_or (λ s. s.job_part) o []) e ∙ sym (ap (λ o. option_map_or (λ (t : Told). t.1) (option_map told o) []) none)

same_map : {X Y : Type 0} (f g : X → Y) (xs : List X) → ((x : X) → f x ≡ g x) → map f xs ≡ map g xs
same_map f g [] same = refl
same_map f g (x ∷ xs) same = ap (λ y. y ∷ map f xs) (same x) ∙ ap (λ ys. g x ∷ ys) (same_map f g xs same)

-- the ancestors of a node, by the places of nodes alone
pub ancestors_by_places : (rows : List NodeRow) (n : List ℕ) → IsValid rows
    → ancestors rows n ≡ ancestors_in (node_places rows) n
ancestors_by_places rows n valid =
    ap (λ up. map (ancestor rows) (reverse up)) (path_told (place_at (node_places rows) n))
    ∙ same_map (ancestor rows) (ancestor_in (node_places rows)) (above_in (node_places rows) n)
    (λ a. ap (λ j. record { node_id = a; job_part = j }) (job_part_at rows a valid (row_of rows a) refl))

or_left : (b c : Bool) → b ≡ true → (b || c) ≡ true
or_left true c e = refl
or_left false c e = cc

or_right : (b c : Bool) → c ≡ true → (b || c) ≡ true
or_right true c e = refl
or_right false c e = e

same_on : (f g : List ℕ → Ancestor) (xs : List (List ℕ))
    → ((x : List ℕ) → mem x xs ≡ true → f x ≡ g x) → map f xs ≡ map g xs
same_on f g [] same = refl
same_on f g (x ∷ xs) same =
    ap (λ y. y ∷ map f xs) (same x (or_left (bytes_eq x x) (mem x xs) (bytes_eq-same x)))
    ∙ ap (λ ys. g x ∷ ys) (same_on f g xs (λ y there. same y (or_right (bytes_eq x y) (mem y xs) there)))

-- they stay where the node and those above it tell the same
pub ancestors_stay : (old new : List Place) (n : List ℕ) → told_at new n ≡ told_at old n
    → ((a : List ℕ) → mem a (above_in old n) ≡ true → told_at new a ≡ told_at old a)
    → ancestors_in new n ≡ ancestors_in old n
ancestors_stay old new n own up =
    ap (λ o. map (ancestor_in new) (reverse (option_map_or (λ (t : Told). drop 1 t.0) o []))) own
    ∙ same_on (ancestor_in new) (ancestor_in old) (above_in old n)
    (λ a there. ap (λ o. record { node_id = a; job_part = option_map_or (λ (t : Told). t.1) o [] }) (up a there))

-- where places stay, so do ancestors
pub same_ancestors : (old new : List NodeRow) (n : List ℕ) → IsValid old → IsValid new
    → places new ≡ places old → ancestors new n ≡ ancestors old n
same_ancestors old new n valid valid' same =
    ancestors_by_places new n valid' ∙ ap (λ tree. ancestors_in (nodes_in tree) n) same ∙ sym (ancestors_by_places old n valid)

-- ---- the ids on a path stand

stand_at : (a x : List ℕ) (before : Path) (r : NodeRow) (rows : List NodeRow) (p : Place) (b : Bool)
    → bytes_eq r.id x ≡ b
    → cond b (Some (node_place r (path_of before r))) (place_at (nodes_from (path_of before r) rows) x) ≡ Some p
    → mem a p.path ≡ true
    → ((q : Place) → place_at (nodes_from (path_of before r) rows) x ≡ Some q → mem a q.path ≡ true
    → (mem a (path_of before r) || mem a (node_ids rows)) ≡ true)
    → (mem a (path_of before r) || mem a (node_ids rows)) ≡ true
stand_at a x before r rows p true e found on go =
    or_left (mem a (path_of before r)) (mem a (node_ids rows)) (ap (λ o. mem a (option_map_or (λ q. q.path) o [])) found ∙ on)
stand_at a x before r rows p false e found on go = go p found on

kept_up : (b c d : Bool) → (c ≡ false → d ≡ false) → (d || b) ≡ true → (c || b) ≡ true
kept_up b true d h e = refl
kept_up b false d h e = ap (λ c. c || b) (sym (h refl)) ∙ e

turn : (here front later : Bool) → ((here || front) || later) ≡ true → (front || (here || later)) ≡ true
turn true true later e = refl
turn true false later e = refl
turn false front later e = e

paths_stand : (a x : List ℕ) (before : Path) (rows : List NodeRow) (p : Place)
    → place_at (nodes_from before rows) x ≡ Some p → mem a p.path ≡ true
    → (mem a before || mem a (node_ids rows)) ≡ true
paths_stand a x before [] p found on = cc
paths_stand a x before (r ∷ rows) p found on =
    let path = path_of before r in
    let last = last_of (r.depth - 1) before in
    let later = stand_at a x before r rows p (bytes_eq r.id x) refl found on (λ q there up. paths_stand a x path rows q there up) in
    let turned = turn (bytes_eq r.id a) (mem a last) (mem a (node_ids rows)) later in
    kept_up (mem a (node_ids (r ∷ rows))) (mem a before) (mem a last) (mem-drop a (length before - (r.depth - 1)) before) turned

mem-reverse : (x : List ℕ) (xs : List (List ℕ)) → mem x (reverse xs) ≡ mem x xs
mem-reverse x xs = sym (list_any-IsPermutation (λ y. bytes_eq y x) xs (reverse xs) (IsPermutation-reverse xs))

by_true : (b : Bool) → (b ≡ false → ⊥) → b ≡ true
by_true true h = refl
by_true false h = absurd (h refl)

up_stands : (rows : List NodeRow) (n a : List ℕ) (o : Option Place)
    → place_at (node_places rows) n ≡ o
    → mem a (option_map_or (λ (t : Told). drop 1 t.0) (option_map told o) []) ≡ true
    → mem a (node_ids rows) ≡ true
up_stands rows n a None e on = cc
up_stands rows n a (Some p) e on =
    let path = by_true (mem a p.path) (λ off. true≢false (sym on ∙ mem-drop a 1 p.path off)) in
    paths_stand a n [] rows p (ap (λ ps. place_at ps n) (sym (node_places-rows rows)) ∙ e) path

above_stands : (rows : List NodeRow) (n a : List ℕ) → mem a (above_in (node_places rows) n) ≡ true
    → mem a (node_ids rows) ≡ true
above_stands rows n a there =
    up_stands rows n a (place_at (node_places rows) n) refl (sym (mem-reverse a (option_map_or (λ (t : Told). drop 1 t.0) (told_at (node_places rows) n) [])) ∙ there)

-- ---- what an edit makes of the places of nodes

abbrev nodes_at : List Place → List ℕ → Option Place
nodes_at tree a = place_at (nodes_in tree) a

more_at : (a : List ℕ) (q : Place) (xs ys : List Place) (b : Bool) → place_at xs a ≡ place_at ys a
    → place_at (cond b (q ∷ xs) xs) a ≡ place_at (cond b (q ∷ ys) ys) a
more_at a q xs ys true e = ap (λ o. cond (bytes_eq q.id a) (Some q) o) e
more_at a q xs ys false e = e

one_more : (a : List ℕ) (q : Place) (xs ys : List Place) → nodes_at xs a ≡ nodes_at ys a
    → nodes_at (q ∷ xs) a ≡ nodes_at (q ∷ ys) a
one_more a q xs ys e = more_at a q (nodes_in xs) (nodes_in ys) (is_node q) e

another : (a : List ℕ) (q : Place) (xs : List Place) (b : Bool) → bytes_eq q.id a ≡ false
    → place_at (cond b (q ∷ xs) xs) a ≡ place_at xs a
another a q xs true e = ap (λ c. cond c (Some q) (place_at xs a)) e
another a q xs false e = refl

behind_by : (a : List ℕ) (new q : Place) (xs ys : List Place) (b : Bool) → bytes_eq new.id a ≡ false
    → nodes_at ys a ≡ nodes_at xs a
    → nodes_at (cond b (q ∷ new ∷ xs) (q ∷ ys)) a ≡ nodes_at (q ∷ xs) a
behind_by a new q xs ys true e go = one_more a q (new ∷ xs) xs (another a new (nodes_in xs) (is_node new) e)
behind_by a new q xs ys false e go = one_more a q ys xs go

found_behind : (p : Place → Bool) (a : List ℕ) (new : Place) (tree : List Place)
    → bytes_eq new.id a ≡ false → nodes_at (behind_last p new tree) a ≡ nodes_at tree a
found_behind p a new [] e = another a new [] (is_node new) e
found_behind p a new (q ∷ tree) e =
    behind_by a new q tree (behind_last p new tree) _ e (found_behind p a new tree e)

abbrev pub linked : List ℕ → Link → Place → Place
linked n link p = cond (bytes_eq p.id n) (record p { thing = with_link link p.thing }) p

job_part_linked : (th : Thing) (link : Link) → job_part_in (with_link link th) ≡ job_part_in th
job_part_linked (node kind job_part links) link = refl
job_part_linked (resource name class) link = refl

told_linked : (b : Bool) (link : Link) (p : Place)
    → told (cond b (record p { thing = with_link link p.thing }) p) ≡ told p
told_linked true link p = ap (λ j. (p.path, j)) (job_part_linked p.thing link)
told_linked false link p = refl

pub kind_linked : (th : Thing) (link : Link) → is_node_thing (with_link link th) ≡ is_node_thing th
kind_linked (node kind job_part links) link = refl
kind_linked (resource name class) link = refl

node_linked : (b : Bool) (link : Link) (p : Place)
    → is_node (cond b (record p { thing = with_link link p.thing }) p) ≡ is_node p
node_linked true link p = kind_linked p.thing link
node_linked false link p = refl

id_linked : (b : Bool) (link : Link) (p : Place)
    → (cond b (record p { thing = with_link link p.thing }) p).id ≡ p.id
id_linked true link p = refl
id_linked false link p = refl

found_at : (c : Bool) (q p : Place) (x y : Option Place) → told q ≡ told p
    → option_map told x ≡ option_map told y
    → option_map told (cond c (Some q) x) ≡ option_map told (cond c (Some p) y)
found_at true q p x y same go = ap Some same
found_at false q p x y same go = go

told_step : (a : List ℕ) (q p : Place) (xs ys : List Place) (b : Bool) → q.id ≡ p.id
    → told q ≡ told p → option_map told (place_at xs a) ≡ option_map told (place_at ys a)
    → option_map told (place_at (cond b (q ∷ xs) xs) a)
    ≡ option_map told (place_at (cond b (p ∷ ys) ys) a)
told_step a q p xs ys true id same go =
    ap (λ i. option_map told (cond (bytes_eq i a) (Some q) (place_at xs a))) id ∙ found_at (bytes_eq p.id a) q p (place_at xs a) (place_at ys a) same go
told_step a q p xs ys false id same go = go

linked_told : (n a : List ℕ) (link : Link) (tree : List Place)
    → option_map told (nodes_at (map (linked n link) tree) a) ≡ option_map told (nodes_at tree a)
linked_told n a link [] = refl
linked_told n a link (p ∷ tree) =
    let b = bytes_eq p.id n in
    let q = linked n link p in
    ap (λ k. option_map told (place_at (cond k (q ∷ nodes_in (map (linked n link) tree)) (nodes_in (map (linked n link) tree))) a)) (node_linked b link p)
    ∙ told_step a q p (nodes_in (map (linked n link) tree)) (nodes_in tree) (is_node p) (id_linked b link p) (told_linked b link p) (linked_told n a link tree)

-- what any node tells that has another id than a new one
pub edit_told : (act : Act) (a : List ℕ) (tree : List Place)
    → ((i : List ℕ) → act_added_id act ≡ Some i → bytes_eq i a ≡ false)
    → told_at (nodes_in (act_places act tree)) a ≡ told_at (nodes_in tree) a
edit_told (NodeAddition n (NewNode new)) a tree other =
    ap (option_map told) (found_behind _ a _ tree (other new.id refl))
edit_told (NodeAddition n (NewResource x)) a tree other =
    ap (option_map told) (found_behind _ a _ tree (other x.id refl))
edit_told (NodeAddition n (NewLink link)) a tree other = linked_told n a link tree
edit_told act a tree other = refl

-- ---- rows

off : (b : Bool) (x y : Option Row) → b ≡ false → cond b x y ≡ y
off b x y e = ap (λ c. cond c x y) e

-- the row of an id that is neither the target nor new
row_stays : (a : Act) (at : ℕ) (rows : List ℕ → Option Row) (x : List ℕ)
    → bytes_eq (act_target a) x ≡ false
    → ((i : List ℕ) → act_added_id a ≡ Some i → bytes_eq i x ≡ false)
    → act_rows_by_id a at rows x ≡ rows x
row_stays (NodeAddition n (NewNode new)) at rows x e other = off (bytes_eq new.id x) _ (rows x) (other new.id refl)
row_stays (NodeAddition n (NewResource y)) at rows x e other = off (bytes_eq y.id x) _ (rows x) (other y.id refl)
row_stays a at rows x e other = off (bytes_eq (act_target a) x) _ (rows x) e

-- ---- new ids

-- the id that an edit adds is none that stands
pub none_added : (e : Edit) (rows : List NodeRow) (x : List ℕ) → refusal_of e rows ≡ None
    → mem x (ids rows) ≡ true
    → (i : List ℕ) → added_id e ≡ Some i → bytes_eq i x ≡ false
none_added e rows x free stands i added =
    false_by (bytes_eq i x) (λ same. true≢false (sym stands ∙ ap (λ y. mem y (ids rows)) (sym ((bytes_eq-Decides i x).0 same)) ∙ new_nowhere e rows i free added))

-- ---- what is claimed

holder_of_spawn : (recs : List SpawnRec) (r : SpawnRec) (o : Option SpawnRec) → o ≡ Some r
    → Some (option_map_or (λ s. Spawn s.id) o Master) ≡ Some Master → ⊥
holder_of_spawn recs r None e h = cc
holder_of_spawn recs r (Some s) e h = cc

claimed_other : (t : Job) (recs : List SpawnRec) (k : ℕ) (r : SpawnRec) (x y : List ℕ)
    → IsValid t.rows → StandApart t.rows recs → slice_get recs k ≡ Some r → is_out r ≡ true
    → mem x (ids_of (claim (places t.rows) r.node r.rw)) ≡ true
    → holder_of t.rows recs y ≡ Some Master → bytes_eq y x ≡ false
claimed_other t recs k r x y valid apart at out there held =
    let found = kept_found (is_claimed r.node r.rw) (places t.rows) x (ids_apart t.rows valid) there in
    let holds = claim_is_held t.rows recs apart k r x found.0 at out found.1 found.2 in
    false_by (bytes_eq y x) (λ same.
    holder_of_spawn recs r _ holds
    (sym (ap (option_map (holder_at recs)) found.1) ∙ ap (holder_of t.rows recs) (sym ((bytes_eq-Decides y x).0 same)) ∙ held))

claimed_stands : (rows : List NodeRow) (r : SpawnRec) (x : List ℕ) → IsValid rows
    → mem x (ids_of (claim (places rows) r.node r.rw)) ≡ true → mem x (ids rows) ≡ true
claimed_stands rows r x valid there =
    let found = kept_found (is_claimed r.node r.rw) (places rows) x (ids_apart rows valid) there in
    ap (mem x) (sym (ids_of_places [] rows)) ∙ found_stands (places rows) x found.0 found.1

-- ---- together

pub edit_keeps_parts : EditKeepsParts
edit_keeps_parts t recs e at k r valid apart free held there out =
    let good = apart.good k r there out in
    let later = job_after_edit e at t in
    let valid' = edit_is_valid e at t.rows valid free in
    let claims = edit_keeps_claims t.rows recs e at valid free held k r there out good in
    let stands = λ (x : List ℕ) (there : mem x (ids_of (claim (places t.rows) r.node r.rw)) ≡ true).
    claimed_stands t.rows r x valid there in
    let rows : (x : List ℕ) → mem x (ids_of (claim (places t.rows) r.node r.rw)) ≡ true
    → row_in later.rows x ≡ row_in t.rows x = λ x on.
    edit_of_rows e at t.rows valid free x
    ∙ row_stays (act_of e) at (row_in t.rows) x (claimed_other t recs k r x (target e) valid apart there out on held) (none_added e t.rows x free (stands x on)) in
    let told_same : (a : List ℕ) → mem a (ids t.rows) ≡ true
    → told_at (node_places later.rows) a ≡ told_at (node_places t.rows) a = λ a there.
    ap (λ tree. told_at (nodes_in tree) a) (edit_of_places e at t.rows valid free)
    ∙ edit_told (act_of e) a (places t.rows) (none_added e t.rows a free there) in
    let own : mem r.node (ids t.rows) ≡ true = node_among_ids r.node t.rows (mem-node_ids t.rows r.node ∙ good_node t.rows r good) in
    let up = ancestors_by_places later.rows r.node valid'
    ∙ ancestors_stay (node_places t.rows) (node_places later.rows) r.node (told_same r.node own)
    (λ a there. told_same a (node_among_ids a t.rows (above_stands t.rows r.node a there)))
    ∙ sym (ancestors_by_places t.rows r.node valid) in
    part_stays t later r valid valid' refl claims.0 rows up
