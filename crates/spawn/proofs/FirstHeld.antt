-- The spawn that holds the first of a claim, found among the ids of the rows around its node.
use Rattle.std.proofs.Common.{◌≡◌, ◌∙◌, ℕ, ◌||◌, Bool, true, false, cond, List, [], ◌∷◌, ◌++◌}
use Rattle.std.proofs.Common.{map, Option, Some, None, is_some, slice_get, refl, sym, ap, append_assoc}
use Rattle.std.proofs.Common.{◌+◌, ◌<◌, suc, add-one, drop, drop-cons, get_or, length}
use Rattle.std.proofs.lemmas.Bool.{true≢false}
use Rattle.std.proofs.lemmas.List.Elements.{filter_map-append}
use Rattle.std.proofs.lemmas.Slice.Eq.{bytes_eq-Decides}
use Rattle.std.specs.List.{filter, filter_map, cons_option, list_all, list_any}
use Rattle.std.specs.Option.{option_and_then, option_map, option_map_or, option_or}
use Rattle.std.specs.Str.{bytes_eq}
use Rattle.ticket_items.proofs.Apart.{bytes_eq-same}
use Rattle.ticket_items.specs.Ids.{mem, are_distinct}
use Rattle.ticket_items.specs.declared.node_row.NodeRow.{NodeRow}
use Rattle.ticket_rows.specs.Place.{Place, place_at, places}
use Rattle.ticket_rows.specs.Ticket.{IsValid, has_node, ids}
use Rattle.ticket_rows.specs.Ticket.{ids_of as ids_in}
use Rattle.ticket_tree.proofs.OnPlaces.{ids_of_places}
use Rattle.ticket_tree.specs.At.{IsAt}
use Rattle.ticket_tree.specs.declared.at.At.{At}
use Rattle.spawn.proofs.Among.{apart_lists, distinct_back, out_of_both}
use Rattle.spawn.proofs.Chosen.{AllOwn, all_own}
use Rattle.spawn.proofs.AroundAt.{shows}
use Rattle.spawn.proofs.ClaimedIds.{below_rows, passes_there, some_passes}
use Rattle.spawn.proofs.Entries.{none_of, or_none, some_first}
use Rattle.spawn.proofs.HomesBelow.{ids-append, only_at, or_right}
use Rattle.spawn.proofs.InFront.{in_front, one_passes}
use Rattle.spawn.proofs.SoundPart.{false_by}
use Rattle.spawn.proofs.Split.{around}
use Rattle.spawn.proofs.Standing.{ids_apart}
use Rattle.plain_shop.specs.Claim.{ids_of, is_claimed, linked_outside}
use Rattle.spawn.specs.FirstHeld.{first_answer}
use Rattle.spawn.specs.Spawning.{holding_claimed}
use Rattle.spawn.specs.Table.{as_spawn, holder_at, holding_record, spawn_with}
use Rattle.spawn.specs.declared.records.spawn_rec.SpawnRec.{SpawnRec}
use Rattle.world_items.specs.declared.holder.Holder.TheVariants.{Master, Spawn}

-- ---- the first of two lists

first_or : (xs ys : List ℕ) → slice_get (xs ++ ys) 0 ≡ option_or (slice_get xs 0) (slice_get ys 0)
first_or [] ys = refl
first_or (x ∷ xs) ys = refl

first-append : {X : Type 0} (h : X → Option ℕ) (xs ys : List X)
    → first_answer h (xs ++ ys) ≡ option_or (first_answer h xs) (first_answer h ys)
first-append h xs ys = ap (λ zs. slice_get zs 0) (filter_map-append h xs ys) ∙ first_or (filter_map h xs) (filter_map h ys)

-- answers that are the same for the members of a list
same_answers : (f g : List ℕ → Option ℕ) (xs : List (List ℕ))
    → ((x : List ℕ) → mem x xs ≡ true → f x ≡ g x) → filter_map f xs ≡ filter_map g xs
same_answers f g [] same = refl
same_answers f g (x ∷ xs) same =
    ap (λ o. cons_option o (filter_map f xs)) (same x (ap (λ b. b || mem x xs) (bytes_eq-same x)))
    ∙ ap (cons_option (g x)) (same_answers f g xs (λ y there. same y (or_right (bytes_eq x y) (mem y xs) there)))

no_answers : (f : List ℕ → Option ℕ) (xs : List (List ℕ)) → ((x : List ℕ) → f x ≡ None)
    → filter_map f xs ≡ []
no_answers f [] none = refl
no_answers f (x ∷ xs) none = ap (λ o. cons_option o (filter_map f xs)) (none x) ∙ no_answers f xs none

-- ---- by places and by ids

as_spawn_of : (o : Option SpawnRec)
    → as_spawn (option_map_or (λ r. Spawn r.id) o Master) ≡ option_map (λ r. r.id) o
as_spawn_of None = refl
as_spawn_of (Some r) = refl

own_spawn : (rows : List NodeRow) (recs : List SpawnRec) (p : Place)
    → place_at (places rows) p.id ≡ Some p
    → option_map (λ r. r.id) (holding_record recs p) ≡ spawn_with rows recs p.id
own_spawn rows recs p own = sym (ap (λ o. option_and_then as_spawn (option_map (holder_at recs) o)) own ∙ as_spawn_of (holding_record recs p))

-- the spawn that holds an id, where it is claimed
abbrev claimed : (List ℕ → Option ℕ) → List (List ℕ) → List (List ℕ) → List ℕ → Option ℕ
claimed h inside rw x = cond (mem x inside || mem x rw) (h x) None

one_more : (b : Bool) (o : Option SpawnRec) (recs : List SpawnRec) (p : Place) (ps : List Place)
    (later : List ℕ)
    → holding_record recs p ≡ o → map (λ r. r.id) (filter_map (holding_record recs) ps) ≡ later
    → map (λ r. r.id) (filter_map (holding_record recs) (cond b (p ∷ ps) ps))
    ≡ cons_option (cond b (option_map (λ r. r.id) o) None) later
one_more true None recs p ps later e go = ap (λ o. map (λ (r : SpawnRec). r.id) (cons_option o (filter_map (holding_record recs) ps))) e ∙ go
one_more true (Some r) recs p ps later e go = ap (λ o. map (λ (r : SpawnRec). r.id) (cons_option o (filter_map (holding_record recs) ps))) e ∙ ap (λ xs. r.id ∷ xs) go
one_more false o recs p ps later e go = go

by_ids : (rows : List NodeRow) (recs : List SpawnRec) (test : Place → Bool)
    (inside rw : List (List ℕ)) (tree : List Place)
    → AllOwn (places rows) tree
    → ((p : Place) → place_at (places rows) p.id ≡ Some p
    → test p ≡ (mem p.id inside || mem p.id rw))
    → map (λ r. r.id) (filter_map (holding_record recs) (filter test tree))
    ≡ filter_map (claimed (spawn_with rows recs) inside rw) (ids_of tree)
by_ids rows recs test inside rw [] own same = refl
by_ids rows recs test inside rw (p ∷ tree) own same =
    let later = filter_map (claimed (spawn_with rows recs) inside rw) (ids_of tree) in
    one_more (test p) (holding_record recs p) recs p (filter test tree) later refl (by_ids rows recs test inside rw tree own.1 same)
    ∙ ap (λ b. cons_option (cond b (option_map (λ r. r.id) (holding_record recs p)) None) later) (same p own.0)
    ∙ ap (λ o. cons_option (cond (mem p.id inside || mem p.id rw) o None) later) (own_spawn rows recs p own.0)

mapped_first : (xs : List SpawnRec)
    → option_map (λ r. r.id) (slice_get xs 0) ≡ slice_get (map (λ r. r.id) xs) 0
mapped_first [] = refl
mapped_first (r ∷ xs) = refl

-- ---- around a node

-- the spawn that holds an id, where the id is among some
abbrev pub among : (List ℕ → Option ℕ) → List (List ℕ) → List ℕ → Option ℕ
among h some x = cond (mem x some) (h x) None

around_ids : (h : List ℕ → Option ℕ) (rw front inside back : List (List ℕ))
    → are_distinct (front ++ (inside ++ back)) ≡ true
    → first_answer (claimed h inside rw) (front ++ (inside ++ back))
    ≡ option_or (first_answer (among h rw) front)
    (option_or (first_answer h inside) (first_answer (among h rw) back))
around_ids h rw front inside back apart =
    let f = claimed h inside rw in
    let later = distinct_back front (inside ++ back) apart in
    let out : (x : List ℕ) → mem x inside ≡ false → f x ≡ among h rw x = λ x away. ap (λ b. cond (b || mem x rw) (h x) None) away in
    let first = same_answers f (among h rw) front (λ x there. out x (out_of_both x inside back (apart_lists x front (inside ++ back) apart there)).0) in
    let mid = same_answers f h inside (λ x there. ap (λ b. cond (b || mem x rw) (h x) None) there) in
    let last = same_answers f (among h rw) back (λ x there. out x (only_at (mem x inside) x inside back later refl there)) in
    first-append f front (inside ++ back)
    ∙ ap (λ xs. option_or (slice_get xs 0) (first_answer f (inside ++ back))) first
    ∙ ap (option_or (first_answer (among h rw) front)) (first-append f inside back ∙ ap (λ xs. option_or (slice_get xs 0) (first_answer f back)) mid ∙ ap (λ xs. option_or (first_answer h inside) (slice_get xs 0)) last)

-- the spawn that holds the first of a claim: of what is asked for in front of the node, of all that
-- stands below it, and of what is asked for behind
around_node : (rows : List NodeRow) (recs : List SpawnRec) (n : List ℕ) (rw : List (List ℕ)) (a : At)
    → IsValid rows → IsAt rows n a
    → option_map (λ r. r.id) (slice_get (holding_claimed (places rows) recs n rw) 0)
    ≡ option_or (first_answer (among (spawn_with rows recs) rw) (ids a.front))
    (option_or (first_answer (spawn_with rows recs) (ids a.below))
    (first_answer (among (spawn_with rows recs) rw) (ids a.behind)))
around_node rows recs n rw a valid at =
    let tree = places rows in
    let h = spawn_with rows recs in
    let inside = ids a.below in
    let whole : ids rows ≡ ids a.front ++ (inside ++ ids a.behind) =
    ap ids at.whole ∙ ids-append (a.front ++ a.below) a.behind ∙ ap (λ xs. xs ++ ids a.behind) (ids-append a.front a.below)
    ∙ append_assoc (ids a.front) inside (ids a.behind) in
    mapped_first (holding_claimed tree recs n rw)
    ∙ ap (λ xs. slice_get xs 0) (by_ids rows recs (is_claimed n rw) inside rw tree (all_own tree tree (λ y p found. found) (ids_apart rows valid)) (λ p own. ap (λ b. b || mem p.id rw) (below_rows rows n p valid own ∙ ap (λ rs. mem p.id (ids rs)) (sym at.below))))
    ∙ ap (first_answer (claimed h inside rw)) (ids_of_places [] rows ∙ whole)
    ∙ around_ids h rw (ids a.front) inside (ids a.behind) (ap are_distinct (sym whole) ∙ valid.distinct)

-- ---- where no spawn holds one of the resources

none_at : (b : Bool) (o : Option ℕ) → (b ≡ true → o ≡ None) → cond b o None ≡ None
none_at true o none = none refl
none_at false o none = refl

none_among : (h : List ℕ → Option ℕ) (rw xs : List (List ℕ))
    → list_any (λ x. is_some (h x)) rw ≡ false → first_answer (among h rw) xs ≡ None
none_among h rw xs none =
    ap (λ ys. slice_get ys 0) (no_answers (among h rw) xs (λ x. none_at (mem x rw) (h x) (λ there. none_of (h x) (false_by (is_some (h x)) (λ some. true≢false (sym (passes_there (λ y. is_some (h y)) rw x there some) ∙ none))))))

-- then the first is one of those below the node
pub first_below : (rows : List NodeRow) (recs : List SpawnRec) (n : List ℕ) (rw : List (List ℕ))
    (a : At)
    → IsValid rows → IsAt rows n a
    → list_any (λ x. is_some (spawn_with rows recs x)) rw ≡ false
    → first_answer (spawn_with rows recs) (ids a.below)
    ≡ option_map (λ r. r.id) (slice_get (holding_claimed (places rows) recs n rw) 0)
first_below rows recs n rw a valid at none =
    let h = spawn_with rows recs in
    let below = first_answer h (ids a.below) in
    sym (around_node rows recs n rw a valid at
    ∙ ap (λ o. option_or o (option_or below (first_answer (among h rw) (ids a.behind)))) (none_among h rw (ids a.front) none)
    ∙ ap (option_or below) (none_among h rw (ids a.behind) none) ∙ or_none below)

-- ---- where a spawn holds one of them

some_at : (here : Bool) (o : Option ℕ) (f : List ℕ → Option ℕ) (y x : List ℕ) (xs : List (List ℕ))
    → bytes_eq y x ≡ here → f y ≡ o → (here || mem x xs) ≡ true → is_some (f x) ≡ true
    → (mem x xs ≡ true → is_some (first_answer f xs) ≡ true)
    → is_some (slice_get (cons_option o (filter_map f xs)) 0) ≡ true
some_at here (Some s) f y x xs e told there some go = refl
some_at true None f y x xs e told there some go = absurd (true≢false (sym some ∙ ap (λ z. is_some (f z)) (sym ((bytes_eq-Decides y x).0 e)) ∙ ap is_some told))
some_at false None f y x xs e told there some go = go there

some_answer : (f : List ℕ → Option ℕ) (xs : List (List ℕ)) (x : List ℕ) → mem x xs ≡ true
    → is_some (f x) ≡ true → is_some (first_answer f xs) ≡ true
some_answer f [] x there some = cc
some_answer f (y ∷ xs) x there some = some_at (bytes_eq y x) (f y) f y x xs refl refl there some (λ later. some_answer f xs x later some)

-- then the first is one of those in front of the node
pub first_front : (rows : List NodeRow) (recs : List SpawnRec) (n : List ℕ) (rw : List (List ℕ))
    (a : At)
    → IsValid rows → has_node rows n ≡ true → IsAt rows n a
    → list_all (λ x. mem x (ids_of (linked_outside (places rows) n))) rw ≡ true
    → list_any (λ x. is_some (spawn_with rows recs x)) rw ≡ true
    → first_answer (among (spawn_with rows recs) rw) (ids a.front)
    ≡ option_map (λ r. r.id) (slice_get (holding_claimed (places rows) recs n rw) 0)
first_front rows recs n rw a valid known at linked held =
    let h = spawn_with rows recs in
    let f = among h rw in
    let around_n = around rows n valid known in
    let one = some_passes (λ x. is_some (h x)) rw held in
    let there : mem one.0 (ids a.front) ≡ true =
    ap (λ rs. mem one.0 (ids rs)) (shows rows n a valid at around_n).front ∙ in_front rows n one.0 valid around_n (one_passes (λ x. mem x (ids_of (linked_outside (places rows) n))) one.0 rw linked one.1) in
    let found = some_answer f (ids a.front) one.0 there (ap (λ b. is_some (cond b (h one.0) None)) one.1 ∙ one.2) in
    sym (around_node rows recs n rw a valid at ∙ some_first (first_answer f (ids a.front)) (option_or (first_answer h (ids a.below)) (first_answer f (ids a.behind))) found)

-- ---- row by row

-- the rows that are left, of which one more is looked at
pub next_row : (h : List ℕ → Option ℕ) (rows : List NodeRow) (i : ℕ) (r : NodeRow)
    → i < length rows → r ≡ get_or rows i r
    → first_answer h (ids (drop i rows))
    ≡ option_or (first_answer h (ids_in r)) (first_answer h (ids (drop (i + 1) rows)))
next_row h rows i r within is =
    ap (λ rs. first_answer h (ids rs)) (drop-cons rows i r within ∙ ap (λ s. s ∷ drop (suc i) rows) (sym is) ∙ ap (λ k. r ∷ drop k rows) (sym (add-one i)))
    ∙ first-append h (ids_in r) (ids (drop (i + 1) rows))
