-- What a ticket shows, from the tables of what is out.
use Rattle.std.proofs.Common.{◌≡◌, ◌∙◌, ℕ, ◌+◌, ◌<◌, ◌||◌, Bool, true, false, cond, List, [], ◌∷◌}
use Rattle.std.proofs.Common.{◌++◌, length, map, take, get_or, Option, Some, None, nat_cmp, refl}
use Rattle.std.proofs.Common.{sym, ap, append_assoc, append-nil}
use Rattle.std.proofs.lemmas.List.{take_more, map_push, map-append}
use Rattle.std.proofs.lemmas.List.Elements.{filter_map-append}
use Rattle.std.specs.BTreeMap.{get_by}
use Rattle.std.specs.Cmp.Lexicographic.{slice_cmp}
use Rattle.std.specs.Global.{Vec}
use Rattle.std.specs.List.{cons_option, filter, filter_map, list_any}
use Rattle.std.specs.Option.{option_map}
use Rattle.std.specs.Str.{bytes_eq}
use Rattle.ticket_items.proofs.Apart.{mem-append}
use Rattle.ticket_rows.proofs.NodePlaces.{nodes_from, node_places-rows}
use Rattle.ticket_items.proofs.AtKey.{any_key}
use Rattle.ticket_items.specs.Ids.{mem}
use Rattle.ticket_items.specs.Resource.{resource_ids}
use Rattle.ticket_rows.specs.Place.{places, nodes_in, resources_in, path_of}
use Rattle.ticket_rows.specs.Ticket.{node_ids}
use Rattle.ticket_items.specs.declared.node_row.NodeRow.{NodeRow}
use Rattle.ticket_items.specs.declared.res_mark.ResMark.{ResMark}
use Rattle.ticket_items.specs.declared.resource.Resource.{Resource}
use Rattle.ticket_items.specs.declared.spawn_status.SpawnStatus.TheVariants.{SpawnedRO, SpawnedRW}
use Rattle.spawn.proofs.RowsBelow.{resources_last, filter-append}
use Rattle.spawn.proofs.GoodCopies.{ids_of_resources}
use Rattle.plain_shop.specs.Claim.{ids_of}
use Rattle.spawn.specs.IdSet.{IdSet, is_in}
use Rattle.spawn.specs.Marking.{copies, copies_rw, in_order, mark, records_out}
use Rattle.spawn.specs.OutTables.{Numbers, numbers_in, if_any, mark_in}
use Rattle.spawn.specs.Parts.{resources}
use Rattle.spawn.specs.declared.records.spawn_rec.SpawnRec.{SpawnRec}

-- the numbers that stand under an id, as they are kept
abbrev pub under : List ℕ → Numbers → Option (Vec ℕ)
under x table = get_by (λ k. slice_cmp nat_cmp x k.now) table

-- the ids of a record's copies
pub copied-ids : (x : List ℕ) (r : SpawnRec) → mem x (r.rw ++ resource_ids r.ro) ≡ copies x r
copied-ids x r = mem-append x r.rw (resource_ids r.ro) ∙ ap (λ b. mem x r.rw || b) (sym (any_key (λ y. y.id) x r.ro))

-- ---- one row or one resource more

last_at : {X : Type 0} (b : Bool) (p : X → Bool) (xs : List X) (x : X) → p x ≡ b
    → filter p (xs ++ x ∷ []) ≡ filter p xs ++ cond b (x ∷ []) []
last_at b p xs x e = filter-append p xs (x ∷ []) ∙ ap (λ c. filter p xs ++ cond c (x ∷ []) []) e

ids_more : (rows : List NodeRow) (i : ℕ) (d : NodeRow) → i < length rows
    → node_ids (take (i + 1) rows) ≡ node_ids (take i rows) ++ (get_or rows i d).id ∷ []
ids_more rows i d within = ap node_ids (take_more rows i d within) ∙ map_push (λ r. r.id) (take i rows) (get_or rows i d)

pub nodes_more : (p : List ℕ → Bool) (rows : List NodeRow) (i : ℕ) (d : NodeRow) → i < length rows
    → p (get_or rows i d).id ≡ true
    → filter p (node_ids (take i rows)) ++ (get_or rows i d).id ∷ []
    ≡ filter p (node_ids (take (i + 1) rows))
nodes_more p rows i d within e = sym (ap (filter p) (ids_more rows i d within) ∙ last_at true p (node_ids (take i rows)) (get_or rows i d).id e)

pub nodes_same : (p : List ℕ → Bool) (rows : List NodeRow) (i : ℕ) (d : NodeRow) → i < length rows
    → p (get_or rows i d).id ≡ false
    → filter p (node_ids (take i rows)) ≡ filter p (node_ids (take (i + 1) rows))
nodes_same p rows i d within e = sym (ap (filter p) (ids_more rows i d within) ∙ last_at false p (node_ids (take i rows)) (get_or rows i d).id e ∙ append-nil (filter p (node_ids (take i rows))))

given : {X : Type 0} (f : List ℕ → Option X) (x : List ℕ) (o : Option X) → f x ≡ o
    → filter_map f (x ∷ []) ≡ filter_map (λ y. o) (x ∷ [])
given f x o e = ap (λ p. filter_map (λ y. p) (x ∷ [])) e

pool_more : (f : List ℕ → Option ResMark) (pool : List Resource) (i : ℕ) (d : Resource)
    → i < length pool
    → filter_map f (resource_ids (take (i + 1) pool))
    ≡ filter_map f (resource_ids (take i pool)) ++ filter_map f ((get_or pool i d).id ∷ [])
pool_more f pool i d within =
    ap (λ xs. filter_map f (resource_ids xs)) (take_more pool i d within) ∙ ap (filter_map f) (map_push (λ x. x.id) (take i pool) (get_or pool i d)) ∙ filter_map-append f (resource_ids (take i pool)) ((get_or pool i d).id ∷ [])

pub marks_more : (f : List ℕ → Option ResMark) (pool : List Resource) (i : ℕ) (d : Resource)
    (first old new : List ResMark) (o : Option ResMark)
    → i < length pool → o ≡ f (get_or pool i d).id
    → old ≡ first ++ filter_map f (resource_ids (take i pool))
    → new ≡ old ++ filter_map (λ y. o) ((get_or pool i d).id ∷ [])
    → new ≡ first ++ filter_map f (resource_ids (take (i + 1) pool))
marks_more f pool i d first old new o within e before step =
    let x = (get_or pool i d).id in
    step ∙ ap (λ ms. ms ++ filter_map (λ y. o) (x ∷ [])) before ∙ append_assoc first (filter_map f (resource_ids (take i pool))) (filter_map (λ y. o) (x ∷ []))
    ∙ ap (λ ms. first ++ (filter_map f (resource_ids (take i pool)) ++ ms)) (sym (given f x o (sym e))) ∙ ap (λ ms. first ++ ms) (sym (pool_more f pool i d within))

pub rows_more : (f : List ℕ → Option ResMark) (rows : List NodeRow) (i : ℕ) (d : NodeRow)
    → i < length rows
    → filter_map f (resource_ids (resources (take i rows)))
    ++ filter_map f (resource_ids (get_or rows i d).resources)
    ≡ filter_map f (resource_ids (resources (take (i + 1) rows)))
rows_more f rows i d within =
    let r = get_or rows i d in
    sym (ap (λ rs. filter_map f (resource_ids (resources rs))) (take_more rows i d within) ∙ ap (λ xs. filter_map f (resource_ids xs)) (resources_last (take i rows) r)
    ∙ ap (filter_map f) (map-append (λ x. x.id) (resources (take i rows)) r.resources) ∙ filter_map-append f (resource_ids (resources (take i rows))) (resource_ids r.resources))

-- ---- what is shown

ids_of_nodes : (before : List (List ℕ)) (rows : List NodeRow)
    → ids_of (nodes_from before rows) ≡ node_ids rows
ids_of_nodes before [] = refl
ids_of_nodes before (r ∷ rows) = ap (λ is. r.id ∷ is) (ids_of_nodes (path_of before r) rows)

kept_as : {X : Type 0} (f g : X → Bool) (xs : List X) → ((x : X) → f x ≡ g x)
    → filter f xs ≡ filter g xs
kept_as f g [] same = refl
kept_as f g (x ∷ xs) same = ap (λ b. cond b (x ∷ filter f xs) (filter f xs)) (same x) ∙ ap (λ ys. cond (g x) (x ∷ ys) ys) (kept_as f g xs same)

-- the nodes that are out
pub nodes_shown : (rows : List NodeRow) (recs : List SpawnRec) (nodes : IdSet)
    → ((x : List ℕ) → is_in nodes x ≡ list_any (λ r. bytes_eq r.node x) (records_out recs))
    → filter (is_in nodes) (node_ids rows)
    ≡ filter (λ n. list_any (λ r. bytes_eq r.node n) (records_out recs)) (ids_of (nodes_in (places rows)))
nodes_shown rows recs nodes same =
    kept_as (is_in nodes) (λ n. list_any (λ (r : SpawnRec). bytes_eq r.node n) (records_out recs)) (node_ids rows) same
    ∙ ap (filter (λ n. list_any (λ (r : SpawnRec). bytes_eq r.node n) (records_out recs))) (sym (ap ids_of (node_places-rows rows) ∙ ids_of_nodes [] rows))

some_at : (b : Bool) (p : SpawnRec → Bool) (r : SpawnRec) (rs : List SpawnRec)
    → if_any (map (λ s. s.id) (filter p rs))
    ≡ cond (list_any p rs) (Some (map (λ s. s.id) (filter p rs))) None
    → if_any (map (λ s. s.id) (cond b (r ∷ filter p rs) (filter p rs)))
    ≡ cond (b || list_any p rs)
    (Some (map (λ s. s.id) (cond b (r ∷ filter p rs) (filter p rs)))) None
some_at true p r rs e = refl
some_at false p r rs e = e

some_numbers : (p : SpawnRec → Bool) (rs : List SpawnRec)
    → if_any (map (λ s. s.id) (filter p rs))
    ≡ cond (list_any p rs) (Some (map (λ s. s.id) (filter p rs))) None
some_numbers p [] = refl
some_numbers p (r ∷ rs) = some_at (p r) p r rs (some_numbers p rs)

abbrev mark_with : List ℕ → Bool → List ℕ → ResMark
mark_with x change ns = record { id = x; status = cond change SpawnedRW SpawnedRO; spawn_ids = in_order ns }

mapped_at : {X Y : Type 0} (b : Bool) (f : X → Y) (x : X)
    → option_map f (cond b (Some x) None) ≡ cond b (Some (f x)) None
mapped_at true f x = refl
mapped_at false f x = refl

mark_is : (recs : List SpawnRec) (changed : IdSet) (numbers : Numbers)
    → ((x : List ℕ) → is_in changed x ≡ list_any (copies_rw x) (records_out recs))
    → ((x : List ℕ)
    → numbers_in numbers x ≡ if_any (map (λ r. r.id) (filter (copies x) (records_out recs))))
    → (x : List ℕ)
    → mark_in changed numbers x ≡ cond (list_any (copies x) (records_out recs)) (Some (mark recs x)) None
mark_is recs changed numbers change all x =
    ap (λ b. option_map (mark_with x b) (numbers_in numbers x)) (change x)
    ∙ ap (option_map (mark_with x (list_any (copies_rw x) (records_out recs)))) (all x ∙ some_numbers (copies x) (records_out recs))
    ∙ mapped_at (list_any (copies x) (records_out recs)) (mark_with x (list_any (copies_rw x) (records_out recs))) (map (λ r. r.id) (filter (copies x) (records_out recs)))

shown_at : (b : Bool) (f : List ℕ → Option ResMark) (g : List ℕ → ResMark) (p : List ℕ → Bool)
    (x : List ℕ) (xs : List (List ℕ))
    → f x ≡ cond b (Some (g x)) None → filter_map f xs ≡ map g (filter p xs)
    → filter_map f (x ∷ xs) ≡ map g (cond b (x ∷ filter p xs) (filter p xs))
shown_at true f g p x xs e later = ap (λ o. cons_option o (filter_map f xs)) e ∙ ap (λ ms. g x ∷ ms) later
shown_at false f g p x xs e later = ap (λ o. cons_option o (filter_map f xs)) e ∙ later

shown : (f : List ℕ → Option ResMark) (g : List ℕ → ResMark) (p : List ℕ → Bool)
    (xs : List (List ℕ))
    → ((x : List ℕ) → f x ≡ cond (p x) (Some (g x)) None) → filter_map f xs ≡ map g (filter p xs)
shown f g p [] same = refl
shown f g p (x ∷ xs) same = shown_at (p x) f g p x xs (same x) (shown f g p xs same)

-- the resources of which copies are out
pub resources_shown : (rows : List NodeRow) (recs : List SpawnRec) (changed : IdSet)
    (numbers : Numbers)
    → ((x : List ℕ) → is_in changed x ≡ list_any (copies_rw x) (records_out recs))
    → ((x : List ℕ)
    → numbers_in numbers x ≡ if_any (map (λ r. r.id) (filter (copies x) (records_out recs))))
    → filter_map (mark_in changed numbers) (resource_ids (resources rows))
    ≡ map (mark recs)
    (filter (λ x. list_any (copies x) (records_out recs)) (ids_of (resources_in (places rows))))
resources_shown rows recs changed numbers change all =
    shown (mark_in changed numbers) (mark recs) (λ x. list_any (copies x) (records_out recs)) (resource_ids (resources rows)) (mark_is recs changed numbers change all)
    ∙ ap (λ is. map (mark recs) (filter (λ x. list_any (copies x) (records_out recs)) is)) (ids_of_resources rows)
