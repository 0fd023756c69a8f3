-- What is read of nodes and of resources, found by their ids.
use Rattle.std.proofs.Common.{◌≡◌, ◌∙◌, ℕ, Bool, true, false, cond, List, [], ◌∷◌, ◌++◌, map}
use Rattle.std.proofs.Common.{Option, Some, None, is_some, refl, sym, ap}
use Rattle.std.proofs.lemmas.Bool.{or_parts}
use Rattle.std.proofs.lemmas.Grind.{flat_map-append}
use Rattle.std.proofs.lemmas.List.{map-append, append-nil}
use Rattle.std.proofs.lemmas.List.Folds.{find-append}
use Rattle.std.proofs.lemmas.Slice.Eq.{bytes_eq-Decides}
use Rattle.std.specs.List.{filter, find, flat_map}
use Rattle.std.specs.Option.{option_map, option_or}
use Rattle.std.specs.Str.{bytes_eq}
use Rattle.ticket_items.proofs.AtKey.{any_key}
use Rattle.ticket_items.proofs.Places.{is_some-find}
use Rattle.ticket_items.specs.Ids.{mem}
use Rattle.ticket_items.specs.Resource.{resource_ids}
use Rattle.ticket_rows.specs.Copies.{with_copies}
use Rattle.ticket_rows.specs.Place.{Place, Thing, node, resource, places_from, place_at}
use Rattle.ticket_rows.specs.Place.{resource_place, node_place, path_of}
use Rattle.ticket_rows.specs.Ticket.{ids, ids_of, node_ids}
use Rattle.ticket_items.specs.declared.node_row.NodeRow.{NodeRow}
use Rattle.ticket_items.specs.declared.resource.Resource.{Resource}
use Rattle.spawn.proofs.Among.{out_of_both}
use Rattle.spawn.proofs.Chosen.{resources_cons}
use Rattle.spawn.specs.Parts.{lifted_row, resources}
use Rattle.spawn.proofs.PartKept.{mapped_some}

-- ---- entries by their keys

abbrev pub look : {V : Type 0} → List (List ℕ × V) → List ℕ → Option V
look ls y = option_map (λ l. l.1) (find (λ l. bytes_eq l.0 y) ls)

abbrev pub keys_of : {V : Type 0} → List (List ℕ × V) → List (List ℕ)
keys_of ls = map (λ l. l.0) ls

mapped_or : {X Y : Type 0} (f : X → Y) (o p : Option X)
    → option_map f (option_or o p) ≡ option_or (option_map f o) (option_map f p)
mapped_or f None p = refl
mapped_or f (Some x) p = refl

pub look-append : {V : Type 0} (ls ms : List (List ℕ × V)) (y : List ℕ)
    → look (ls ++ ms) y ≡ option_or (look ls y) (look ms y)
look-append {V = V} ls ms y =
    ap (option_map (λ (l : List ℕ × V). l.1)) (find-append (λ l. bytes_eq l.0 y) ls ms) ∙ mapped_or (λ (l : List ℕ × V). l.1) (find (λ l. bytes_eq l.0 y) ls) (find (λ l. bytes_eq l.0 y) ms)

-- there is one exactly for the keys
pub some_look : {V : Type 0} (ls : List (List ℕ × V)) (y : List ℕ)
    → is_some (look ls y) ≡ mem y (keys_of ls)
some_look {V = V} ls y =
    mapped_some (λ (l : List ℕ × V). l.1) (find (λ l. bytes_eq l.0 y) ls) ∙ is_some-find (λ (l : List ℕ × V). bytes_eq l.0 y) ls ∙ any_key (λ (l : List ℕ × V). l.0) y ls

pub none_of : {X : Type 0} (o : Option X) → is_some o ≡ false → o ≡ None
none_of None h = refl
none_of (Some x) h = cc

pub missing : {V : Type 0} (ls : List (List ℕ × V)) (y : List ℕ) → mem y (keys_of ls) ≡ false
    → look ls y ≡ None
missing ls y out = none_of (look ls y) (some_look ls y ∙ out)

pub look-skip : {V : Type 0} (x : List ℕ) (v : V) (ls : List (List ℕ × V)) (y : List ℕ)
    → bytes_eq x y ≡ false → look ((x, v) ∷ ls) y ≡ look ls y
look-skip {V = V} x v ls y e = ap (λ b. option_map (λ (l : List ℕ × V). l.1) (cond b (Some (x, v)) (find (λ l. bytes_eq l.0 y) ls))) e

-- what is known first
pub some_first : {V : Type 0} (o p : Option V) → is_some o ≡ true → option_or o p ≡ o
some_first None p h = cc
some_first (Some v) p h = refl

pub or_none : {V : Type 0} (o : Option V) → option_or o None ≡ o
or_none None = refl
or_none (Some v) = refl

-- ---- entries of nodes and resources

abbrev pub pool_entries : {V : Type 0} → (Resource → V) → List Resource → List (List ℕ × V)
pool_entries g pool = map (λ x. (x.id, g x)) pool

abbrev pub entries_of : {V : Type 0} → (NodeRow → V) → (Resource → V) → NodeRow → List (List ℕ × V)
entries_of f g r = (r.id, f r) ∷ pool_entries g r.resources

abbrev pub entries : {V : Type 0} → (NodeRow → V) → (Resource → V) → List NodeRow
    → List (List ℕ × V)
entries f g rows = flat_map (entries_of f g) rows

-- what is read of a node is neither its depth nor its pool
abbrev pub IsOwn : {V : Type 0} → (NodeRow → V) → Type 0
IsOwn f = (r : NodeRow) (depth : ℕ) (pool : List Resource) → f (record r { depth = depth; resources = pool }) ≡ f r

pub entries-append : {V : Type 0} (f : NodeRow → V) (g : Resource → V) (xs ys : List NodeRow)
    → entries f g (xs ++ ys) ≡ entries f g xs ++ entries f g ys
entries-append f g xs ys = flat_map-append (entries_of f g) xs ys

pub pool_keys : {V : Type 0} (g : Resource → V) (pool : List Resource)
    → keys_of (pool_entries g pool) ≡ resource_ids pool
pool_keys g [] = refl
pool_keys g (x ∷ pool) = ap (λ is. x.id ∷ is) (pool_keys g pool)

pub row_keys : {V : Type 0} (f : NodeRow → V) (g : Resource → V) (rows : List NodeRow)
    → keys_of (entries f g rows) ≡ ids rows
row_keys f g [] = refl
row_keys {V = V} f g (r ∷ rows) =
    map-append (λ (l : List ℕ × V). l.0) (entries_of f g r) (entries f g rows) ∙ ap (λ is. (r.id ∷ is) ++ keys_of (entries f g rows)) (pool_keys g r.resources) ∙ ap (λ is. ids_of r ++ is) (row_keys f g rows)

pub missing_pool : {V : Type 0} (g : Resource → V) (pool : List Resource) (y : List ℕ)
    → mem y (resource_ids pool) ≡ false → look (pool_entries g pool) y ≡ None
missing_pool g pool y out = missing (pool_entries g pool) y (ap (mem y) (pool_keys g pool) ∙ out)

pub missing_rows : {V : Type 0} (f : NodeRow → V) (g : Resource → V) (rows : List NodeRow)
    (y : List ℕ)
    → mem y (ids rows) ≡ false → look (entries f g rows) y ≡ None
missing_rows f g rows y out = missing (entries f g rows) y (ap (mem y) (row_keys f g rows) ∙ out)

pub some_pool : {V : Type 0} (g : Resource → V) (pool : List Resource) (y : List ℕ)
    → is_some (look (pool_entries g pool) y) ≡ mem y (resource_ids pool)
some_pool g pool y = some_look (pool_entries g pool) y ∙ ap (mem y) (pool_keys g pool)

pub some_row : {V : Type 0} (f : NodeRow → V) (g : Resource → V) (rows : List NodeRow) (y : List ℕ)
    → is_some (look (entries f g rows) y) ≡ mem y (ids rows)
some_row f g rows y = some_look (entries f g rows) y ∙ ap (mem y) (row_keys f g rows)

pub entries_lifted : {V : Type 0} (f : NodeRow → V) (g : Resource → V) → IsOwn f
    → (levels : ℕ) (rows : List NodeRow) → entries f g (map (lifted_row levels) rows) ≡ entries f g rows
entries_lifted f g own levels [] = refl
entries_lifted f g own levels (r ∷ rows) =
    ap (λ v. ((r.id, v) ∷ pool_entries g r.resources) ++ entries f g (map (lifted_row levels) rows)) (own r (lifted_row levels r).depth r.resources) ∙ ap (λ ls. entries_of f g r ++ ls) (entries_lifted f g own levels rows)

-- an id that is no node's is found among the resources
pub look_resource : {V : Type 0} (f : NodeRow → V) (g : Resource → V) (rows : List NodeRow)
    (y : List ℕ)
    → mem y (node_ids rows) ≡ false
    → look (entries f g rows) y ≡ look (pool_entries g (resources rows)) y
look_resource f g [] y out = refl
look_resource f g (r ∷ rows) y out =
    let parts = or_parts (bytes_eq r.id y) (mem y (node_ids rows)) out in
    let own = pool_entries g r.resources in
    look-skip r.id (f r) (own ++ entries f g rows) y parts.0 ∙ look-append own (entries f g rows) y
    ∙ ap (option_or (look own y)) (look_resource f g rows y parts.1)
    ∙ sym (ap (λ xs. look (pool_entries g xs) y) (resources_cons r rows) ∙ ap (λ ls. look ls y) (map-append (λ (x : Resource). (x.id, g x)) r.resources (resources rows)) ∙ look-append own (pool_entries g (resources rows)) y)

-- ---- found by a key, among those whose keys pass

kept_at : {X : Type 0} (keeps here : Bool) (key : X → List ℕ) (p : List ℕ → Bool) (x : List ℕ)
    (y : X) (xs : List X)
    → p (key y) ≡ keeps → bytes_eq (key y) x ≡ here
    → find (λ z. bytes_eq (key z) x) (filter (λ z. p (key z)) xs)
    ≡ cond (p x) (find (λ z. bytes_eq (key z) x) xs) None
    → find (λ z. bytes_eq (key z) x)
    (cond keeps (y ∷ filter (λ z. p (key z)) xs) (filter (λ z. p (key z)) xs))
    ≡ cond (p x) (cond here (Some y) (find (λ z. bytes_eq (key z) x) xs)) None
kept_at true true key p x y xs k h go =
    ap (λ b. cond b (Some y) (find (λ z. bytes_eq (key z) x) (filter (λ z. p (key z)) xs))) h ∙ sym (ap (λ b. cond b (Some y) None) (sym (ap p ((bytes_eq-Decides (key y) x).0 h)) ∙ k))
kept_at true false key p x y xs k h go = ap (λ b. cond b (Some y) (find (λ z. bytes_eq (key z) x) (filter (λ z. p (key z)) xs))) h ∙ go
kept_at false true key p x y xs k h go =
    let fails : p x ≡ false = sym (ap p ((bytes_eq-Decides (key y) x).0 h)) ∙ k in
    go ∙ ap (λ b. cond b (find (λ z. bytes_eq (key z) x) xs) None) fails ∙ sym (ap (λ b. cond b (Some y) None) fails)
kept_at false false key p x y xs k h go = go

either_way : (X : Type 0) (b : Bool) (o : Option X) → cond b o o ≡ o
either_way X true o = refl
either_way X false o = refl

pub find_kept : {X : Type 0} (key : X → List ℕ) (p : List ℕ → Bool) (x : List ℕ) (xs : List X)
    → find (λ y. bytes_eq (key y) x) (filter (λ y. p (key y)) xs)
    ≡ cond (p x) (find (λ y. bytes_eq (key y) x) xs) None
find_kept key p x [] = sym (either_way _ (p x) None)
find_kept key p x (y ∷ xs) = kept_at (p (key y)) (bytes_eq (key y) x) key p x y xs refl refl (find_kept key p x xs)

pool_at : {V : Type 0} (b : Bool) (g : Resource → V) (x : Resource) (ls : List (List ℕ × V))
    (y : List ℕ) (o : Option Resource)
    → look ls y ≡ option_map g o
    → option_map (λ (l : List ℕ × V). l.1)
    (cond b (Some (x.id, g x)) (find (λ l. bytes_eq l.0 y) ls))
    ≡ option_map g (cond b (Some x) o)
pool_at true g x ls y o e = refl
pool_at false g x ls y o e = e

pub look_pool : {V : Type 0} (g : Resource → V) (pool : List Resource) (y : List ℕ)
    → look (pool_entries g pool) y ≡ option_map g (find (λ x. bytes_eq x.id y) pool)
look_pool g [] y = refl
look_pool g (x ∷ pool) y = pool_at (bytes_eq x.id y) g x (pool_entries g pool) y (find (λ z. bytes_eq z.id y) pool) (look_pool g pool y)

-- a resource whose id passes is found among those whose ids do
pub look_chosen : {V : Type 0} (g : Resource → V) (p : List ℕ → Bool) (pool : List Resource)
    (y : List ℕ)
    → p y ≡ true
    → look (pool_entries g (filter (λ x. p x.id) pool)) y ≡ look (pool_entries g pool) y
look_chosen g p pool y e =
    look_pool g (filter (λ x. p x.id) pool) y
    ∙ ap (option_map g) (find_kept (λ (x : Resource). x.id) p y pool ∙ ap (λ b. cond b (find (λ x. bytes_eq x.id y) pool) None) e)
    ∙ sym (look_pool g pool y)

-- ---- with copies

own_entries : {V : Type 0} (f : NodeRow → V) (g : Resource → V) → IsOwn f
    → (r : NodeRow) (copies : List Resource)
    → entries_of f g (record r { resources = (r.resources ++ copies) ++ [] })
    ≡ entries_of f g r ++ pool_entries g copies
own_entries f g own r copies =
    ap (λ v. (r.id, v) ∷ pool_entries g ((r.resources ++ copies) ++ [])) (own r r.depth ((r.resources ++ copies) ++ []))
    ∙ ap (λ xs. (r.id, f r) ∷ pool_entries g xs) (append-nil (r.resources ++ copies))
    ∙ ap (λ ls. (r.id, f r) ∷ ls) (map-append (λ (x : Resource). (x.id, g x)) r.resources copies)

own_look : {V : Type 0} (f : NodeRow → V) (g : Resource → V) → IsOwn f
    → (r : NodeRow) (rows : List NodeRow) (copies : List Resource) (y : List ℕ)
    → look (entries f g (with_copies (r ∷ rows) copies [])) y
    ≡ option_or (option_or (look (entries_of f g r) y) (look (pool_entries g copies) y))
    (look (entries f g rows) y)
own_look f g own r rows copies y =
    ap (λ ls. look (ls ++ entries f g rows) y) (own_entries f g own r copies)
    ∙ look-append (entries_of f g r ++ pool_entries g copies) (entries f g rows) y
    ∙ ap (λ o. option_or o (look (entries f g rows) y)) (look-append (entries_of f g r) (pool_entries g copies) y)

-- what is no copy is found as in the rows without copies
pub look_rows : {V : Type 0} (f : NodeRow → V) (g : Resource → V) → IsOwn f
    → (rows : List NodeRow) (copies : List Resource) (y : List ℕ)
    → mem y (resource_ids copies) ≡ false
    → look (entries f g (with_copies rows copies [])) y ≡ look (entries f g rows) y
look_rows f g own [] copies y out = refl
look_rows f g own (r ∷ rows) copies y out =
    own_look f g own r rows copies y
    ∙ ap (λ o. option_or (option_or (look (entries_of f g r) y) o) (look (entries f g rows) y)) (missing_pool g copies y out)
    ∙ ap (λ o. option_or o (look (entries f g rows) y)) (or_none (look (entries_of f g r) y))
    ∙ sym (look-append (entries_of f g r) (entries f g rows) y)

-- and what doesn't stand in the rows is found among the copies
pub look_copies : {V : Type 0} (f : NodeRow → V) (g : Resource → V) → IsOwn f
    → (r : NodeRow) (rows : List NodeRow) (copies : List Resource) (y : List ℕ)
    → mem y (ids (r ∷ rows)) ≡ false
    → look (entries f g (with_copies (r ∷ rows) copies [])) y ≡ look (pool_entries g copies) y
look_copies f g own r rows copies y out =
    let parts = out_of_both y (ids_of r) (ids rows) out in
    own_look f g own r rows copies y
    ∙ ap (option_or (option_or (look (entries_of f g r) y) (look (pool_entries g copies) y))) (missing_rows f g rows y parts.1)
    ∙ or_none (option_or (look (entries_of f g r) y) (look (pool_entries g copies) y))
    ∙ ap (λ o. option_or o (look (pool_entries g copies) y)) (missing (entries_of f g r) y (ap (λ is. mem y (r.id ∷ is)) (pool_keys g r.resources) ∙ parts.0))

-- ---- what stands at the places

abbrev pub node_thing : NodeRow → Thing
node_thing r = node r.kind r.job_part r.links

abbrev pub resource_thing : Resource → Thing
resource_thing x = resource x.name x.class

abbrev thing_at : Option Place → Option Thing
thing_at o = option_map (λ p. p.thing) o

thing_here : (b : Bool) (p : Place) (o : Option Place) (x : List ℕ) (ls : List (List ℕ × Thing))
    (y : List ℕ)
    → thing_at o ≡ look ls y
    → thing_at (cond b (Some p) o)
    ≡ option_map (λ (l : List ℕ × Thing). l.1)
    (cond b (Some (x, p.thing)) (find (λ l. bytes_eq l.0 y) ls))
thing_here true p o x ls y e = refl
thing_here false p o x ls y e = e

things_of_pool : (path : List (List ℕ)) (pool : List Resource) (tree : List Place)
    (ls : List (List ℕ × Thing)) (y : List ℕ)
    → thing_at (place_at tree y) ≡ look ls y
    → thing_at (place_at (map (resource_place path) pool ++ tree) y)
    ≡ look (pool_entries resource_thing pool ++ ls) y
things_of_pool path [] tree ls y e = e
things_of_pool path (x ∷ pool) tree ls y e =
    thing_here (bytes_eq x.id y) (resource_place path x) (place_at (map (resource_place path) pool ++ tree) y) x.id (pool_entries resource_thing pool ++ ls) y (things_of_pool path pool tree ls y e)

-- what stands under an id doesn't depend on the paths
pub thing_look : (before : List (List ℕ)) (rows : List NodeRow) (y : List ℕ)
    → option_map (λ p. p.thing) (place_at (places_from before rows) y)
    ≡ look (entries node_thing resource_thing rows) y
thing_look before [] y = refl
thing_look before (r ∷ rows) y =
    let path = path_of before r in
    thing_here (bytes_eq r.id y) (node_place r path) (place_at (map (resource_place path) r.resources ++ places_from path rows) y) r.id (pool_entries resource_thing r.resources ++ entries node_thing resource_thing rows) y
    (things_of_pool path r.resources (places_from path rows) (entries node_thing resource_thing rows) y (thing_look path rows y))
