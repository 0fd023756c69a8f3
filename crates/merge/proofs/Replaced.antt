-- Rows and resources put one by one in the places of those of their ids are put there all at once.
use Rattle.std.proofs.Common.{◌≡◌, ◌∙◌, ℕ, ◌+◌, ◌<◌, ◌||◌, Bool, true, false, cond, List, [], ◌∷◌}
use Rattle.std.proofs.Common.{◌++◌, length, map, take, drop, get_or, Option, Some, None, is_some}
use Rattle.std.proofs.Common.{refl, sym, ap, subst, map-id}
use Rattle.std.proofs.lemmas.Bool.{true≢false, or_parts}
use Rattle.std.proofs.lemmas.Iterator.{YieldsList}
use Rattle.std.proofs.lemmas.Iterator.Consumers.{YieldsList-so_far, YieldsList-turn}
use Rattle.std.proofs.lemmas.List.{map-append, take-append-drop, drop_more}
use Rattle.std.proofs.lemmas.Slice.Eq.{bytes_eq-Decides}
use Rattle.std.specs.Iterator.{Yields}
use Rattle.std.specs.List.{find}
use Rattle.std.specs.Option.{option_map, option_map_or}
use Rattle.std.specs.Str.{bytes_eq}
use Rattle.ticket_items.proofs.Apart.{bytes_eq-same, bytes_eq-symm}
use Rattle.ticket_rows.proofs.AtHome.{find-passes}
use Rattle.ticket_items.proofs.Places.{is_some-find}
use Rattle.ticket_items.proofs.AtKey.{any_key}
use Rattle.ticket_items.specs.Resource.{with_item, resource_ids}
use Rattle.ticket_rows.specs.Homes.{homes, resource_of}
use Rattle.ticket_items.specs.Ids.{mem, are_distinct}
use Rattle.ticket_rows.specs.OneRow.{MayReplaceNode, MayReplaceResource, replaced_node}
use Rattle.ticket_rows.specs.OneRow.{replaced_resource}
use Rattle.ticket_rows.specs.Ticket.{node_ids, row_of}
use Rattle.ticket_items.specs.declared.node_row.NodeRow.{NodeRow}
use Rattle.ticket_items.specs.declared.resource.Resource.{Resource}
use Rattle.spawn.proofs.Among.{apart_lists}
use Rattle.spawn.specs.Parts.{resources}
use Rattle.spawn.proofs.Chosen.{resources_cons}
use Rattle.merge.specs.Put.{resource_from}
use Rattle.merge.specs.Putting.{node_from, with_nodes, pool_from, with_resources}
use Rattle.merge.specs.Putting.{EachMayReplaceNode, EachMayReplaceResource, MayTakeNodes}
use Rattle.merge.specs.Putting.{MayTakeResources}

-- ---- what is found by its key

-- what is found by a key has it
pub found_key : {X : Type 0} (key : X → List ℕ) (xs : List X) (y : List ℕ) (x : X)
    → find (λ z. bytes_eq (key z) y) xs ≡ Some x → key x ≡ y
found_key key xs y x found = (bytes_eq-Decides (key x) y).0 (find-passes (λ z. bytes_eq (key z) y) xs x found)

none_of : {X : Type 0} (o : Option X) → is_some o ≡ false → o ≡ None
none_of None h = refl
none_of (Some x) h = cc

-- what isn't among the keys isn't found
pub unfound : {X : Type 0} (key : X → List ℕ) (xs : List X) (y : List ℕ)
    → mem y (map key xs) ≡ false → find (λ z. bytes_eq (key z) y) xs ≡ None
unfound key xs y out = none_of (find (λ z. bytes_eq (key z) y) xs) (is_some-find (λ z. bytes_eq (key z) y) xs ∙ any_key key y xs ∙ out)

mapped_at : {X : Type 0} (b : Bool) (h : X → X) (x : X) (rest found : Option X)
    → rest ≡ option_map h found → cond b (Some (h x)) rest ≡ option_map h (cond b (Some x) found)
mapped_at true h x rest found e = refl
mapped_at false h x rest found e = e

-- a change that keeps the keys changes what is found
pub found_mapped : {X : Type 0} (key : X → List ℕ) (h : X → X) (xs : List X) (y : List ℕ)
    → ((x : X) → key (h x) ≡ key x)
    → find (λ z. bytes_eq (key z) y) (map h xs) ≡ option_map h (find (λ z. bytes_eq (key z) y) xs)
found_mapped key h [] y keeps = refl
found_mapped key h (x ∷ xs) y keeps =
    ap (λ k. cond (bytes_eq k y) (Some (h x)) (find (λ z. bytes_eq (key z) y) (map h xs))) (keeps x) ∙ mapped_at (bytes_eq (key x) y) h x (find (λ z. bytes_eq (key z) y) (map h xs)) (find (λ z. bytes_eq (key z) y) xs) (found_mapped key h xs y keeps)

-- ---- resources by id

first_at : (b : Bool) (e : Resource × List ℕ) (rest : Option (Resource × List ℕ))
    (found : Option Resource)
    → option_map (λ f. f.0) rest ≡ found
    → option_map (λ f. f.0) (cond b (Some e) rest) ≡ cond b (Some e.0) found
first_at true e rest found h = refl
first_at false e rest found h = h

first_found : (es : List (Resource × List ℕ)) (y : List ℕ)
    → option_map (λ e. e.0) (find (λ e. bytes_eq e.0.id y) es)
    ≡ find (λ x. bytes_eq x.id y) (map (λ e. e.0) es)
first_found [] y = refl
first_found (e ∷ es) y = first_at (bytes_eq e.0.id y) e (find (λ f. bytes_eq f.0.id y) es) (find (λ x. bytes_eq x.id y) (map (λ f. f.0) es)) (first_found es y)

pub resource_is : (rows : List NodeRow) (y : List ℕ)
    → resource_of rows y ≡ find (λ x. bytes_eq x.id y) (resources rows)
resource_is rows y = first_found (homes rows) y

pub resources-mapped : (g : NodeRow → NodeRow) (h : Resource → Resource) (rows : List NodeRow)
    → ((r : NodeRow) → (g r).resources ≡ map h r.resources)
    → resources (map g rows) ≡ map h (resources rows)
resources-mapped g h [] keeps = refl
resources-mapped g h (r ∷ rows) keeps =
    resources_cons (g r) (map g rows) ∙ ap (λ pool. pool ++ resources (map g rows)) (keeps r) ∙ ap (λ xs. map h r.resources ++ xs) (resources-mapped g h rows keeps)
    ∙ sym (ap (map h) (resources_cons r rows) ∙ map-append h r.resources (resources rows))

-- ---- ids stay

from_id : (y : Resource) (o : Option Resource) → ((x : Resource) → o ≡ Some x → x.id ≡ y.id)
    → (option_map_or (λ x. x) o y).id ≡ y.id
from_id y None same = refl
from_id y (Some x) same = same x refl

pub resource_from-id : (new : List Resource) (y : Resource) → (resource_from new y).id ≡ y.id
resource_from-id new y = from_id y (find (λ x. bytes_eq x.id y.id) new) (λ x found. found_key (λ z. z.id) new y.id x found)

node_id : (r : NodeRow) (o : Option NodeRow) → ((x : NodeRow) → o ≡ Some x → x.id ≡ r.id)
    → (option_map_or (λ (x : NodeRow). record x { depth = r.depth }) o r).id ≡ r.id
node_id r None same = refl
node_id r (Some x) same = same x refl

pub node_from-id : (new : List NodeRow) (r : NodeRow) → (node_from new r).id ≡ r.id
node_from-id new r = node_id r (row_of new r.id) (λ x found. found_key (λ z. z.id) new r.id x found)

node_depth : (r : NodeRow) (o : Option NodeRow)
    → (option_map_or (λ (x : NodeRow). record x { depth = r.depth }) o r).depth ≡ r.depth
node_depth r None = refl
node_depth r (Some x) = refl

-- ---- one more

node_here : (b : Bool) (x r s : NodeRow) (o : Option NodeRow)
    → s ≡ option_map_or (λ (y : NodeRow). record y { depth = r.depth }) o r → s.depth ≡ r.depth
    → cond b (record x { depth = s.depth }) s
    ≡ option_map_or (λ (y : NodeRow). record y { depth = r.depth }) (cond b (Some x) o) r
node_here true x r s o e depth = ap (λ d. record x { depth = d }) depth
node_here false x r s o e depth = e

node_more_at : (x : NodeRow) (done : List NodeRow) (r : NodeRow)
    → cond (bytes_eq (node_from done r).id x.id) (record x { depth = (node_from done r).depth })
    (node_from done r)
    ≡ node_from (x ∷ done) r
node_more_at x done r =
    let s = node_from done r in
    ap (λ i. cond (bytes_eq i x.id) (record x { depth = s.depth }) s) (node_from-id done r) ∙ ap (λ b. cond b (record x { depth = s.depth }) s) (bytes_eq-symm r.id x.id) ∙ node_here (bytes_eq x.id r.id) x r s (row_of done r.id) refl (node_depth r (row_of done r.id))

pub node_more : (x : NodeRow) (done rows : List NodeRow)
    → replaced_node x (with_nodes done rows) ≡ with_nodes (x ∷ done) rows
node_more x done [] = refl
node_more x done (r ∷ rows) = ap (λ s. s ∷ replaced_node x (with_nodes done rows)) (node_more_at x done r) ∙ ap (λ rs. node_from (x ∷ done) r ∷ rs) (node_more x done rows)

resource_here : (b : Bool) (x y z : Resource) (o : Option Resource) → z ≡ option_map_or (λ w. w) o y
    → cond b x z ≡ option_map_or (λ w. w) (cond b (Some x) o) y
resource_here true x y z o e = refl
resource_here false x y z o e = e

item_more : (x : Resource) (done pool : List Resource)
    → with_item x.id (λ _. x) (map (resource_from done) pool) ≡ map (resource_from (x ∷ done)) pool
item_more x done [] = refl
item_more x done (y ∷ pool) =
    let z = resource_from done y in
    ap (λ w. w ∷ with_item x.id (λ _. x) (map (resource_from done) pool))
    (ap (λ i. cond (bytes_eq i x.id) x z) (resource_from-id done y) ∙ ap (λ b. cond b x z) (bytes_eq-symm y.id x.id) ∙ resource_here (bytes_eq x.id y.id) x y z (find (λ w. bytes_eq w.id y.id) done) refl)
    ∙ ap (λ ws. resource_from (x ∷ done) y ∷ ws) (item_more x done pool)

pub resource_more : (x : Resource) (done : List Resource) (rows : List NodeRow)
    → replaced_resource x (with_resources done rows) ≡ with_resources (x ∷ done) rows
resource_more x done [] = refl
resource_more x done (r ∷ rows) =
    ap (λ pool. record r { resources = pool } ∷ replaced_resource x (with_resources done rows)) (item_more x done r.resources) ∙ ap (λ rs. pool_from (x ∷ done) r ∷ rs) (resource_more x done rows)

-- ---- none

pub no_nodes : (rows : List NodeRow) → with_nodes [] rows ≡ rows
no_nodes [] = refl
no_nodes (r ∷ rows) = ap (λ rs. r ∷ rs) (no_nodes rows)

no_items : (pool : List Resource) → map (resource_from []) pool ≡ pool
no_items [] = refl
no_items (x ∷ pool) = ap (λ xs. x ∷ xs) (no_items pool)

pub no_resources : (rows : List NodeRow) → with_resources [] rows ≡ rows
no_resources [] = refl
no_resources (r ∷ rows) = ap (λ pool. record r { resources = pool } ∷ with_resources [] rows) (no_items r.resources) ∙ ap (λ rs. r ∷ rs) (no_resources rows)

-- ---- the last of them

last_at : {X : Type 0} (b c : Bool) (x d : X) (o : Option X) → (b ≡ true → c ≡ true → ⊥)
    → cond b (Some x) (cond c (Some d) o) ≡ cond c (Some d) (cond b (Some x) o)
last_at true true x d o apart = absurd (apart refl refl)
last_at true false x d o apart = refl
last_at false c x d o apart = refl

not_both : (d x y : List ℕ) → bytes_eq d x ≡ false → bytes_eq x y ≡ true → bytes_eq d y ≡ true → ⊥
not_both d x y apart one other = true≢false (sym other ∙ ap (bytes_eq d) (sym ((bytes_eq-Decides x y).0 one)) ∙ apart)

-- what has a key of its own is found first as it is found last
found_last : {X : Type 0} (key : X → List ℕ) (done : List X) (x : X) (y : List ℕ)
    → mem (key x) (map key done) ≡ false
    → find (λ z. bytes_eq (key z) y) (x ∷ done) ≡ find (λ z. bytes_eq (key z) y) (done ++ x ∷ [])
found_last key [] x y out = refl
found_last key (d ∷ done) x y out =
    let parts = or_parts (bytes_eq (key d) (key x)) (mem (key x) (map key done)) out in
    last_at (bytes_eq (key x) y) (bytes_eq (key d) y) x d (find (λ z. bytes_eq (key z) y) done) (not_both (key d) (key x) y parts.0)
    ∙ ap (cond (bytes_eq (key d) y) (Some d)) (found_last key done x y parts.1)

pub nodes_last : (done : List NodeRow) (x : NodeRow) (rows : List NodeRow)
    → mem x.id (node_ids done) ≡ false
    → with_nodes (x ∷ done) rows ≡ with_nodes (done ++ x ∷ []) rows
nodes_last done x [] out = refl
nodes_last done x (r ∷ rows) out =
    ap (λ o. option_map_or (λ (y : NodeRow). record y { depth = r.depth }) o r ∷ with_nodes (x ∷ done) rows) (found_last (λ z. z.id) done x r.id out)
    ∙ ap (λ rs. node_from (done ++ x ∷ []) r ∷ rs) (nodes_last done x rows out)

items_last : (done : List Resource) (x : Resource) (pool : List Resource)
    → mem x.id (resource_ids done) ≡ false
    → map (resource_from (x ∷ done)) pool ≡ map (resource_from (done ++ x ∷ [])) pool
items_last done x [] out = refl
items_last done x (y ∷ pool) out =
    ap (λ o. option_map_or (λ z. z) o y ∷ map (resource_from (x ∷ done)) pool) (found_last (λ z. z.id) done x y.id out)
    ∙ ap (λ ys. resource_from (done ++ x ∷ []) y ∷ ys) (items_last done x pool out)

pub resources_last : (done : List Resource) (x : Resource) (rows : List NodeRow)
    → mem x.id (resource_ids done) ≡ false
    → with_resources (x ∷ done) rows ≡ with_resources (done ++ x ∷ []) rows
resources_last done x [] out = refl
resources_last done x (r ∷ rows) out =
    ap (λ pool. record r { resources = pool } ∷ with_resources (x ∷ done) rows) (items_last done x r.resources out)
    ∙ ap (λ rs. pool_from (done ++ x ∷ []) r ∷ rs) (resources_last done x rows out)

-- ---- each may still take its place

node_among : (rows done : List NodeRow) (x : NodeRow) (later : List NodeRow)
    → EachMayReplaceNode rows (done ++ x ∷ later) → MayReplaceNode rows x
node_among rows [] x later each = each.0
node_among rows (y ∷ done) x later each = node_among rows done x later each.1

apart_at : (b : Bool) (x : List ℕ) (xs ys : List (List ℕ)) → mem x xs ≡ b
    → are_distinct (xs ++ x ∷ ys) ≡ true → b ≡ false
apart_at true x xs ys e apart = absurd (true≢false (sym (ap (λ b. b || mem x ys) (bytes_eq-same x)) ∙ apart_lists x xs (x ∷ ys) apart e))
apart_at false x xs ys e apart = refl

-- the key of the next is new
pub new_key : {X : Type 0} (key : X → List ℕ) (done : List X) (x : X) (later : List X)
    → are_distinct (map key (done ++ x ∷ later)) ≡ true → mem (key x) (map key done) ≡ false
new_key key done x later apart = apart_at (mem (key x) (map key done)) (key x) (map key done) (map key later) refl (ap are_distinct (sym (map-append key done (x ∷ later))) ∙ apart)

untouched : (done : List NodeRow) (r : NodeRow) → row_of done r.id ≡ None → node_from done r ≡ r
untouched done r none = ap (λ o. option_map_or (λ (x : NodeRow). record x { depth = r.depth }) o r) none

pub node_may : (rows done : List NodeRow) (x : NodeRow) (later : List NodeRow)
    → MayTakeNodes rows (done ++ x ∷ later) → MayReplaceNode (with_nodes done rows) x
node_may rows done x later may =
    let one = node_among rows done x later may.each in
    let named : one.old.id ≡ x.id = found_key (λ z. z.id) rows x.id one.old one.there in
    let none : row_of done one.old.id ≡ None = ap (row_of done) named ∙ unfound (λ z. z.id) done x.id (new_key (λ z. z.id) done x later may.distinct) in
    record {
      old = one.old;
      there = found_mapped (λ z. z.id) (node_from done) rows x.id (node_from-id done) ∙ ap (option_map (node_from done)) one.there ∙ ap Some (untouched done one.old none);
      thing = one.thing;
      resources = one.resources;
      status = one.status;
    }

resource_among : (rows : List NodeRow) (done : List Resource) (x : Resource) (later : List Resource)
    → EachMayReplaceResource rows (done ++ x ∷ later) → MayReplaceResource rows x
resource_among rows [] x later each = each.0
resource_among rows (y ∷ done) x later each = resource_among rows done x later each.1

resource_may : (rows : List NodeRow) (done : List Resource) (x : Resource) (later : List Resource)
    → MayTakeResources rows (done ++ x ∷ later) → MayReplaceResource (with_resources done rows) x
resource_may rows done x later may =
    let one = resource_among rows done x later may.each in
    let named : one.old.id ≡ x.id = found_key (λ z. z.id) (resources rows) x.id one.old (sym (resource_is rows x.id) ∙ one.there) in
    let none : find (λ z. bytes_eq z.id one.old.id) done ≡ None = ap (λ i. find (λ z. bytes_eq z.id i) done) named ∙ unfound (λ z. z.id) done x.id (new_key (λ z. z.id) done x later may.distinct) in
    record {
      old = one.old;
      there = resource_is (with_resources done rows) x.id
          ∙ ap (find (λ z. bytes_eq z.id x.id)) (resources-mapped (pool_from done) (resource_from done) rows (λ r. refl))
          ∙ found_mapped (λ z. z.id) (resource_from done) (resources rows) x.id (resource_from-id done)
          ∙ ap (option_map (resource_from done)) (sym (resource_is rows x.id) ∙ one.there)
          ∙ ap (λ o. Some (option_map_or (λ w. w) o one.old)) none;
      thing = one.thing;
    }

-- ---- the loops

-- a list, taken apart at the place of one of its items
taken_apart : {X : Type 0} (all done : List X) (x : X) → map (λ y. y) done ≡ take (length done) all
    → length done < length all → x ≡ get_or all (length done) x
    → all ≡ done ++ x ∷ drop (length done + 1) all
taken_apart all done x so_far within is =
    let k = length done in
    sym (take-append-drop k all) ∙ ap (λ xs. xs ++ drop k all) (sym so_far ∙ map-id done) ∙ ap (λ xs. done ++ xs) (drop_more all k x within ∙ ap (λ y. y ∷ drop (k + 1) all) (sym is))

-- x comes behind the first of a list
pub record Next {X : Type 0} (all done : List X) (x : X) : Type 0 where
  pub so_far : map (λ y. y) done ≡ take (length done) all
  pub turn : (length done < length all) × (x ≡ get_or all (length done) x)

-- what an iterator of a list gives behind what it gave
pub next_of : {S X : Type 0} {steps : S → Option X → S → Type 0} {s : S} {all : List X}
    (e : YieldsList steps (λ y. y) s all) (done : List X) (t : S) (given : Yields steps s done t)
    (r : Option X) (u : S) (x : X)
    → r ≡ Some x → steps t r u → Next all done x
next_of e done t given r u x is step = record { so_far = YieldsList-so_far e done t given; turn = YieldsList-turn e done t given r u x is step }

pub next_node_may : (all done : List NodeRow) (x : NodeRow) (old seen : List NodeRow)
    → Next all done x → seen ≡ with_nodes done old → MayTakeNodes old all → MayReplaceNode seen x
next_node_may all done x old seen next put may =
    subst (λ rs. MayReplaceNode rs x) (sym put) (node_may old done x (drop (length done + 1) all) (subst (MayTakeNodes old) (taken_apart all done x next.so_far next.turn.0 next.turn.1) may))

pub next_node_put : (all done : List NodeRow) (x : NodeRow) (old seen : List NodeRow)
    → Next all done x → seen ≡ with_nodes done old → MayTakeNodes old all
    → replaced_node x seen ≡ with_nodes (done ++ x ∷ []) old
next_node_put all done x old seen next put may =
    let later = drop (length done + 1) all in
    let split = taken_apart all done x next.so_far next.turn.0 next.turn.1 in
    ap (replaced_node x) put ∙ node_more x done old ∙ nodes_last done x old (new_key (λ z. z.id) done x later (subst (λ xs. are_distinct (node_ids xs) ≡ true) split may.distinct))

pub next_resource_may : (all done : List Resource) (x : Resource) (old seen : List NodeRow)
    → Next all done x → seen ≡ with_resources done old → MayTakeResources old all
    → MayReplaceResource seen x
next_resource_may all done x old seen next put may =
    subst (λ rs. MayReplaceResource rs x) (sym put) (resource_may old done x (drop (length done + 1) all) (subst (MayTakeResources old) (taken_apart all done x next.so_far next.turn.0 next.turn.1) may))

pub next_resource_put : (all done : List Resource) (x : Resource) (old seen : List NodeRow)
    → Next all done x → seen ≡ with_resources done old → MayTakeResources old all
    → replaced_resource x seen ≡ with_resources (done ++ x ∷ []) old
next_resource_put all done x old seen next put may =
    let later = drop (length done + 1) all in
    let split = taken_apart all done x next.so_far next.turn.0 next.turn.1 in
    ap (replaced_resource x) put ∙ resource_more x done old ∙ resources_last done x old (new_key (λ z. z.id) done x later (subst (λ xs. are_distinct (resource_ids xs) ≡ true) split may.distinct))
