-- What the master may edit leaves the claims of spawns that are out, and what is linked outside
-- their nodes.
use Rattle.std.proofs.Common.{◌≡◌, ◌∙◌, ℕ, ◌&&◌, ◌||◌, Bool, true, false, not, cond, List, [], ◌∷◌}
use Rattle.std.proofs.Common.{map, Option, Some, None, is_some, slice_get, refl, sym, ap, subst}
use Rattle.std.proofs.lemmas.Bool.{true≢false, and_parts, or_parts, or_from, not-true}
use Rattle.std.proofs.lemmas.Slice.Eq.{bytes_eq-Decides}
use Rattle.std.specs.List.{filter, list_all, list_any}
use Rattle.std.specs.Option.{option_map, option_map_or}
use Rattle.std.specs.Str.{bytes_eq}
use Rattle.ticket_tree.proofs.OnPlaces.{ids_of_places}
use Rattle.ticket_tree.proofs.PlainEdits.{edit_of_places}
use Rattle.ticket_rows.proofs.Reasons.{child_new, resource_new, target_known}
use Rattle.ticket_items.specs.Act.{Act, NodeAddition, act_of, act_target}
use Rattle.ticket_items.specs.Act.{Addition, NewNode, NewResource, NewLink}
use Rattle.ticket_rows.specs.Edit.{behind_last, lookups}
use Rattle.ticket_rows.specs.EditRefusal.{act_refusal}
use Rattle.ticket_items.specs.Ids.{mem}
use Rattle.ticket_rows.specs.Place.{Place, Thing, node, resource, is_node, is_node_thing, places}
use Rattle.ticket_rows.specs.Place.{node_places, resource_places, resource_place, place_at, below}
use Rattle.ticket_rows.specs.Place.{home, home_at, links_of, are_links_above}
use Rattle.ticket_tree.specs.PlainEdit.{act_places, with_link, path_at, is_at}
use Rattle.ticket_rows.specs.Ticket.{IsValid, has_node, ids}
use Rattle.ticket_items.specs.declared.link.Link.{Link}
use Rattle.ticket_items.specs.declared.node_row.NodeRow.{NodeRow}
use Rattle.ticket_items.specs.declared.resource.Resource.{Resource}
use Rattle.spawn.proofs.Chosen.{AllOwn, all_own, filter_as}
use Rattle.spawn.proofs.GoodCopies.{good_node, in_rw}
use Rattle.spawn.proofs.KeptApart.{none_passes}
use Rattle.spawn.proofs.Outside.{found_stands, kept_found, some_of}
use Rattle.spawn.proofs.SoundPart.{false_by, node_among_ids}
use Rattle.spawn.proofs.Standing.{held_some, ids_apart, node_stands, place_of_resource}
use Rattle.ticket_rows.proofs.Below.{mem-node_ids}
use Rattle.plain_shop.specs.Claim.{claim, is_claimed, is_linked_below, is_linked_outside, linked_outside}
use Rattle.plain_shop.specs.Claim.{links}
use Rattle.spawn.specs.Laws.{EditKeepsClaims}
use Rattle.spawn.specs.Records.{IsGood, is_out}
use Rattle.spawn.specs.Table.{holder_at, holder_of, holding_record, holds}
use Rattle.world_items.specs.declared.holder.Holder.TheVariants.{Master, Spawn}
use Rattle.spawn.specs.declared.records.spawn_rec.SpawnRec.{SpawnRec}

-- ---- one place more

behind_at : (b kept : Bool) (f : Place → Bool) (q new : Place) (tree rest : List Place) → f q ≡ kept
    → f new ≡ false → filter f rest ≡ filter f tree
    → filter f (cond b (q ∷ new ∷ tree) (q ∷ rest)) ≡ cond kept (q ∷ filter f tree) (filter f tree)
behind_at true kept f q new tree rest e out go =
    ap (λ c. cond c (q ∷ filter f (new ∷ tree)) (filter f (new ∷ tree))) e ∙ ap (λ c. cond kept (q ∷ cond c (new ∷ filter f tree) (filter f tree)) (cond c (new ∷ filter f tree) (filter f tree))) out
behind_at false kept f q new tree rest e out go = ap (λ c. cond c (q ∷ filter f rest) (filter f rest)) e ∙ ap (λ xs. cond kept (q ∷ xs) xs) go

filter_behind : (p f : Place → Bool) (new : Place) (tree : List Place) → f new ≡ false
    → filter f (behind_last p new tree) ≡ filter f tree
filter_behind p f new [] out = ap (λ c. cond c (new ∷ []) []) out
filter_behind p f new (q ∷ tree) out = behind_at (p q && not (list_any p tree)) (f q) f q new tree (behind_last p new tree) refl out (filter_behind p f new tree out)

any_at : (b : Bool) (f : Place → Bool) (q new : Place) (tree rest : List Place) → f new ≡ false
    → list_any f rest ≡ list_any f tree
    → list_any f (cond b (q ∷ new ∷ tree) (q ∷ rest)) ≡ (f q || list_any f tree)
any_at true f q new tree rest out go = ap (λ c. f q || (c || list_any f tree)) out
any_at false f q new tree rest out go = ap (λ c. f q || c) go

any_behind : (p f : Place → Bool) (new : Place) (tree : List Place) → f new ≡ false
    → list_any f (behind_last p new tree) ≡ list_any f tree
any_behind p f new [] out = ap (λ c. c || false) out
any_behind p f new (q ∷ tree) out = any_at (p q && not (list_any p tree)) f q new tree (behind_last p new tree) out (any_behind p f new tree out)

and_none : (b : Bool) → (b && false) ≡ false
and_none true = refl
and_none false = refl

-- what is linked outside m, once there is one place more that links nothing and isn't linked
-- outside m itself
outside_behind : (p : Place → Bool) (m : List ℕ) (new : Place) (tree : List Place)
    → ((x : List ℕ) → links x new ≡ false) → is_linked_outside tree m new ≡ false
    → linked_outside (behind_last p new tree) m ≡ linked_outside tree m
outside_behind p m new tree none out =
    let later = behind_last p new tree in
    let same : (x : List ℕ) → is_linked_below later m x ≡ is_linked_below tree m x = λ x. any_behind p (λ q. below m q && links x q) new tree (ap (λ b. below m new && b) (none x) ∙ and_none (below m new)) in
    let test : (q : Place) → is_linked_outside later m q ≡ is_linked_outside tree m q = λ q. ap (λ b. (not (is_node q) && not (below m q)) && b) (same q.id) in
    filter_behind p (is_linked_outside later m) new tree (test new ∙ out) ∙ filter_as (is_linked_outside later m) (is_linked_outside tree m) tree test

-- ---- what the master holds, no spawn claims

master_at : (o : Option SpawnRec) → Some (option_map_or (λ r. Spawn r.id) o Master) ≡ Some Master
    → o ≡ None
master_at None e = refl
master_at (Some r) e = cc

record Free (rows : List NodeRow) (n : List ℕ) (r : SpawnRec) : Type 0 where
  place : Place
  there : place_at (places rows) n ≡ Some place
  id : place.id ≡ n
  not_below : below r.node place ≡ false
  not_chosen : mem n r.rw ≡ false
  off_path : mem r.node (path_at (places rows) n) ≡ false

path_by : (o : Option Place) (m : List ℕ)
    → mem m (option_map_or (λ p. p.path) o []) ≡ option_map_or (below m) o false
path_by None m = refl
path_by (Some p) m = refl

and_out : (a b : Bool) → a ≡ true → (a && b) ≡ false → b ≡ false
and_out true b h e = e
and_out false b h e = cc

free_of : (rows : List NodeRow) (recs : List SpawnRec) (n : List ℕ) (k : ℕ) (r : SpawnRec)
    → IsValid rows → has_node rows n ≡ true → holder_of rows recs n ≡ Some Master
    → slice_get recs k ≡ Some r → is_out r ≡ true → Free rows n r
free_of rows recs n k r valid known held at out =
    let stands = node_stands rows n valid known in
    let none = master_at (holding_record recs stands.place) (sym (ap (option_map (holder_at recs)) stands.there) ∙ held) in
    let fails = or_parts (below r.node stands.place) (mem stands.place.id r.rw) (and_out (is_out r) (is_claimed r.node r.rw stands.place) out (none_passes (holds stands.place) recs k r none at)) in
    record {
      place = stands.place;
      there = stands.there;
      id = stands.id;
      not_below = fails.0;
      not_chosen = ap (λ i. mem i r.rw) (sym stands.id) ∙ fails.1;
      off_path = path_by (place_at (node_places rows) n) r.node ∙ sym (stands.below_as r.node) ∙ fails.0;
    }

-- ---- a new id is in no claim

stands_among_ids : (rows : List NodeRow) (x : List ℕ) (p : Place)
    → place_at (places rows) x ≡ Some p → mem x (ids rows) ≡ true
stands_among_ids rows x p there = ap (mem x) (sym (ids_of_places [] rows)) ∙ found_stands (places rows) x p there

new_not_chosen : (rows : List NodeRow) (r : SpawnRec) (x : List ℕ) → IsValid rows → IsGood rows r
    → mem x (ids rows) ≡ false → mem x r.rw ≡ false
new_not_chosen rows r x valid good new =
    false_by (mem x r.rw) (λ chosen.
    let found = kept_found (is_linked_outside (places rows) r.node) (places rows) x (ids_apart rows valid) (in_rw rows r x good chosen) in
    true≢false (sym (stands_among_ids rows x found.0 found.1) ∙ new))

new_not_node : (rows : List NodeRow) (r : SpawnRec) (x : List ℕ) → IsGood rows r
    → mem x (ids rows) ≡ false → bytes_eq x r.node ≡ false
new_not_node rows r x good new =
    false_by (bytes_eq x r.node) (λ e. true≢false (sym (node_among_ids r.node rows (mem-node_ids rows r.node ∙ good_node rows r good)) ∙ ap (λ i. mem i (ids rows)) (sym ((bytes_eq-Decides x r.node).0 e)) ∙ new))

-- ---- a new id is linked nowhere

any_link : (x : List ℕ) (res : List Place) (p : Place) (ls : List Link)
    → list_any (λ l. bytes_eq l.rref x) ls ≡ true
    → list_all (λ l. option_map_or (λ h. below h p) (home res l.rref) false) ls ≡ true
    → is_some (home res x) ≡ true
any_link x res p [] any all = cc
any_link x res p (l ∷ ls) any all =
    let parts = and_parts (option_map_or (λ h. below h p) (home res l.rref) false) (list_all (λ k. option_map_or (λ h. below h p) (home res k.rref) false) ls) all in
    link_at (bytes_eq l.rref x) x res p l ls refl any parts.0 (λ later. any_link x res p ls later parts.1)
  where
    some_home : (o : Option (List ℕ)) (q : Place) → option_map_or (λ h. below h q) o false ≡ true → is_some o ≡ true
    some_home None q h = cc
    some_home (Some i) q h = refl

    link_at : (here : Bool) (y : List ℕ) (rs : List Place) (q : Place) (k : Link) (ks : List Link) → bytes_eq k.rref y ≡ here → (here || list_any (λ m. bytes_eq m.rref y) ks) ≡ true → option_map_or (λ h. below h q) (home rs k.rref) false ≡ true
        → (list_any (λ m. bytes_eq m.rref y) ks ≡ true → is_some (home rs y) ≡ true) → is_some (home rs y) ≡ true
    link_at true y rs q k ks e any' own go = ap (λ i. is_some (home rs i)) (sym ((bytes_eq-Decides k.rref y).0 e)) ∙ some_home (home rs k.rref) q own
    link_at false y rs q k ks e any' own go = go any'

linked_at : (b : Bool) (x m : List ℕ) (res : List Place) (p : Place) (tree : List Place)
    → (below m p && links x p) ≡ b → (b || list_any (λ q. below m q && links x q) tree) ≡ true
    → are_links_above res p ≡ true
    → (list_any (λ q. below m q && links x q) tree ≡ true → is_some (home res x) ≡ true)
    → is_some (home res x) ≡ true
linked_at true x m res p tree e any own go = any_link x res p (links_of p.thing) (and_parts (below m p) (links x p) e).1 own
linked_at false x m res p tree e any own go = go any

linked_home : (x m : List ℕ) (res tree : List Place)
    → list_any (λ p. below m p && links x p) tree ≡ true
    → list_all (are_links_above res) tree ≡ true → is_some (home res x) ≡ true
linked_home x m res [] any all = cc
linked_home x m res (p ∷ tree) any all =
    let parts = and_parts (are_links_above res p) (list_all (are_links_above res) tree) all in
    linked_at (below m p && links x p) x m res p tree refl any parts.0 (λ later. linked_home x m res tree later parts.1)

new_not_linked : (rows : List NodeRow) (m x : List ℕ) → IsValid rows → mem x (ids rows) ≡ false
    → is_linked_below (places rows) m x ≡ false
new_not_linked rows m x valid new =
    false_by (is_linked_below (places rows) m x) (λ linked'.
    let has = some_of (home (resource_places rows) x) (linked_home x m (resource_places rows) (places rows) linked' valid.resolved) in
    let found = held_some home_at (place_at (resource_places rows) x) has.0 has.1 in
    true≢false (sym (stands_among_ids rows x found.0 (place_of_resource rows x found.0 valid found.1)) ∙ new))

-- ---- one link more

abbrev with_link_at : List ℕ → Link → Place → Place
with_link_at n link p = cond (bytes_eq p.id n) (record p { thing = with_link link p.thing }) p

same_thing : (th : Thing) (link : Link) → is_node_thing th ≡ false → with_link link th ≡ th
same_thing (node kind job_part ls) link e = cc
same_thing (resource name class) link e = refl

kept_resource : (b : Bool) (link : Link) (p : Place) → is_node p ≡ false
    → cond b (record p { thing = with_link link p.thing }) p ≡ p
kept_resource true link p e = ap (λ th. record p { thing = th }) (same_thing p.thing link e)
kept_resource false link p e = refl

id_kept : (b : Bool) (link : Link) (p : Place)
    → (cond b (record p { thing = with_link link p.thing }) p).id ≡ p.id
id_kept true link p = refl
id_kept false link p = refl

path_kept : (b : Bool) (link : Link) (p : Place)
    → (cond b (record p { thing = with_link link p.thing }) p).path ≡ p.path
path_kept true link p = refl
path_kept false link p = refl

kind_kept : (th : Thing) (link : Link) → is_node_thing (with_link link th) ≡ is_node_thing th
kind_kept (node kind job_part ls) link = refl
kind_kept (resource name class) link = refl

node_kept : (b : Bool) (link : Link) (p : Place)
    → is_node (cond b (record p { thing = with_link link p.thing }) p) ≡ is_node p
node_kept true link p = kind_kept p.thing link
node_kept false link p = refl

mapped_at : (kept : Bool) (f' f : Place → Bool) (g : Place → Place) (p : Place) (xs ys : List Place)
    → f p ≡ kept → f' (g p) ≡ f p → (f p ≡ true → g p ≡ p) → xs ≡ ys
    → cond (f' (g p)) (g p ∷ xs) xs ≡ cond kept (p ∷ ys) ys
mapped_at true f' f g p xs ys e same still go = ap (λ c. cond c (g p ∷ xs) xs) (same ∙ e) ∙ ap (λ q. q ∷ xs) (still e) ∙ ap (λ zs. p ∷ zs) go
mapped_at false f' f g p xs ys e same still go = ap (λ c. cond c (g p ∷ xs) xs) (same ∙ e) ∙ go

-- a filter over places that change, each found by its id, where those that pass don't
filter_mapped : (f' f : Place → Bool) (g : Place → Place) (all tree : List Place) → AllOwn all tree
    → ((p : Place) → place_at all p.id ≡ Some p → f' (g p) ≡ f p)
    → ((p : Place) → place_at all p.id ≡ Some p → f p ≡ true → g p ≡ p)
    → filter f' (map g tree) ≡ filter f tree
filter_mapped f' f g all [] own same still = refl
filter_mapped f' f g all (p ∷ tree) own same still =
    mapped_at (f p) f' f g p (filter f' (map g tree)) (filter f tree) refl (same p own.0) (still p own.0) (filter_mapped f' f g all tree own.1 same still)

any_mapped : (f : Place → Bool) (g : Place → Place) (all tree : List Place) → AllOwn all tree
    → ((p : Place) → place_at all p.id ≡ Some p → f (g p) ≡ f p)
    → list_any f (map g tree) ≡ list_any f tree
any_mapped f g all [] own same = refl
any_mapped f g all (p ∷ tree) own same = ap (λ b. b || list_any f (map g tree)) (same p own.0) ∙ ap (λ b. f p || b) (any_mapped f g all tree own.1 same)

same_some : (p q : Place) → Some p ≡ Some q → p ≡ q
same_some p q e = ap (λ o. option_map_or (λ r. r) o p) e

-- the place of that id isn't below the node of the spawn, nor claimed by it
off_by : (rows : List NodeRow) (n : List ℕ) (r : SpawnRec) (f : Free rows n r) (p : Place)
    → place_at (places rows) p.id ≡ Some p → bytes_eq p.id n ≡ true
    → (below r.node p ≡ false) × (is_claimed r.node r.rw p ≡ false)
off_by rows n r f p own e =
    let same = same_some p f.place (sym own ∙ ap (place_at (places rows)) ((bytes_eq-Decides p.id n).0 e) ∙ f.there) in
    let away = ap (below r.node) same ∙ f.not_below in
    (away, or_from _ _ away (ap (λ i. mem i r.rw) ((bytes_eq-Decides p.id n).0 e) ∙ f.not_chosen))

still_at : (b : Bool) (f : Place → Bool) (link : Link) (p : Place) → (b ≡ true → f p ≡ false)
    → f p ≡ true → cond b (record p { thing = with_link link p.thing }) p ≡ p
still_at true f link p off e = absurd (true≢false (sym e ∙ off refl))
still_at false f link p off e = refl

links_at : (b : Bool) (m x : List ℕ) (link : Link) (p : Place) → (b ≡ true → below m p ≡ false)
    → (below m (cond b (record p { thing = with_link link p.thing }) p)
    && links x (cond b (record p { thing = with_link link p.thing }) p))
    ≡ (below m p && links x p)
links_at true m x link p off = ap (λ b. b && links x (record p { thing = with_link link p.thing })) (off refl) ∙ sym (ap (λ b. b && links x p) (off refl))
links_at false m x link p off = refl

claim_linked : (rows : List NodeRow) (n : List ℕ) (link : Link) (r : SpawnRec) → IsValid rows
    → Free rows n r
    → claim (map (with_link_at n link) (places rows)) r.node r.rw ≡ claim (places rows) r.node r.rw
claim_linked rows n link r valid f =
    let tree = places rows in
    let test = is_claimed r.node r.rw in
    filter_mapped test test (with_link_at n link) tree tree (all_own tree tree (λ y p found. found) (ids_apart rows valid))
    (λ p own. ap (λ path. mem r.node path || mem (with_link_at n link p).id r.rw) (path_kept (bytes_eq p.id n) link p) ∙ ap (λ i. below r.node p || mem i r.rw) (id_kept (bytes_eq p.id n) link p))
    (λ p own e. still_at (bytes_eq p.id n) test link p (λ here. (off_by rows n r f p own here).1) e)

outside_linked : (rows : List NodeRow) (n : List ℕ) (link : Link) (r : SpawnRec) → IsValid rows
    → Free rows n r
    → linked_outside (map (with_link_at n link) (places rows)) r.node
    ≡ linked_outside (places rows) r.node
outside_linked rows n link r valid f =
    let tree = places rows in
    let m = r.node in
    let g = with_link_at n link in
    let own = all_own tree tree (λ y p found. found) (ids_apart rows valid) in
    let linked_too : (x : List ℕ) → is_linked_below (map g tree) m x ≡ is_linked_below tree m x =
    λ x. any_mapped (λ p. below m p && links x p) g tree tree own (λ p there. links_at (bytes_eq p.id n) m x link p (λ here. (off_by rows n r f p there here).0)) in
    filter_mapped (is_linked_outside (map g tree) m) (is_linked_outside tree m) g tree tree own
    (λ p there. ap (λ b. (not b && not (below m (g p))) && is_linked_below (map g tree) m (g p).id) (node_kept (bytes_eq p.id n) link p)
    ∙ ap (λ path. (not (is_node p) && not (mem m path)) && is_linked_below (map g tree) m (g p).id) (path_kept (bytes_eq p.id n) link p)
    ∙ ap (λ i. (not (is_node p) && not (below m p)) && is_linked_below (map g tree) m i) (id_kept (bytes_eq p.id n) link p)
    ∙ ap (λ b. (not (is_node p) && not (below m p)) && b) (linked_too p.id))
    (λ p there e. kept_resource (bytes_eq p.id n) link p (not-true _ (and_parts (not (is_node p)) (not (below m p)) (and_parts (not (is_node p) && not (below m p)) (is_linked_below tree m p.id) e).0).0))

-- ---- each edit

-- the claim and what is linked outside, once places stand so
abbrev Keeps : List NodeRow → SpawnRec → List Place → Type 0
Keeps rows r later = (claim later r.node r.rw ≡ claim (places rows) r.node r.rw) × (linked_outside later r.node ≡ linked_outside (places rows) r.node)

keeps_node : (rows : List NodeRow) (n : List ℕ) (r : SpawnRec) (id kind job_part : List ℕ)
    → IsValid rows → IsGood rows r → Free rows n r → mem id (ids rows) ≡ false
    → Keeps rows r
    (behind_last (below n)
    (record { id = id; path = id ∷ path_at (places rows) n; thing = node kind job_part [] })
    (places rows))
keeps_node rows n r id kind job_part valid good f new =
    let place : Place = record { id = id; path = id ∷ path_at (places rows) n; thing = node kind job_part [] } in (
      filter_behind (below n) (is_claimed r.node r.rw) place (places rows) (or_from _ _ (or_from _ _ (new_not_node rows r id good new) f.off_path) (new_not_chosen rows r id valid good new)),
      outside_behind (below n) r.node place (places rows) (λ x. refl) refl,
    )

keeps_resource : (rows : List NodeRow) (n : List ℕ) (r : SpawnRec) (x : Resource) → IsValid rows
    → IsGood rows r → Free rows n r → mem x.id (ids rows) ≡ false
    → Keeps rows r
    (behind_last (is_at n) (resource_place (path_at (places rows) n) x) (places rows))
keeps_resource rows n r x valid good f new =
    let place = resource_place (path_at (places rows) n) x in (
      filter_behind (is_at n) (is_claimed r.node r.rw) place (places rows) (or_from _ _ f.off_path (new_not_chosen rows r x.id valid good new)),
      outside_behind (is_at n) r.node place (places rows) (λ y. refl) (ap (λ b. (true && not (mem r.node (path_at (places rows) n))) && b) (new_not_linked rows r.node x.id valid new) ∙ and_none (true && not (mem r.node (path_at (places rows) n)))),
    )

keeps_addition : (rows : List NodeRow) (n : List ℕ) (r : SpawnRec) (addition : Addition)
    → IsValid rows → IsGood rows r → Free rows n r
    → act_refusal (NodeAddition n addition) (lookups rows) ≡ None
    → Keeps rows r (act_places (NodeAddition n addition) (places rows))
keeps_addition rows n r (NewNode new) valid good f free = keeps_node rows n r new.id new.kind new.job_part valid good f (child_new n new (lookups rows) free).2
keeps_addition rows n r (NewResource x) valid good f free = keeps_resource rows n r x valid good f (resource_new n x (lookups rows) free)
keeps_addition rows n r (NewLink link) valid good f free = (claim_linked rows n link r valid f, outside_linked rows n link r valid f)

keeps_act : (rows : List NodeRow) (recs : List SpawnRec) (a : Act) → IsValid rows
    → act_refusal a (lookups rows) ≡ None → holder_of rows recs (act_target a) ≡ Some Master
    → (k : ℕ) (r : SpawnRec) → slice_get recs k ≡ Some r → is_out r ≡ true → IsGood rows r
    → Keeps rows r (act_places a (places rows))
keeps_act rows recs (NodeAddition n addition) valid free held k r at out good =
    keeps_addition rows n r addition valid good (free_of rows recs n k r valid (target_known (NodeAddition n addition) (lookups rows) free) held at out) free
keeps_act rows recs a valid free held k r at out good = (refl, refl)

pub edit_keeps_claims : EditKeepsClaims
edit_keeps_claims rows recs e time valid free held k r at out good = subst (Keeps rows r) (sym (edit_of_places e time rows valid free)) (keeps_act rows recs (act_of e) valid free held k r at out good)
