-- A record that stands in a ticket goes on to stand there, as nothing moves and as the ticket grows; and one that is good stands.
use Rattle.std.proofs.Common.{◌≡◌, ◌∙◌, ℕ, ◌&&◌, ◌||◌, Bool, true, false, not, cond, List, [], ◌∷◌, map, Option, Some, None, is_some, slice_get, refl, sym, ap}
use Rattle.std.proofs.lemmas.Bool.{true≢false, and_from, and_parts, not-true, or_left, or_right}
use Rattle.std.proofs.lemmas.List.Folds.{list_all-map}
use Rattle.std.specs.List.{filter, list_all, list_any}
use Rattle.std.specs.Option.{option_and_then, option_map, option_map_or}
use Rattle.std.specs.Str.{bytes_eq}
use Rattle.ticket_items.proofs.Apart.{bytes_eq-same}
use Rattle.ticket_items.specs.Ids.{mem}
use Rattle.ticket_items.specs.declared.edit.Edit.{Edit}
use Rattle.ticket_items.specs.Act.{Act, NodeAddition, NewNode, NewResource, NewLink, act_of}
use Rattle.ticket_items.specs.declared.link.Link.{Link}
use Rattle.ticket_items.specs.declared.node_row.NodeRow.{NodeRow}
use Rattle.ticket_items.specs.declared.resource.Resource.{Resource}
use Rattle.ticket_rows.proofs.Below.{mem-node_ids}
use Rattle.ticket_rows.specs.Edit.{behind_last, edited_rows, refusal_of}
use Rattle.ticket_rows.specs.Homes.{has_resource}
use Rattle.ticket_rows.specs.Place.{Place, Thing, below, is_node, named_thing, named_thing_at, node_places, nodes_in, parent, place_at, places, up}
use Rattle.ticket_rows.specs.Ticket.{IsValid, has_node, ids}
use Rattle.ticket_tree.proofs.OnPlaces.{stands_node, stands_resource}
use Rattle.ticket_tree.proofs.PlainEdits.{edit_of_places}
use Rattle.ticket_tree.specs.PlainEdit.{act_places, plain_places, with_link}
use Rattle.spawn.proofs.SoundPart.{node_among_ids}
use Rattle.plain_shop.specs.Claim.{is_linked_below, is_linked_outside, linked_outside, linked_ro, linked_rw}
use Rattle.spawn.specs.Records.{IsGood}
use Rattle.spawn.specs.Stored.{stands_in}
use Rattle.spawn.specs.declared.records.spawn_rec.SpawnRec.{SpawnRec}
use Rattle.spawn.proofs.Tests.{all_as}
use Rattle.master_core.proofs.EditedParts.{Told, edit_told, none_added, told, kind_linked, linked}

-- ---- by places

-- whether a resource stands at a place
abbrev has : List Place → List ℕ → Bool
has tree x = list_any (λ p. not (is_node p) && bytes_eq p.id x) tree

-- whether a record's node stands below another, and its copies are of resources
abbrev stands_among : List Place → SpawnRec → Bool
stands_among tree r =
    is_some (up (nodes_in tree) r.node) && list_all (has tree) r.rw && list_all (λ x. has tree x.id) r.ro

found_at : (kept here : Bool) (g : Place → Bool) (p : Place) (tree : List Place) (x : List ℕ) → bytes_eq p.id x ≡ here → is_some (place_at (filter g tree) x) ≡ list_any (λ q. g q && bytes_eq q.id x) tree
    → is_some (place_at (cond kept (p ∷ filter g tree) (filter g tree)) x) ≡ ((kept && here) || list_any (λ q. g q && bytes_eq q.id x) tree)
found_at true true g p tree x e later = ap (λ b. is_some (cond b (Some p) (place_at (filter g tree) x))) e
found_at true false g p tree x e later = ap (λ b. is_some (cond b (Some p) (place_at (filter g tree) x))) e ∙ later
found_at false here g p tree x e later = later

found_any : (g : Place → Bool) (tree : List Place) (x : List ℕ) → is_some (place_at (filter g tree) x) ≡ list_any (λ p. g p && bytes_eq p.id x) tree
found_any g [] x = refl
found_any g (p ∷ tree) x = found_at (g p) (bytes_eq p.id x) g p tree x refl (found_any g tree x)

-- a resource stands at a place
has_is : (rows : List NodeRow) (x : List ℕ) → has (places rows) x ≡ has_resource rows x
has_is rows x = sym (found_any (λ p. not (is_node p)) (places rows) x) ∙ stands_resource rows x

among_is : (rows : List NodeRow) (r : SpawnRec) → stands_among (places rows) r ≡ stands_in rows r
among_is rows r =
    ap (λ b. (is_some (up (node_places rows) r.node) && b) && list_all (λ (x : Resource). has (places rows) x.id) r.ro) (all_as (has (places rows)) (has_resource rows) (has_is rows) r.rw)
    ∙ ap (λ b. (is_some (up (node_places rows) r.node) && list_all (has_resource rows) r.rw) && b) (all_as (λ (x : Resource). has (places rows) x.id) (λ (x : Resource). has_resource rows x.id) (λ x. has_is rows x.id) r.ro)

-- ---- where nothing moves

pub still_stands : (rows later : List NodeRow) (r : SpawnRec) → places later ≡ places rows → stands_in rows r ≡ true → stands_in later r ≡ true
still_stands rows later r same stood = sym (among_is later r) ∙ ap (λ tree. stands_among tree r) same ∙ among_is rows r ∙ stood

-- ---- where the ticket grows

any_behind_at : (b : Bool) (f : Place → Bool) (q new : Place) (tree rest : List Place) → (list_any f tree ≡ true → list_any f rest ≡ true) → (f q || list_any f tree) ≡ true → list_any f (cond b (q ∷ new ∷ tree) (q ∷ rest)) ≡ true
any_behind_at b f q new tree rest go any = by (f q) b refl any
  where
    by : (own c : Bool) → f q ≡ own → (own || list_any f tree) ≡ true → list_any f (cond c (q ∷ new ∷ tree) (q ∷ rest)) ≡ true
    by true true e some = or_left (f q) (f new || list_any f tree) e
    by true false e some = or_left (f q) (list_any f rest) e
    by false true e some = or_right (f q) (f new || list_any f tree) (or_right (f new) (list_any f tree) some)
    by false false e some = or_right (f q) (list_any f rest) (go some)

any_behind : (p f : Place → Bool) (new : Place) (tree : List Place) → list_any f tree ≡ true → list_any f (behind_last p new tree) ≡ true
any_behind p f new [] any = absurd (true≢false (sym any))
any_behind p f new (q ∷ tree) any = any_behind_at (p q && not (list_any p tree)) f q new tree (behind_last p new tree) (any_behind p f new tree) any

same_linked : (b : Bool) (link : Link) (p : Place) (x : List ℕ) → (not (is_node (cond b (record p { thing = with_link link p.thing }) p)) && bytes_eq (cond b (record p { thing = with_link link p.thing }) p).id x) ≡ (not (is_node p) && bytes_eq p.id x)
same_linked true link p x = ap (λ k. not k && bytes_eq p.id x) (kind_linked p.thing link)
same_linked false link p x = refl

has_linked : (n : List ℕ) (link : Link) (tree : List Place) (x : List ℕ) → has (map (linked n link) tree) x ≡ has tree x
has_linked n link [] x = refl
has_linked n link (p ∷ tree) x = ap (λ b. b || has (map (linked n link) tree) x) (same_linked (bytes_eq p.id n) link p x) ∙ ap (λ b. (not (is_node p) && bytes_eq p.id x) || b) (has_linked n link tree x)

-- each resource still stands after an act
has_still : (a : Act) (tree : List Place) (x : List ℕ) → has tree x ≡ true → has (act_places a tree) x ≡ true
has_still (NodeAddition n (NewNode new)) tree x there = any_behind _ (λ p. not (is_node p) && bytes_eq p.id x) _ tree there
has_still (NodeAddition n (NewResource y)) tree x there = any_behind _ (λ p. not (is_node p) && bytes_eq p.id x) _ tree there
has_still (NodeAddition n (NewLink link)) tree x there = has_linked n link tree x ∙ there
has_still a tree x there = there

-- whether what stands at a place has a parent, by its path
has_parent_told : (o : Option Place) → is_some (option_and_then parent o) ≡ option_map_or (λ (t : Told). is_some (slice_get t.0 1)) (option_map told o) false
has_parent_told None = refl
has_parent_told (Some p) = refl

known_above : (o : Option Place) → is_some (option_and_then parent o) ≡ true → is_some o ≡ true
known_above None e = e
known_above (Some p) e = refl

-- and each node that stood below another does
edit_up : (rows : List NodeRow) (e : Edit) (n : List ℕ) → refusal_of e rows ≡ None → is_some (up (node_places rows) n) ≡ true → is_some (up (nodes_in (plain_places e (places rows))) n) ≡ true
edit_up rows e n free above =
    let tree = places rows in
    let known : has_node rows n ≡ true = sym (stands_node rows n) ∙ known_above (place_at (nodes_in tree) n) above in
    let there : mem n (ids rows) ≡ true = node_among_ids n rows (mem-node_ids rows n ∙ known) in
    has_parent_told (place_at (nodes_in (plain_places e tree)) n)
    ∙ ap (λ o. option_map_or (λ (t : Told). is_some (slice_get t.0 1)) o false) (edit_told (act_of e) n tree (none_added e rows n free there))
    ∙ sym (has_parent_told (place_at (nodes_in tree) n)) ∙ above

all_grow : {X : Type 0} (f g : X → Bool) (xs : List X) → ((x : X) → f x ≡ true → g x ≡ true) → list_all f xs ≡ true → list_all g xs ≡ true
all_grow f g [] grow all = refl
all_grow f g (x ∷ xs) grow all =
    let parts = and_parts (f x) (list_all f xs) all in
    and_from (g x) (list_all g xs) (grow x parts.0) (all_grow f g xs grow parts.1)

pub edit_stands : (rows : List NodeRow) (e : Edit) (at : ℕ) (r : SpawnRec) → IsValid rows → refusal_of e rows ≡ None → stands_in rows r ≡ true → stands_in (edited_rows e at rows) r ≡ true
edit_stands rows e at r valid free stood =
    let tree = places rows in
    let later = plain_places e tree in
    let parts = and_parts (is_some (up (nodes_in tree) r.node) && list_all (has tree) r.rw) (list_all (λ (x : Resource). has tree x.id) r.ro) (among_is rows r ∙ stood) in
    let first = and_parts (is_some (up (nodes_in tree) r.node)) (list_all (has tree) r.rw) parts.0 in
    sym (among_is (edited_rows e at rows) r) ∙ ap (λ ps. stands_among ps r) (edit_of_places e at rows valid free)
    ∙ and_from (is_some (up (nodes_in later) r.node) && list_all (has later) r.rw) (list_all (λ (x : Resource). has later x.id) r.ro)
    (and_from (is_some (up (nodes_in later) r.node)) (list_all (has later) r.rw) (edit_up rows e r.node free first.0) (all_grow (has tree) (has later) r.rw (has_still (act_of e) tree) first.1))
    (all_grow (λ (x : Resource). has tree x.id) (λ (x : Resource). has later x.id) r.ro (λ x. has_still (act_of e) tree x.id) parts.1)

-- ---- a good record

-- each of those that pass a test that no node does has its resource
all_has_at : (kept : Bool) (g : Place → Bool) (all : List Place) (p : Place) (tree : List Place) → g p ≡ kept → ((q : Place) → g q ≡ true → is_node q ≡ false) → ((x : List ℕ) → has (p ∷ tree) x ≡ true → has all x ≡ true)
    → list_all (λ q. has all q.id) (filter g tree) ≡ true → list_all (λ q. has all q.id) (cond kept (p ∷ filter g tree) (filter g tree)) ≡ true
all_has_at true g all p tree e plain more rest =
    let own : (not (is_node p) && bytes_eq p.id p.id) ≡ true = and_from (not (is_node p)) (bytes_eq p.id p.id) (ap not (plain p e)) (bytes_eq-same p.id) in
    and_from (has all p.id) (list_all (λ q. has all q.id) (filter g tree)) (more p.id (or_left (not (is_node p) && bytes_eq p.id p.id) (has tree p.id) own)) rest
all_has_at false g all p tree e plain more rest = rest

all_has : (g : Place → Bool) (all tree : List Place) → ((q : Place) → g q ≡ true → is_node q ≡ false) → ((x : List ℕ) → has tree x ≡ true → has all x ≡ true) → list_all (λ q. has all q.id) (filter g tree) ≡ true
all_has g all [] plain more = refl
all_has g all (p ∷ tree) plain more =
    all_has_at (g p) g all p tree refl plain more (all_has g all tree plain (λ x there. more x (or_right (not (is_node p) && bytes_eq p.id x) (has tree x) there)))

all_kept_at : (kept : Bool) (f g : Place → Bool) (p : Place) (tree : List Place) → f p ≡ true → list_all f (filter g tree) ≡ true → list_all f (cond kept (p ∷ filter g tree) (filter g tree)) ≡ true
all_kept_at true f g p tree own rest = and_from (f p) (list_all f (filter g tree)) own rest
all_kept_at false f g p tree own rest = rest

all_kept : (f g : Place → Bool) (tree : List Place) → list_all f tree ≡ true → list_all f (filter g tree) ≡ true
all_kept f g [] all = refl
all_kept f g (p ∷ tree) all =
    let parts = and_parts (f p) (list_all f tree) all in
    all_kept_at (g p) f g p tree parts.0 (all_kept f g tree parts.1)

outside_plain : (tree : List Place) (n : List ℕ) (p : Place) → is_linked_outside tree n p ≡ true → is_node p ≡ false
outside_plain tree n p e =
    let parts = and_parts (not (is_node p) && not (below n p)) (is_linked_below tree n p.id) e in
    not-true (is_node p) (and_parts (not (is_node p)) (not (below n p)) parts.0).0

outside_has : (tree : List Place) (n : List ℕ) → list_all (λ p. has tree p.id) (linked_outside tree n) ≡ true
outside_has tree n = all_has (is_linked_outside tree n) tree tree (outside_plain tree n) (λ x there. there)

pub good_stands : (rows : List NodeRow) (r : SpawnRec) → IsGood rows r → stands_in rows r ≡ true
good_stands rows r good =
    let tree = places rows in
    let changes = linked_rw tree r.node r.rw in
    let reads = linked_ro tree r.node r.rw in
    let changed : list_all (has tree) r.rw ≡ true = ap (list_all (has tree)) good.rw ∙ list_all-map (has tree) (λ (p : Place). p.id) changes ∙ all_kept (λ p. has tree p.id) (λ p. mem p.id r.rw) (linked_outside tree r.node) (outside_has tree r.node) in
    let test : List ℕ × Thing → Bool = λ t. has tree t.0 in
    let read : list_all (λ (x : Resource). has tree x.id) r.ro ≡ true =
    sym (list_all-map test named_thing r.ro) ∙ ap (list_all test) good.ro ∙ list_all-map test named_thing_at reads ∙ all_kept (λ p. has tree p.id) (λ p. not (mem p.id r.rw)) (linked_outside tree r.node) (outside_has tree r.node) in
    sym (among_is rows r)
    ∙ and_from (is_some (up (nodes_in tree) r.node) && list_all (has tree) r.rw) (list_all (λ (x : Resource). has tree x.id) r.ro) (and_from (is_some (up (nodes_in tree) r.node)) (list_all (has tree) r.rw) good.has_parent changed) read
