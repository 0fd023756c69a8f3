-- The copies of a good record are just the resources that are linked from below its node and stand
-- outside.
use Rattle.std.proofs.Common.{◌≡◌, ◌∙◌, ℕ, ◌&&◌, ◌||◌, Bool, true, false, not, List, [], ◌∷◌, ◌++◌}
use Rattle.std.proofs.Common.{map, Option, Some, None, is_some, refl, sym, ap}
use Rattle.std.proofs.lemmas.Bool.{true≢false, and_parts, and_from, not-true, not_from_false}
use Rattle.std.proofs.lemmas.List.{map-append}
use Rattle.std.specs.Option.{option_and_then}
use Rattle.ticket_tree.proofs.OnPlaces.{pool_ids, stands_node}
use Rattle.ticket_rows.proofs.ResourcePlaces.{resources_from, resource_places-rows, home_is}
use Rattle.ticket_rows.specs.Homes.{homes, home_of}
use Rattle.ticket_items.specs.Ids.{mem, are_distinct}
use Rattle.ticket_items.specs.Resource.{resource_ids}
use Rattle.ticket_tree.specs.Part.{is_linked}
use Rattle.ticket_rows.specs.Place.{Place, places, resource_places, resource_place, node_places}
use Rattle.ticket_rows.specs.Place.{below, home_at, is_node, named_thing, parent, path_of, place_at}
use Rattle.ticket_rows.specs.Place.{named_thing_at}
use Rattle.ticket_rows.specs.Ticket.{IsValid, ids, has_node}
use Rattle.ticket_items.specs.declared.node_row.NodeRow.{NodeRow}
use Rattle.ticket_items.specs.declared.resource.Resource.{Resource}
use Rattle.spawn.proofs.Among.{distinct_kept, kept_keys}
use Rattle.spawn.proofs.HomesBelow.{linked_below}
use Rattle.spawn.proofs.Outside.{found_stands, kept_found, found_kept, kept_passes, all_found}
use Rattle.spawn.proofs.Outside.{outside, inside}
use Rattle.spawn.proofs.PartValid.{AreCopies}
use Rattle.spawn.proofs.Split.{Around}
use Rattle.spawn.proofs.Standing.{held_some, ids_apart, named, place_of_resource}
use Rattle.plain_shop.specs.Claim.{ids_of, is_linked_below, is_linked_outside, linked_outside, linked_ro}
use Rattle.spawn.specs.Parts.{resources, resources_among}
use Rattle.spawn.specs.Records.{IsGood}
use Rattle.spawn.specs.declared.records.spawn_rec.SpawnRec.{SpawnRec}

-- ---- ids of resources

pool_of : (h : List ℕ) (pool : List Resource) (rest : List (Resource × List ℕ))
    → resource_ids (map (λ e. e.0) (map (λ (x : Resource). (x, h)) pool ++ rest))
    ≡ resource_ids pool ++ resource_ids (map (λ e. e.0) rest)
pool_of h [] rest = refl
pool_of h (x ∷ pool) rest = ap (λ is. x.id ∷ is) (pool_of h pool rest)

ids_from : (before : List (List ℕ)) (rows : List NodeRow)
    → resource_ids (resources rows) ≡ ids_of (resources_from before rows)
ids_from before [] = refl
ids_from before (r ∷ rows) =
    pool_of r.id r.resources (homes rows)
    ∙ ap (λ is. resource_ids r.resources ++ is) (ids_from (path_of before r) rows)
    ∙ ap (λ is. is ++ ids_of (resources_from (path_of before r) rows)) (sym (pool_ids (path_of before r) r.resources))
    ∙ sym (map-append (λ p. p.id) (map (resource_place (path_of before r)) r.resources) (resources_from (path_of before r) rows))

pub ids_of_resources : (rows : List NodeRow)
    → resource_ids (resources rows) ≡ ids_of (resource_places rows)
ids_of_resources rows = ids_from [] rows ∙ ap ids_of (sym (resource_places-rows rows))

pub resources_apart : (rows : List NodeRow) → IsValid rows
    → are_distinct (resource_ids (resources rows)) ≡ true
resources_apart rows valid = ap are_distinct (ids_of_resources rows) ∙ distinct_kept (λ p. p.id) (λ p. not (is_node p)) (places rows) (ids_apart rows valid)

-- ---- the copies

pub changes_ids : (rows : List NodeRow) (rw : List (List ℕ)) (x : List ℕ)
    → mem x (resource_ids (resources_among rw rows))
    ≡ (mem x rw && mem x (resource_ids (resources rows)))
changes_ids rows rw x = kept_keys (λ y. y.id) (λ i. mem i rw) (resources rows) x

pub first_of_fixed : (pool : List Resource) → map (λ f. f.0) (map named_thing pool) ≡ resource_ids pool
first_of_fixed [] = refl
first_of_fixed (x ∷ pool) = ap (λ is. x.id ∷ is) (first_of_fixed pool)

pub first_of_places : (tree : List Place) → map (λ f. f.0) (map named_thing_at tree) ≡ ids_of tree
first_of_places [] = refl
first_of_places (p ∷ tree) = ap (λ is. p.id ∷ is) (first_of_places tree)

fixed_ids : (pool : List Resource) (tree : List Place) → map named_thing pool ≡ map named_thing_at tree
    → resource_ids pool ≡ ids_of tree
fixed_ids pool tree e = sym (first_of_fixed pool) ∙ ap (map (λ f. f.0)) e ∙ first_of_places tree

pub reads_ids : (rows : List NodeRow) (r : SpawnRec) → IsGood rows r
    → resource_ids r.ro ≡ ids_of (linked_ro (places rows) r.node r.rw)
reads_ids rows r good = fixed_ids r.ro (linked_ro (places rows) r.node r.rw) good.ro

pub in_rw : (rows : List NodeRow) (r : SpawnRec) (x : List ℕ) → IsGood rows r → mem x r.rw ≡ true
    → mem x (ids_of (linked_outside (places rows) r.node)) ≡ true
in_rw rows r x good there =
    (and_parts (mem x r.rw) _ (sym (kept_keys (λ p. p.id) (λ i. mem i r.rw) (linked_outside (places rows) r.node) x) ∙ sym (ap (mem x) good.rw) ∙ there)).1

out_by : (b : Bool) (rows : List NodeRow) (n x : List ℕ) (p : Place) → IsValid rows
    → (at : Around rows n) → mem x (ids (at.root ∷ at.inner)) ≡ b
    → place_at (places rows) x ≡ Some p → below n p ≡ false → b ≡ false
out_by false rows n x p valid at e found away = refl
out_by true rows n x p valid at e found away = absurd (true≢false (sym (inside rows n x p valid at e found) ∙ away))

-- what is linked outside isn't below the node
pub linked_is_outside : (rows : List NodeRow) (n x : List ℕ) → IsValid rows → (at : Around rows n)
    → mem x (ids_of (linked_outside (places rows) n)) ≡ true
    → mem x (ids (at.root ∷ at.inner)) ≡ false
linked_is_outside rows n x valid at there =
    let found = kept_found (is_linked_outside (places rows) n) (places rows) x (ids_apart rows valid) there in
    let not_below = not-true _ (and_parts (not (is_node found.0)) (not (below n found.0)) (and_parts (not (is_node found.0) && not (below n found.0)) (is_linked_below (places rows) n found.0.id) found.2).0).1 in
    out_by (mem x (ids (at.root ∷ at.inner))) rows n x found.0 valid at refl found.1 not_below

-- a resource that is linked from below the node and isn't there is linked outside
pub outside_is_linked : (rows : List NodeRow) (n x h : List ℕ) → IsValid rows → (at : Around rows n)
    → is_linked (at.root ∷ at.inner) x ≡ true → home_of rows x ≡ Some h
    → mem x (ids (at.root ∷ at.inner)) ≡ false
    → mem x (ids_of (linked_outside (places rows) n)) ≡ true
outside_is_linked rows n x h valid at linked home out =
    let found = held_some home_at (place_at (resource_places rows) x) h (home_is rows x ∙ home) in
    let there = place_of_resource rows x found.0 valid found.1 in
    let resource = all_found (λ p. not (is_node p)) (resource_places rows) x found.0 (kept_passes (λ p. not (is_node p)) (places rows)) found.1 in
    let away = not_from_false _ (outside rows n x found.0 at out there) in
    let links = ap (is_linked_below (places rows) n) (named (places rows) x found.0 there) ∙ linked_below rows n x at linked in
    found_kept (is_linked_outside (places rows) n) (places rows) x found.0 there (and_from _ _ (and_from _ _ resource away) links)

stands_as_resource : (rows : List NodeRow) (x h : List ℕ) → home_of rows x ≡ Some h
    → mem x (resource_ids (resources rows)) ≡ true
stands_as_resource rows x h home =
    let found = held_some home_at (place_at (resource_places rows) x) h (home_is rows x ∙ home) in
    ap (mem x) (ids_of_resources rows) ∙ found_stands (resource_places rows) x found.0 found.1

one_of : (b : Bool) → ((b && true) || (not b && true)) ≡ true
one_of true = refl
one_of false = refl

pub good_copies : (rows : List NodeRow) (r : SpawnRec) → IsValid rows → IsGood rows r
    → (at : Around rows r.node) → AreCopies rows r.node at (resources_among r.rw rows) r.ro
good_copies rows r valid good at =
    let tree = places rows in
    let n = r.node in
    let linked = linked_outside tree n in
    let reads = reads_ids rows r good in
    let linked_apart = distinct_kept (λ p. p.id) (is_linked_outside tree n) tree (ids_apart rows valid) in
    let chosen : (x : List ℕ) → mem x (resource_ids (resources_among r.rw rows)) ≡ true → mem x r.rw ≡ true = λ x there. (and_parts (mem x r.rw) _ (sym (changes_ids rows r.rw x) ∙ there)).0 in
    let others : (x : List ℕ) → mem x (resource_ids r.ro) ≡ (not (mem x r.rw) && mem x (ids_of linked)) = λ x. ap (mem x) reads ∙ kept_keys (λ p. p.id) (λ i. not (mem i r.rw)) linked x in
    record {
      distinct_changes = distinct_kept (λ y. y.id) (λ y. mem y.id r.rw) (resources rows) (resources_apart rows valid);
      distinct_reads = ap are_distinct reads ∙ distinct_kept (λ p. p.id) (λ p. not (mem p.id r.rw)) linked linked_apart;
      apart = λ x there. others x ∙ ap (λ b. not b && mem x (ids_of linked)) (chosen x there);
      changes_outside = λ x there. linked_is_outside rows n x valid at (in_rw rows r x good (chosen x there));
      reads_outside = λ x there. linked_is_outside rows n x valid at (and_parts (not (mem x r.rw)) _ (sym (others x) ∙ there)).1;
      all_linked = λ x h below_n home out.
          ap (λ b. b || mem x (resource_ids r.ro)) (changes_ids rows r.rw x ∙ ap (λ b. mem x r.rw && b) (stands_as_resource rows x h home))
          ∙ ap (λ b. (mem x r.rw && true) || b) (others x ∙ ap (λ b. not (mem x r.rw) && b) (outside_is_linked rows n x h valid at below_n home out))
          ∙ one_of (mem x r.rw);
    }

stood : (o : Option Place) → is_some (option_and_then parent o) ≡ true → is_some o ≡ true
stood None h = cc
stood (Some p) h = refl

-- the node of a good record stands in the ticket
pub good_node : (rows : List NodeRow) (r : SpawnRec) → IsGood rows r → has_node rows r.node ≡ true
good_node rows r good = sym (stands_node rows r.node) ∙ stood (place_at (node_places rows) r.node) good.has_parent
