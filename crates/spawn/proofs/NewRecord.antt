-- The record of a new spawn: what its copies are, that it is good, and that it stays so while
-- nothing moves.
use Rattle.std.proofs.Common.{◌≡◌, ◌∙◌, ℕ, ◌&&◌, ◌||◌, Bool, true, false, not, List, []}
use Rattle.std.proofs.Common.{◌∷◌, ◌++◌, map, is_some, refl, sym, ap}
use Rattle.std.proofs.lemmas.Bool.{and_from}
use Rattle.std.proofs.lemmas.List.{map-append}
use Rattle.std.specs.List.{filter, list_all}
use Rattle.std.specs.Str.{bytes_eq}
use Rattle.ticket_items.proofs.Apart.{bytes_eq-same}
use Rattle.ticket_items.specs.Ids.{mem}
use Rattle.ticket_items.specs.Resource.{resource_ids}
use Rattle.ticket_tree.specs.Part.{is_linked}
use Rattle.ticket_rows.specs.Place.{named_thing, node_places, nodes_in, places, up}
use Rattle.ticket_rows.specs.Place.{named_thing_at}
use Rattle.ticket_rows.specs.Ticket.{IsValid, has_node}
use Rattle.ticket_items.specs.declared.node_row.NodeRow.{NodeRow}
use Rattle.ticket_items.specs.declared.resource.Resource.{Resource}
use Rattle.spawn.proofs.Among.{kept_keys}
use Rattle.spawn.proofs.Chosen.{all_too, around_kept, kept_fixed, kept_ids, linked_and, same_where}
use Rattle.spawn.proofs.Chosen.{wanted}
use Rattle.spawn.proofs.HomesBelow.{or_right}
use Rattle.spawn.proofs.AroundAt.{shows}
use Rattle.spawn.proofs.Split.{Around, around}
use Rattle.ticket_tree.specs.At.{IsAt}
use Rattle.plain_shop.specs.Claim.{ids_of, linked_outside, linked_rw, linked_ro}
use Rattle.spawn.specs.Parts.{resources, resources_among}
use Rattle.spawn.specs.Records.{IsGood}
use Rattle.spawn.specs.Spawning.{new_record}
use Rattle.ticket_tree.specs.declared.at.At.{At}
use Rattle.spawn.specs.declared.records.phase.Phase.TheVariants.{Out}
use Rattle.spawn.specs.declared.records.spawn_rec.SpawnRec.{SpawnRec}

-- ---- ids among ids

mem_all : {X : Type 0} (key : X → List ℕ) (xs : List X)
    → list_all (λ x. mem (key x) (map key xs)) xs ≡ true
mem_all key [] = refl
mem_all key (y ∷ xs) =
    and_from _ _ (ap (λ b. b || mem (key y) (map key xs)) (bytes_eq-same (key y))) (all_too (λ x. mem (key x) (map key xs)) (λ x. mem (key x) (key y ∷ map key xs)) xs (λ x there. or_right (bytes_eq (key y) (key x)) _ there) (mem_all key xs))

and_true : (b : Bool) → (b && true) ≡ b
and_true true = refl
and_true false = refl

kept_there : {X : Type 0} (key : X → List ℕ) (p : List ℕ → Bool) (xs : List X) (x : X)
    → mem (key x) (map key xs) ≡ true
    → mem (key x) (map key (filter (λ y. p (key y)) xs)) ≡ p (key x)
kept_there key p xs x there = kept_keys key p xs (key x) ∙ ap (λ b. p (key x) && b) there ∙ and_true (p (key x))

-- those whose keys are among the keys of those that pass are those that pass
pub refilter : {X : Type 0} (key : X → List ℕ) (p : List ℕ → Bool) (xs : List X)
    → filter (λ x. mem (key x) (map key (filter (λ y. p (key y)) xs))) xs
    ≡ filter (λ x. p (key x)) xs
refilter key p xs =
    same_where (λ x. mem (key x) (map key xs)) (λ x. mem (key x) (map key (filter (λ y. p (key y)) xs))) (λ x. p (key x)) xs (mem_all key xs) (λ x there. kept_there key p xs x there)

pub refilter_others : {X : Type 0} (key : X → List ℕ) (p : List ℕ → Bool) (xs : List X)
    → filter (λ x. not (mem (key x) (map key (filter (λ y. p (key y)) xs)))) xs
    ≡ filter (λ x. not (p (key x))) xs
refilter_others key p xs =
    same_where (λ x. mem (key x) (map key xs)) (λ x. not (mem (key x) (map key (filter (λ y. p (key y)) xs)))) (λ x. not (p (key x))) xs (mem_all key xs) (λ x there. ap not (kept_there key p xs x there))

-- ---- the copies of a new spawn

-- the copies to read are the resources linked outside that aren't to be changed
pub reads_are : (rows : List NodeRow) (n : List ℕ) (ids : List (List ℕ)) → IsValid rows
    → (at : Around rows n)
    → resources_among (ids_of (linked_ro (places rows) n ids)) rows
    ≡ filter (λ x. wanted at x.id && not (mem x.id ids)) (resources rows)
reads_are rows n ids valid at =
    let p : List ℕ → Bool = λ x. wanted at x && not (mem x ids) in
    ap (λ is. resources_among is rows) (ap ids_of (linked_and rows n (λ x. not (mem x ids)) valid at) ∙ kept_ids p rows) ∙ refilter (λ x. x.id) p (resources rows)

pub changes_are : (rows : List NodeRow) (n : List ℕ) (ids : List (List ℕ)) → IsValid rows
    → (at : Around rows n)
    → ids_of (linked_rw (places rows) n ids)
    ≡ resource_ids (filter (λ x. wanted at x.id && mem x.id ids) (resources rows))
changes_are rows n ids valid at = ap ids_of (linked_and rows n (λ x. mem x ids) valid at) ∙ kept_ids (λ x. wanted at x && mem x ids) rows

-- those that pass in front of n and behind it
both_sides : (rows : List NodeRow) (n : List ℕ) (a : At) (q : List ℕ → Bool) → IsValid rows
    → IsAt rows n a → (at : Around rows n)
    → filter (λ x. is_linked a.below x.id && q x.id) (resources a.front)
    ++ filter (λ x. is_linked a.below x.id && q x.id) (resources a.behind)
    ≡ filter (λ x. wanted at x.id && q x.id) (resources rows)
both_sides rows n a q valid here at =
    let seen = shows rows n a valid here at in
    ap (λ rs. filter (λ x. is_linked rs x.id && q x.id) (resources a.front) ++ filter (λ x. is_linked rs x.id && q x.id) (resources a.behind)) seen.below
    ∙ ap (λ rs. filter (λ x. is_linked (at.root ∷ at.inner) x.id && q x.id) (resources rs) ++ filter (λ x. is_linked (at.root ∷ at.inner) x.id && q x.id) (resources a.behind)) seen.front
    ∙ ap (λ rs. filter (λ x. is_linked (at.root ∷ at.inner) x.id && q x.id) (resources at.front) ++ filter (λ x. is_linked (at.root ∷ at.inner) x.id && q x.id) (resources rs)) seen.behind
    ∙ sym (around_kept rows n q valid at)

pub new_changes : (rows : List NodeRow) (n : List ℕ) (a : At) (ids : List (List ℕ)) → IsValid rows
    → has_node rows n ≡ true → IsAt rows n a
    → resource_ids
    (filter (λ x. is_linked a.below x.id && mem x.id ids) (resources a.front))
    ++ resource_ids
    (filter (λ x. is_linked a.below x.id && mem x.id ids) (resources a.behind))
    ≡ ids_of (linked_rw (places rows) n ids)
new_changes rows n a ids valid known here =
    let at = around rows n valid known in
    let test : Resource → Bool = λ x. is_linked a.below x.id && mem x.id ids in
    sym (map-append (λ x. x.id) (filter test (resources a.front)) (filter test (resources a.behind))) ∙ ap resource_ids (both_sides rows n a (λ x. mem x ids) valid here at) ∙ sym (changes_are rows n ids valid at)

pub new_reads : (rows : List NodeRow) (n : List ℕ) (a : At) (ids : List (List ℕ)) → IsValid rows
    → has_node rows n ≡ true → IsAt rows n a
    → filter (λ x. is_linked a.below x.id && not (mem x.id ids)) (resources a.front)
    ++ filter (λ x. is_linked a.below x.id && not (mem x.id ids)) (resources a.behind)
    ≡ resources_among (ids_of (linked_ro (places rows) n ids)) rows
new_reads rows n a ids valid known here =
    let at = around rows n valid known in
    both_sides rows n a (λ x. not (mem x ids)) valid here at ∙ sym (reads_are rows n ids valid at)

-- ---- a new record is good

pub new_is_good : (rows : List NodeRow) (number : ℕ) (n worker : List ℕ) (ids : List (List ℕ))
    (time : ℕ)
    → IsValid rows → has_node rows n ≡ true → is_some (up (node_places rows) n) ≡ true
    → IsGood rows (new_record rows number n worker ids time)
new_is_good rows number n worker ids time valid known parent =
    let at = around rows n valid known in
    let linked = linked_outside (places rows) n in
    let changes = ids_of (linked_rw (places rows) n ids) in
    record {
      has_parent = parent;
      rw = ap ids_of (sym (refilter (λ p. p.id) (λ x. mem x ids) linked));
      ro = ap (map named_thing) (reads_are rows n ids valid at) ∙ sym (kept_fixed (λ x. wanted at x && not (mem x ids)) rows) ∙ ap (map named_thing_at) (sym (linked_and rows n (λ x. not (mem x ids)) valid at) ∙ sym (refilter_others (λ p. p.id) (λ x. mem x ids) linked));
    }

-- a good record stays good while nothing moves
pub good_stays : (rows other : List NodeRow) (r : SpawnRec) → places other ≡ places rows
    → IsGood rows r → IsGood other r
good_stays rows other r same good =
    record {
      has_parent = ap (λ tree. is_some (up (nodes_in tree) r.node)) same ∙ good.has_parent;
      rw = good.rw ∙ ap (λ tree. ids_of (linked_rw tree r.node r.rw)) (sym same);
      ro = good.ro ∙ ap (λ tree. map named_thing_at (linked_ro tree r.node r.rw)) (sym same);
    }

-- a record with its copies
abbrev pub record_with : ℕ → List ℕ → List ℕ → ℕ → List (List ℕ) → List Resource → SpawnRec
record_with id n worker time changes reads = record { id = id; node = n; worker = worker; at = time; rw = changes; ro = reads; phase = Out }
