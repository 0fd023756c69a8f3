-- What a part has of a ticket: what its spawn claims, and no more.
use Rattle.std.proofs.Common.{◌≡◌, ◌&&◌, ◌||◌, ◌∙◌, Bool, true, false, not, List, [], ◌∷◌, ◌++◌, ℕ, length, map, Option, Some, None, refl, sym, ap}
use Rattle.std.proofs.lemmas.Bool.{and_from, and_parts, or_from, true≢false}
use Rattle.std.specs.List.{flat_map}
use Rattle.std.specs.Option.{option_map_or}
use Rattle.ticket_items.specs.Ids.{mem}
use Rattle.ticket_items.specs.Resource.{resource_ids}
use Rattle.ticket_items.specs.declared.node_row.NodeRow.{NodeRow}
use Rattle.ticket_rows.specs.Place.{Place, Thing, below, is_node, place_at, places}
use Rattle.ticket_rows.specs.Ticket.{IsValid, Job, ids, ids_of}
use Rattle.ticket_tree.specs.Part.{PartCopy}
use Rattle.spawn.proofs.GoodCopies.{changes_ids, first_of_fixed, good_node, ids_of_resources, in_rw}
use Rattle.spawn.proofs.Lifting.{ids_lifted}
use Rattle.spawn.proofs.Outside.{found_kept, kept_found}
use Rattle.spawn.proofs.PartShows.{out_of_claim, stands_below}
use Rattle.spawn.proofs.RowsBelow.{rows_below-around}
use Rattle.spawn.proofs.Split.{Around, around}
use Rattle.spawn.proofs.Standing.{ids_apart, named}
use Rattle.plain_shop.specs.Claim.{is_claimed, is_linked_below, is_linked_outside}
use Rattle.spawn.specs.Parts.{above, part_for, resources, resources_among}
use Rattle.ticket_tree.specs.At.{rows_below}
use Rattle.spawn.specs.Records.{IsGood}
use Rattle.spawn.specs.declared.records.spawn_rec.SpawnRec.{SpawnRec}
use Rattle.merge.specs.Shape.{Fits, Shape, shape}
use Rattle.worker_core.specs.Worker.{has}

-- ---- a part that fits has the ids of the one that the master makes

abbrev shape_ids : Shape → List (List ℕ)
shape_ids s = s.id ∷ map (λ (f : List ℕ × Thing). f.0) s.pool

shapes_ids : (rows : List NodeRow) → flat_map shape_ids (map shape rows) ≡ ids rows
shapes_ids [] = refl
shapes_ids (r ∷ rows) =
    ap (λ is. (r.id ∷ is) ++ flat_map shape_ids (map shape rows)) (first_of_fixed r.resources)
    ∙ ap (λ is. ids_of r ++ is) (shapes_ids rows)

pub fits_has : (t : Job) (r : SpawnRec) (p : PartCopy) (x : List ℕ) → Fits t r p → has p x ≡ has (part_for t r) x
fits_has t r p x fits =
    let q = part_for t r in
    let rows : ids p.rows ≡ ids q.rows = sym (shapes_ids p.rows) ∙ ap (flat_map shape_ids) fits.rows ∙ shapes_ids q.rows in
    let rw : resource_ids p.rw ≡ resource_ids q.rw = sym (first_of_fixed p.rw) ∙ ap (map (λ (f : List ℕ × Thing). f.0)) fits.rw ∙ first_of_fixed q.rw in
    ap (λ is. mem x is || mem x (resource_ids p.rw)) rows ∙ ap (λ is. mem x (ids q.rows) || mem x is) rw

-- ---- those are the ids of the claim

-- a resource whose copy may be changed is among the copies
copy_there : (rows : List NodeRow) (r : SpawnRec) (x : List ℕ) → IsValid rows → IsGood rows r → mem x r.rw ≡ true → mem x (resource_ids (resources_among r.rw rows)) ≡ true
copy_there rows r x valid good chosen =
    let tree = places rows in
    let found = kept_found (is_linked_outside tree r.node) tree x (ids_apart rows valid) (in_rw rows r x good chosen) in
    let resource = (and_parts (not (is_node found.0)) (not (below r.node found.0)) (and_parts (not (is_node found.0) && not (below r.node found.0)) (is_linked_below tree r.node found.0.id) found.2).0).0 in
    let stands : mem x (resource_ids (resources rows)) ≡ true = ap (mem x) (ids_of_resources rows) ∙ found_kept (λ p. not (is_node p)) tree x found.0 found.1 resource in
    changes_ids rows r.rw x ∙ and_from _ _ chosen stands

-- what is claimed stands below the node or is a copy
claimed_there : (inner : Bool) (rows : List NodeRow) (r : SpawnRec) (x : List ℕ) (p : Place) → IsValid rows → IsGood rows r → (at : Around rows r.node) → place_at (places rows) x ≡ Some p
    → mem x (ids (at.root ∷ at.inner)) ≡ inner → is_claimed r.node r.rw p ≡ true → (inner || mem x (resource_ids (resources_among r.rw rows))) ≡ true
claimed_there true rows r x p valid good at there e claims = refl
claimed_there false rows r x p valid good at there e claims =
    let off : below r.node p ≡ false = sym (stands_below rows r.node x p valid at there) ∙ e in
    copy_there rows r x valid good (ap (λ i. mem i r.rw) (sym (named (places rows) x p there)) ∙ ap (λ b. b || mem p.id r.rw) (sym off) ∙ claims)

has_by : (o : Option Place) (claimed : Bool) (rows : List NodeRow) (r : SpawnRec) (x : List ℕ) → IsValid rows → IsGood rows r → (at : Around rows r.node) → place_at (places rows) x ≡ o
    → option_map_or (is_claimed r.node r.rw) o false ≡ claimed → (mem x (ids (at.root ∷ at.inner)) || mem x (resource_ids (resources_among r.rw rows))) ≡ claimed
has_by o false rows r x valid good at there e =
    let out = out_of_claim o rows r x valid at there e in
    or_from _ _ out.below out.copies
has_by None true rows r x valid good at there e = absurd (true≢false (sym e))
has_by (Some p) true rows r x valid good at there e = claimed_there (mem x (ids (at.root ∷ at.inner))) rows r x p valid good at there refl e

pub part_has : (t : Job) (r : SpawnRec) (x : List ℕ) → IsValid t.rows → IsGood t.rows r → has (part_for t r) x ≡ option_map_or (is_claimed r.node r.rw) (place_at (places t.rows) x) false
part_has t r x valid good =
    let rows = t.rows in
    let at = around rows r.node valid (good_node rows r good) in
    let inner : ids (part_for t r).rows ≡ ids (at.root ∷ at.inner) = ids_lifted (length (above rows r.node)) (rows_below rows r.node) ∙ ap ids (rows_below-around rows r.node valid at) in
    ap (λ is. mem x is || mem x (resource_ids (resources_among r.rw rows))) inner
    ∙ has_by (place_at (places rows) x) (option_map_or (is_claimed r.node r.rw) (place_at (places rows) x) false) rows r x valid good at refl refl
