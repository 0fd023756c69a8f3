-- The laws of merging.
use Rattle.std.proofs.Common.{◌≡◌, ◌∙◌, ℕ, Bool, true, false, not, cond, List, [], ◌∷◌, ◌++◌}
use Rattle.std.proofs.Common.{length, map, take, Option, Some, None, is_some, refl, sym, ap, subst}
use Rattle.std.proofs.lemmas.Bool.{true≢false, and_parts, not-true}
use Rattle.std.proofs.lemmas.Slice.Eq.{bytes_eq-Decides}
use Rattle.std.specs.List.{filter, find, zip}
use Rattle.std.specs.Option.{option_map, option_map_or}
use Rattle.std.specs.Str.{bytes_eq}
use Rattle.ticket_items.proofs.Apart.{bytes_eq-same}
use Rattle.ticket_items.proofs.Places.{is_some-find}
use Rattle.ticket_rows.proofs.NodePlaces.{node_ids_distinct}
use Rattle.ticket_items.proofs.AtKey.{any_key}
use Rattle.ticket_items.specs.Ids.{mem, are_distinct}
use Rattle.ticket_rows.specs.OneRow.{rows_with_audit}
use Rattle.ticket_rows.specs.Place.{is_below, node_places}
use Rattle.ticket_tree.specs.Part.{PartCopy}
use Rattle.ticket_rows.specs.Ticket.{row_of}
use Rattle.ticket_items.specs.declared.node_row.NodeRow.{NodeRow}
use Rattle.ticket_items.specs.declared.resource.Resource.{Resource}
use Rattle.spawn.proofs.Chosen.{resources_cons}
use Rattle.spawn.proofs.Entries.{find_kept}
use Rattle.spawn.proofs.GoodCopies.{resources_apart}
use Rattle.spawn.specs.Parts.{above, lifted_row, part_for, resources}
use Rattle.spawn.specs.Spawning.{parent_of}
use Rattle.merge.specs.Laws.{MadePartFits, MadePartChangesNothing}
use Rattle.merge.specs.Put.{merged_audit, resource_from, row_from}
use Rattle.merge.specs.Shape.{first_audits}

-- ---- the made part fits

all_taken : {X : Type 0} (xs : List X) → take (length xs) xs ≡ xs
all_taken [] = refl
all_taken (x ∷ xs) = ap (λ ys. x ∷ ys) (all_taken xs)

same_audits : (rows : List NodeRow) → map first_audits (zip rows rows) ≡ map (λ r. r.audits) rows
same_audits [] = refl
same_audits (r ∷ rows) = ap (λ a. a ∷ map first_audits (zip rows rows)) (all_taken r.audits) ∙ ap (λ as'. r.audits ∷ as') (same_audits rows)

pub made_part_fits : MadePartFits
made_part_fits t r = record { job = refl; spawn = refl; rows = refl; rw = refl; audits = same_audits (part_for t r).rows }

-- ---- each is found by its own key

abbrev pub AllOwn : {X : Type 0} → (X → List ℕ) → List X → List X → Type 0
AllOwn key all [] = Unit {0}
AllOwn key all (x ∷ xs) = (find (λ z. bytes_eq (key z) (key x)) all ≡ Some x) × AllOwn key all xs

other_at : {X : Type 0} (here : Bool) (key : X → List ℕ) (x : X) (xs : List X) (y : List ℕ)
    → bytes_eq (key x) y ≡ here → mem (key x) (map key xs) ≡ false → mem y (map key xs) ≡ true
    → here ≡ false
other_at false key x xs y e out there = refl
other_at true key x xs y e out there = absurd (true≢false (sym there ∙ ap (λ i. mem i (map key xs)) (sym ((bytes_eq-Decides (key x) y).0 e)) ∙ out))

found_stands : {X : Type 0} (key : X → List ℕ) (xs : List X) (y : List ℕ) (x : X)
    → find (λ z. bytes_eq (key z) y) xs ≡ Some x → mem y (map key xs) ≡ true
found_stands key xs y x found = sym (any_key key y xs) ∙ sym (is_some-find (λ z. bytes_eq (key z) y) xs) ∙ ap is_some found

pub all_own : {X : Type 0} (key : X → List ℕ) (all xs : List X)
    → ((y : List ℕ) (x : X) → find (λ z. bytes_eq (key z) y) xs ≡ Some x
    → find (λ z. bytes_eq (key z) y) all ≡ Some x)
    → are_distinct (map key xs) ≡ true → AllOwn key all xs
all_own key all [] finds apart = tt
all_own key all (x ∷ xs) finds apart =
    let parts = and_parts (not (mem (key x) (map key xs))) (are_distinct (map key xs)) apart in (
      finds (key x) x (ap (λ b. cond b (Some x) (find (λ z. bytes_eq (key z) (key x)) xs)) (bytes_eq-same (key x))),
      all_own key all xs (λ y z found. finds y z (ap (λ b. cond b (Some x) (find (λ w. bytes_eq (key w) y) xs)) (other_at (bytes_eq (key x) y) key x xs y refl (not-true _ parts.0) (found_stands key xs y z found)) ∙ found)) parts.1,
    )

pub own_front : {X : Type 0} (key : X → List ℕ) (all xs ys : List X) → AllOwn key all (xs ++ ys)
    → AllOwn key all xs
own_front key all [] ys own = tt
own_front key all (x ∷ xs) ys own = (own.0, own_front key all xs ys own.1)

pub own_back : {X : Type 0} (key : X → List ℕ) (all xs ys : List X) → AllOwn key all (xs ++ ys)
    → AllOwn key all ys
own_back key all [] ys own = own
own_back key all (x ∷ xs) ys own = own_back key all xs ys own.1

-- ---- what is put back is what was there

abbrev pub by_id : Resource → List ℕ
by_id x = x.id

either_self : (b : Bool) (x : Resource) → option_map_or (λ y. y) (cond b (Some x) None) x ≡ x
either_self true x = refl
either_self false x = refl

same_pool : (ids : List (List ℕ)) (all pool : List Resource) → AllOwn by_id all pool
    → map (resource_from (filter (λ x. mem x.id ids) all)) pool ≡ pool
same_pool ids all [] own = refl
same_pool ids all (x ∷ pool) own =
    ap (λ o. option_map_or (λ y. y) o x ∷ map (resource_from (filter (λ z. mem z.id ids) all)) pool) (find_kept by_id (λ i. mem i ids) x.id all ∙ ap (λ o. cond (mem x.id ids) o None) own.0)
    ∙ ap (λ y. y ∷ map (resource_from (filter (λ z. mem z.id ids) all)) pool) (either_self (mem x.id ids) x) ∙ ap (λ ys. x ∷ ys) (same_pool ids all pool own.1)

lifted_at : (here : Bool) (k : ℕ) (r : NodeRow) (o later : Option NodeRow)
    → o ≡ option_map (lifted_row k) later
    → cond here (Some (lifted_row k r)) o ≡ option_map (lifted_row k) (cond here (Some r) later)
lifted_at true k r o later e = refl
lifted_at false k r o later e = e

row_of_lifted : (k : ℕ) (rows : List NodeRow) (x : List ℕ)
    → row_of (map (lifted_row k) rows) x ≡ option_map (lifted_row k) (row_of rows x)
row_of_lifted k [] x = refl
row_of_lifted k (r ∷ rows) x = lifted_at (bytes_eq r.id x) k r (row_of (map (lifted_row k) rows) x) (row_of rows x) (row_of_lifted k rows x)

row_back : (b : Bool) (k : ℕ) (r : NodeRow) (pool : List Resource) → pool ≡ r.resources
    → option_map_or (λ (new : NodeRow). record new { depth = r.depth })
    (option_map (lifted_row k) (cond b (Some r) None)) (record r { resources = pool })
    ≡ r
row_back true k r pool e = refl
row_back false k r pool e = ap (λ xs. record r { resources = xs }) e

same_rows : (p : PartCopy) (all : List NodeRow) (ok : List ℕ → Bool) (k : ℕ) (ids : List (List ℕ))
    (pools : List Resource)
    → p.rows ≡ map (lifted_row k) (filter (λ r. ok r.id) all) → p.rw ≡ filter (λ x. mem x.id ids) pools
    → (rows : List NodeRow) → AllOwn (λ (r : NodeRow). r.id) all rows
    → AllOwn by_id pools (resources rows) → map (row_from p) rows ≡ rows
same_rows p all ok k ids pools rs xs [] own pool_own = refl
same_rows p all ok k ids pools rs xs (r ∷ rows) own pool_own =
    let both = subst (AllOwn by_id pools) (resources_cons r rows) pool_own in
    let pool = ap (λ ys. map (resource_from ys) r.resources) xs ∙ same_pool ids pools r.resources (own_front by_id pools r.resources (resources rows) both) in
    let found = ap (λ ys. row_of ys r.id) rs ∙ row_of_lifted k (filter (λ s. ok s.id) all) r.id ∙ ap (option_map (lifted_row k)) (find_kept (λ (s : NodeRow). s.id) ok r.id all ∙ ap (λ o. cond (ok r.id) o None) own.0) in
    ap (λ o. option_map_or (λ (new : NodeRow). record new { depth = r.depth }) o (record r { resources = map (resource_from p.rw) r.resources }) ∷ map (row_from p) rows) found
    ∙ ap (λ s. s ∷ map (row_from p) rows) (row_back (ok r.id) k r (map (resource_from p.rw) r.resources) pool)
    ∙ ap (λ ss. r ∷ ss) (same_rows p all ok k ids pools rs xs rows own.1 (own_back by_id pools r.resources (resources rows) both))

pub made_part_changes_nothing : MadePartChangesNothing
made_part_changes_nothing t r at valid =
    let rows = t.rows in
    let own = all_own (λ (s : NodeRow). s.id) rows rows (λ y s found. found) (node_ids_distinct rows valid.distinct) in
    let pools = all_own by_id (resources rows) (resources rows) (λ y x found. found) (resources_apart rows valid) in
    ap (λ rs. record t { rows = rows_with_audit (parent_of rows r.node) (merged_audit r at) rs })
    (same_rows (part_for t r) rows (λ x. is_below (node_places rows) x r.node) (length (above rows r.node)) r.rw (resources rows) refl refl rows own pools)
