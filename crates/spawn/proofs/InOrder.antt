-- The ids of a good record's resources to change name these one after another, in ticket order.
use Rattle.std.proofs.Common.{◌≡◌, ◌∙◌, ℕ, Bool, true, false, not, cond, List, [], ◌∷◌, ◌++◌, map}
use Rattle.std.proofs.Common.{◌&&◌, Some, is_some, option_to_list, refl, sym, ap}
use Rattle.std.proofs.lemmas.Bool.{true≢false, and_parts, not-true}
use Rattle.std.proofs.lemmas.Slice.Eq.{bytes_eq-Decides}
use Rattle.std.specs.List.{filter, find, flat_map}
use Rattle.std.specs.Str.{bytes_eq}
use Rattle.ticket_items.proofs.Apart.{bytes_eq-same}
use Rattle.ticket_items.proofs.AtKey.{any_key}
use Rattle.ticket_items.proofs.Places.{is_some-find}
use Rattle.ticket_items.specs.Ids.{mem, are_distinct}
use Rattle.ticket_items.specs.Resource.{resource_ids}
use Rattle.ticket_items.specs.declared.node_row.NodeRow.{NodeRow}
use Rattle.ticket_items.specs.declared.resource.Resource.{Resource}
use Rattle.ticket_rows.proofs.InLists.{find-mapped}
use Rattle.ticket_rows.specs.Homes.{homes, resource_of}
use Rattle.ticket_rows.specs.Ticket.{IsValid}
use Rattle.spawn.proofs.GoodCopies.{good_node, resources_apart}
use Rattle.spawn.proofs.Chosen.{wanted}
use Rattle.spawn.proofs.NewRecord.{changes_are, refilter}
use Rattle.spawn.proofs.Split.{around}
use Rattle.spawn.specs.Parts.{resources, resources_among}
use Rattle.spawn.specs.Records.{IsGood}
use Rattle.spawn.specs.declared.records.spawn_rec.SpawnRec.{SpawnRec}

-- ---- each resource is found by its id

abbrev AllFound : List NodeRow → List Resource → Type 0
AllFound rows [] = Unit {0}
AllFound rows (x ∷ xs) = (resource_of rows x.id ≡ Some x) × AllFound rows xs

abbrev named : List ℕ → Resource → Bool
named i x = bytes_eq x.id i

other_at : (b : Bool) (x y : List ℕ) (xs : List (List ℕ)) → bytes_eq x y ≡ b → mem x xs ≡ false
    → mem y xs ≡ true → b ≡ false
other_at true x y xs e out there = absurd (true≢false (sym there ∙ ap (λ i. mem i xs) (sym ((bytes_eq-Decides x y).0 e)) ∙ out))
other_at false x y xs e out there = refl

all_found : (rows : List NodeRow) (xs : List Resource)
    → ((i : List ℕ) (x : Resource) → find (named i) xs ≡ Some x → resource_of rows i ≡ Some x)
    → are_distinct (resource_ids xs) ≡ true → AllFound rows xs
all_found rows [] finds apart = tt
all_found rows (x ∷ xs) finds apart =
    let parts = and_parts (not (mem x.id (resource_ids xs))) (are_distinct (resource_ids xs)) apart in (
      finds x.id x (ap (λ b. cond b (Some x) (find (named x.id) xs)) (bytes_eq-same x.id)),
      all_found rows xs
          (λ i y found. finds i y
          (ap (λ b. cond b (Some x) (find (named i) xs))
          (other_at (bytes_eq x.id i) x.id i (resource_ids xs) refl (not-true _ parts.0) (sym (any_key (λ (z : Resource). z.id) i xs) ∙ sym (is_some-find (named i) xs) ∙ ap is_some found))
          ∙ found))
          parts.1,
    )

kept_at : (b : Bool) (rows : List NodeRow) (x : Resource) (xs : List Resource)
    → resource_of rows x.id ≡ Some x → AllFound rows xs → AllFound rows (cond b (x ∷ xs) xs)
kept_at true rows x xs own rest = (own, rest)
kept_at false rows x xs own rest = rest

found_kept : (rows : List NodeRow) (f : Resource → Bool) (xs : List Resource) → AllFound rows xs
    → AllFound rows (filter f xs)
found_kept rows f [] own = tt
found_kept rows f (x ∷ xs) own = kept_at (f x) rows x (filter f xs) own.0 (found_kept rows f xs own.1)

all_resources : (rows : List NodeRow) → IsValid rows → AllFound rows (resources rows)
all_resources rows valid =
    all_found rows (resources rows) (λ i x found. sym (find-mapped (named i) (λ e. bytes_eq e.0.id i) (λ (e : Resource × List ℕ). e.0) (homes rows) (λ e. refl)) ∙ found) (resources_apart rows valid)

-- ---- those that are found by their ids, one after another

picked : (rows : List NodeRow) (xs : List Resource) → AllFound rows xs
    → flat_map (λ i. option_to_list (resource_of rows i)) (resource_ids xs) ≡ xs
picked rows [] own = refl
picked rows (x ∷ xs) own =
    ap (λ o. option_to_list o ++ flat_map (λ i. option_to_list (resource_of rows i)) (resource_ids xs)) own.0 ∙ ap (λ ys. x ∷ ys) (picked rows xs own.1)

ids_in_order : (rows : List NodeRow) (r : SpawnRec) → IsValid rows → IsGood rows r
    → r.rw ≡ resource_ids (resources_among r.rw rows)
ids_in_order rows r valid good =
    let at = around rows r.node valid (good_node rows r good) in
    let p : List ℕ → Bool = λ x. wanted at x && mem x r.rw in
    let is : r.rw ≡ resource_ids (filter (λ x. p x.id) (resources rows)) = good.rw ∙ changes_are rows r.node r.rw valid at in
    is ∙ ap resource_ids (sym (refilter (λ x. x.id) p (resources rows))) ∙ ap (λ ids. resource_ids (resources_among ids rows)) (sym is)

pub found_in_order : (rows : List NodeRow) (r : SpawnRec) → IsValid rows → IsGood rows r
    → flat_map (λ i. option_to_list (resource_of rows i)) r.rw ≡ resources_among r.rw rows
found_in_order rows r valid good =
    ap (flat_map (λ i. option_to_list (resource_of rows i))) (ids_in_order rows r valid good)
    ∙ picked rows (resources_among r.rw rows) (found_kept rows (λ x. mem x.id r.rw) (resources rows) (all_resources rows valid))
