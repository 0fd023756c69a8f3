-- A change of the row at the place that was found is the change of the row of that id.
use Rattle.std.proofs.Common.{◌≡◌, ℕ, zero, suc, ◌<◌, List, [], ◌∷◌, length, map}
use Rattle.std.proofs.Common.{Option, Some, None, refl, sym, ap, ◌∙◌, true, set, get_or, slice_get}
use Rattle.std.proofs.Common.{Result, Ok, Err, OnOk}
use Rattle.std.proofs.lemmas.Option.{slice_get-get_or}
use Rattle.std.specs.List.{position}
use Rattle.std.specs.Option.{option_map, option_map_or}
use Rattle.std.specs.Str.{bytes_eq}
use Rattle.ticket_items.proofs.AtKey.{set-at_key}
use Rattle.ticket_items.proofs.Places.{found_at_position}
use Rattle.ticket_items.specs.Ids.{are_distinct}
use Rattle.ticket_rows.proofs.NodePlaces.{node_ids_distinct}
use Rattle.ticket_rows.specs.ChangedRow.{at_place}
use Rattle.ticket_rows.specs.Edit.{with_row}
use Rattle.ticket_rows.specs.Ticket.{ids}
use Rattle.ticket_items.specs.declared.node_row.NodeRow.{NodeRow}

-- a write of f of what stands at a place
pub set_at : {X : Type 0} (f : X → X) (xs : List X) (k : ℕ) (x : X) → k < length xs
    → x ≡ get_or xs k x → set xs k (f x) ≡ at_place k f xs
set_at f xs k x within is = sym (ap (λ o. option_map_or (λ y. set xs k (f y)) o xs) (slice_get-get_or xs k x within ∙ ap Some (sym is)))

pub row_at_place : (x : List ℕ) (f : NodeRow → NodeRow) (rows : List NodeRow) (k : ℕ)
    → are_distinct (ids rows) ≡ true → position (λ r. bytes_eq r.id x) rows ≡ Some k
    → at_place k f rows ≡ with_row x f rows
row_at_place x f rows k apart found =
    let at = found_at_position (λ r. bytes_eq r.id x) rows k found in
    ap (λ o. option_map_or (λ y. set rows k (f y)) o rows) at.2 ∙ set-at_key (λ r. r.id) x f rows k at.0 (node_ids_distinct rows apart) found at.2

-- ---- what is kept

kept_at : {Y : Type 0} (h : NodeRow → Y) (f : NodeRow → NodeRow) (rows : List NodeRow) (k : ℕ)
    (r : NodeRow)
    → h (f r) ≡ h r → slice_get rows k ≡ Some r → map h (set rows k (f r)) ≡ map h rows
kept_at h f [] k r keeps at = cc
kept_at h f (s ∷ rows) zero r keeps at =
    let same : s ≡ r = cc in
    ap (λ y. y ∷ map h rows) (keeps ∙ ap h (sym same))
kept_at h f (s ∷ rows) (suc k) r keeps at = ap (λ ys. h s ∷ ys) (kept_at h f rows k r keeps at)

at_option : {Y : Type 0} (h : NodeRow → Y) (f : NodeRow → NodeRow) (rows : List NodeRow) (k : ℕ)
    (o : Option NodeRow)
    → ((r : NodeRow) → h (f r) ≡ h r) → slice_get rows k ≡ o
    → map h (option_map_or (λ y. set rows k (f y)) o rows) ≡ map h rows
at_option h f rows k None keeps at = refl
at_option h f rows k (Some r) keeps at = kept_at h f rows k r (keeps r) at

pub map-at_place : {Y : Type 0} (h : NodeRow → Y) (f : NodeRow → NodeRow) (rows : List NodeRow)
    (k : ℕ)
    → ((r : NodeRow) → h (f r) ≡ h r) → map h (at_place k f rows) ≡ map h rows
map-at_place h f rows k keeps = at_option h f rows k (slice_get rows k) keeps refl

-- a row in the place of another
pub map-set_row : {Y : Type 0} (h : NodeRow → Y) (rows : List NodeRow) (k : ℕ) (row : NodeRow)
    (o : Option NodeRow)
    → slice_get rows k ≡ o → option_map h o ≡ Some (h row) → map h (set rows k row) ≡ map h rows
map-set_row h rows k row None at same = cc
map-set_row h rows k row (Some r) at same =
    let kept : h r ≡ h row = cc in
    kept_at h (λ _. row) rows k r (sym kept) at

-- what is one thing where all went well, and that another
pub then_ok : {X E A : Type 0} (result : Result X E) (a b c : A) → OnOk result (a ≡ b) → b ≡ c
    → OnOk result (a ≡ c)
then_ok (Ok x) a b c h k = h ∙ k
then_ok (Err e) a b c h k = tt
