-- The links of rows, where each home's run tells what stands below it.
use Rattle.std.proofs.Common.{◌≡◌, ℕ, zero, suc, ◌+◌, ◌<◌, ◌≤◌, ◌&&◌, Bool, true, false, List, []}
use Rattle.std.proofs.Common.{◌∷◌, length, drop, get_or, Option, Some, None, refl, sym, ap, ◌∙◌, arith}
use Rattle.std.proofs.Common.{slice_get, nat_le, nat_lt, add-one, subst}
use Rattle.std.proofs.lemmas.List.{drop_more}
use Rattle.std.proofs.lemmas.Option.{slice_get-get_or}
use Rattle.std.specs.List.{list_all, position}
use Rattle.std.specs.Option.{option_map_or}
use Rattle.ticket_items.proofs.Places.{found_at_position, same_found}
use Rattle.ticket_items.specs.Ids.{are_distinct}
use Rattle.ticket_rows.proofs.AtHome.{holds, home_row, home-found}
use Rattle.ticket_rows.proofs.Below.{Path, bounds, run_length}
use Rattle.ticket_rows.proofs.LinkWalk.{resolves, are_resolved_from}
use Rattle.ticket_rows.proofs.NewNode.{own_place, run_within}
use Rattle.ticket_rows.proofs.NodePlaces.{node_ids_distinct, node_places-rows, nodes_from}
use Rattle.ticket_rows.specs.ChangedRow.{end_behind}
use Rattle.ticket_rows.specs.Homes.{home_of}
use Rattle.ticket_rows.specs.Outline.{is_outline}
use Rattle.ticket_rows.specs.Place.{Place, below, node_place, node_places, path_of}
use Rattle.ticket_rows.specs.Ticket.{depths, ids}
use Rattle.ticket_items.specs.declared.link.Link.{Link}
use Rattle.ticket_items.specs.declared.node_row.NodeRow.{NodeRow}

-- the path of the row in front of a place
abbrev pub before_at : Path → List NodeRow → ℕ → Path
before_at before rows zero = before
before_at before [] (suc k) = before
before_at before (r ∷ rows) (suc k) = before_at (path_of before r) rows k

place_from : (before : Path) (rows : List NodeRow) (k : ℕ) (r : NodeRow) → slice_get rows k ≡ Some r
    → slice_get (nodes_from before rows) k
    ≡ Some (node_place r (path_of (before_at before rows k) r))
place_from before [] k r at = cc
place_from before (s ∷ rows) zero r at =
    let same : s ≡ r = cc in
    ap (λ t. Some (node_place t (path_of before t))) same
place_from before (s ∷ rows) (suc k) r at = place_from (path_of before s) rows k r at

-- the place of the row at a place
pub place_row : (rows : List NodeRow) (k : ℕ) (r : NodeRow) → slice_get rows k ≡ Some r
    → slice_get (node_places rows) k ≡ Some (node_place r (path_of (before_at [] rows k) r))
place_row rows k r at = ap (λ nodes. slice_get nodes k) (node_places-rows rows) ∙ place_from [] rows k r at

next_path : (before : Path) (rows : List NodeRow) (k : ℕ) (r : NodeRow) → slice_get rows k ≡ Some r
    → before_at before rows (suc k) ≡ path_of (before_at before rows k) r
next_path before [] k r at = cc
next_path before (s ∷ rows) zero r at =
    let same : s ≡ r = cc in
    ap (path_of before) same
next_path before (s ∷ rows) (suc k) r at = next_path (path_of before s) rows k r at

pub resolved_step : (rows : List NodeRow) (k : ℕ) (r : NodeRow) → k < length rows
    → r ≡ get_or rows k r
    → are_resolved_from rows (before_at [] rows k) (drop k rows)
    ≡ (list_all (resolves rows (path_of (before_at [] rows k) r)) r.links
    && are_resolved_from rows (before_at [] rows (k + 1)) (drop (k + 1) rows))
resolved_step rows k r within is =
    let at : slice_get rows k ≡ Some r = slice_get-get_or rows k r within ∙ ap Some (sym is) in
    let path : Path = path_of (before_at [] rows k) r in
    ap (are_resolved_from rows (before_at [] rows k)) (drop_more rows k r within ∙ ap (λ s. s ∷ drop (k + 1) rows) (sym is))
    ∙ ap (λ p. list_all (resolves rows path) r.links && are_resolved_from rows p (drop (k + 1) rows)) (sym (ap (before_at [] rows) (add-one k) ∙ next_path [] rows k r at))

-- whether the home of a resource is the row at a place or above it
pub reached : (rows : List NodeRow) (x : List ℕ) (home place end : ℕ) (p : Place)
    → is_outline (depths rows) ≡ true → are_distinct (ids rows) ≡ true
    → position (holds x) rows ≡ Some home
    → ((r : NodeRow) → slice_get rows home ≡ Some r → end ≡ end_behind rows home r)
    → slice_get (node_places rows) place ≡ Some p
    → option_map_or (λ h. below h p) (home_of rows x) false
    ≡ (nat_le home place && nat_lt place end)
reached rows x home place end p tree apart found ends there =
    let at = found_at_position (holds x) rows home found in
    let r : NodeRow = at.0 in
    let later : List NodeRow = drop (home + 1) rows in
    let around = bounds rows later r.id home (run_length r.depth later) r refl tree apart (own_place rows home r (node_ids_distinct rows apart) at.2) at.2 refl (run_within r.depth later) in
    ap (λ o. option_map_or (λ h. below h p) o false) (home-found rows x r at.1) ∙ around.exact place p there
    ∙ ap (λ e. nat_le home place && nat_lt place e) (sym (ends r at.2))

-- nothing in front of the home has it above it
pub not_reached : (rows : List NodeRow) (x : List ℕ) (home place : ℕ) (p : Place)
    → is_outline (depths rows) ≡ true → are_distinct (ids rows) ≡ true
    → position (holds x) rows ≡ Some home → slice_get (node_places rows) place ≡ Some p
    → nat_le home place ≡ false → option_map_or (λ h. below h p) (home_of rows x) false ≡ false
not_reached rows x home place p tree apart found there front =
    let at = found_at_position (holds x) rows home found in
    let end : ℕ = end_behind rows home at.0 in
    reached rows x home place end p tree apart found (λ s e. ap (end_behind rows home) (same_found at.0 s (slice_get rows home) at.2 e)) there
    ∙ ap (λ b. b && nat_lt place end) front

-- a row's links decide, and those behind it
links_here : (rows : List NodeRow) (k : ℕ) (r : NodeRow) (b : Bool) (links : List Link)
    → k < length rows → r ≡ get_or rows k r → links ≡ r.links
    → ((p : Place) → slice_get (node_places rows) k ≡ Some p
    → b ≡ list_all (λ l. option_map_or (λ h. below h p) (home_of rows l.rref) false) links)
    → are_resolved_from rows (before_at [] rows k) (drop k rows)
    ≡ (b && are_resolved_from rows (before_at [] rows (k + 1)) (drop (k + 1) rows))
links_here rows k r b links within is own told =
    let path : Path = path_of (before_at [] rows k) r in
    let at : slice_get rows k ≡ Some r = slice_get-get_or rows k r within ∙ ap Some (sym is) in
    resolved_step rows k r within is
    ∙ ap (λ c. c && are_resolved_from rows (before_at [] rows (k + 1)) (drop (k + 1) rows)) (sym (told (node_place r path) (place_row rows k r at) ∙ ap (list_all (resolves rows path)) own))

pub links_step : (self rows : List NodeRow) (k : ℕ) (r : NodeRow) (b : Bool) (links : List Link)
    → rows ≡ self → k < length rows → r ≡ get_or rows k r → links ≡ r.links
    → ((p : Place) → slice_get (node_places self) k ≡ Some p
    → b ≡ list_all (λ l. option_map_or (λ h. below h p) (home_of self l.rref) false) links)
    → are_resolved_from rows (before_at [] rows k) (drop k rows)
    ≡ (b && are_resolved_from rows (before_at [] rows (k + 1)) (drop (k + 1) rows))
links_step self rows k r b links same within is own told =
    links_here rows k r b links within is own
    (subst (λ (s : List NodeRow). (p : Place) → slice_get (node_places s) k ≡ Some p → b ≡ list_all (λ l. option_map_or (λ h. below h p) (home_of s l.rref) false) links) (sym same) told)
