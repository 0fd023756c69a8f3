-- The places of the resources alone, row by row; and their homes, found there as among the rows.
use Rattle.std.proofs.Common.{◌≡◌, ℕ, ◌||◌, Bool, true, false, not, cond, List, [], ◌∷◌, ◌++◌, map}
use Rattle.std.proofs.Common.{Some, refl, sym, ap, ◌∙◌, slice_get}
use Rattle.std.specs.List.{filter}
use Rattle.std.specs.Option.{option_and_then}
use Rattle.std.specs.Str.{bytes_eq}
use Rattle.ticket_items.specs.Ids.{mem}
use Rattle.ticket_rows.proofs.AtHome.{home_of-cons}
use Rattle.ticket_rows.specs.Homes.{home_of}
use Rattle.ticket_rows.specs.Place.{Place, resource_place, places_from, is_node, resource_places}
use Rattle.ticket_rows.specs.Place.{place_at, home, home_at, path_of}
use Rattle.ticket_items.specs.declared.node_row.NodeRow.{NodeRow}
use Rattle.ticket_items.specs.declared.resource.Resource.{Resource}

-- ---- the places of resources

abbrev pub resources_from : List (List ℕ) → List NodeRow → List Place
resources_from before [] = []
resources_from before (r ∷ rows) = map (resource_place (path_of before r)) r.resources ++ resources_from (path_of before r) rows

all_resources : (path : List (List ℕ)) (xs : List Resource) (rest : List Place)
    → filter (λ p. not (is_node p)) (map (resource_place path) xs ++ rest)
    ≡ map (resource_place path) xs ++ filter (λ p. not (is_node p)) rest
all_resources path [] rest = refl
all_resources path (x ∷ xs) rest = ap (λ ps. resource_place path x ∷ ps) (all_resources path xs rest)

resources_among : (before : List (List ℕ)) (rows : List NodeRow)
    → filter (λ p. not (is_node p)) (places_from before rows) ≡ resources_from before rows
resources_among before [] = refl
resources_among before (r ∷ rows) =
    all_resources (path_of before r) r.resources (places_from (path_of before r) rows) ∙ ap (λ ps. map (resource_place (path_of before r)) r.resources ++ ps) (resources_among (path_of before r) rows)

pub resource_places-rows : (rows : List NodeRow) → resource_places rows ≡ resources_from [] rows
resource_places-rows rows = resources_among [] rows

-- ---- their homes

pool_row : (b : Bool) (path : List (List ℕ)) (y : Resource) (x : List ℕ) (pool : List Resource)
    (rest : List Place)
    → option_and_then home_at (place_at (map (resource_place path) pool ++ rest) x)
    ≡ cond (mem x (map (λ z. z.id) pool)) (slice_get path 0)
    (option_and_then home_at (place_at rest x))
    → option_and_then home_at
    (cond b (Some (resource_place path y)) (place_at (map (resource_place path) pool ++ rest) x))
    ≡ cond (b || mem x (map (λ z. z.id) pool)) (slice_get path 0)
    (option_and_then home_at (place_at rest x))
pool_row true path y x pool rest later = refl
pool_row false path y x pool rest later = later

home_in_pool : (path : List (List ℕ)) (x : List ℕ) (pool : List Resource) (rest : List Place)
    → option_and_then home_at (place_at (map (resource_place path) pool ++ rest) x)
    ≡ cond (mem x (map (λ z. z.id) pool)) (slice_get path 0)
    (option_and_then home_at (place_at rest x))
home_in_pool path x [] rest = refl
home_in_pool path x (y ∷ pool) rest = pool_row (bytes_eq y.id x) path y x pool rest (home_in_pool path x pool rest)

home_from : (before : List (List ℕ)) (rows : List NodeRow) (x : List ℕ)
    → home (resources_from before rows) x ≡ home_of rows x
home_from before [] x = refl
home_from before (r ∷ rows) x =
    home_in_pool (path_of before r) x r.resources (resources_from (path_of before r) rows)
    ∙ ap (λ o. cond (mem x (map (λ z. z.id) r.resources)) (Some r.id) o) (home_from (path_of before r) rows x) ∙ sym (home_of-cons x r rows)

pub home_is : (rows : List NodeRow) (x : List ℕ) → home (resource_places rows) x ≡ home_of rows x
home_is rows x = ap (λ ps. home ps x) (resource_places-rows rows) ∙ home_from [] rows x
