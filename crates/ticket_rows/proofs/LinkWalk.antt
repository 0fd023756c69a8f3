-- The links of rows, walked row by row with the path of each; and that the walk says what the
-- places say.
use Rattle.std.proofs.Common.{◌≡◌, ℕ, ◌&&◌, Bool, true, false, List, [], ◌∷◌, ◌++◌, map, refl, ap}
use Rattle.std.proofs.Common.{◌∙◌}
use Rattle.std.proofs.lemmas.List.Folds.{list_all-append}
use Rattle.std.specs.List.{list_all}
use Rattle.std.specs.Option.{option_map_or}
use Rattle.ticket_items.specs.Ids.{mem}
use Rattle.ticket_rows.proofs.ResourcePlaces.{home_is}
use Rattle.ticket_rows.specs.Homes.{home_of}
use Rattle.ticket_rows.specs.Place.{Place, resource_place, places_from, resource_places, home}
use Rattle.ticket_rows.specs.Place.{are_links_above, path_of}
use Rattle.ticket_rows.specs.Ticket.{are_resolved}
use Rattle.ticket_items.specs.declared.link.Link.{Link}
use Rattle.ticket_items.specs.declared.node_row.NodeRow.{NodeRow}
use Rattle.ticket_items.specs.declared.resource.Resource.{Resource}

-- ---- the walk

-- whether the resource of a link stands in the pool of a node on the path
abbrev pub resolves : List NodeRow → List (List ℕ) → Link → Bool
resolves rows path link = option_map_or (λ home. mem home path) (home_of rows link.rref) false

-- whether each link of the rows that are left does, behind a row with this path
abbrev pub are_resolved_from : List NodeRow → List (List ℕ) → List NodeRow → Bool
are_resolved_from all before [] = true
are_resolved_from all before (r ∷ rows) = list_all (resolves all (path_of before r)) r.links && are_resolved_from all (path_of before r) rows

-- where homes are the same, links resolve the same
pub links_same : (old new : List NodeRow) (path : List (List ℕ)) (links : List Link)
    → ((x : List ℕ) → home_of new x ≡ home_of old x)
    → list_all (resolves new path) links ≡ list_all (resolves old path) links
links_same old new path [] same = refl
links_same old new path (l ∷ links) same =
    ap (λ o. option_map_or (λ home. mem home path) o false && list_all (resolves new path) links) (same l.rref) ∙ ap (λ b. resolves old path l && b) (links_same old new path links same)

pub resolved_same : (old new : List NodeRow) (before : List (List ℕ)) (rows : List NodeRow)
    → ((x : List ℕ) → home_of new x ≡ home_of old x)
    → are_resolved_from new before rows ≡ are_resolved_from old before rows
resolved_same old new before [] same = refl
resolved_same old new before (r ∷ rows) same =
    ap (λ b. b && are_resolved_from new (path_of before r) rows) (links_same old new (path_of before r) r.links same)
    ∙ ap (λ b. list_all (resolves old (path_of before r)) r.links && b) (resolved_same old new (path_of before r) rows same)

-- ---- it says what the places say

links_walk : (all : List NodeRow) (path : List (List ℕ)) (links : List Link)
    → list_all
    (λ l. option_map_or (λ h. mem h path) (home (resource_places all) l.rref) false) links
    ≡ list_all (resolves all path) links
links_walk all path [] = refl
links_walk all path (l ∷ links) =
    ap (λ o. option_map_or (λ h. mem h path) o false && list_all (λ k. option_map_or (λ h. mem h path) (home (resource_places all) k.rref) false) links) (home_is all l.rref)
    ∙ ap (λ b. resolves all path l && b) (links_walk all path links)

no_links : (resources : List Place) (path : List (List ℕ)) (xs : List Resource)
    → list_all (are_links_above resources) (map (resource_place path) xs) ≡ true
no_links resources path [] = refl
no_links resources path (x ∷ xs) = no_links resources path xs

walk_from : (all : List NodeRow) (before : List (List ℕ)) (rows : List NodeRow)
    → list_all (are_links_above (resource_places all)) (places_from before rows)
    ≡ are_resolved_from all before rows
walk_from all before [] = refl
walk_from all before (r ∷ rows) =
    let path : List (List ℕ) = path_of before r in
    let above = are_links_above (resource_places all) in
    ap (λ b. b && list_all above (map (resource_place path) r.resources ++ places_from path rows)) (links_walk all path r.links)
    ∙ ap (λ b. list_all (resolves all path) r.links && b)
    (list_all-append above (map (resource_place path) r.resources) (places_from path rows) ∙ ap (λ b. b && list_all above (places_from path rows)) (no_links (resource_places all) path r.resources) ∙ walk_from all path rows)

-- on every list of rows
pub resolved_walk : (rows : List NodeRow) → are_resolved rows ≡ are_resolved_from rows [] rows
resolved_walk rows = walk_from rows [] rows
