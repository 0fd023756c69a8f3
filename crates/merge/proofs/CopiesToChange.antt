-- Copies of the resources of some ids, row by row.
use Rattle.std.specs.Cmp.Lexicographic.{pointwise}
use Rattle.std.proofs.Common.{◌≡◌, ◌∙◌, ℕ, ◌+◌, ◌<◌, ◌&&◌, Bool, true, false, cond, List, [], ◌∷◌}
use Rattle.std.proofs.Common.{◌++◌, length, drop, get_or, Option, Some, None, refl, sym, ap}
use Rattle.std.proofs.lemmas.List.{drop_more}
use Rattle.std.specs.List.{filter}
use Rattle.std.specs.Option.{option_and_then, option_map_or}
use Rattle.ticket_items.specs.Ids.{mem}
use Rattle.ticket_items.specs.Resource.{is_alike}
use Rattle.ticket_items.specs.declared.node_row.NodeRow.{NodeRow}
use Rattle.ticket_items.specs.declared.resource.Resource.{Resource}
use Rattle.spawn.proofs.Chosen.{resources_cons}
use Rattle.spawn.proofs.RowsBelow.{filter-append}
use Rattle.spawn.specs.Parts.{resources, resources_among}
use Rattle.merge.specs.Alike.{behind}

-- copies told behind some of them
behind_at : (b : Bool) (x y : Resource) (xs zs copies : List Resource)
    → pointwise is_alike (xs ++ zs) copies
    ≡ option_map_or (pointwise is_alike zs) (behind xs copies) false
    → (b && pointwise is_alike (xs ++ zs) copies)
    ≡ option_map_or (pointwise is_alike zs) (option_and_then (behind xs) (cond b (Some copies) None)) false
behind_at true x y xs zs copies go = go
behind_at false x y xs zs copies go = refl

pub pairs_behind : (xs zs copies : List Resource)
    → pointwise is_alike (xs ++ zs) copies
    ≡ option_map_or (pointwise is_alike zs) (behind xs copies) false
pairs_behind [] zs copies = refl
pairs_behind (x ∷ xs) zs [] = refl
pairs_behind (x ∷ xs) zs (y ∷ copies) = behind_at (is_alike x y) x y xs zs copies (pairs_behind xs zs copies)

pub among-cons : (ids : List (List ℕ)) (r : NodeRow) (rows : List NodeRow)
    → resources_among ids (r ∷ rows)
    ≡ filter (λ x. mem x.id ids) r.resources ++ resources_among ids rows
among-cons ids r rows = ap (filter (λ x. mem x.id ids)) (resources_cons r rows) ∙ filter-append (λ x. mem x.id ids) r.resources (resources rows)

-- one row more, that has this pool
pub copies_more : (ids : List (List ℕ)) (rows : List NodeRow) (i : ℕ) (d : NodeRow)
    (pool copies : List Resource) (left : Option (List Resource))
    → i < length rows → pool ≡ (get_or rows i d).resources
    → left ≡ behind (filter (λ x. mem x.id ids) pool) copies
    → option_map_or (pointwise is_alike (resources_among ids (drop (i + 1) rows))) left false
    ≡ pointwise is_alike (resources_among ids (drop i rows)) copies
copies_more ids rows i d pool copies left within own step =
    let named : Resource → Bool = λ x. mem x.id ids in
    let later = resources_among ids (drop (i + 1) rows) in
    ap (λ o. option_map_or (pointwise is_alike later) o false) step
    ∙ sym (ap (λ rs. pointwise is_alike (resources_among ids rs) copies) (drop_more rows i d within)
    ∙ ap (λ xs. pointwise is_alike xs copies) (among-cons ids (get_or rows i d) (drop (i + 1) rows) ∙ ap (λ xs. filter named xs ++ later) (sym own))
    ∙ pairs_behind (filter named pool) later copies)
