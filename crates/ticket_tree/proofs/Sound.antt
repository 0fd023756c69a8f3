-- Whether the ids of ancestors are new to a part, one after the other.
use Rattle.std.proofs.Common.{◌≡◌, ℕ, ◌||◌, ◌&&◌, ◌<◌, ◌+◌, Bool, not, List, [], ◌∷◌, ◌++◌, length}
use Rattle.std.proofs.Common.{drop, get_or, refl, sym, ap, ◌∙◌}
use Rattle.std.proofs.lemmas.List.{drop_more}
use Rattle.std.specs.List.{list_any}
use Rattle.std.specs.Str.{bytes_eq}
use Rattle.ticket_items.proofs.Apart.{mem-append}
use Rattle.ticket_rows.proofs.AtHome.{any-map}
use Rattle.ticket_items.specs.Ids.{mem, are_distinct}
use Rattle.ticket_tree.specs.Part.{ancestor_ids, part_ids}
use Rattle.ticket_items.specs.Resource.{resource_ids}
use Rattle.ticket_rows.specs.Ticket.{ids}
use Rattle.ticket_items.specs.declared.ancestor.Ancestor.{Ancestor}
use Rattle.ticket_items.specs.declared.node_row.NodeRow.{NodeRow}
use Rattle.ticket_items.specs.declared.resource.Resource.{Resource}

-- whether an id stands in a part: among its rows, or among the copies
pub mem-part_ids : (x : List ℕ) (rows : List NodeRow) (rw ro : List Resource)
    → ((mem x (ids rows) || list_any (λ y. bytes_eq y.id x) rw)
    || list_any (λ y. bytes_eq y.id x) ro)
    ≡ mem x (part_ids rows rw ro)
mem-part_ids x rows rw ro =
    sym
    (mem-append x (ids rows ++ resource_ids rw) (resource_ids ro) ∙ ap (λ b. b || mem x (resource_ids ro)) (mem-append x (ids rows) (resource_ids rw))
    ∙ ap (λ b. (mem x (ids rows) || b) || mem x (resource_ids ro)) (any-map x rw) ∙ ap (λ b. (mem x (ids rows) || list_any (λ y. bytes_eq y.id x) rw) || b) (any-map x ro))

names-ids : (x : List ℕ) (ancestors : List Ancestor)
    → list_any (λ a. bytes_eq a.node_id x) ancestors ≡ mem x (ancestor_ids ancestors)
names-ids x [] = refl
names-ids x (a ∷ ancestors) = ap (λ b. bytes_eq a.node_id x || b) (names-ids x ancestors)

-- one ancestor more: its id, and those behind it
pub distinct_more : (ancestors : List Ancestor) (i : ℕ) (d : Ancestor) (b : Bool)
    → i < length ancestors
    → b ≡ list_any (λ a. bytes_eq a.node_id (get_or ancestors i d).node_id) (drop (i + 1) ancestors)
    → are_distinct (ancestor_ids (drop i ancestors))
    ≡ (not b && are_distinct (ancestor_ids (drop (i + 1) ancestors)))
distinct_more ancestors i d b within e =
    ap (λ xs. are_distinct (ancestor_ids xs)) (drop_more ancestors i d within)
    ∙ ap (λ c. not c && are_distinct (ancestor_ids (drop (i + 1) ancestors))) (sym (e ∙ names-ids (get_or ancestors i d).node_id (drop (i + 1) ancestors)))
