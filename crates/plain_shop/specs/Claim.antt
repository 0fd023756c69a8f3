-- What a spawn of a node takes, by the places of a ticket (JDF 1.5, 4.4): the node with all that
-- stands below it, and copies of resources that it links from above.
use Rattle.std.specs.Prelude.{ℕ, ◌&&◌, ◌||◌, Bool, not, List, map}
use Rattle.std.specs.List.{filter, list_any}
use Rattle.std.specs.Str.{bytes_eq}
use Rattle.ticket_items.specs.Ids.{mem}
use Rattle.ticket_rows.specs.Place.{Place, is_node, below, links_of}

abbrev pub ids_of : List Place → List (List ℕ)
ids_of tree = map (λ p. p.id) tree

-- whether what stands at the place links the resource
abbrev pub links : List ℕ → Place → Bool
links x p = list_any (λ l. bytes_eq l.rref x) (links_of p.thing)

-- whether the node n or one below it links the resource
abbrev pub is_linked_below : List Place → List ℕ → List ℕ → Bool
is_linked_below tree n x = list_any (λ p. below n p && links x p) tree

-- whether a resource stands at the place that is linked outside the node n: n or a node below it
-- links the resource, and its home is neither
abbrev pub is_linked_outside : List Place → List ℕ → Place → Bool
is_linked_outside tree n p = not (is_node p) && not (below n p) && is_linked_below tree n p.id

-- the resources linked outside the node n, in ticket order
abbrev pub linked_outside : List Place → List ℕ → List Place
linked_outside tree n = filter (is_linked_outside tree n) tree

-- those of them whose copies may be changed, and the others, whose copies may be read alone
abbrev pub linked_rw : List Place → List ℕ → List (List ℕ) → List Place
linked_rw tree n rw = filter (λ p. mem p.id rw) (linked_outside tree n)

abbrev pub linked_ro : List Place → List ℕ → List (List ℕ) → List Place
linked_ro tree n rw = filter (λ p. not (mem p.id rw)) (linked_outside tree n)

-- whether the claim of a spawn of n has what stands at the place: the nodes below n, the resources
-- at home there, and those whose copies may be changed
abbrev pub is_claimed : List ℕ → List (List ℕ) → Place → Bool
is_claimed n rw p = below n p || mem p.id rw

-- the claim of a spawn of n, in ticket order
abbrev pub claim : List Place → List ℕ → List (List ℕ) → List Place
claim tree n rw = filter (is_claimed n rw) tree
