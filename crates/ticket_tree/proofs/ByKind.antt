-- Places among all places: of nodes, of resources, and of a resource at the node in whose pool it
-- is.
use Rattle.std.proofs.Common.{◌≡◌, ◌∙◌, ◌⊎◌, ℕ, Bool, true, false, not, cond, List, [], ◌∷◌, ◌++◌}
use Rattle.std.proofs.Common.{map, Some, is_some, slice_get, inl, inr, refl, sym, ap}
use Rattle.std.proofs.lemmas.Bool.{true≢false, and_parts, not-true}
use Rattle.std.proofs.lemmas.Slice.Eq.{bytes_eq-Decides}
use Rattle.std.specs.List.{filter}
use Rattle.std.specs.Option.{option_map_or}
use Rattle.std.specs.Str.{bytes_eq}
use Rattle.ticket_items.proofs.Apart.{bytes_eq-same}
use Rattle.ticket_items.proofs.AtKey.{any_key}
use Rattle.ticket_items.proofs.Places.{is_some-find}
use Rattle.ticket_items.specs.Ids.{mem, are_distinct}
use Rattle.ticket_rows.proofs.Below.{mem-node_ids, is_some-place_at}
use Rattle.ticket_rows.proofs.NodePlaces.{nodes_from}
use Rattle.ticket_rows.proofs.ResourcePlaces.{resources_from}
use Rattle.ticket_rows.specs.Place.{Place, path_of, node_place, resource_place, places, is_node}
use Rattle.ticket_rows.specs.Place.{node_places, resource_places, place_at, home_at}
use Rattle.ticket_rows.specs.Ticket.{IsValid, node_ids}
use Rattle.ticket_items.specs.declared.node_row.NodeRow.{NodeRow}
use Rattle.ticket_items.specs.declared.resource.Resource.{Resource}
use Rattle.ticket_tree.proofs.OnPlaces.{ids_of_places}
use Rattle.ticket_tree.proofs.Parents.{other_id}

-- ---- among all places

-- what is found stands there
found_stands : (tree : List Place) (x : List ℕ) (p : Place) → place_at tree x ≡ Some p
    → mem x (map (λ q. q.id) tree) ≡ true
found_stands tree x p found = sym (any_key (λ q. q.id) x tree) ∙ sym (is_some-find (λ q. bytes_eq q.id x) tree) ∙ ap is_some found

-- an id that stands later isn't this one
other_at : (here : Bool) (x y : List ℕ) (xs : List (List ℕ)) → bytes_eq x y ≡ here
    → mem x xs ≡ false → mem y xs ≡ true → here ≡ false
other_at true x y xs e out there = absurd (true≢false (sym there ∙ ap (λ i. mem i xs) (sym ((bytes_eq-Decides x y).0 e)) ∙ out))
other_at false x y xs e out there = refl

found_at : (kept here : Bool) (f : Place → Bool) (q : Place) (tree : List Place) (x : List ℕ)
    (p : Place)
    → bytes_eq q.id x ≡ here → mem q.id (map (λ r. r.id) tree) ≡ false
    → (place_at (filter f tree) x ≡ Some p → place_at tree x ≡ Some p)
    → place_at (cond kept (q ∷ filter f tree) (filter f tree)) x ≡ Some p
    → cond here (Some q) (place_at tree x) ≡ Some p
found_at true true f q tree x p e out go found = ap (λ b. cond b (Some q) (place_at (filter f tree) x)) (sym e) ∙ found
found_at true false f q tree x p e out go found = go (ap (λ b. cond b (Some q) (place_at (filter f tree) x)) (sym e) ∙ found)
found_at false here f q tree x p e out go found =
    let later = go found in
    ap (λ b. cond b (Some q) (place_at tree x)) (other_at here q.id x (map (λ r. r.id) tree) e out (found_stands tree x p later)) ∙ later

-- what is found among some places is found among all, where no id stands twice
pub found_among : (f : Place → Bool) (tree : List Place) (x : List ℕ) (p : Place)
    → are_distinct (map (λ q. q.id) tree) ≡ true → place_at (filter f tree) x ≡ Some p
    → place_at tree x ≡ Some p
found_among f [] x p apart found = found
found_among f (q ∷ tree) x p apart found =
    let parts = and_parts (not (mem q.id (map (λ r. r.id) tree))) (are_distinct (map (λ r. r.id) tree)) apart in
    found_at (f q) (bytes_eq q.id x) f q tree x p refl (not-true _ parts.0) (found_among f tree x p parts.1) found

pub ids_apart : (rows : List NodeRow) → IsValid rows
    → are_distinct (map (λ q. q.id) (places rows)) ≡ true
ids_apart rows valid = ap are_distinct (ids_of_places [] rows) ∙ valid.distinct

-- the place of a node
pub place_of_node : (rows : List NodeRow) (x : List ℕ) (p : Place) → IsValid rows
    → place_at (node_places rows) x ≡ Some p → place_at (places rows) x ≡ Some p
place_of_node rows x p valid found = found_among is_node (places rows) x p (ids_apart rows valid) found

-- the place of a resource
pub place_of_resource : (rows : List NodeRow) (x : List ℕ) (p : Place) → IsValid rows
    → place_at (resource_places rows) x ≡ Some p → place_at (places rows) x ≡ Some p
place_of_resource rows x p valid found = found_among (λ q. not (is_node q)) (places rows) x p (ids_apart rows valid) found

-- ---- a resource has the path of its home

-- the home of a place, with the same path
pub record HasHome (nodes : List Place) (q : Place) (h : List ℕ) : Type 0 where
  pub node : Place
  pub there : place_at nodes h ≡ Some node
  pub path : node.path ≡ q.path

in_pool_at : (here : Bool) (path : List (List ℕ)) (y : Resource) (pool : List Resource)
    (rest : List Place) (x : List ℕ) (q : Place)
    → (place_at (map (resource_place path) pool ++ rest) x ≡ Some q
    → (q.path ≡ path) ⊎ (place_at rest x ≡ Some q))
    → cond here (Some (resource_place path y)) (place_at (map (resource_place path) pool ++ rest) x)
    ≡ Some q
    → (q.path ≡ path) ⊎ (place_at rest x ≡ Some q)
in_pool_at true path y pool rest x q go found = inl (sym (ap (λ o. option_map_or (λ r. r.path) o path) found))
in_pool_at false path y pool rest x q go found = go found

in_pool : (path : List (List ℕ)) (pool : List Resource) (rest : List Place) (x : List ℕ) (q : Place)
    → place_at (map (resource_place path) pool ++ rest) x ≡ Some q
    → (q.path ≡ path) ⊎ (place_at rest x ≡ Some q)
in_pool path [] rest x q found = inr found
in_pool path (y ∷ pool) rest x q found = in_pool_at (bytes_eq y.id x) path y pool rest x q (in_pool path pool rest x q) found

pub home_from : (before : List (List ℕ)) (rows : List NodeRow) (x : List ℕ) (q : Place) (h : List ℕ)
    → are_distinct (node_ids rows) ≡ true → place_at (resources_from before rows) x ≡ Some q
    → home_at q ≡ Some h → HasHome (nodes_from before rows) q h
home_from before [] x q h apart found held = cc
home_from before (r ∷ rows) x q h apart found held =
    elim (in_pool (path_of before r) r.resources (resources_from (path_of before r) rows) x q found) [
      | inl here ↦
          let same : r.id ≡ h = ap (λ o. option_map_or (λ i. i) o r.id) (sym (ap (λ path. slice_get path 0) here) ∙ held) in
          record {
            node = node_place r (path_of before r);
            there = ap (λ b. cond b (Some (node_place r (path_of before r))) (place_at (nodes_from (path_of before r) rows) h)) (ap (bytes_eq r.id) (sym same) ∙ bytes_eq-same r.id);
            path = sym here;
          }
      | inr later ↦
          let home = home_from (path_of before r) rows x q h (and_parts (not (mem r.id (node_ids rows))) (are_distinct (node_ids rows)) apart).1 later held in
          let stands : mem h (node_ids rows) ≡ true = mem-node_ids rows h ∙ sym (is_some-place_at (path_of before r) rows h) ∙ ap is_some home.there in
          record {
            node = home.node;
            there = ap (λ b. cond b (Some (node_place r (path_of before r))) (place_at (nodes_from (path_of before r) rows) h)) (other_id r rows h apart stands) ∙ home.there;
            path = home.path;
          }
    ]

-- ---- by kind

kept_at : (here kept : Bool) (f : Place → Bool) (q : Place) (tree : List Place) (x : List ℕ)
    (p : Place)
    → bytes_eq q.id x ≡ here → f q ≡ kept → f p ≡ true
    → (place_at tree x ≡ Some p → place_at (filter f tree) x ≡ Some p)
    → cond here (Some q) (place_at tree x) ≡ Some p
    → place_at (cond kept (q ∷ filter f tree) (filter f tree)) x ≡ Some p
kept_at true true f q tree x p e k passes go found = ap (λ b. cond b (Some q) (place_at (filter f tree) x)) e ∙ found
kept_at true false f q tree x p e k passes go found = absurd (true≢false (sym passes ∙ sym (ap (λ o. option_map_or f o true) found) ∙ k))
kept_at false true f q tree x p e k passes go found = ap (λ b. cond b (Some q) (place_at (filter f tree) x)) e ∙ go found
kept_at false false f q tree x p e k passes go found = go found

-- what is found among all places and passes a test is found among those that pass
pub found_by_kind : (f : Place → Bool) (tree : List Place) (x : List ℕ) (p : Place) → f p ≡ true
    → place_at tree x ≡ Some p → place_at (filter f tree) x ≡ Some p
found_by_kind f [] x p passes found = cc
found_by_kind f (q ∷ tree) x p passes found = kept_at (bytes_eq q.id x) (f q) f q tree x p refl refl passes (found_by_kind f tree x p passes) found
