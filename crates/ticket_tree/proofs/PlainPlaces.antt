-- Each edit of the rows but a new node, seen on the places.
use Rattle.std.proofs.Common.{◌≡◌, ℕ, ◌&&◌, ◌||◌, Bool, true, false, not, cond, List, [], ◌∷◌}
use Rattle.std.proofs.Common.{◌++◌, map, Some, refl, sym, ap, ◌∙◌, append_assoc}
use Rattle.std.proofs.lemmas.Bool.{and_parts, and_from, or_parts, not-true, or_from}
use Rattle.std.proofs.lemmas.List.{map-append}
use Rattle.std.proofs.lemmas.List.Folds.{list_any-append}
use Rattle.std.proofs.lemmas.Slice.Eq.{bytes_eq-Decides}
use Rattle.std.specs.List.{list_all, list_any}
use Rattle.std.specs.Str.{bytes_eq}
use Rattle.ticket_items.proofs.Apart.{mem-append}
use Rattle.ticket_items.proofs.AtKey.{at_key, at_key-none}
use Rattle.ticket_tree.proofs.ById.{pool_ids, resource_ids}
use Rattle.ticket_tree.proofs.OnPlaces as on
use Rattle.ticket_rows.proofs.Growing.{add_link}
use Rattle.ticket_rows.proofs.NewResource.{add_resource}
use Rattle.ticket_rows.proofs.NodePlaces.{nodes_from}
use Rattle.ticket_rows.specs.Edit.{with_row, with_resource, behind_last}
use Rattle.ticket_items.specs.Resource.{with_item}
use Rattle.ticket_items.specs.Ids.{mem, are_distinct}
use Rattle.ticket_rows.specs.Place.{Place, node_place, resource_place, places_of, places_from}
use Rattle.ticket_rows.specs.Place.{place_at, path_of}
use Rattle.ticket_tree.specs.PlainEdit.{is_at, with_link}
use Rattle.ticket_rows.specs.Ticket.{node_ids}
use Rattle.ticket_items.specs.declared.link.Link.{Link}
use Rattle.ticket_items.specs.declared.node_row.NodeRow.{NodeRow}
use Rattle.ticket_items.specs.declared.resource.Resource.{Resource}

-- ---- changes that move nothing

-- f changes nothing that tells where a row and its resources stand
pub record KeepsPlaces (f : NodeRow → NodeRow) : Type 0 where
  pub path : (before : List (List ℕ)) (r : NodeRow) → path_of before (f r) ≡ path_of before r
  pub places : (path : List (List ℕ)) (r : NodeRow) → places_of (f r) path ≡ places_of r path

kept_path : (b : Bool) (f : NodeRow → NodeRow) (before : List (List ℕ)) (r : NodeRow)
    → KeepsPlaces f → path_of before (cond b (f r) r) ≡ path_of before r
kept_path true f before r keeps = keeps.path before r
kept_path false f before r keeps = refl

kept_places : (b : Bool) (f : NodeRow → NodeRow) (path : List (List ℕ)) (r : NodeRow)
    → KeepsPlaces f → places_of (cond b (f r) r) path ≡ places_of r path
kept_places true f path r keeps = keeps.places path r
kept_places false f path r keeps = refl

pub places-with_row : (x : List ℕ) (f : NodeRow → NodeRow) (before : List (List ℕ))
    (rows : List NodeRow)
    → KeepsPlaces f → places_from before (with_row x f rows) ≡ places_from before rows
places-with_row x f before [] keeps = refl
places-with_row x f before (r ∷ rows) keeps =
    ap (λ path. places_of (cond (bytes_eq r.id x) (f r) r) path ++ places_from path (with_row x f rows)) (kept_path (bytes_eq r.id x) f before r keeps)
    ∙ ap (λ ps. ps ++ places_from (path_of before r) (with_row x f rows)) (kept_places (bytes_eq r.id x) f (path_of before r) r keeps)
    ∙ ap (λ ps. places_of r (path_of before r) ++ ps) (places-with_row x f (path_of before r) rows keeps)

item_place : (b : Bool) (path : List (List ℕ)) (f : Resource → Resource) (y : Resource)
    → resource_place path (f y) ≡ resource_place path y
    → resource_place path (cond b (f y) y) ≡ resource_place path y
item_place true path f y e = e
item_place false path f y e = refl

pool_places : (x : List ℕ) (f : Resource → Resource) (path : List (List ℕ)) (pool : List Resource)
    → ((y : Resource) → resource_place path (f y) ≡ resource_place path y)
    → map (resource_place path) (with_item x f pool) ≡ map (resource_place path) pool
pool_places x f path [] keeps = refl
pool_places x f path (y ∷ pool) keeps =
    ap (λ p. p ∷ map (resource_place path) (with_item x f pool)) (item_place (bytes_eq y.id x) path f y (keeps y)) ∙ ap (λ ps. resource_place path y ∷ ps) (pool_places x f path pool keeps)

pub places-with_resource : (x : List ℕ) (f : Resource → Resource) (before : List (List ℕ))
    (rows : List NodeRow)
    → ((path : List (List ℕ)) (y : Resource) → resource_place path (f y) ≡ resource_place path y)
    → places_from before (with_resource x f rows) ≡ places_from before rows
places-with_resource x f before [] keeps = refl
places-with_resource x f before (r ∷ rows) keeps =
    ap (λ ps. (node_place r (path_of before r) ∷ ps) ++ places_from (path_of before r) (with_resource x f rows)) (pool_places x f (path_of before r) r.resources (keeps (path_of before r)))
    ∙ ap (λ ps. places_of r (path_of before r) ++ ps) (places-with_resource x f (path_of before r) rows keeps)

-- ---- a new link

abbrev pub link_place : Link → Place → Place
link_place l p = record p { thing = with_link l p.thing }

linked_node : (b : Bool) (l : Link) (before : List (List ℕ)) (r : NodeRow)
    → places_of (cond b (add_link l r) r) (path_of before (cond b (add_link l r) r))
    ≡ cond b (link_place l (node_place r (path_of before r))) (node_place r (path_of before r))
    ∷ map (resource_place (path_of before r)) r.resources
linked_node true l before r = refl
linked_node false l before r = refl

link_path : (b : Bool) (l : Link) (before : List (List ℕ)) (r : NodeRow)
    → path_of before (cond b (add_link l r) r) ≡ path_of before r
link_path true l before r = refl
link_path false l before r = refl

pub places-add_link : (x : List ℕ) (l : Link) (before : List (List ℕ)) (rows : List NodeRow)
    → mem x (resource_ids rows) ≡ false
    → places_from before (with_row x (add_link l) rows)
    ≡ at_key (λ p. p.id) x (link_place l) (places_from before rows)
places-add_link x l before [] out = refl
places-add_link x l before (r ∷ rows) out =
    let parts = or_parts (mem x (pool_ids r)) (mem x (resource_ids rows)) (sym (mem-append x (pool_ids r) (resource_ids rows)) ∙ out) in
    let path : List (List ℕ) = path_of before r in
    let first : Place = cond (bytes_eq r.id x) (link_place l (node_place r path)) (node_place r path) in
    let own : at_key (λ p. p.id) x (link_place l) (map (resource_place path) r.resources) ≡ map (resource_place path) r.resources =
    at_key-none (λ p. p.id) x (link_place l) (map (resource_place path) r.resources) (ap (mem x) (on.pool_ids path r.resources) ∙ parts.0) in
    ap (λ ps. ps ++ places_from (path_of before (cond (bytes_eq r.id x) (add_link l r) r)) (with_row x (add_link l) rows)) (linked_node (bytes_eq r.id x) l before r)
    ∙ ap (λ p. (first ∷ map (resource_place path) r.resources) ++ places_from p (with_row x (add_link l) rows)) (link_path (bytes_eq r.id x) l before r)
    ∙ ap (λ ps. (first ∷ map (resource_place path) r.resources) ++ ps) (places-add_link x l path rows parts.1)
    ∙ ap (λ ps. (first ∷ ps) ++ at_key (λ p. p.id) x (link_place l) (places_from path rows)) (sym own)
    ∙ sym (map-append (λ (p : Place). cond (bytes_eq p.id x) (link_place l p) p) (places_of r path) (places_from path rows))

-- ---- behind the last that passes

-- behind the last that passes, or in front where none does
abbrev pub behind_or_first : (Place → Bool) → Place → List Place → List Place
behind_or_first p new tree = cond (list_any p tree) (behind_last p new tree) (new ∷ tree)

pass_at : (any : Bool) (p : Place → Bool) (new q : Place) (tree : List Place) → p q ≡ true
    → list_any p tree ≡ any
    → cond (p q && not (list_any p tree)) (q ∷ new ∷ tree) (q ∷ behind_last p new tree)
    ≡ q ∷ behind_or_first p new tree
pass_at true p new q tree e any =
    ap (λ b. cond (p q && not b) (q ∷ new ∷ tree) (q ∷ behind_last p new tree)) any ∙ ap (λ b. cond (b && false) (q ∷ new ∷ tree) (q ∷ behind_last p new tree)) e ∙ ap (λ b. q ∷ cond b (behind_last p new tree) (new ∷ tree)) (sym any)
pass_at false p new q tree e any =
    ap (λ b. cond (p q && not b) (q ∷ new ∷ tree) (q ∷ behind_last p new tree)) any ∙ ap (λ b. cond (b && true) (q ∷ new ∷ tree) (q ∷ behind_last p new tree)) e ∙ ap (λ b. q ∷ cond b (behind_last p new tree) (new ∷ tree)) (sym any)

pub behind_last-pass : (p : Place → Bool) (new q : Place) (tree : List Place) → p q ≡ true
    → behind_last p new (q ∷ tree) ≡ q ∷ behind_or_first p new tree
behind_last-pass p new q tree e = pass_at (list_any p tree) p new q tree e refl

pub behind_or_first-pass : (p : Place → Bool) (new : Place) (xs tree : List Place)
    → list_all p xs ≡ true → behind_or_first p new (xs ++ tree) ≡ xs ++ behind_or_first p new tree
behind_or_first-pass p new [] tree all = refl
behind_or_first-pass p new (q ∷ xs) tree all =
    let parts = and_parts _ _ all in
    ap (λ b. cond (b || list_any p (xs ++ tree)) (behind_last p new (q ∷ xs ++ tree)) (new ∷ q ∷ xs ++ tree)) parts.0
    ∙ behind_last-pass p new q (xs ++ tree) parts.0 ∙ ap (λ ps. q ∷ ps) (behind_or_first-pass p new xs tree parts.1)

pub behind_or_first-none : (p : Place → Bool) (new : Place) (tree : List Place)
    → list_any p tree ≡ false → behind_or_first p new tree ≡ new ∷ tree
behind_or_first-none p new tree none = ap (λ b. cond b (behind_last p new tree) (new ∷ tree)) none

pub behind_last-skip : (p : Place → Bool) (new : Place) (xs tree : List Place)
    → list_any p xs ≡ false → behind_last p new (xs ++ tree) ≡ xs ++ behind_last p new tree
behind_last-skip p new [] tree none = refl
behind_last-skip p new (q ∷ xs) tree none =
    let parts = or_parts (p q) (list_any p xs) none in
    ap (λ b. cond (b && not (list_any p (xs ++ tree))) (q ∷ new ∷ xs ++ tree) (q ∷ behind_last p new (xs ++ tree))) parts.0 ∙ ap (λ ps. q ∷ ps) (behind_last-skip p new xs tree parts.1)

-- ---- a new resource

pool_at : (n : List ℕ) (r : NodeRow) (before : List (List ℕ)) (xs : List Resource)
    → bytes_eq r.id n ≡ true
    → list_all (is_at n) (map (resource_place (path_of before r)) xs) ≡ true
pool_at n r before [] e = refl
pool_at n r before (x ∷ xs) e = and_from _ _ e (pool_at n r before xs e)

pool_elsewhere : (n : List ℕ) (r : NodeRow) (before : List (List ℕ)) (xs : List Resource)
    → bytes_eq r.id n ≡ false
    → list_any (is_at n) (map (resource_place (path_of before r)) xs) ≡ false
pool_elsewhere n r before [] e = refl
pool_elsewhere n r before (x ∷ xs) e = or_from _ _ e (pool_elsewhere n r before xs e)

none_at : (n : List ℕ) (before : List (List ℕ)) (rows : List NodeRow)
    → mem n (node_ids rows) ≡ false → list_any (is_at n) (places_from before rows) ≡ false
none_at n before [] out = refl
none_at n before (r ∷ rows) out =
    let parts = or_parts (bytes_eq r.id n) (mem n (node_ids rows)) out in
    or_from _ _ parts.0 (list_any-append (is_at n) (map (resource_place (path_of before r)) r.resources) (places_from (path_of before r) rows) ∙ or_from _ _ (pool_elsewhere n r before r.resources parts.0) (none_at n (path_of before r) rows parts.1))

some_same : (p q : Place) → Some p ≡ Some q → p ≡ q
some_same p q e = cc

resource_row : (b : Bool) (n : List ℕ) (x : Resource) (p : Place) (before : List (List ℕ))
    (r : NodeRow) (rows : List NodeRow)
    → bytes_eq r.id n ≡ b → mem r.id (node_ids rows) ≡ false
    → cond b (Some (node_place r (path_of before r)))
    (place_at (nodes_from (path_of before r) rows) n)
    ≡ Some p
    → (place_at (nodes_from (path_of before r) rows) n ≡ Some p
    → places_from (path_of before r) (with_row n
    (add_resource x) rows) ≡ behind_last (is_at n) (resource_place p.path x) (places_from
    (path_of before r) rows))
    → places_of (cond b (add_resource x r) r) (path_of before (cond b (add_resource x r) r))
    ++ places_from (path_of before (cond b (add_resource x r) r)) (with_row n (add_resource x) rows)
    ≡ behind_last (is_at n) (resource_place p.path x)
    (places_of r (path_of before r) ++ places_from (path_of before r) rows)
resource_row true n x p before r rows e alone found go =
    let path : List (List ℕ) = path_of before r in
    let same : node_place r path ≡ p = some_same (node_place r path) p found in
    let new : Place = resource_place p.path x in
    let named : r.id ≡ n = (bytes_eq-Decides r.id n).0 e in
    let out : mem n (node_ids rows) ≡ false = ap (λ y. mem y (node_ids rows)) (sym named) ∙ alone in
    let rest : List Place = places_from path rows in
    let pool : List Place = map (resource_place path) r.resources in
    ap (λ rs. places_of (add_resource x r) path ++ places_from path rs) (at_key-none (λ s. s.id) n (add_resource x) rows out)
    ∙ ap (λ ps. (node_place r path ∷ ps) ++ rest) (map-append (resource_place path) r.resources (x ∷ []))
    ∙ ap (λ ps. node_place r path ∷ ps) (append_assoc pool (resource_place path x ∷ []) rest)
    ∙ ap (λ q. node_place r path ∷ pool ++ resource_place q.path x ∷ rest) same
    ∙ sym (behind_last-pass (is_at n) new (node_place r path) (pool ++ rest) e
    ∙ ap (λ ps. node_place r path ∷ ps) (behind_or_first-pass (is_at n) new pool rest (pool_at n r before r.resources e) ∙ ap (λ ps. pool ++ ps) (behind_or_first-none (is_at n) new rest (none_at n path rows out))))
resource_row false n x p before r rows e alone found go =
    let path : List (List ℕ) = path_of before r in
    ap (λ ps. places_of r path ++ ps) (go found)
    ∙ sym (behind_last-skip (is_at n) (resource_place p.path x) (places_of r path) (places_from path rows) (or_from _ _ e (pool_elsewhere n r before r.resources e)))

pub places-add_resource : (n : List ℕ) (x : Resource) (p : Place) (before : List (List ℕ))
    (rows : List NodeRow)
    → are_distinct (node_ids rows) ≡ true → place_at (nodes_from before rows) n ≡ Some p
    → places_from before (with_row n (add_resource x) rows)
    ≡ behind_last (is_at n) (resource_place p.path x) (places_from before rows)
places-add_resource n x p before [] apart found = cc
places-add_resource n x p before (r ∷ rows) apart found =
    let parts = and_parts _ _ apart in
    resource_row (bytes_eq r.id n) n x p before r rows refl (not-true _ parts.0) found (λ later. places-add_resource n x p (path_of before r) rows parts.1 later)
