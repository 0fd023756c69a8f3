-- Where resources are at home, found row by row.
use Rattle.std.proofs.Common.{◌≡◌, ℕ, ◌||◌, Bool, true, false, cond, List, [], ◌∷◌, ◌++◌, map}
use Rattle.std.proofs.Common.{Option, Some, None, is_some, refl, sym, ap, ◌∙◌, slice_get, get_or}
use Rattle.std.proofs.lemmas.Option.{slice_get-get_or}
use Rattle.std.specs.List.{find, list_any, position}
use Rattle.std.specs.Option.{option_map, option_and_then}
use Rattle.std.specs.Str.{bytes_eq}
use Rattle.ticket_items.proofs.Apart.{mem-append}
use Rattle.ticket_items.proofs.Places.{found_at_position, none_at_position, below_length}
use Rattle.ticket_items.proofs.Places.{same_found, is_some-find}
use Rattle.ticket_rows.specs.Homes.{homes, entry_of, resource_of, home_of}
use Rattle.ticket_items.specs.Ids.{mem}
use Rattle.ticket_rows.specs.Ticket.{ids}
use Rattle.ticket_items.specs.declared.node_row.NodeRow.{NodeRow}
use Rattle.ticket_items.specs.declared.resource.Resource.{Resource}

-- whether the pool of a row has a resource of that id
abbrev pub holds : List ℕ → NodeRow → Bool
holds x r = list_any (λ y. bytes_eq y.id x) r.resources

abbrev pub in_pool : List ℕ → List Resource → Option Resource
in_pool x pool = find (λ y. bytes_eq y.id x) pool

-- ---- one row after another

pool_row : (b : Bool) (x h : List ℕ) (y : Resource) (pool : List Resource)
    (rest : List (Resource × List ℕ))
    → find (λ e. bytes_eq e.0.id x) (map (λ z. (z, h)) pool ++ rest)
    ≡ cond (list_any (λ z. bytes_eq z.id x) pool) (option_map (λ z. (z, h)) (in_pool x pool))
    (find (λ e. bytes_eq e.0.id x) rest)
    → cond b (Some (y, h)) (find (λ e. bytes_eq e.0.id x) (map (λ z. (z, h)) pool ++ rest))
    ≡ cond (b || list_any (λ z. bytes_eq z.id x) pool)
    (option_map (λ z. (z, h)) (cond b (Some y) (in_pool x pool)))
    (find (λ e. bytes_eq e.0.id x) rest)
pool_row true x h y pool rest later = refl
pool_row false x h y pool rest later = later

pub in_pool_or_later : (x h : List ℕ) (pool : List Resource) (rest : List (Resource × List ℕ))
    → find (λ e. bytes_eq e.0.id x) (map (λ z. (z, h)) pool ++ rest)
    ≡ cond (list_any (λ z. bytes_eq z.id x) pool) (option_map (λ z. (z, h)) (in_pool x pool))
    (find (λ e. bytes_eq e.0.id x) rest)
in_pool_or_later x h [] rest = refl
in_pool_or_later x h (y ∷ pool) rest = pool_row (bytes_eq y.id x) x h y pool rest (in_pool_or_later x h pool rest)

entry_row : (b : Bool) (x : List ℕ) (r : NodeRow) (later : Option (Resource × List ℕ))
    (found : Option NodeRow)
    → later ≡ option_and_then (λ s. option_map (λ y. (y, s.id)) (in_pool x s.resources)) found
    → cond b (option_map (λ y. (y, r.id)) (in_pool x r.resources)) later
    ≡ option_and_then (λ s. option_map (λ y. (y, s.id)) (in_pool x s.resources))
    (cond b (Some r) found)
entry_row true x r later found e = refl
entry_row false x r later found e = e

-- the resource of an id stands in the first pool that has it
pub entry-found : (rows : List NodeRow) (x : List ℕ)
    → entry_of rows x
    ≡ option_and_then (λ r. option_map (λ y. (y, r.id)) (in_pool x r.resources))
    (find (holds x) rows)
entry-found [] x = refl
entry-found (r ∷ rows) x = in_pool_or_later x r.id r.resources (homes rows) ∙ entry_row (holds x r) x r (entry_of rows x) (find (holds x) rows) (entry-found rows x)

-- ---- what is found is there

passes_row : {X : Type 0} (b : Bool) (p : X → Bool) (x y : X) (o : Option X) → p x ≡ b
    → cond b (Some x) o ≡ Some y → (o ≡ Some y → p y ≡ true) → p y ≡ true
passes_row true p x y o e found later =
    let same : x ≡ y = cc in
    ap p (sym same) ∙ e
passes_row false p x y o e found later = later found

pub find-passes : {X : Type 0} (p : X → Bool) (xs : List X) (y : X) → find p xs ≡ Some y
    → p y ≡ true
find-passes p [] y found = cc
find-passes p (x ∷ xs) y found = passes_row (p x) p x y (find p xs) refl found (find-passes p xs y)

-- ---- what the code answers

-- the first row whose pool has the id
pub home_row : (rows : List NodeRow) (x : List ℕ) (k : ℕ) (r : NodeRow)
    → position (holds x) rows ≡ Some k → r ≡ get_or rows k r → find (holds x) rows ≡ Some r
home_row rows x k r found is =
    let at = found_at_position (holds x) rows k found in
    at.1 ∙ ap Some (same_found at.0 r (slice_get rows k) at.2 (slice_get-get_or rows k r (below_length (holds x) rows k found) ∙ ap Some (sym is)))

home_id : (x : List ℕ) (r : NodeRow) (o : Option Resource) → is_some o ≡ true
    → option_map {T = Resource × List ℕ} (λ e. e.1) (option_map (λ y. (y, r.id)) o) ≡ Some r.id
home_id x r None h = cc
home_id x r (Some y) h = refl

own_resource : (r : NodeRow) (o : Option Resource)
    → option_map {T = Resource × List ℕ} (λ e. e.0) (option_map (λ y. (y, r.id)) o) ≡ o
own_resource r None = refl
own_resource r (Some y) = refl

pub home-found : (rows : List NodeRow) (x : List ℕ) (r : NodeRow) → find (holds x) rows ≡ Some r
    → home_of rows x ≡ Some r.id
home-found rows x r found =
    ap (option_map (λ e. e.1)) (entry-found rows x ∙ ap (option_and_then (λ s. option_map (λ y. (y, s.id)) (in_pool x s.resources))) found)
    ∙ home_id x r (in_pool x r.resources) (is_some-find (λ y. bytes_eq y.id x) r.resources ∙ find-passes (holds x) rows r found)

pub resource-found : (rows : List NodeRow) (x : List ℕ) (r : NodeRow) → find (holds x) rows ≡ Some r
    → resource_of rows x ≡ in_pool x r.resources
resource-found rows x r found =
    ap (option_map (λ e. e.0)) (entry-found rows x ∙ ap (option_and_then (λ s. option_map (λ y. (y, s.id)) (in_pool x s.resources))) found) ∙ own_resource r (in_pool x r.resources)

pub none-found : (rows : List NodeRow) (x : List ℕ) → position (holds x) rows ≡ None
    → entry_of rows x ≡ None
none-found rows x none = entry-found rows x ∙ ap (option_and_then (λ s. option_map (λ y. (y, s.id)) (in_pool x s.resources))) (none_at_position (holds x) rows none)

-- ---- the home of an id, one row after another

home_at_pool : (b : Bool) (x : List ℕ) (h : List ℕ) (y : Resource) (pool : List Resource)
    (rest : List (Resource × List ℕ))
    → option_map (λ e. e.1) (find (λ e. bytes_eq e.0.id x) (map (λ z. (z, h)) pool ++ rest))
    ≡ cond (mem x (map (λ z. z.id) pool)) (Some h)
    (option_map (λ e. e.1) (find (λ e. bytes_eq e.0.id x) rest))
    → option_map (λ e. e.1)
    (cond b (Some (y, h)) (find (λ e. bytes_eq e.0.id x) (map (λ z. (z, h)) pool ++ rest)))
    ≡ cond (b || mem x (map (λ z. z.id) pool)) (Some h)
    (option_map (λ e. e.1) (find (λ e. bytes_eq e.0.id x) rest))
home_at_pool true x h y pool rest later = refl
home_at_pool false x h y pool rest later = later

-- the home of an id among the resources of one node, or later
home_in_pool : (x : List ℕ) (h : List ℕ) (pool : List Resource) (rest : List (Resource × List ℕ))
    → option_map (λ e. e.1) (find (λ e. bytes_eq e.0.id x) (map (λ y. (y, h)) pool ++ rest))
    ≡ cond (mem x (map (λ y. y.id) pool)) (Some h)
    (option_map (λ e. e.1) (find (λ e. bytes_eq e.0.id x) rest))
home_in_pool x h [] rest = refl
home_in_pool x h (y ∷ pool) rest = home_at_pool (bytes_eq y.id x) x h y pool rest (home_in_pool x h pool rest)

-- the first row whose pool has the id is its home
pub home_of-cons : (x : List ℕ) (r : NodeRow) (rows : List NodeRow)
    → home_of (r ∷ rows) x ≡ cond (mem x (map (λ y. y.id) r.resources)) (Some r.id) (home_of rows x)
home_of-cons x r rows = home_in_pool x r.id r.resources (homes rows)

-- ---- ids

pub any-map : (x : List ℕ) (pool : List Resource)
    → mem x (map (λ y. y.id) pool) ≡ list_any (λ y. bytes_eq y.id x) pool
any-map x [] = refl
any-map x (y ∷ pool) = ap (λ b. bytes_eq y.id x || b) (any-map x pool)

or-assoc : (a b c : Bool) → (a || (b || c)) ≡ ((a || b) || c)
or-assoc true b c = refl
or-assoc false b c = refl

-- the ids are those of the rows and of their pools
pub mem-ids : (x : List ℕ) (rows : List NodeRow)
    → mem x (ids rows) ≡ list_any (λ r. bytes_eq r.id x || holds x r) rows
mem-ids x [] = refl
mem-ids x (r ∷ rows) =
    ap (λ b. bytes_eq r.id x || b) (mem-append x (map (λ y. y.id) r.resources) (ids rows) ∙ ap (λ b. b || mem x (ids rows)) (any-map x r.resources) ∙ ap (λ b. holds x r || b) (mem-ids x rows))
    ∙ or-assoc (bytes_eq r.id x) (holds x r) (list_any (λ s. bytes_eq s.id x || holds x s) rows)
