-- A part stays while its claim does: its rows and resources are built anew of what stands in the
-- claim, each with its row.
use Rattle.std.proofs.Common.{◌≡◌, ◌∙◌, ℕ, ◌||◌, Bool, true, false, cond, List, [], ◌∷◌, ◌++◌}
use Rattle.std.proofs.Common.{length, map, refl, sym, ap, ◌&&◌, Option}
use Rattle.std.proofs.lemmas.List.{length-map}
use Rattle.std.specs.List.{filter}
use Rattle.std.specs.Str.{bytes_eq}
use Rattle.ticket_rows.proofs.Below.{Path, Follows, length-path_of, Follows-outline}
use Rattle.ticket_items.specs.Ids.{mem}
use Rattle.ticket_rows.specs.Place.{Place, Row, Thing, node, resource, node_place, node_row, below}
use Rattle.ticket_rows.specs.Place.{is_below, path_of, places, node_places, row_in}
use Rattle.ticket_items.specs.declared.node_row.NodeRow.{NodeRow}
use Rattle.ticket_items.specs.declared.resource.Resource.{Resource}
use Rattle.spawn.proofs.Chosen.{resources_cons, filter_as, filter_twice}
use Rattle.ticket_tree.proofs.OwnPlaces.{OwnPlaces, stands_below, own_places-rows}
use Rattle.spawn.proofs.RowsBelow.{filter-append}
use Rattle.plain_shop.specs.Claim.{is_claimed, claim, ids_of}
use Rattle.spawn.specs.Parts.{above, ancestor, ancestors, lifted_row, resources, resources_among}
use Rattle.ticket_tree.specs.At.{rows_below}
use Rattle.ticket_items.proofs.Apart.{bytes_eq-same}
use Rattle.ticket_tree.specs.Part.{part_copy}
use Rattle.ticket_rows.specs.Ticket.{IsValid, ids}
use Rattle.ticket_tree.proofs.Pieces.{known, with_row, pieces_are}
use Rattle.spawn.proofs.HomesBelow.{or_right}
use Rattle.spawn.specs.Laws.{PartStays}
pub use Rattle.ticket_tree.proofs.Pieces.{Piece, piece, pieces_from, Built, build, resource_by, row_built}

-- ---- those below a node

abbrev pub below_n : List ℕ → Piece → Bool
below_n n e = below n e.0

pool_in : (n : List ℕ) (path : Path) (xs : List Resource) (es : List Piece) → mem n path ≡ true
    → filter (below_n n) (map (piece path) xs ++ es) ≡ map (piece path) xs ++ filter (below_n n) es
pool_in n path [] es e = refl
pool_in n path (x ∷ xs) es e =
    let rest = filter (below_n n) (map (piece path) xs ++ es) in
    ap (λ b. cond b (piece path x ∷ rest) rest) e ∙ ap (λ ys. piece path x ∷ ys) (pool_in n path xs es e)

pool_out : (n : List ℕ) (path : Path) (xs : List Resource) (es : List Piece) → mem n path ≡ false
    → filter (below_n n) (map (piece path) xs ++ es) ≡ filter (below_n n) es
pool_out n path [] es e = refl
pool_out n path (x ∷ xs) es e =
    let rest = filter (below_n n) (map (piece path) xs ++ es) in
    ap (λ b. cond b (piece path x ∷ rest) rest) e ∙ pool_out n path xs es e

built_at : (b : Bool) (n : List ℕ) (r : NodeRow) (path : Path) (es : List Piece)
    (rows : List NodeRow)
    → mem n path ≡ b → length path ≡ r.depth → build (filter (below_n n) es) ≡ ([], rows)
    → build
    (cond b
    ((node_place r path, node_row r) ∷ filter (below_n n) (map (piece path) r.resources ++ es))
    (filter (below_n n) (map (piece path) r.resources ++ es)))
    ≡ ([], cond b (r ∷ rows) rows)
built_at true n r path es rows e deep go = ap (λ ps. build ((node_place r path, node_row r) ∷ ps)) (pool_in n path r.resources es e) ∙ row_built r path (filter (below_n n) es) rows deep go
built_at false n r path es rows e deep go = ap build (pool_out n path r.resources es e) ∙ go

-- the rows below n, of what stands below it
pub built_below : (tree : List Place) (n : List ℕ) (before : Path) (rows : List NodeRow)
    → Follows before rows → OwnPlaces tree before rows
    → build (filter (below_n n) (pieces_from before rows))
    ≡ ([], filter (λ r. is_below tree r.id n) rows)
built_below tree n before [] follows own = refl
built_below tree n before (r ∷ rows) follows own =
    let path = path_of before r in
    let es = pieces_from path rows in
    let kept = filter (λ s. is_below tree s.id n) rows in
    let rest = filter (below_n n) (map (piece path) r.resources ++ es) in
    built_at (mem n path) n r path es kept refl (length-path_of before r follows.0 follows.1) (built_below tree n path rows follows.2 own.1)
    ∙ ap (λ b. ([], cond b (r ∷ kept) kept)) (sym (stands_below tree n r path (mem n path) own.0 refl))

-- ---- resources of pieces

abbrev picked_with : Place → Row → Thing → List (List ℕ) → List Resource → List Resource
picked_with p w (node kind job_part links) ids xs = xs
picked_with p w (resource name class) ids xs = cond (mem p.id ids) (resource_by p w name class ∷ xs) xs

abbrev pub picked : List (List ℕ) → List Piece → List Resource
picked ids [] = []
picked ids (e ∷ es) = picked_with e.0 e.1 e.0.thing ids (picked ids es)

joined_at : (b : Bool) (x : Resource) (ys zs rest : List Resource) → ys ≡ zs ++ rest
    → cond b (x ∷ ys) ys ≡ cond b (x ∷ zs) zs ++ rest
joined_at true x ys zs rest e = ap (λ xs. x ∷ xs) e
joined_at false x ys zs rest e = e

pool_picked : (ids : List (List ℕ)) (path : Path) (xs : List Resource) (es : List Piece)
    → picked ids (map (piece path) xs ++ es) ≡ filter (λ x. mem x.id ids) xs ++ picked ids es
pool_picked ids path [] es = refl
pool_picked ids path (x ∷ xs) es = joined_at (mem x.id ids) x (picked ids (map (piece path) xs ++ es)) (filter (λ y. mem y.id ids) xs) (picked ids es) (pool_picked ids path xs es)

-- the resources of these ids, of what stands anywhere
picked_from : (ids : List (List ℕ)) (before : Path) (rows : List NodeRow)
    → picked ids (pieces_from before rows) ≡ resources_among ids rows
picked_from ids before [] = refl
picked_from ids before (r ∷ rows) =
    let f : Resource → Bool = λ x. mem x.id ids in
    let path = path_of before r in
    pool_picked ids path r.resources (pieces_from path rows) ∙ ap (λ xs. filter f r.resources ++ xs) (picked_from ids path rows)
    ∙ sym (ap (filter f) (resources_cons r rows) ∙ filter-append f r.resources (resources rows))

out_of : (t : Thing) (p : Place) (w : Row) (ids : List (List ℕ)) (xs : List Resource)
    → mem p.id ids ≡ false → picked_with p w t ids xs ≡ xs
out_of (node kind job_part links) p w ids xs out = refl
out_of (resource name class) p w ids xs out = ap (λ b. cond b (resource_by p w name class ∷ xs) xs) out

picked_at : (b below_it : Bool) (e : Piece) (ids : List (List ℕ)) (es kept : List Piece)
    → mem e.0.id ids ≡ b → picked ids kept ≡ picked ids es
    → picked ids (cond (below_it || b) (e ∷ kept) kept) ≡ picked ids (e ∷ es)
picked_at b true e ids es kept is go = ap (picked_with e.0 e.1 e.0.thing ids) go
picked_at true false e ids es kept is go = ap (picked_with e.0 e.1 e.0.thing ids) go
picked_at false false e ids es kept is go = go ∙ sym (out_of e.0.thing e.0 e.1 ids (picked ids es) is)

abbrev pub claimed : List ℕ → List (List ℕ) → Piece → Bool
claimed n ids e = is_claimed n ids e.0

picked_kept : (n : List ℕ) (ids : List (List ℕ)) (es : List Piece)
    → picked ids (filter (claimed n ids) es) ≡ picked ids es
picked_kept n ids [] = refl
picked_kept n ids (e ∷ es) = picked_at (mem e.0.id ids) (below n e.0) e ids es (filter (claimed n ids) es) refl (picked_kept n ids es)

-- and of what stands in the claim
pub picked_claimed : (n : List ℕ) (ids : List (List ℕ)) (rows : List NodeRow)
    → picked ids (filter (claimed n ids) (pieces_from [] rows)) ≡ resources_among ids rows
picked_claimed n ids rows = picked_kept n ids (pieces_from [] rows) ∙ picked_from ids [] rows

-- ---- what stands in the claim

kept_at : {X Y : Type 0} (b : Bool) (h : X → Y) (x : X) (ys : List Y) (xs : List X) → ys ≡ map h xs
    → cond b (h x ∷ ys) ys ≡ map h (cond b (x ∷ xs) xs)
kept_at true h x ys xs e = ap (λ zs. h x ∷ zs) e
kept_at false h x ys xs e = e

claimed_with_rows : (n : List ℕ) (rw : List (List ℕ)) (f : List ℕ → Option Row) (ps : List Place)
    → filter (claimed n rw) (map (with_row f) ps) ≡ map (with_row f) (filter (is_claimed n rw) ps)
claimed_with_rows n rw f [] = refl
claimed_with_rows n rw f (p ∷ ps) = kept_at (is_claimed n rw p) (with_row f) p (filter (claimed n rw) (map (with_row f) ps)) (filter (is_claimed n rw) ps) (claimed_with_rows n rw f ps)

same_rows : (f g : List ℕ → Option Row) (ps : List Place)
    → ((x : List ℕ) → mem x (ids_of ps) ≡ true → f x ≡ g x)
    → map (with_row f) ps ≡ map (with_row g) ps
same_rows f g [] same = refl
same_rows f g (p ∷ ps) same =
    ap (λ o. (p, known o) ∷ map (with_row f) ps) (same p.id (ap (λ b. b || mem p.id (ids_of ps)) (bytes_eq-same p.id)))
    ∙ ap (λ es. with_row g p ∷ es) (same_rows f g ps (λ x there. same x (or_right (bytes_eq p.id x) (mem x (ids_of ps)) there)))

abbrev claim_pieces : List NodeRow → List ℕ → List (List ℕ) → List Piece
claim_pieces rows n rw = filter (claimed n rw) (pieces_from [] rows)

pieces_of_claim : (rows : List NodeRow) (n : List ℕ) (rw : List (List ℕ)) → IsValid rows
    → claim_pieces rows n rw ≡ map (with_row (row_in rows)) (claim (places rows) n rw)
pieces_of_claim rows n rw valid = ap (filter (claimed n rw)) (pieces_are rows valid) ∙ claimed_with_rows n rw (row_in rows) (places rows)

absorbed : (a b : Bool) → ((a || b) && a) ≡ a
absorbed true b = refl
absorbed false true = refl
absorbed false false = refl

-- the rows below n are those of what the claim has below it
below_claimed : (rows : List NodeRow) (n : List ℕ) (rw : List (List ℕ)) → IsValid rows
    → rows_below rows n ≡ (build (filter (below_n n) (claim_pieces rows n rw))).1
below_claimed rows n rw valid =
    let es = pieces_from [] rows in
    let kept : filter (below_n n) (claim_pieces rows n rw) ≡ filter (below_n n) es =
    filter_twice (claimed n rw) (below_n n) es ∙ filter_as (λ e. claimed n rw e && below_n n e) (below_n n) es (λ e. absorbed (below n e.0) (mem e.0.id rw)) in
    sym (ap (λ ps. (build ps).1) kept ∙ ap (λ b. b.1) (built_below (node_places rows) n [] rows (Follows-outline rows valid.tree) (own_places-rows rows valid)))

pub part_stays : PartStays
part_stays t u r valid valid' job places_stay rows_stay above_stay =
    let n = r.node in
    let rw = r.rw in
    let same : claim_pieces u.rows n rw ≡ claim_pieces t.rows n rw =
    pieces_of_claim u.rows n rw valid' ∙ ap (map (with_row (row_in u.rows))) places_stay ∙ same_rows (row_in u.rows) (row_in t.rows) (claim (places t.rows) n rw) rows_stay ∙ sym (pieces_of_claim t.rows n rw valid) in
    let nodes : rows_below u.rows n ≡ rows_below t.rows n = below_claimed u.rows n rw valid' ∙ ap (λ es. (build (filter (below_n n) es)).1) same ∙ sym (below_claimed t.rows n rw valid) in
    let copies : resources_among rw u.rows ≡ resources_among rw t.rows = sym (picked_claimed n rw u.rows) ∙ ap (picked rw) same ∙ picked_claimed n rw t.rows in
    let levels : length (above u.rows n) ≡ length (above t.rows n) = sym (length-map (above u.rows n) (ancestor u.rows)) ∙ ap length above_stay ∙ length-map (above t.rows n) (ancestor t.rows) in
    ap (λ j. part_copy j r.id (ancestors u.rows n) (map (lifted_row (length (above u.rows n))) (rows_below u.rows n)) (resources_among rw u.rows) r.ro) job
    ∙ ap (λ a. part_copy t.job_id r.id a (map (lifted_row (length (above u.rows n))) (rows_below u.rows n)) (resources_among rw u.rows) r.ro) above_stay
    ∙ ap (λ k. part_copy t.job_id r.id (ancestors t.rows n) (map (lifted_row k) (rows_below u.rows n)) (resources_among rw u.rows) r.ro) levels
    ∙ ap (λ rows. part_copy t.job_id r.id (ancestors t.rows n) (map (lifted_row (length (above t.rows n))) rows) (resources_among rw u.rows) r.ro) nodes
    ∙ ap (λ xs. part_copy t.job_id r.id (ancestors t.rows n) (map (lifted_row (length (above t.rows n))) (rows_below t.rows n)) xs r.ro) copies
