-- A ticket in pieces, each a place with the row of its id: from them its rows are built anew.
use Rattle.std.proofs.Common.{◌≡◌, ◌∙◌, ℕ, ◌||◌, Bool, true, false, not, cond, List, [], ◌∷◌, ◌++◌}
use Rattle.std.proofs.Common.{length, map, Option, Some, is_some, refl, sym, ap, append-nil}
use Rattle.std.proofs.lemmas.Bool.{true≢false, and_parts, not-true}
use Rattle.std.proofs.lemmas.Slice.Eq.{bytes_eq-Decides}
use Rattle.std.specs.List.{find}
use Rattle.std.specs.Option.{option_map_or}
use Rattle.std.specs.Str.{bytes_eq}
use Rattle.ticket_items.proofs.Apart.{bytes_eq-same}
use Rattle.ticket_items.specs.Ids.{mem, are_distinct}
use Rattle.ticket_rows.proofs.Below.{Path, Follows, Follows-outline, length-path_of}
use Rattle.ticket_rows.specs.Place.{Place, Row, Thing, node, resource, path_of, node_place}
use Rattle.ticket_rows.specs.Place.{resource_place, node_row, resource_row, places, places_from}
use Rattle.ticket_rows.specs.Place.{row_in, rows_by_id}
use Rattle.ticket_rows.specs.Ticket.{IsValid}
use Rattle.ticket_items.specs.declared.node_row.NodeRow.{NodeRow}
use Rattle.ticket_items.specs.declared.resource.Resource.{Resource}
use Rattle.ticket_tree.proofs.ById.{Line, row_at, line_cond}
use Rattle.ticket_tree.proofs.PlainRows.{keys_of_lines}
use Rattle.ticket_tree.specs.Laws.{PlacesAndRowsDetermine}

-- ---- what stands at the places, with its row

abbrev pub Piece : Type 0
Piece = Place × Row

abbrev pub piece : Path → Resource → Piece
piece path x = (resource_place path x, resource_row x)

abbrev pub pieces_from : Path → List NodeRow → List Piece
pieces_from before [] = []
pieces_from before (r ∷ rows) = (node_place r (path_of before r), node_row r) ∷ (map (piece (path_of before r)) r.resources ++ pieces_from (path_of before r) rows)

-- ---- rows of pieces

-- a pool whose node isn't there yet, and rows
abbrev pub Built : Type 0
Built = List Resource × List NodeRow

abbrev pub resource_by : Place → Row → List ℕ → List ℕ → Resource
resource_by p w name class = record { id = p.id; name = name; class = class; status = w.status; attrs = w.attrs }

abbrev pub built_with : Place → Row → Thing → Built → Built
built_with p w (node kind job_part links) b =
    ([], record { id = p.id; depth = length p.path; kind = kind; job_part = job_part; status = w.status; attrs = w.attrs; resources = b.0; links = links; audits = w.audits } ∷ b.1)
built_with p w (resource name class) b = (resource_by p w name class ∷ b.0, b.1)

abbrev pub build : List Piece → Built
build [] = ([], [])
build (e ∷ es) = built_with e.0 e.1 e.0.thing (build es)

build_pool : (path : Path) (xs : List Resource) (es : List Piece)
    → build (map (piece path) xs ++ es) ≡ (xs ++ (build es).0, (build es).1)
build_pool path [] es = refl
build_pool path (x ∷ xs) es = ap (λ (b : Built). (x ∷ b.0, b.1)) (build_pool path xs es)

pub row_built : (r : NodeRow) (path : Path) (es : List Piece) (rows : List NodeRow)
    → length path ≡ r.depth → build es ≡ ([], rows)
    → build ((node_place r path, node_row r) ∷ (map (piece path) r.resources ++ es))
    ≡ ([], r ∷ rows)
row_built r path es rows deep e =
    ap (built_with (node_place r path) (node_row r) (node r.kind r.job_part r.links)) (build_pool path r.resources es ∙ ap (λ (b : Built). (r.resources ++ b.0, b.1)) e)
    ∙ ap (λ pool. built_with (node_place r path) (node_row r) (node r.kind r.job_part r.links) (pool, rows)) (append-nil r.resources)
    ∙ ap (λ d. ([], record r { depth = d } ∷ rows)) deep

-- ---- each line is found by its id

abbrev OwnLines : (List ℕ → Option Row) → List Line → Type 0
OwnLines f [] = Unit {0}
OwnLines f (l ∷ ls) = (f l.0 ≡ Some l.1) × OwnLines f ls

line_there : (b : Bool) (l : Line) (o : Option Row) (later : Bool) → is_some o ≡ later
    → is_some (cond b (Some l.1) o) ≡ (b || later)
line_there true l o later e = refl
line_there false l o later e = e

key_there : (ls : List Line) (y : List ℕ) → is_some (row_at ls y) ≡ mem y (map (λ l. l.0) ls)
key_there [] y = refl
key_there (l ∷ ls) y =
    ap is_some (line_cond (bytes_eq l.0 y) l (find (λ k. bytes_eq k.0 y) ls)) ∙ line_there (bytes_eq l.0 y) l (row_at ls y) (mem y (map (λ k. k.0) ls)) (key_there ls y)

other_key : (b : Bool) (x y : List ℕ) (xs : List (List ℕ)) → bytes_eq x y ≡ b → mem x xs ≡ false
    → mem y xs ≡ true → b ≡ false
other_key true x y xs e out there = absurd (true≢false (sym there ∙ ap (λ i. mem i xs) (sym ((bytes_eq-Decides x y).0 e)) ∙ out))
other_key false x y xs e out there = refl

own_lines : (f : List ℕ → Option Row) (ls : List Line)
    → ((y : List ℕ) (w : Row) → row_at ls y ≡ Some w → f y ≡ Some w)
    → are_distinct (map (λ l. l.0) ls) ≡ true → OwnLines f ls
own_lines f [] finds apart = tt
own_lines f (l ∷ ls) finds apart =
    let later = map (λ k. k.0) ls in
    let parts = and_parts (not (mem l.0 later)) (are_distinct later) apart in (
      finds l.0 l.1 (line_cond (bytes_eq l.0 l.0) l (find (λ k. bytes_eq k.0 l.0) ls) ∙ ap (λ b. cond b (Some l.1) (row_at ls l.0)) (bytes_eq-same l.0)),
      own_lines f ls
          (λ y w found.
          finds y w
          (line_cond (bytes_eq l.0 y) l (find (λ k. bytes_eq k.0 y) ls)
          ∙ ap (λ b. cond b (Some l.1) (row_at ls y)) (other_key (bytes_eq l.0 y) l.0 y later refl (not-true _ parts.0) (sym (key_there ls y) ∙ ap is_some found)) ∙ found))
          parts.1,
    )

-- ---- what stands at the places has the rows of their ids

-- the row that is known, or an empty one
abbrev pub known : Option Row → Row
known o = option_map_or (λ w. w) o (record { status = []; attrs = []; audits = [] })

abbrev pub with_row : (List ℕ → Option Row) → Place → Piece
with_row f p = (p, known (f p.id))

abbrev line : Resource → Line
line x = (x.id, resource_row x)

later_lines : (f : List ℕ → Option Row) (xs : List Resource) (ls : List Line)
    → OwnLines f (map line xs ++ ls) → OwnLines f ls
later_lines f [] ls own = own
later_lines f (x ∷ xs) ls own = later_lines f xs ls own.1

same_row : (p : Place) (w : Row) (o : Option Row) (es later : List Piece) → o ≡ Some w → es ≡ later
    → (p, w) ∷ es ≡ (p, known o) ∷ later
same_row p w o es later e go = ap (λ q. (p, known q) ∷ es) (sym e) ∙ ap (λ ps. (p, known o) ∷ ps) go

pool_lined : (f : List ℕ → Option Row) (path : Path) (xs : List Resource) (ls : List Line)
    (ps : List Place) (es : List Piece)
    → OwnLines f (map line xs ++ ls) → es ≡ map (with_row f) ps
    → map (piece path) xs ++ es ≡ map (with_row f) (map (resource_place path) xs ++ ps)
pool_lined f path [] ls ps es own go = go
pool_lined f path (x ∷ xs) ls ps es own go =
    same_row (resource_place path x) (resource_row x) (f x.id) (map (piece path) xs ++ es) (map (with_row f) (map (resource_place path) xs ++ ps)) own.0 (pool_lined f path xs ls ps es own.1 go)

lined : (f : List ℕ → Option Row) (before : Path) (rows : List NodeRow) → OwnLines f (rows_by_id rows)
    → pieces_from before rows ≡ map (with_row f) (places_from before rows)
lined f before [] own = refl
lined f before (r ∷ rows) own =
    let path = path_of before r in
    same_row (node_place r path) _ (f r.id) (map (piece path) r.resources ++ pieces_from path rows) (map (with_row f) (map (resource_place path) r.resources ++ places_from path rows)) own.0
    (pool_lined f path r.resources (rows_by_id rows) (places_from path rows) (pieces_from path rows) own.1 (lined f path rows (later_lines f r.resources (rows_by_id rows) own.1)))

pub pieces_are : (rows : List NodeRow) → IsValid rows
    → pieces_from [] rows ≡ map (with_row (row_in rows)) (places rows)
pieces_are rows valid = lined (row_in rows) [] rows (own_lines (row_in rows) (rows_by_id rows) (λ y w found. found) (ap are_distinct (keys_of_lines rows) ∙ valid.distinct))

-- ---- the whole

built_from : (before : Path) (rows : List NodeRow) → Follows before rows
    → build (pieces_from before rows) ≡ ([], rows)
built_from before [] follows = refl
built_from before (r ∷ rows) follows =
    let path = path_of before r in
    row_built r path (pieces_from path rows) rows (length-path_of before r follows.0 follows.1) (built_from path rows follows.2)

built_whole : (rows : List NodeRow) → IsValid rows
    → build (map (with_row (row_in rows)) (places rows)) ≡ ([], rows)
built_whole rows valid = ap build (sym (pieces_are rows valid)) ∙ built_from [] rows (Follows-outline rows valid.tree)

same_pieces : (f g : List ℕ → Option Row) (tree : List Place) → ((x : List ℕ) → f x ≡ g x)
    → map (with_row f) tree ≡ map (with_row g) tree
same_pieces f g [] same = refl
same_pieces f g (p ∷ tree) same = ap (λ o. (p, known o) ∷ map (with_row f) tree) (same p.id) ∙ ap (λ es. (p, known (g p.id)) ∷ es) (same_pieces f g tree same)

pub places_and_rows_determine : PlacesAndRowsDetermine
places_and_rows_determine a b valid_a valid_b same rows =
    ap (λ (built : Built). built.1)
    (sym (built_whole a valid_a) ∙ ap (λ tree. build (map (with_row (row_in a)) tree)) same ∙ ap build (same_pieces (row_in a) (row_in b) (places b) rows) ∙ built_whole b valid_b)
