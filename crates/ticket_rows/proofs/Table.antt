-- The table of homes, filled row by row; and the path to a row, from the root on.
use Rattle.std.proofs.Common.{◌≡◌, ℕ, ◌+◌, ◌-◌, ◌<◌, ◌||◌, ◌&&◌, Bool, true, false, cond, List, []}
use Rattle.std.proofs.Common.{◌∷◌, ◌++◌, map, length, get_or, take, drop, reverse, Bor, Option}
use Rattle.std.proofs.Common.{Some, None, is_some, is_eq, nat_cmp, refl, sym, ap, ◌∙◌}
use Rattle.std.proofs.lemmas.Bool.{true≢false}
use Rattle.std.proofs.lemmas.List.{take_more, map_push, drop_more, drop_at, take-append-drop}
use Rattle.std.proofs.lemmas.List.{length-drop, reverse-append, length-reverse}
use Rattle.std.proofs.lemmas.Map.Text.{is_eq-slice_cmp}
use Rattle.std.proofs.lemmas.Slice.Eq.{bytes_eq-Decides}
use Rattle.std.specs.BTreeMap.{BTreeMap, IsEmpty, Updates, get_by, is_at}
use Rattle.std.specs.Cmp.Lexicographic.{slice_cmp}
use Rattle.std.specs.List.{list_all, list_any}
use Rattle.std.specs.Map.{lookup}
use Rattle.std.specs.Option.{option_map, option_map_or}
use Rattle.std.specs.Str.{bytes_eq}
use Rattle.ticket_items.proofs.Apart.{mem-append, texts_of, or_none}
use Rattle.ticket_rows.proofs.AtHome.{home_of-cons}
use Rattle.ticket_rows.specs.Homes.{home_of}
use Rattle.ticket_rows.specs.HomeTable.{home_in, or_here}
use Rattle.ticket_items.specs.Ids.{mem}
use Rattle.ticket_rows.specs.Place.{path_of, last_of}
use Rattle.ticket_rows.proofs.LinkWalk.{resolves, are_resolved_from}
use Rattle.ticket_items.specs.declared.link.Link.{Link}
use Rattle.ticket_items.specs.declared.node_row.NodeRow.{NodeRow}
use Rattle.ticket_items.specs.declared.resource.Resource.{Resource}

abbrev pub Homes : Type 0
Homes = BTreeMap (Bor (List ℕ)) (Bor (List ℕ))

abbrev borrowed : List ℕ → Bor (List ℕ)
borrowed x = record { ref_ptr = (0, 0); now = x }

abbrev pub under : List ℕ → Homes → Option (Bor (List ℕ))
under x homes = get_by (λ k. slice_cmp nat_cmp x k.now) homes

pub empty_home : (homes : Homes) (x : List ℕ) → IsEmpty homes → home_in homes x ≡ None
empty_home homes x empty = ap (λ es. option_map (λ h. h.now) (lookup (is_at (λ k. slice_cmp nat_cmp x k.now)) es)) empty

-- ---- one home more

put_at : (b i : Bool) (home : Bor (List ℕ)) (old : Option (Bor (List ℕ))) → i ≡ b
    → (b ≡ true → old ≡ None)
    → option_map (λ h. h.now) (cond i (Some home) old)
    ≡ or_here b home.now (option_map (λ h. h.now) old)
put_at true true home None e new = refl
put_at true true home (Some h) e new = absurd (true≢false (ap is_some (new refl)))
put_at true false home old e new = cc
put_at false true home old e new = cc
put_at false false home None e new = refl
put_at false false home (Some h) e new = refl

none_there : (o : Option (Bor (List ℕ))) → is_some o ≡ false → o ≡ None
none_there None h = refl
none_there (Some h) e = cc

pub put_home : (old new : Homes) (id home : Bor (List ℕ))
    → Updates (λ a b. slice_cmp nat_cmp a.now b.now) old new id (Some home)
    → is_some (under id.now old) ≡ false → (x : List ℕ)
    → home_in new x ≡ or_here (bytes_eq id.now x) home.now (home_in old x)
put_home old new id home updates none x =
    ap (option_map (λ h. h.now)) (updates.0 (borrowed x))
    ∙ put_at (bytes_eq id.now x) (is_eq (slice_cmp nat_cmp id.now x)) home (under x old) (is_eq-slice_cmp id.now x)
    (λ same. ap (λ y. under y old) (sym ((bytes_eq-Decides id.now x).0 same)) ∙ none_there _ none)

-- ---- one pool more

twice_at : (a b : Bool) (home : List ℕ) (o : Option (List ℕ))
    → or_here b home (or_here a home o) ≡ or_here (a || b) home o
twice_at a b home (Some h) = refl
twice_at true b home None = refl
twice_at false b home None = refl

pub pool_more : (pool : List Resource) (i : ℕ) (d : Resource) (home : List ℕ)
    (first old new : Homes)
    → i < length pool
    → ((x : List ℕ)
    → home_in old x ≡ or_here (mem x (map (λ y. y.id) (take i pool))) home (home_in first x))
    → ((x : List ℕ)
    → home_in new x ≡ or_here (bytes_eq (get_or pool i d).id x) home (home_in old x))
    → (x : List ℕ)
    → home_in new x ≡ or_here (mem x (map (λ y. y.id) (take (i + 1) pool))) home (home_in first x)
pool_more pool i d home first old new within before put x =
    let so_far : List (List ℕ) = map (λ y. y.id) (take i pool) in
    let here : List ℕ = (get_or pool i d).id in
    put x ∙ ap (or_here (bytes_eq here x) home) (before x) ∙ twice_at (mem x so_far) (bytes_eq here x) home (home_in first x)
    ∙ ap (λ b. or_here b home (home_in first x))
    (ap (λ b. mem x so_far || b) (sym (or_none (bytes_eq here x))) ∙ sym (mem-append x so_far (here ∷ [])) ∙ ap (mem x) (sym (ap (map (λ y. y.id)) (take_more pool i d within) ∙ map_push (λ y. y.id) (take i pool) (get_or pool i d))))

-- ---- one row more

row_at : (b here : Bool) (h home : List ℕ) (o : Option (List ℕ))
    → cond b (Some h) (or_here here home o) ≡ or_here here home (cond b (Some h) o)
row_at true here h home o = refl
row_at false here h home o = refl

pub home_of-push : (x : List ℕ) (rows : List NodeRow) (r : NodeRow)
    → home_of (rows ++ r ∷ []) x
    ≡ or_here (mem x (map (λ y. y.id) r.resources)) r.id (home_of rows x)
home_of-push x [] r = home_of-cons x r []
home_of-push x (s ∷ rows) r =
    home_of-cons x s (rows ++ r ∷ []) ∙ ap (λ o. cond (mem x (map (λ y. y.id) s.resources)) (Some s.id) o) (home_of-push x rows r)
    ∙ row_at (mem x (map (λ y. y.id) s.resources)) (mem x (map (λ y. y.id) r.resources)) s.id r.id (home_of rows x)
    ∙ ap (or_here (mem x (map (λ y. y.id) r.resources)) r.id) (sym (home_of-cons x s rows))

-- ---- one link

pub mem-texts : (x : List ℕ) (ts : List (Bor (List ℕ)))
    → list_any (λ t. bytes_eq t.now x) ts ≡ mem x (texts_of ts)
mem-texts x [] = refl
mem-texts x (t ∷ ts) = ap (λ b. bytes_eq t.now x || b) (mem-texts x ts)

-- ---- the path from the root on, and back

or_comm : (a b : Bool) → (a || b) ≡ (b || a)
or_comm true true = refl
or_comm true false = refl
or_comm false true = refl
or_comm false false = refl

mem-reverse : (x : List ℕ) (ts : List (List ℕ)) → mem x (reverse ts) ≡ mem x ts
mem-reverse x [] = refl
mem-reverse x (t ∷ ts) =
    ap (mem x) (reverse-append (t ∷ []) ts) ∙ mem-append x (reverse ts) (t ∷ []) ∙ ap (λ b. b || (bytes_eq t x || false)) (mem-reverse x ts)
    ∙ ap (λ b. mem x ts || b) (or_none (bytes_eq t x)) ∙ or_comm (mem x ts) (bytes_eq t x)

reverse-take : (n : ℕ) (xs : List (List ℕ))
    → reverse (take n xs) ≡ drop (length xs - n) (reverse xs)
reverse-take n xs =
    let parts : reverse xs ≡ reverse (drop n xs) ++ reverse (take n xs) = ap reverse (sym (take-append-drop n xs)) ∙ reverse-append (take n xs) (drop n xs) in
    let long : length (reverse (drop n xs)) ≡ length xs - n = length-reverse (drop n xs) ∙ length-drop n xs in
    sym (ap (drop (length xs - n)) parts ∙ drop_at (reverse (drop n xs)) (reverse (take n xs)) (length xs - n) long)

way_back : (depth : ℕ) (old : List (List ℕ))
    → reverse (take (depth - 1) old) ≡ last_of (depth - 1) (reverse old)
way_back depth old = reverse-take (depth - 1) old ∙ ap (λ n. drop (n - (depth - 1)) (reverse old)) (sym (length-reverse old))

pub path_back : (old : List (List ℕ)) (r : NodeRow)
    → reverse (take (r.depth - 1) old ++ r.id ∷ []) ≡ path_of (reverse old) r
path_back old r = reverse-append (take (r.depth - 1) old) (r.id ∷ []) ∙ ap (λ ys. r.id ∷ ys) (way_back r.depth old)

-- ---- the links of one row more

home_reversed : (ts : List (List ℕ)) (o : Option (List ℕ))
    → option_map_or (λ home. mem home ts) o false
    ≡ option_map_or (λ home. mem home (reverse ts)) o false
home_reversed ts None = refl
home_reversed ts (Some home) = sym (mem-reverse home ts)

links_are : (rows : List NodeRow) (homes : Homes) (ts : List (List ℕ)) (links : List Link)
    → ((x : List ℕ) → home_in homes x ≡ home_of rows x)
    → list_all (λ l. option_map_or (λ home. mem home ts) (home_in homes l.rref) false) links
    ≡ list_all (resolves rows (reverse ts)) links
links_are rows homes ts [] same = refl
links_are rows homes ts (l ∷ links) same =
    ap (λ o. option_map_or (λ home. mem home ts) o false && list_all (λ k. option_map_or (λ home. mem home ts) (home_in homes k.rref) false) links) (same l.rref)
    ∙ ap (λ b. b && list_all (λ k. option_map_or (λ home. mem home ts) (home_in homes k.rref) false) links) (home_reversed ts (home_of rows l.rref))
    ∙ ap (λ b. resolves rows (reverse ts) l && b) (links_are rows homes ts links same)

-- what is left resolves if the row does, and what is behind it
pub resolved_more : (all rows : List NodeRow) (i : ℕ) (d : NodeRow) (homes : Homes)
    (old new : List (Bor (List ℕ))) (b : Bool)
    → i < length rows → ((x : List ℕ) → home_in homes x ≡ home_of all x)
    → texts_of new ≡ take ((get_or rows i d).depth - 1) (texts_of old) ++ (get_or rows i d).id ∷ []
    → b
    ≡ list_all (λ l. option_map_or (λ home. mem home (texts_of new)) (home_in homes l.rref) false)
    (get_or rows i d).links
    → are_resolved_from all (reverse (texts_of old)) (drop i rows)
    ≡ (b && are_resolved_from all (reverse (texts_of new)) (drop (i + 1) rows))
resolved_more all rows i d homes old new b within same path links =
    let r : NodeRow = get_or rows i d in
    let back : path_of (reverse (texts_of old)) r ≡ reverse (texts_of new) = sym (ap reverse path ∙ path_back (texts_of old) r) in
    ap (are_resolved_from all (reverse (texts_of old))) (drop_more rows i d within)
    ∙ ap (λ p. list_all (resolves all p) r.links && are_resolved_from all p (drop (i + 1) rows)) back
    ∙ ap (λ c. c && are_resolved_from all (reverse (texts_of new)) (drop (i + 1) rows)) (sym (links ∙ links_are all homes (texts_of new) r.links same))
