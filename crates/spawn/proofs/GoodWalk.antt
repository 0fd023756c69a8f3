-- The walk past the resources of the rows around a node ends with no copy left exactly if the
-- copies are those of the resources linked outside the node, and so it tells whether a record is
-- good.
use Rattle.std.proofs.Common.{◌≡◌, ◌∙◌, ℕ, ◌+◌, ◌<◌, ◌&&◌, Bool, true, false, not, cond, List, []}
use Rattle.std.proofs.Common.{◌∷◌, ◌++◌, length, map, drop, get_or, Option, Some, None, refl, sym}
use Rattle.std.proofs.Common.{ap, ◌||◌, append_assoc, is_some, nat_lt}
use Rattle.std.proofs.lemmas.Bool.{true≢false, and_parts, or_parts}
use Rattle.std.proofs.lemmas.List.{drop_more, map-append}
use Rattle.std.proofs.lemmas.Slice.Eq.{bytes_eq-Decides}
use Rattle.std.proofs.lemmas.List.Folds.{list_any-append}
use Rattle.std.specs.List.{filter, list_all, list_any}
use Rattle.std.specs.Option.{option_map, option_map_or, option_and_then}
use Rattle.std.specs.Str.{bytes_eq}
use Rattle.ticket_items.proofs.Apart.{bytes_eq-same, or_none}
use Rattle.ticket_items.specs.Ids.{mem}
use Rattle.ticket_tree.specs.Part.{is_linked}
use Rattle.ticket_rows.specs.Place.{Place, named_thing, places, resource_place}
use Rattle.ticket_rows.specs.Place.{below, is_node, named_thing_at, node_places, path_of, places_from, up}
use Rattle.ticket_items.specs.declared.node_row.NodeRow.{NodeRow}
use Rattle.ticket_items.specs.declared.resource.Resource.{Resource}
use Rattle.spawn.specs.Parts.{resources}
use Rattle.ticket_items.specs.Resource.{is_alike}
use Rattle.spawn.specs.OfResource.{has_id, behind}
use Rattle.spawn.specs.Walk.{Unmet, are_none, unmet_behind, unmet_behind_all}
use Rattle.spawn.proofs.SameCopies.{heads, alike-Decides}
use Rattle.ticket_rows.proofs.Below.{Path}
use Rattle.spawn.proofs.Chosen.{resources_cons}
use Rattle.spawn.proofs.Outside.{around_places}
use Rattle.spawn.proofs.RowsBelow.{filter-append}
use Rattle.spawn.proofs.Split.{Around, around, path_after, path_after-append, places_from-append}
use Rattle.plain_shop.specs.Claim.{links, is_linked_below, is_linked_outside, linked_outside, ids_of}
use Rattle.plain_shop.specs.Claim.{linked_rw, linked_ro}
use Rattle.ticket_rows.specs.Ticket.{IsValid, has_node}
use Rattle.spawn.proofs.GoodCopies.{first_of_fixed, first_of_places}
use Rattle.spawn.proofs.AroundAt.{shows}
use Rattle.ticket_tree.proofs.AtNode.{deeper_has_parent}
use Rattle.ticket_tree.specs.At.{IsAt}
use Rattle.ticket_tree.specs.declared.at.At.{At}
use Rattle.spawn.specs.Records.{IsGood}
use Rattle.spawn.specs.declared.records.spawn_rec.SpawnRec.{SpawnRec}

-- ---- one list of resources after another

then_then : {X Y Z : Type 0} (f : X → Option Y) (g : Y → Option Z) (o : Option X)
    → option_and_then (λ x. option_and_then g (f x)) o ≡ option_and_then g (option_and_then f o)
then_then f g None = refl
then_then f g (Some x) = refl

then_as : {X Y : Type 0} (f g : X → Option Y) (o : Option X) → ((x : X) → f x ≡ g x)
    → option_and_then f o ≡ option_and_then g o
then_as f g None same = refl
then_as f g (Some x) same = same x

pub unmet_behind_all-append : (inside : List NodeRow) (rw : List (List ℕ)) (xs ys : List Resource)
    (left : Unmet)
    → unmet_behind_all inside rw (xs ++ ys) left
    ≡ option_and_then (unmet_behind_all inside rw ys) (unmet_behind_all inside rw xs left)
unmet_behind_all-append inside rw [] ys left = refl
unmet_behind_all-append inside rw (x ∷ xs) ys left =
    then_as (unmet_behind_all inside rw (xs ++ ys)) (λ l. option_and_then (unmet_behind_all inside rw ys) (unmet_behind_all inside rw xs l)) (unmet_behind inside rw x left) (unmet_behind_all-append inside rw xs ys)
    ∙ then_then (unmet_behind_all inside rw xs) (unmet_behind_all inside rw ys) (unmet_behind inside rw x left)

-- what is left behind the rows from one on is what is left behind its pool, and then behind the
-- other rows
rows_from : (inside : List NodeRow) (rw : List (List ℕ)) (rows : List NodeRow) (i : ℕ) (d : NodeRow)
    (left : Unmet)
    → i < length rows
    → unmet_behind_all inside rw (resources (drop i rows)) left
    ≡ option_and_then (unmet_behind_all inside rw (resources (drop (i + 1) rows)))
    (unmet_behind_all inside rw (get_or rows i d).resources left)
rows_from inside rw rows i d left within =
    let r = get_or rows i d in
    ap (λ rs. unmet_behind_all inside rw (resources rs) left) (drop_more rows i d within) ∙ ap (λ xs. unmet_behind_all inside rw xs left) (resources_cons r (drop (i + 1) rows))
    ∙ unmet_behind_all-append inside rw r.resources (resources (drop (i + 1) rows)) left

pub met_more : (inside : List NodeRow) (rw : List (List ℕ)) (rows : List NodeRow) (i : ℕ)
    (d : NodeRow) (old new : Unmet)
    → i < length rows → Some new ≡ unmet_behind_all inside rw (get_or rows i d).resources old
    → unmet_behind_all inside rw (resources (drop (i + 1) rows)) new
    ≡ unmet_behind_all inside rw (resources (drop i rows)) old
met_more inside rw rows i d old new within step =
    ap (option_and_then (unmet_behind_all inside rw (resources (drop (i + 1) rows)))) step ∙ sym (rows_from inside rw rows i d old within)

pub met_none : (inside : List NodeRow) (rw : List (List ℕ)) (rows : List NodeRow) (i : ℕ)
    (d : NodeRow) (old : Unmet)
    → i < length rows → None ≡ unmet_behind_all inside rw (get_or rows i d).resources old
    → None ≡ unmet_behind_all inside rw (resources (drop i rows)) old
met_none inside rw rows i d old within step =
    ap (option_and_then (unmet_behind_all inside rw (resources (drop (i + 1) rows)))) step ∙ sym (rows_from inside rw rows i d old within)

-- ---- the copies of linked resources

-- those that pass both tests
abbrev put : Bool → Bool → Resource → List Resource → List Resource
put linked kept x rest = cond linked (cond kept (x ∷ rest) rest) rest

abbrev linked_ones : List NodeRow → List Resource → List Resource
linked_ones inside xs = filter (λ x. is_linked inside x.id) xs

abbrev pub changed_ones : List NodeRow → List (List ℕ) → List Resource → List Resource
changed_ones inside rw xs = filter (λ x. mem x.id rw) (linked_ones inside xs)

abbrev pub read_ones : List NodeRow → List (List ℕ) → List Resource → List Resource
read_ones inside rw xs = filter (λ x. not (mem x.id rw)) (linked_ones inside xs)

put_is : (linked : Bool) (f : Resource → Bool) (x : Resource) (rest : List Resource)
    → put linked (f x) x (filter f rest) ≡ filter f (cond linked (x ∷ rest) rest)
put_is true f x rest = refl
put_is false f x rest = refl

-- whether nothing is left
abbrev is_done : Option Unmet → Bool
is_done o = option_map_or are_none o false

-- the copies are those
abbrev pub AreTheirs : List (List ℕ) → List Resource → List Resource → List Resource → Type 0
AreTheirs ids copies changed read = (ids ≡ map (λ x. x.id) changed) × (map named_thing copies ≡ map named_thing read)

abbrev BothWays : Type 0 → Type 0 → Type 0
BothWays P Q = (P → Q) × (Q → P)

change_at : (here : Bool) (go : Unmet → Option Unmet) (x : Resource) (i : List ℕ)
    (ids : List (List ℕ)) (copies changed read : List Resource)
    → has_id x i ≡ here
    → BothWays (is_done (go (ids, copies)) ≡ true) (AreTheirs ids copies changed read)
    → BothWays
    (is_done (option_and_then go (option_map (λ left. (left, copies)) (cond here (Some ids) None)))
    ≡ true)
    (AreTheirs (i ∷ ids) copies (x ∷ changed) read)
change_at true go x i ids copies changed read e rest = (
  λ done. let those = rest.0 done in (ap (λ j. j ∷ ids) (sym ((bytes_eq-Decides x.id i).0 e)) ∙ ap (λ js. x.id ∷ js) those.0, those.1),
  λ those. rest.1 ((heads i x.id ids (map (λ y. y.id) changed) those.0).1, those.1),
)
change_at false go x i ids copies changed read e rest = (
  λ done. absurd (true≢false (sym done)),
  λ those. absurd (true≢false (sym (ap (has_id x) (heads i x.id ids (map (λ y. y.id) changed) those.0).0 ∙ bytes_eq-same x.id) ∙ e)),
)

read_at : (here : Bool) (go : Unmet → Option Unmet) (x y : Resource) (ids : List (List ℕ))
    (copies changed read : List Resource)
    → is_alike x y ≡ here
    → BothWays (is_done (go (ids, copies)) ≡ true) (AreTheirs ids copies changed read)
    → BothWays
    (is_done (option_and_then go (option_map (λ left. (ids, left)) (cond here (Some copies) None)))
    ≡ true)
    (AreTheirs ids (y ∷ copies) changed (x ∷ read))
read_at true go x y ids copies changed read e rest = (
  λ done. let those = rest.0 done in (those.0, ap (λ f. f ∷ map named_thing copies) (sym ((alike-Decides x y).0 e)) ∙ ap (λ fs. named_thing x ∷ fs) those.1),
  λ those. rest.1 (those.0, (heads (named_thing y) (named_thing x) (map named_thing copies) (map named_thing read) those.1).1),
)
read_at false go x y ids copies changed read e rest = (
  λ done. absurd (true≢false (sym done)),
  λ those. absurd (true≢false (sym ((alike-Decides x y).1 (sym (heads (named_thing y) (named_thing x) (map named_thing copies) (map named_thing read) those.1).0)) ∙ e)),
)

no_ids : (go : Unmet → Option Unmet) (x : Resource) (ids : List (List ℕ))
    (copies changed read : List Resource)
    → ((js : List (List ℕ))
    → BothWays (is_done (go (js, copies)) ≡ true) (AreTheirs js copies changed read))
    → BothWays
    (is_done
    (option_and_then go (option_map (λ left. (left, copies)) (behind (has_id x) ids)))
    ≡ true)
    (AreTheirs ids copies (x ∷ changed) read)
no_ids go x [] copies changed read rest = (λ done. absurd (true≢false (sym done)), λ those. let e = those.0 in cc)
no_ids go x (i ∷ ids) copies changed read rest = change_at (has_id x i) go x i ids copies changed read refl (rest ids)

no_copies : (go : Unmet → Option Unmet) (x : Resource) (ids : List (List ℕ))
    (copies changed read : List Resource)
    → ((ys : List Resource)
    → BothWays (is_done (go (ids, ys)) ≡ true) (AreTheirs ids ys changed read))
    → BothWays
    (is_done
    (option_and_then go (option_map (λ left. (ids, left)) (behind (is_alike x) copies)))
    ≡ true)
    (AreTheirs ids copies changed (x ∷ read))
no_copies go x ids [] changed read rest = (λ done. absurd (true≢false (sym done)), λ those. let e = those.1 in cc)
no_copies go x ids (y ∷ copies) changed read rest = read_at (is_alike x y) go x y ids copies changed read refl (rest copies)

met_at : (linked kept : Bool) (go : Unmet → Option Unmet) (x : Resource) (ids : List (List ℕ))
    (copies changed read : List Resource)
    → ((js : List (List ℕ)) (ys : List Resource)
    → BothWays (is_done (go (js, ys)) ≡ true) (AreTheirs js ys changed read))
    → BothWays
    (is_done
    (option_and_then go
    (cond linked
    (cond kept (option_map (λ left. (left, copies)) (behind (has_id x) ids))
    (option_map (λ left. (ids, left)) (behind (is_alike x) copies)))
    (Some (ids, copies))))
    ≡ true)
    (AreTheirs ids copies (put linked kept x changed) (put linked (not kept) x read))
met_at true true go x ids copies changed read rest = no_ids go x ids copies changed read (λ js. rest js copies)
met_at true false go x ids copies changed read rest = no_copies go x ids copies changed read (λ ys. rest ids ys)
met_at false true go x ids copies changed read rest = rest ids copies
met_at false false go x ids copies changed read rest = rest ids copies

none_left : (ids : List (List ℕ)) (copies : List Resource)
    → BothWays (are_none (ids, copies) ≡ true) (AreTheirs ids copies [] [])
none_left [] [] = (λ done. (refl, refl), λ those. refl)
none_left [] (y ∷ copies) = (λ done. absurd (true≢false (sym done)), λ those. let e = those.1 in cc)
none_left (i ∷ ids) copies = (λ done. absurd (true≢false (sym done)), λ those. let e = those.0 in cc)

as_put : (P : Type 0) (ids : List (List ℕ)) (copies c d r s : List Resource) → c ≡ d → r ≡ s
    → BothWays P (AreTheirs ids copies c r) → BothWays P (AreTheirs ids copies d s)
as_put P ids copies c d r s e f both = (
  λ p. let those = both.0 p in (those.0 ∙ ap (map (λ x. x.id)) e, those.1 ∙ ap (map named_thing) f),
  λ those. both.1 (those.0 ∙ ap (map (λ x. x.id)) (sym e), those.1 ∙ ap (map named_thing) (sym f)),
)

-- the walk ends with nothing left exactly if the copies are those of the linked resources, of which
-- `rw` names those to change
pub met_all : (inside : List NodeRow) (rw : List (List ℕ)) (xs : List Resource)
    (ids : List (List ℕ)) (copies : List Resource)
    → BothWays (is_done (unmet_behind_all inside rw xs (ids, copies)) ≡ true)
    (AreTheirs ids copies (changed_ones inside rw xs) (read_ones inside rw xs))
met_all inside rw [] ids copies = none_left ids copies
met_all inside rw (x ∷ xs) ids copies =
    as_put (is_done (unmet_behind_all inside rw (x ∷ xs) (ids, copies)) ≡ true) ids copies _ (changed_ones inside rw (x ∷ xs)) _ (read_ones inside rw (x ∷ xs))
    (put_is (is_linked inside x.id) (λ y. mem y.id rw) x (linked_ones inside xs)) (put_is (is_linked inside x.id) (λ y. not (mem y.id rw)) x (linked_ones inside xs))
    (met_at (is_linked inside x.id) (mem x.id rw) (unmet_behind_all inside rw xs) x ids copies (changed_ones inside rw xs) (read_ones inside rw xs) (met_all inside rw xs))

-- ---- what is linked below the node

off_at : (on linked rest : Bool) → on ≡ false → rest ≡ false → ((on && linked) || rest) ≡ false
off_at false linked rest off e = e
off_at true linked rest off e = cc

none_linked : (n x : List ℕ) (tree : List Place) → list_any (below n) tree ≡ false
    → list_any (λ p. below n p && links x p) tree ≡ false
none_linked n x [] off = refl
none_linked n x (p ∷ tree) off =
    let parts = or_parts (below n p) (list_any (below n) tree) off in
    off_at (below n p) (links x p) (list_any (λ q. below n q && links x q) tree) parts.0 (none_linked n x tree parts.1)

on_at : (on linked : Bool) → on ≡ true → (on && linked) ≡ linked
on_at true linked on = refl
on_at false linked on = cc

all_linked : (n x : List ℕ) (tree : List Place) → list_all (below n) tree ≡ true
    → list_any (λ p. below n p && links x p) tree ≡ list_any (links x) tree
all_linked n x [] on = refl
all_linked n x (p ∷ tree) on =
    let parts = and_parts (below n p) (list_all (below n) tree) on in
    ap (λ b. b || list_any (λ q. below n q && links x q) tree) (on_at (below n p) (links x p) parts.0) ∙ ap (λ b. links x p || b) (all_linked n x tree parts.1)

pool_links : (x : List ℕ) (path : Path) (pool : List Resource) (rest : List Place)
    → list_any (links x) (map (resource_place path) pool ++ rest) ≡ list_any (links x) rest
pool_links x path [] rest = refl
pool_links x path (y ∷ pool) rest = pool_links x path pool rest

row_links : (x : List ℕ) (before : Path) (rows : List NodeRow)
    → list_any (links x) (places_from before rows) ≡ is_linked rows x
row_links x before [] = refl
row_links x before (r ∷ rows) =
    ap (λ b. list_any (λ l. bytes_eq l.rref x) r.links || b) (pool_links x (path_of before r) r.resources (places_from (path_of before r) rows) ∙ row_links x (path_of before r) rows)

-- the rows at and below n link just what is linked below n
pub linked_is : (rows : List NodeRow) (n x : List ℕ) → (at : Around rows n)
    → is_linked_below (places rows) n x ≡ is_linked (at.root ∷ at.inner) x
linked_is rows n x at =
    let ps = around_places rows n at in
    let f : Place → Bool = λ p. below n p && links x p in
    ap (list_any f) ps.whole ∙ list_any-append f ps.front (ps.inner ++ ps.back) ∙ ap (λ b. b || list_any f (ps.inner ++ ps.back)) (none_linked n x ps.front ps.none_front)
    ∙ list_any-append f ps.inner ps.back ∙ ap (λ b. list_any f ps.inner || b) (none_linked n x ps.back ps.none_back) ∙ or_none (list_any f ps.inner)
    ∙ all_linked n x ps.inner ps.all_inner ∙ ap (list_any (links x)) ps.inner_is ∙ row_links x (path_after [] at.front) (at.root ∷ at.inner)

-- ---- which places are linked outside

whole_is : (rows : List NodeRow) (n : List ℕ) → (at : Around rows n)
    → places rows
    ≡ places_from [] at.front
    ++ (places_from (path_after [] at.front) (at.root ∷ at.inner)
    ++ places_from (path_after (path_after [] at.front) (at.root ∷ at.inner)) at.back)
whole_is rows n at =
    let mid = at.root ∷ at.inner in
    let path = path_after [] at.front in
    ap places at.whole ∙ places_from-append [] (at.front ++ mid) at.back
    ∙ ap (λ ps. ps ++ places_from (path_after [] (at.front ++ mid)) at.back) (places_from-append [] at.front mid)
    ∙ ap (λ p. (places_from [] at.front ++ places_from path mid) ++ places_from p at.back) (path_after-append [] at.front mid)
    ∙ append_assoc (places_from [] at.front) (places_from path mid) (places_from (path_after path mid) at.back)

outside_at : (node on linked : Bool) (kept : Place → Bool) (p : Place) (xs ys : List Place)
    → on ≡ false → linked ≡ kept p → xs ≡ filter kept ys
    → cond ((not node && not on) && linked) (p ∷ xs) xs ≡ filter kept (cond (not node) (p ∷ ys) ys)
outside_at true on linked kept p xs ys off e f = f
outside_at false false linked kept p xs ys off e f = ap (λ b. cond b (p ∷ xs) xs) e ∙ ap (λ zs. cond (kept p) (p ∷ zs) zs) f
outside_at false true linked kept p xs ys off e f = cc

-- of places that aren't below n these are the resources that are linked
kept_outside : (rows mid : List NodeRow) (n : List ℕ) (tree : List Place)
    → list_any (below n) tree ≡ false
    → ((x : List ℕ) → is_linked_below (places rows) n x ≡ is_linked mid x)
    → filter (is_linked_outside (places rows) n) tree
    ≡ filter (λ p. is_linked mid p.id) (filter (λ p. not (is_node p)) tree)
kept_outside rows mid n [] off same = refl
kept_outside rows mid n (p ∷ tree) off same =
    let parts = or_parts (below n p) (list_any (below n) tree) off in
    outside_at (is_node p) (below n p) (is_linked_below (places rows) n p.id) (λ q. is_linked mid q.id) p (filter (is_linked_outside (places rows) n) tree) (filter (λ q. not (is_node q)) tree) parts.0 (same p.id) (kept_outside rows mid n tree parts.1 same)

inside_at : (node on linked : Bool) (p : Place) (xs : List Place) → on ≡ true → xs ≡ []
    → cond ((not node && not on) && linked) (p ∷ xs) xs ≡ []
inside_at true on linked p xs e f = f
inside_at false true linked p xs e f = f
inside_at false false linked p xs e f = cc

-- and of those that are there are none
none_inside : (rows : List NodeRow) (n : List ℕ) (tree : List Place)
    → list_all (below n) tree ≡ true → filter (is_linked_outside (places rows) n) tree ≡ []
none_inside rows n [] on = refl
none_inside rows n (p ∷ tree) on =
    let parts = and_parts (below n p) (list_all (below n) tree) on in
    inside_at (is_node p) (below n p) (is_linked_below (places rows) n p.id) p (filter (is_linked_outside (places rows) n) tree) parts.0 (none_inside rows n tree parts.1)

-- ---- places and resources that have the same id, name and Class

kept_at : (a b : Bool) (p : Place) (x : Resource) (ps : List Place) (xs : List Resource) → a ≡ b
    → named_thing_at p ≡ named_thing x → map named_thing_at ps ≡ map named_thing xs
    → map named_thing_at (cond a (p ∷ ps) ps) ≡ map named_thing (cond b (x ∷ xs) xs)
kept_at true true p x ps xs e head later = ap (λ f. f ∷ map named_thing_at ps) head ∙ ap (λ fs. named_thing x ∷ fs) later
kept_at false false p x ps xs e head later = later
kept_at true false p x ps xs e head later = cc
kept_at false true p x ps xs e head later = cc

-- so do those whose id passes a test
fixed_kept : (t : List ℕ → Bool) (ps : List Place) (xs : List Resource)
    → map named_thing_at ps ≡ map named_thing xs
    → map named_thing_at (filter (λ p. t p.id) ps) ≡ map named_thing (filter (λ x. t x.id) xs)
fixed_kept t [] [] e = refl
fixed_kept t [] (x ∷ xs) e = cc
fixed_kept t (p ∷ ps) [] e = cc
fixed_kept t (p ∷ ps) (x ∷ xs) e =
    let both = heads (named_thing_at p) (named_thing x) (map named_thing_at ps) (map named_thing xs) e in
    kept_at (t p.id) (t x.id) p x (filter (λ q. t q.id) ps) (filter (λ y. t y.id) xs) (ap (λ f. t f.0) both.0) both.0 (fixed_kept t ps xs both.1)

pool_fixed : (path : Path) (pool : List Resource) (rest : List Place)
    → map named_thing_at (filter (λ p. not (is_node p)) (map (resource_place path) pool ++ rest))
    ≡ map named_thing pool ++ map named_thing_at (filter (λ p. not (is_node p)) rest)
pool_fixed path [] rest = refl
pool_fixed path (x ∷ pool) rest = ap (λ fs. named_thing x ∷ fs) (pool_fixed path pool rest)

rows_fixed : (before : Path) (rows : List NodeRow)
    → map named_thing_at (filter (λ p. not (is_node p)) (places_from before rows))
    ≡ map named_thing (resources rows)
rows_fixed before [] = refl
rows_fixed before (r ∷ rows) =
    pool_fixed (path_of before r) r.resources (places_from (path_of before r) rows) ∙ ap (λ fs. map named_thing r.resources ++ fs) (rows_fixed (path_of before r) rows)
    ∙ sym (ap (map named_thing) (resources_cons r rows) ∙ map-append named_thing r.resources (resources rows))

-- ---- what is linked outside n, on the rows before and behind

side : (rows mid : List NodeRow) (n : List ℕ) (t : List ℕ → Bool) (before : Path)
    (some : List NodeRow)
    → list_any (below n) (places_from before some) ≡ false
    → ((x : List ℕ) → is_linked_below (places rows) n x ≡ is_linked mid x)
    → map named_thing_at
    (filter (λ p. t p.id) (filter (is_linked_outside (places rows) n) (places_from before some)))
    ≡ map named_thing (filter (λ x. t x.id) (filter (λ x. is_linked mid x.id) (resources some)))
side rows mid n t before some off same =
    ap (λ ps. map named_thing_at (filter (λ p. t p.id) ps)) (kept_outside rows mid n (places_from before some) off same)
    ∙ fixed_kept t (filter (λ p. is_linked mid p.id) (filter (λ p. not (is_node p)) (places_from before some))) (filter (λ x. is_linked mid x.id) (resources some))
    (fixed_kept (is_linked mid) (filter (λ p. not (is_node p)) (places_from before some)) (resources some) (rows_fixed before some))

pub outside_fixed : (rows : List NodeRow) (n : List ℕ) (t : List ℕ → Bool) → (at : Around rows n)
    → map named_thing_at (filter (λ p. t p.id) (linked_outside (places rows) n))
    ≡ map named_thing
    (filter (λ x. t x.id)
    (filter (λ x. is_linked (at.root ∷ at.inner) x.id) (resources at.front ++ resources at.back)))
outside_fixed rows n t at =
    let mid = at.root ∷ at.inner in
    let path = path_after [] at.front in
    let front = places_from [] at.front in
    let inner = places_from path mid in
    let back = places_from (path_after path mid) at.back in
    let lo = is_linked_outside (places rows) n in
    let lk : Resource → Bool = λ x. is_linked mid x.id in
    let same : (x : List ℕ) → is_linked_below (places rows) n x ≡ is_linked mid x = λ x. linked_is rows n x at in
    let cut : filter lo (places rows) ≡ filter lo front ++ filter lo back =
    ap (filter lo) (whole_is rows n at) ∙ filter-append lo front (inner ++ back) ∙ ap (λ ps. filter lo front ++ ps) (filter-append lo inner back ∙ ap (λ ps. ps ++ filter lo back) (none_inside rows n inner at.all_inner)) in
    ap (λ ps. map named_thing_at (filter (λ p. t p.id) ps)) cut
    ∙ ap (map named_thing_at) (filter-append (λ p. t p.id) (filter lo front) (filter lo back))
    ∙ map-append named_thing_at (filter (λ p. t p.id) (filter lo front)) (filter (λ p. t p.id) (filter lo back))
    ∙ ap (λ fs. fs ++ map named_thing_at (filter (λ p. t p.id) (filter lo back))) (side rows mid n t [] at.front at.none_front same)
    ∙ ap (λ fs. map named_thing (filter (λ x. t x.id) (filter lk (resources at.front))) ++ fs) (side rows mid n t (path_after path mid) at.back at.none_back same)
    ∙ sym (ap (λ xs. map named_thing (filter (λ x. t x.id) xs)) (filter-append lk (resources at.front) (resources at.back))
    ∙ ap (map named_thing) (filter-append (λ x. t x.id) (filter lk (resources at.front)) (filter lk (resources at.back)))
    ∙ map-append named_thing (filter (λ x. t x.id) (filter lk (resources at.front))) (filter (λ x. t x.id) (filter lk (resources at.back))))

-- ---- the copies

abbrev AreCopied : List NodeRow → SpawnRec → Type 0
AreCopied rows r = (r.rw ≡ ids_of (linked_rw (places rows) r.node r.rw)) × (map named_thing r.ro ≡ map named_thing_at (linked_ro (places rows) r.node r.rw))

abbrev copied_in : List NodeRow → List NodeRow → List NodeRow → SpawnRec → Bool
copied_in front inside back r = option_map_or are_none (unmet_behind_all inside r.rw (resources front ++ resources back) (r.rw, r.ro)) false

changed_ids : (rows : List NodeRow) (r : SpawnRec) → (at : Around rows r.node)
    → map (λ x. x.id)
    (changed_ones (at.root ∷ at.inner) r.rw (resources at.front ++ resources at.back))
    ≡ ids_of (linked_rw (places rows) r.node r.rw)
changed_ids rows r at =
    sym (first_of_fixed (changed_ones (at.root ∷ at.inner) r.rw (resources at.front ++ resources at.back))) ∙ ap (map (λ f. f.0)) (sym (outside_fixed rows r.node (λ i. mem i r.rw) at)) ∙ first_of_places (linked_rw (places rows) r.node r.rw)

copied_around : (rows : List NodeRow) (r : SpawnRec) → (at : Around rows r.node)
    → (copied_in at.front (at.root ∷ at.inner) at.back r ≡ true → AreCopied rows r)
    × (AreCopied rows r → copied_in at.front (at.root ∷ at.inner) at.back r ≡ true)
copied_around rows r at =
    let both = met_all (at.root ∷ at.inner) r.rw (resources at.front ++ resources at.back) r.rw r.ro in
    let changed = changed_ids rows r at in
    let read = outside_fixed rows r.node (λ i. not (mem i r.rw)) at in (
      λ done. let those = both.0 done in (those.0 ∙ changed, those.1 ∙ sym read),
      λ those. both.1 (those.0 ∙ sym changed, those.1 ∙ read),
    )

-- a record is good exactly if its node has a parent and the walk finds its copies
good_if : (rows : List NodeRow) (r : SpawnRec) (result : Bool) → (at : Around rows r.node)
    → is_some (up (node_places rows) r.node) ≡ true
    → result ≡ copied_in at.front (at.root ∷ at.inner) at.back r
    → (result ≡ true → IsGood rows r) × (IsGood rows r → result ≡ true)
good_if rows r result at above e =
    let both = copied_around rows r at in (
      λ done. let those = both.0 (sym e ∙ done) in record { has_parent = above; rw = those.0; ro = those.1 },
      λ good. e ∙ both.1 (good.rw, good.ro),
    )

-- the same of the rows that a ticket shows at the node
pub good_at : (rows : List NodeRow) (r : SpawnRec) (a : At) (result : Bool) → IsValid rows
    → IsAt rows r.node a → has_node rows r.node ≡ true → nat_lt 1 a.depth ≡ true
    → result ≡ copied_in a.front a.below a.behind r
    → (result ≡ true → IsGood rows r) × (IsGood rows r → result ≡ true)
good_at rows r a result valid is known deeper e =
    let at = around rows r.node valid known in
    let mid = at.root ∷ at.inner in
    let seen = shows rows r.node a valid is at in
    good_if rows r result at (sym (deeper_has_parent rows r.node a is) ∙ deeper)
    (e
    ∙ ap (λ rs. copied_in rs a.below a.behind r) seen.front
    ∙ ap (λ rs. copied_in at.front rs a.behind r) seen.below
    ∙ ap (λ rs. copied_in at.front mid rs r) seen.behind)
