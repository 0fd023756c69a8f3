-- A part shows the claim of its spawn, and no more.
use Rattle.std.proofs.Common.{◌≡◌, ◌∙◌, ℕ, ◌&&◌, ◌||◌, Bool, true, false, not, List, [], ◌∷◌, ◌++◌}
use Rattle.std.proofs.Common.{length, map, Option, Some, None, is_some, refl, sym, ap, append_assoc}
use Rattle.std.proofs.lemmas.Bool.{true≢false, and_parts, or_parts}
use Rattle.std.specs.Option.{option_map, option_map_or, option_or}
use Rattle.ticket_items.specs.Ids.{mem}
use Rattle.ticket_items.specs.Resource.{resource_ids}
use Rattle.ticket_rows.specs.Copies.{with_copies}
use Rattle.ticket_rows.specs.Place.{Place, is_node, below, node_row, resource_row, place_at, places}
use Rattle.ticket_rows.specs.Place.{resource_places}
use Rattle.ticket_rows.specs.Ticket.{Job, IsValid, ids, node_ids}
use Rattle.ticket_tree.proofs.OnPlaces.{stands_among, stands_resource, stands_somewhere}
use Rattle.ticket_tree.proofs.PlainRows.{apart_resource}
use Rattle.ticket_tree.specs.PartView.{own_rows}
use Rattle.ticket_items.specs.declared.node_row.NodeRow.{NodeRow}
use Rattle.ticket_items.specs.declared.resource.Resource.{Resource}
use Rattle.spawn.proofs.Among.{kept_among, out_of_both}
use Rattle.spawn.proofs.Entries.{IsOwn, entries, entries-append, entries_lifted, look, look-append}
use Rattle.spawn.proofs.Entries.{look_chosen, look_copies, look_resource, look_rows, missing_pool}
use Rattle.spawn.proofs.Entries.{missing_rows, node_thing, pool_entries, resource_thing, some_first}
use Rattle.spawn.proofs.Entries.{some_row, thing_look}
use Rattle.spawn.proofs.GoodCopies.{changes_ids, good_copies, good_node, ids_of_resources, in_rw}
use Rattle.spawn.proofs.GoodCopies.{linked_is_outside}
use Rattle.spawn.proofs.HomesBelow.{ids_around, only_inside}
use Rattle.spawn.proofs.Lifting.{ids_lifted}
use Rattle.spawn.proofs.Outside.{found_kept, inside, kept_found, outside}
use Rattle.spawn.proofs.RowsBelow.{rows_below-around}
use Rattle.spawn.proofs.Split.{Around, around}
use Rattle.spawn.proofs.Standing.{ids_apart, named}
use Rattle.plain_shop.specs.Claim.{is_claimed, is_linked_below, is_linked_outside}
use Rattle.spawn.specs.Laws.{PartShowsClaim, PartShowsNoMore}
use Rattle.spawn.specs.Parts.{above, lifted_row, part_for, resources, resources_among}
use Rattle.spawn.specs.Records.{IsGood}
use Rattle.spawn.specs.declared.records.spawn_rec.SpawnRec.{SpawnRec}

-- ---- around a node

pub look_around : {V : Type 0} (f : NodeRow → V) (g : Resource → V) (rows : List NodeRow)
    (n y : List ℕ)
    → (at : Around rows n)
    → look (entries f g rows) y
    ≡ option_or (look (entries f g at.front) y)
    (option_or (look (entries f g (at.root ∷ at.inner)) y) (look (entries f g at.back) y))
look_around f g rows n y at =
    let mid = at.root ∷ at.inner in
    ap (λ rs. look (entries f g rs) y) (at.whole ∙ append_assoc at.front mid at.back)
    ∙ ap (λ ls. look ls y) (entries-append f g at.front (mid ++ at.back)) ∙ look-append (entries f g at.front) (entries f g (mid ++ at.back)) y
    ∙ ap (option_or (look (entries f g at.front) y)) (ap (λ ls. look ls y) (entries-append f g mid at.back) ∙ look-append (entries f g mid) (entries f g at.back) y)

-- what stands below the node is found there
pub look_inside : {V : Type 0} (f : NodeRow → V) (g : Resource → V) (rows : List NodeRow)
    (n y : List ℕ)
    → IsValid rows → (at : Around rows n) → mem y (ids (at.root ∷ at.inner)) ≡ true
    → look (entries f g rows) y ≡ look (entries f g (at.root ∷ at.inner)) y
look_inside f g rows n y valid at there =
    let mid = at.root ∷ at.inner in
    look_around f g rows n y at
    ∙ ap (λ o. option_or o (option_or (look (entries f g mid) y) (look (entries f g at.back) y))) (missing_rows f g at.front y (only_inside rows n y valid at there))
    ∙ some_first (look (entries f g mid) y) (look (entries f g at.back) y) (some_row f g mid y ∙ there)

-- ---- ids below the node, and ids of copies

by_place : (b : Bool) (rows : List NodeRow) (n x : List ℕ) (p : Place) → IsValid rows
    → (at : Around rows n) → mem x (ids (at.root ∷ at.inner)) ≡ b
    → place_at (places rows) x ≡ Some p → b ≡ below n p
by_place true rows n x p valid at e there = sym (inside rows n x p valid at e there)
by_place false rows n x p valid at e there = sym (outside rows n x p at e there)

-- an id stands below the node just if its place is there
pub stands_below : (rows : List NodeRow) (n x : List ℕ) (p : Place) → IsValid rows
    → (at : Around rows n) → place_at (places rows) x ≡ Some p
    → mem x (ids (at.root ∷ at.inner)) ≡ below n p
stands_below rows n x p valid at there = by_place (mem x (ids (at.root ∷ at.inner))) rows n x p valid at refl there

pub not_both : (b c : Bool) → (b ≡ true → c ≡ false) → c ≡ true → b ≡ false
not_both true c apart there = absurd (true≢false (sym there ∙ apart refl))
not_both false c apart there = refl

-- what stands below the node is no copy
pub no_copy : (rows : List NodeRow) (r : SpawnRec) (x : List ℕ) → IsValid rows → IsGood rows r
    → (at : Around rows r.node) → mem x (ids (at.root ∷ at.inner)) ≡ true
    → mem x (resource_ids (resources_among r.rw rows)) ≡ false
no_copy rows r x valid good at there =
    not_both (mem x (resource_ids (resources_among r.rw rows))) (mem x (ids (at.root ∷ at.inner))) ((good_copies rows r valid good at).changes_outside x) there

-- and a copy stands outside, as no node
pub copy_outside : (rows : List NodeRow) (r : SpawnRec) (x : List ℕ) → IsValid rows → IsGood rows r
    → (at : Around rows r.node) → mem x r.rw ≡ true → mem x (ids (at.root ∷ at.inner)) ≡ false
copy_outside rows r x valid good at chosen = linked_is_outside rows r.node x valid at (in_rw rows r x good chosen)

pub copy_no_node : (rows : List NodeRow) (r : SpawnRec) (x : List ℕ) → IsValid rows → IsGood rows r
    → mem x r.rw ≡ true → mem x (node_ids rows) ≡ false
copy_no_node rows r x valid good chosen =
    let tree = places rows in
    let found = kept_found (is_linked_outside tree r.node) tree x (ids_apart rows valid) (in_rw rows r x good chosen) in
    let resource = (and_parts (not (is_node found.0)) (not (below r.node found.0)) (and_parts (not (is_node found.0) && not (below r.node found.0)) (is_linked_below tree r.node found.0.id) found.2).0).0 in
    apart_resource rows x valid (sym (stands_resource rows x) ∙ stands_among (resource_places rows) x ∙ found_kept (λ p. not (is_node p)) tree x found.0 found.1 resource)

-- ---- what the part shows

record View {V : Type 0} (f : NodeRow → V) (g : Resource → V) (t : Job) (r : SpawnRec)
    (at : Around t.rows r.node) (x : List ℕ) : Type 0 where
  inner : mem x (ids (at.root ∷ at.inner)) ≡ true → look (entries f g (own_rows (part_for t r))) x ≡ look (entries f g t.rows) x
  copy : mem x (ids (at.root ∷ at.inner)) ≡ false → look (entries f g (own_rows (part_for t r))) x ≡ look (pool_entries g (resources_among r.rw t.rows)) x

view : {V : Type 0} (f : NodeRow → V) (g : Resource → V) → IsOwn f
    → (t : Job) (r : SpawnRec) (x : List ℕ) → IsValid t.rows → IsGood t.rows r
    → (at : Around t.rows r.node) → View f g t r at x
view f g own t r x valid good at =
    let rows = t.rows in
    let mid = at.root ∷ at.inner in
    let levels : ℕ = length (above rows r.node) in
    let copies = resources_among r.rw rows in
    let here = ap (λ rs. look (entries f g (with_copies (map (lifted_row levels) rs) copies [])) x) (rows_below-around rows r.node valid at) in
    record {
      inner = λ there. here ∙ look_rows f g own (map (lifted_row levels) mid) copies x (no_copy rows r x valid good at there) ∙ ap (λ ls. look ls x) (entries_lifted f g own levels mid) ∙ sym (look_inside f g rows r.node x valid at there);
      copy = λ out. here ∙ look_copies f g own (lifted_row levels at.root) (map (lifted_row levels) at.inner) copies x (ap (mem x) (ids_lifted levels mid) ∙ out);
    }

claimed_at : {V : Type 0} (b : Bool) (f : NodeRow → V) (g : Resource → V) → IsOwn f
    → (t : Job) (r : SpawnRec) (x : List ℕ) → IsValid t.rows → IsGood t.rows r
    → (at : Around t.rows r.node) → mem x (ids (at.root ∷ at.inner)) ≡ b → (b || mem x r.rw) ≡ true
    → look (entries f g (own_rows (part_for t r))) x ≡ look (entries f g t.rows) x
claimed_at true f g own t r x valid good at e claims = (view f g own t r x valid good at).inner e
claimed_at false f g own t r x valid good at e claims =
    (view f g own t r x valid good at).copy e ∙ look_chosen g (λ i. mem i r.rw) (resources t.rows) x claims ∙ sym (look_resource f g t.rows x (copy_no_node t.rows r x valid good claims))

-- what the claim has is found in the part as in the ticket
pub look_claimed : {V : Type 0} (f : NodeRow → V) (g : Resource → V) → IsOwn f
    → (t : Job) (r : SpawnRec) (x : List ℕ) (p : Place) → IsValid t.rows → IsGood t.rows r
    → (at : Around t.rows r.node) → place_at (places t.rows) x ≡ Some p
    → is_claimed r.node r.rw p ≡ true
    → look (entries f g (own_rows (part_for t r))) x ≡ look (entries f g t.rows) x
look_claimed f g own t r x p valid good at there claims =
    claimed_at (mem x (ids (at.root ∷ at.inner))) f g own t r x valid good at refl
    (ap (λ b. b || mem x r.rw) (stands_below t.rows r.node x p valid at there) ∙ ap (λ i. below r.node p || mem i r.rw) (sym (named (places t.rows) x p there)) ∙ claims)

-- ---- what isn't claimed

-- an id stands neither below the node nor among the copies
pub record IsOutOf (rows : List NodeRow) (r : SpawnRec) (at : Around rows r.node)
    (x : List ℕ) : Type 0 where
  pub below : mem x (ids (at.root ∷ at.inner)) ≡ false
  pub copies : mem x (resource_ids (resources_among r.rw rows)) ≡ false

unplaced : (o : Option Place) → o ≡ None → is_some o ≡ false
unplaced o e = ap is_some e

pub out_of_claim : (o : Option Place) (rows : List NodeRow) (r : SpawnRec) (x : List ℕ)
    → IsValid rows → (at : Around rows r.node) → place_at (places rows) x ≡ o
    → option_map_or (is_claimed r.node r.rw) o false ≡ false → IsOutOf rows r at x
out_of_claim None rows r x valid at e out =
    let none : mem x (ids rows) ≡ false = sym (stands_somewhere rows x) ∙ unplaced (place_at (places rows) x) e in
    let mid = ids (at.root ∷ at.inner) in
    let later = (out_of_both x (ids at.front) (mid ++ ids at.back) (ap (mem x) (sym (ids_around rows r.node at)) ∙ none)).1 in
    let nowhere = sym (stands_among (places rows) x) ∙ unplaced (place_at (places rows) x) e in
    record {
      below = (out_of_both x mid (ids at.back) later).0;
      copies = kept_among (λ (y : Resource). y.id) (λ y. mem y.id r.rw) (resources rows) x (ap (mem x) (ids_of_resources rows) ∙ kept_among (λ p. p.id) (λ p. not (is_node p)) (places rows) x nowhere);
    }
out_of_claim (Some p) rows r x valid at e out =
    let parts = or_parts (below r.node p) (mem p.id r.rw) out in
    record {
      below = stands_below rows r.node x p valid at e ∙ parts.0;
      copies = changes_ids rows r.rw x ∙ ap (λ i. mem i r.rw && mem x (resource_ids (resources rows))) (sym (named (places rows) x p e)) ∙ ap (λ b. b && mem x (resource_ids (resources rows))) parts.1;
    }

look_unclaimed : {V : Type 0} (f : NodeRow → V) (g : Resource → V) → IsOwn f
    → (t : Job) (r : SpawnRec) (x : List ℕ) → IsValid t.rows → IsGood t.rows r
    → (at : Around t.rows r.node) → IsOutOf t.rows r at x
    → look (entries f g (own_rows (part_for t r))) x ≡ None
look_unclaimed f g own t r x valid good at out = (view f g own t r x valid good at).copy out.below ∙ missing_pool g (resources_among r.rw t.rows) x out.copies

-- ---- the laws

own_row : IsOwn node_row
own_row r depth pool = refl

own_thing : IsOwn node_thing
own_thing r depth pool = refl

pub part_shows_claim : PartShowsClaim
part_shows_claim t r valid good x p there claims =
    let at = around t.rows r.node valid (good_node t.rows r good) in (
      look_claimed node_row resource_row own_row t r x p valid good at there claims,
      thing_look [] (own_rows (part_for t r)) x ∙ look_claimed node_thing resource_thing own_thing t r x p valid good at there claims ∙ sym (thing_look [] t.rows x) ∙ ap (option_map (λ q. q.thing)) there,
    )

pub part_shows_no_more : PartShowsNoMore
part_shows_no_more t r valid good x out =
    let at = around t.rows r.node valid (good_node t.rows r good) in
    let apart = out_of_claim (place_at (places t.rows) x) t.rows r x valid at refl out in (
      look_unclaimed node_row resource_row own_row t r x valid good at apart,
      thing_look [] (own_rows (part_for t r)) x ∙ look_unclaimed node_thing resource_thing own_thing t r x valid good at apart,
    )
