-- What a worker may change of a part is what its spawn holds: nodes as nodes, and resources as resources.
use Rattle.std.proofs.Common.{◌≡◌, ◌∙◌, ◌&&◌, ◌||◌, ℕ, Bool, true, false, cond, List, [], ◌∷◌, length, map, Option, Some, None, is_some, refl, sym, ap}
use Rattle.std.proofs.lemmas.Bool.{and_from, and_parts, true≢false}
use Rattle.std.specs.Option.{option_map, option_map_or}
use Rattle.ticket_items.specs.Ids.{mem}
use Rattle.ticket_items.specs.Resource.{resource_ids}
use Rattle.ticket_items.specs.declared.edit.Edit.{Edit}
use Rattle.ticket_items.specs.declared.node_row.NodeRow.{NodeRow}
use Rattle.ticket_rows.proofs.Below.{mem-node_ids}
use Rattle.ticket_rows.proofs.NodePlaces.{no_node_id}
use Rattle.ticket_rows.specs.Copies.{with_copies}
use Rattle.ticket_items.specs.Edit.{is_of_node, target}
use Rattle.ticket_rows.specs.Homes.{entry_of, has_resource, home_of}
use Rattle.ticket_rows.specs.PartEdit.{AreApart}
use Rattle.ticket_rows.specs.Place.{Place, below, is_below, node_places, nodes_in, place_at, places, resources_in}
use Rattle.ticket_rows.specs.Ticket.{IsValid, Job, has_node, ids, node_ids}
use Rattle.ticket_tree.proofs.ById.{resource_no_node}
use Rattle.ticket_tree.proofs.LookUps.{nodes_among_places}
use Rattle.ticket_tree.proofs.OnPlaces.{has_resource-any, stands_node, stands_resource, stands_somewhere}
use Rattle.ticket_tree.proofs.PartEdits.{ids_in_part}
use Rattle.ticket_tree.proofs.PlainRows.{apart_resource, mem-resource_ids}
use Rattle.ticket_tree.specs.Part.{PartCopy}
use Rattle.ticket_tree.specs.PlainEdit.{stands}
use Rattle.spawn.proofs.Among.{kept_keys}
use Rattle.spawn.proofs.HomesBelow.{home_stands, homeless, or_right}
use Rattle.spawn.proofs.PartShows.{copy_no_node}
use Rattle.spawn.proofs.SoundPart.{false_by}
use Rattle.spawn.proofs.Standing.{named}
use Rattle.plain_shop.specs.Claim.{is_claimed}
use Rattle.spawn.specs.Parts.{above, lifted_row, part_for}
use Rattle.ticket_tree.specs.At.{rows_below}
use Rattle.spawn.specs.Records.{IsGood}
use Rattle.spawn.specs.declared.records.spawn_rec.SpawnRec.{SpawnRec}
use Rattle.merge.proofs.PutPlaces.{same_places}
use Rattle.merge.specs.Shape.{Fits}
use Rattle.worker_core.specs.Orders.{is_here}
use Rattle.worker_core.specs.Worker.{has}
use Rattle.world.proofs.Runs.Cases.{same_test, split}
use Rattle.world.proofs.Worker.InPart.{fits_has, part_has}

-- whether a spawn claims what has an id
abbrev pub claims : Job → SpawnRec → List ℕ → Bool
claims t r x = option_map_or (is_claimed r.node r.rw) (place_at (places t.rows) x) false

-- ---- nodes

same_node : (p q : PartCopy) (t : Job) (r : SpawnRec) (x : List ℕ) → places p.rows ≡ places q.rows → has_node p.rows x ≡ has_node q.rows x
same_node p q t r x same = sym (stands_node p.rows x) ∙ ap (λ ps. stands (nodes_in ps) x) same ∙ stands_node q.rows x

lifted_nodes : (levels : ℕ) (rows : List NodeRow) → node_ids (map (lifted_row levels) rows) ≡ node_ids rows
lifted_nodes levels [] = refl
lifted_nodes levels (r ∷ rows) = ap (λ is. r.id ∷ is) (lifted_nodes levels rows)

made_node : (t : Job) (r : SpawnRec) (x : List ℕ) → has_node (part_for t r).rows x ≡ (is_below (node_places t.rows) x r.node && has_node t.rows x)
made_node t r x =
    let rows = t.rows in
    sym (mem-node_ids (part_for t r).rows x) ∙ ap (mem x) (lifted_nodes (length (above rows r.node)) (rows_below rows r.node))
    ∙ kept_keys (λ (y : NodeRow). y.id) (λ i. is_below (node_places rows) i r.node) rows x
    ∙ ap (λ b. is_below (node_places rows) x r.node && b) (mem-node_ids rows x)

and_none : (b : Bool) → (b && false) ≡ false
and_none true = refl
and_none false = refl

and_all : (b : Bool) → (b && true) ≡ b
and_all true = refl
and_all false = refl

or_none : (a b : Bool) → b ≡ false → (a || b) ≡ a
or_none true b e = refl
or_none false b e = e

some_of : {X : Type 0} (o : Option X) → is_some o ≡ true → (x : X) × (o ≡ Some x)
some_of None e = absurd (true≢false (sym e))
some_of (Some x) e = (x, refl)

-- a node that is claimed stands below the spawned one
node_claimed : (t : Job) (r : SpawnRec) (x : List ℕ) → IsValid t.rows → IsGood t.rows r → has_node t.rows x ≡ true → is_below (node_places t.rows) x r.node ≡ claims t r x
node_claimed t r x valid good known =
    let rows = t.rows in
    let among = nodes_among_places rows valid x in
    let found = some_of (place_at (node_places rows) x) (among.0 ∙ known) in
    let p : Place = found.0 in
    let there = among.1 p found.1 in
    let id = named (places rows) x p there in
    let no_copy : mem p.id r.rw ≡ false = false_by _ (λ copy. true≢false (sym (mem-node_ids rows x ∙ known) ∙ copy_no_node rows r x valid good (ap (λ i. mem i r.rw) (sym id) ∙ copy))) in
    ap (λ o. option_map_or (below r.node) o false) found.1 ∙ sym (or_none (below r.node p) (mem p.id r.rw) no_copy) ∙ sym (ap (λ o. option_map_or (is_claimed r.node r.rw) o false) there)

-- a part has the nodes that are claimed
part_node : (t : Job) (r : SpawnRec) (p : PartCopy) (x : List ℕ) → IsValid t.rows → IsGood t.rows r → Fits t r p → has_node p.rows x ≡ (has_node t.rows x && claims t r x)
part_node t r p x valid good fits =
    same_node p (part_for t r) t r x (same_places p.rows (part_for t r).rows fits.rows) ∙ made_node t r x
    ∙ split (has_node t.rows x)
    (λ known. ap (λ b. is_below (node_places t.rows) x r.node && b) known ∙ and_all _ ∙ node_claimed t r x valid good known ∙ sym (ap (λ b. b && claims t r x) known))
    (λ missing. ap (λ b. is_below (node_places t.rows) x r.node && b) missing ∙ and_none _ ∙ sym (ap (λ b. b && claims t r x) missing))

-- ---- resources

no_home : (rows : List NodeRow) (x : List ℕ) → has_resource rows x ≡ false → home_of rows x ≡ None
no_home rows x missing = by (entry_of rows x) missing
  where
    by : {X Y : Type 0} (o : Option (X × Y)) → is_some o ≡ false → option_map (λ e. e.1) o ≡ None
    by None e = refl
    by (Some e) is = absurd (true≢false is)

-- what stands and is no node is a resource
resource_stands : (rows : List NodeRow) (x : List ℕ) → mem x (ids rows) ≡ true → has_node rows x ≡ false → has_resource rows x ≡ true
resource_stands rows x there no_node =
    split (has_resource rows x)
    (λ known. known)
    (λ missing. absurd (true≢false (sym there ∙ homeless x rows (mem-node_ids rows x ∙ no_node) (no_home rows x missing))))

among : (rows : List NodeRow) (x : List ℕ) → has_resource rows x ≡ true → mem x (ids rows) ≡ true
among rows x known = by (home_of rows x) refl (is_known (entry_of rows x) known)
  where
    is_known : {X Y : Type 0} (o : Option (X × Y)) → is_some o ≡ true → is_some (option_map (λ e. e.1) o) ≡ true
    is_known None e = absurd (true≢false (sym e))
    is_known (Some e) is = refl

    by : (o : Option (List ℕ)) → home_of rows x ≡ o → is_some o ≡ true → mem x (ids rows) ≡ true
    by None found is = absurd (true≢false (sym is))
    by (Some h) found is = (home_stands x h rows found).0

claimed_stands : (t : Job) (r : SpawnRec) (x : List ℕ) → claims t r x ≡ true → mem x (ids t.rows) ≡ true
claimed_stands t r x claimed = sym (stands_somewhere t.rows x) ∙ by (place_at (places t.rows) x) claimed
  where
    by : (o : Option Place) → option_map_or (is_claimed r.node r.rw) o false ≡ true → is_some o ≡ true
    by None e = absurd (true≢false (sym e))
    by (Some p) e = refl

-- nor is a resource a node
resource_apart : (p : PartCopy) (x : List ℕ) → AreApart p.rows p.rw → (has_resource p.rows x || mem x (resource_ids p.rw)) ≡ true → has_node p.rows x ≡ false
resource_apart p x apart here =
    sym (mem-node_ids p.rows x)
    ∙ split (has_resource p.rows x)
    (λ known. resource_no_node x p.rows apart.rows_distinct (mem-resource_ids x p.rows ∙ has_resource-any p.rows x ∙ known))
    (λ missing. no_node_id x p.rows (apart.apart x (sym (ap (λ b. b || mem x (resource_ids p.rw)) missing) ∙ here)))

has_own : (p : PartCopy) (x : List ℕ) → (has_resource p.rows x || mem x (resource_ids p.rw)) ≡ true → has p x ≡ true
has_own p x here =
    split (has_resource p.rows x)
    (λ known. ap (λ b. b || mem x (resource_ids p.rw)) (among p.rows x known))
    (λ missing. or_right (mem x (ids p.rows)) (mem x (resource_ids p.rw)) (sym (ap (λ b. b || mem x (resource_ids p.rw)) missing) ∙ here))

own_has : (p : PartCopy) (x : List ℕ) → has p x ≡ true → has_node p.rows x ≡ false → (has_resource p.rows x || mem x (resource_ids p.rw)) ≡ true
own_has p x here no_node =
    split (mem x (ids p.rows))
    (λ there. ap (λ b. b || mem x (resource_ids p.rw)) (resource_stands p.rows x there no_node))
    (λ out. or_right (has_resource p.rows x) (mem x (resource_ids p.rw)) (sym (ap (λ b. b || mem x (resource_ids p.rw)) out) ∙ here))

-- a part has the resources that are claimed, in its pools or as copies to change
part_resource : (t : Job) (r : SpawnRec) (p : PartCopy) (x : List ℕ) → IsValid t.rows → IsGood t.rows r → Fits t r p → IsValid (with_copies p.rows p.rw p.ro) → (has_resource p.rows x || mem x (resource_ids p.rw)) ≡ (has_resource t.rows x && claims t r x)
part_resource t r p x valid good fits whole =
    let has_so : has p x ≡ claims t r x = fits_has t r p x fits ∙ part_has t r x valid good in
    let node_so = part_node t r p x valid good fits in
    same_test (has_resource p.rows x || mem x (resource_ids p.rw)) (has_resource t.rows x && claims t r x)
    (λ here.
    let claimed : claims t r x ≡ true = sym has_so ∙ has_own p x here in
    let no_node : has_node t.rows x ≡ false = sym (and_all (has_node t.rows x)) ∙ ap (λ b. has_node t.rows x && b) (sym claimed) ∙ sym node_so ∙ resource_apart p x (ids_in_part p.rows p.rw p.ro whole) here in
    and_from _ _ (resource_stands t.rows x (claimed_stands t r x claimed) no_node) claimed)
    (λ both.
    let parts = and_parts (has_resource t.rows x) (claims t r x) both in
    let no_node : has_node t.rows x ≡ false = sym (mem-node_ids t.rows x) ∙ apart_resource t.rows x valid parts.0 in
    own_has p x (has_so ∙ parts.1) (node_so ∙ ap (λ b. b && claims t r x) no_node))

-- ---- the target of an edit

by_kind : (of_node a b c : Bool) (nodes resources : List Place) (x : List ℕ) → a ≡ (stands nodes x && c) → b ≡ (stands resources x && c) → cond of_node a b ≡ (stands (cond of_node nodes resources) x && c)
by_kind true a b c nodes resources x of_nodes of_resources = of_nodes
by_kind false a b c nodes resources x of_nodes of_resources = of_resources

-- it is in a part just where it stands as what is meant, and is claimed
pub here_so : (e : Edit) (t : Job) (r : SpawnRec) (p : PartCopy) → IsValid t.rows → IsGood t.rows r → Fits t r p → IsValid (with_copies p.rows p.rw p.ro) → is_here e p ≡ (stands (cond (is_of_node e) (nodes_in (places t.rows)) (resources_in (places t.rows))) (target e) && claims t r (target e))
here_so e t r p valid good fits whole =
    let x = target e in
    by_kind (is_of_node e) (has_node p.rows x) (has_resource p.rows x || mem x (resource_ids p.rw)) (claims t r x) (nodes_in (places t.rows)) (resources_in (places t.rows)) x
    (part_node t r p x valid good fits ∙ ap (λ b. b && claims t r x) (sym (stands_node t.rows x)))
    (part_resource t r p x valid good fits whole ∙ ap (λ b. b && claims t r x) (sym (stands_resource t.rows x)))
