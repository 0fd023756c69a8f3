-- The copies to read of a part: they are what it links and has not itself, and so those that its spawn may read.
use Rattle.std.proofs.Common.{◌≡◌, ◌∙◌, ◌&&◌, ◌||◌, ℕ, Bool, true, false, not, List, [], ◌∷◌, ◌++◌, map, Option, Some, None, refl, sym, ap}
use Rattle.std.proofs.lemmas.Bool.{and_from, and_parts, not-true, not_from_false, or_from, or_parts, true≢false}
use Rattle.std.specs.List.{list_all, list_any}
use Rattle.std.specs.Option.{option_map_or}
use Rattle.std.specs.Str.{bytes_eq}
use Rattle.std.proofs.lemmas.Slice.Eq.{bytes_eq-Decides}
use Rattle.ticket_items.proofs.Apart.{front_distinct, mem-append, not_in_front, other_part}
use Rattle.ticket_items.specs.Ids.{are_distinct, mem}
use Rattle.ticket_items.specs.Resource.{resource_ids}
use Rattle.ticket_items.specs.declared.link.Link.{Link}
use Rattle.ticket_items.specs.declared.node_row.NodeRow.{NodeRow}
use Rattle.ticket_items.specs.declared.resource.Resource.{Resource}
use Rattle.ticket_rows.proofs.Copies.{ids-copies, resolved-copies}
use Rattle.ticket_rows.proofs.LinkWalk.{are_resolved_from, resolved_walk, resolves}
use Rattle.ticket_rows.specs.Copies.{with_copies}
use Rattle.ticket_rows.specs.Homes.{home_of}
use Rattle.ticket_rows.specs.Place.{links_of, path_of, places}
use Rattle.ticket_rows.specs.Ticket.{IsValid, Job, ids, ids_of}
use Rattle.ticket_tree.specs.Part.{PartCopy, are_linked, is_linked, is_sound}
use Rattle.spawn.proofs.Among.{mem_back}
use Rattle.spawn.proofs.GoodCopies.{first_of_fixed, reads_ids}
use Rattle.spawn.proofs.HomesBelow.{home_stands}
use Rattle.spawn.proofs.SoundPart.{part_is_sound}
use Rattle.plain_shop.specs.Claim as claim
use Rattle.spawn.specs.Parts.{part_for}
use Rattle.spawn.specs.Records.{IsGood}
use Rattle.spawn.specs.declared.records.spawn_rec.SpawnRec.{SpawnRec}
use Rattle.merge.proofs.PutPlaces.{same_ids}
use Rattle.merge.specs.Shape.{Fits, Shape, shape}
use Rattle.world.proofs.Runs.Cases.{same_test, split}
use Rattle.world.proofs.Master.PartsGoOut.{part_is_valid}

-- ---- what is linked stands

link_stands : (all : List NodeRow) (path : List (List ℕ)) (links : List Link) (x : List ℕ) → list_all (resolves all path) links ≡ true → list_any (λ l. bytes_eq l.rref x) links ≡ true → mem x (ids all) ≡ true
link_stands all path [] x good linked = absurd (true≢false (sym linked))
link_stands all path (l ∷ links) x good linked =
    let parts = and_parts (resolves all path l) (list_all (resolves all path) links) good in
    let later = link_stands all path links x parts.1 in
    split (bytes_eq l.rref x)
    (λ same. home_there (home_of all l.rref) refl parts.0 ((bytes_eq-Decides l.rref x).0 same))
    (λ other. later (sym (ap (λ b. b || list_any (λ k. bytes_eq k.rref x) links) other) ∙ linked))
  where
    home_there : (o : Option (List ℕ)) → home_of all l.rref ≡ o → option_map_or (λ home. mem home path) o false ≡ true → l.rref ≡ x → mem x (ids all) ≡ true
    home_there None found above same = absurd (true≢false (sym above))
    home_there (Some h) found above same = ap (λ y. mem y (ids all)) (sym same) ∙ (home_stands l.rref h all found).0

linked_stands : (all : List NodeRow) (before : List (List ℕ)) (rows : List NodeRow) (x : List ℕ) → are_resolved_from all before rows ≡ true → is_linked rows x ≡ true → mem x (ids all) ≡ true
linked_stands all before [] x good linked = absurd (true≢false (sym linked))
linked_stands all before (r ∷ rows) x good linked =
    let path = path_of before r in
    let parts = and_parts (list_all (resolves all path) r.links) (are_resolved_from all path rows) good in
    let later = linked_stands all path rows x parts.1 in
    split (list_any (λ (l : Link). bytes_eq l.rref x) r.links)
    (λ here. link_stands all path r.links x parts.0 here)
    (λ out. later (sym (ap (λ b. b || is_linked rows x) out) ∙ linked))

-- ---- the copies to read

one_linked : (rows : List NodeRow) (pool : List Resource) (x : List ℕ) → are_linked rows pool ≡ true → mem x (resource_ids pool) ≡ true → is_linked rows x ≡ true
one_linked rows [] x linked there = absurd (true≢false (sym there))
one_linked rows (y ∷ pool) x linked there =
    let parts = and_parts (is_linked rows y.id) (are_linked rows pool) linked in
    let later = one_linked rows pool x parts.1 in
    split (bytes_eq y.id x)
    (λ same. ap (is_linked rows) (sym ((bytes_eq-Decides y.id x).0 same)) ∙ parts.0)
    (λ other. later (sym (ap (λ b. b || mem x (resource_ids pool)) other) ∙ there))

-- the copies to read are what is linked, and stands neither among the rows nor among the copies to change
abbrev Reads : List NodeRow → List Resource → List ℕ → Bool
Reads rows rw x = is_linked rows x && (not (mem x (ids rows)) && not (mem x (resource_ids rw)))

reads_to : (r : NodeRow) (rows : List NodeRow) (rw ro : List Resource) (x : List ℕ) → IsValid (with_copies (r ∷ rows) rw ro) → are_linked (r ∷ rows) ro ≡ true → mem x (resource_ids ro) ≡ true → Reads (r ∷ rows) rw x ≡ true
reads_to r rows rw ro x valid linked there =
    let own = ids_of r ++ resource_ids rw in
    let all : are_distinct ((own ++ resource_ids ro) ++ ids rows) ≡ true = ap are_distinct (sym (ids-copies r rows rw ro)) ∙ valid.distinct in
    let behind : mem x (ids rows) ≡ false = other_part x (own ++ resource_ids ro) (ids rows) all (mem_back x own (resource_ids ro) there) in
    let before : mem x own ≡ false = not_in_front x own (resource_ids ro) (front_distinct (own ++ resource_ids ro) (ids rows) all) there in
    let parts = or_parts (mem x (ids_of r)) (mem x (resource_ids rw)) (sym (mem-append x (ids_of r) (resource_ids rw)) ∙ before) in
    let out : mem x (ids (r ∷ rows)) ≡ false = mem-append x (ids_of r) (ids rows) ∙ or_from _ _ parts.0 behind in
    and_from _ _ (one_linked (r ∷ rows) ro x linked there) (and_from _ _ (not_from_false _ out) (not_from_false _ parts.1))

reads_from : (r : NodeRow) (rows : List NodeRow) (rw ro : List Resource) (x : List ℕ) → IsValid (with_copies (r ∷ rows) rw ro) → Reads (r ∷ rows) rw x ≡ true → mem x (resource_ids ro) ≡ true
reads_from r rows rw ro x valid so =
    let own = ids_of r ++ resource_ids rw in
    let parts = and_parts (is_linked (r ∷ rows) x) (not (mem x (ids (r ∷ rows))) && not (mem x (resource_ids rw))) so in
    let outs = and_parts (not (mem x (ids (r ∷ rows)))) (not (mem x (resource_ids rw))) parts.1 in
    let whole = with_copies (r ∷ rows) rw ro in
    let resolved : are_resolved_from whole [] (r ∷ rows) ≡ true = sym (resolved-copies whole (r ∷ rows) rw ro) ∙ sym (resolved_walk whole) ∙ valid.resolved in
    let stands : mem x ((own ++ resource_ids ro) ++ ids rows) ≡ true = ap (mem x) (sym (ids-copies r rows rw ro)) ∙ linked_stands whole [] (r ∷ rows) x resolved parts.0 in
    let out = or_parts (mem x (ids_of r)) (mem x (ids rows)) (sym (mem-append x (ids_of r) (ids rows)) ∙ not-true _ outs.0) in
    let before : mem x own ≡ false = mem-append x (ids_of r) (resource_ids rw) ∙ or_from _ _ out.0 (not-true _ outs.1) in
    split (mem x (resource_ids ro))
    (λ there. there)
    (λ not_there.
    let front : mem x (own ++ resource_ids ro) ≡ false = mem-append x own (resource_ids ro) ∙ or_from _ _ before not_there in
    absurd (true≢false (sym stands ∙ mem-append x (own ++ resource_ids ro) (ids rows) ∙ or_from _ _ front out.1)))

reads_of : (rows : List NodeRow) (rw ro : List Resource) (x : List ℕ) → IsValid (with_copies rows rw ro) → are_linked rows ro ≡ true → mem x (resource_ids ro) ≡ Reads rows rw x
reads_of [] rw ro x valid linked = absurd (true≢false (sym valid.tree))
reads_of (r ∷ rows) rw ro x valid linked = same_test _ _ (reads_to r rows rw ro x valid linked) (reads_from r rows rw ro x valid)

-- ---- the copies of parts that fit

-- rows of one shape link the same
shapes_link : (rows : List NodeRow) (x : List ℕ) → list_any (λ (s : Shape). list_any (λ (l : Link). bytes_eq l.rref x) (links_of s.thing)) (map shape rows) ≡ is_linked rows x
shapes_link [] x = refl
shapes_link (r ∷ rows) x = ap (λ b. list_any (λ (l : Link). bytes_eq l.rref x) r.links || b) (shapes_link rows x)

same_reads : (p q : PartCopy) (x : List ℕ) → map shape p.rows ≡ map shape q.rows → resource_ids p.rw ≡ resource_ids q.rw → Reads p.rows p.rw x ≡ Reads q.rows q.rw x
same_reads p q x rows rw =
    let links = sym (shapes_link p.rows x) ∙ ap (list_any (λ (s : Shape). list_any (λ (l : Link). bytes_eq l.rref x) (links_of s.thing))) rows ∙ shapes_link q.rows x in
    ap (λ b. b && (not (mem x (ids p.rows)) && not (mem x (resource_ids p.rw)))) links
    ∙ ap (λ is. is_linked q.rows x && (not (mem x is) && not (mem x (resource_ids p.rw)))) (same_ids p.rows q.rows rows)
    ∙ ap (λ is. is_linked q.rows x && (not (mem x (ids q.rows)) && not (mem x is))) rw

-- that of a sound part
sound_linked : (p : PartCopy) → is_sound p ≡ true → are_linked p.rows p.ro ≡ true
sound_linked p sound = (and_parts _ (are_linked p.rows p.ro) sound).1

-- the copies to read of a part that fits are those that its spawn may read
pub reads_held : (t : Job) (r : SpawnRec) (p : PartCopy) (x : List ℕ) → IsValid t.rows → IsGood t.rows r → Fits t r p → IsValid (with_copies p.rows p.rw p.ro) → is_sound p ≡ true → mem x (resource_ids p.ro) ≡ mem x (claim.ids_of (claim.linked_ro (places t.rows) r.node r.rw))
reads_held t r p x valid good fits whole sound =
    let q = part_for t r in
    let rw : resource_ids p.rw ≡ resource_ids q.rw = sym (first_of_fixed p.rw) ∙ ap (map (λ f. f.0)) fits.rw ∙ first_of_fixed q.rw in
    reads_of p.rows p.rw p.ro x whole (sound_linked p sound)
    ∙ same_reads p q x fits.rows rw
    ∙ sym (reads_of q.rows q.rw q.ro x (part_is_valid t r valid good) (sound_linked q (part_is_sound t r valid good)))
    ∙ ap (mem x) (reads_ids t.rows r good)
