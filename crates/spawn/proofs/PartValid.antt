-- The rows below a node with copies of what they link from above are a ticket of their own.
use Rattle.std.proofs.Common.{◌≡◌, ◌∙◌, ◌⊎◌, ℕ, suc, ◌+◌, ◌-◌, ◌≤◌, ◌||◌, Bool, true, false, not}
use Rattle.std.proofs.Common.{cond, List, [], ◌∷◌, ◌++◌, length, map, drop, Option, Some, None, inl}
use Rattle.std.proofs.Common.{inr, refl, sym, ap, subst, append_assoc, arith, nat_le, nat_lt}
use Rattle.std.proofs.lemmas.Bool.{true≢false, and_parts, and_from, ltb-true}
use Rattle.std.proofs.lemmas.List.{length-append, map-append}
use Rattle.std.specs.List.{find, list_all, list_any}
use Rattle.std.specs.Option.{option_map, option_map_or}
use Rattle.std.specs.Str.{bytes_eq}
use Rattle.ticket_items.proofs.Apart.{bytes_eq-same, mem-append, or_true}
use Rattle.ticket_rows.proofs.Below.{Path, below_x}
use Rattle.ticket_rows.proofs.AtHome.{home_of-cons}
use Rattle.ticket_rows.proofs.Copies.{outline-copies, unreserved-copies, shallow-copies}
use Rattle.ticket_rows.proofs.Copies.{resolved-copies, ids-copies}
use Rattle.ticket_rows.specs.Homes.{home_of}
use Rattle.ticket_items.specs.Ids.{mem, are_distinct}
use Rattle.ticket_rows.specs.Copies.{with_copies}
use Rattle.ticket_items.specs.Resource.{resource_ids}
use Rattle.ticket_tree.specs.Part.{is_linked}
use Rattle.ticket_rows.specs.Place.{path_of}
use Rattle.ticket_rows.specs.Ticket.{IsValid, ids, ids_of, is_reserved}
use Rattle.ticket_rows.proofs.LinkWalk.{resolves, are_resolved_from, resolved_walk}
use Rattle.ticket_items.specs.declared.link.Link.{Link}
use Rattle.ticket_items.specs.declared.node_row.NodeRow.{NodeRow}
use Rattle.ticket_items.specs.declared.resource.Resource.{Resource}
use Rattle.spawn.proofs.Among.{AreApart, distinct_front, distinct_back, distinct_between}
use Rattle.spawn.proofs.HomesBelow.{ids_around, home_inside, home_stands, homeless_inside}
use Rattle.spawn.proofs.HomesBelow.{not_above}
use Rattle.spawn.proofs.Lifting.{all_lifted, outline_lifted, unreserved_lifted, shallow_lifted}
use Rattle.spawn.proofs.Lifting.{ids_lifted, homes_lifted}
use Rattle.spawn.proofs.Split.{path_after, AreDeep, Around}
use Rattle.spawn.specs.Parts.{lifted_row}

-- ---- the copies

-- copies of just the resources that are linked from below n and stand outside, each once
pub record AreCopies (rows : List NodeRow) (n : List ℕ) (at : Around rows n)
    (changes reads : List Resource) : Type 0 where
  pub distinct_changes : are_distinct (resource_ids changes) ≡ true
  pub distinct_reads : are_distinct (resource_ids reads) ≡ true
  pub apart : AreApart (resource_ids changes) (resource_ids reads)
  pub changes_outside : AreApart (resource_ids changes) (ids (at.root ∷ at.inner))
  pub reads_outside : AreApart (resource_ids reads) (ids (at.root ∷ at.inner))
  pub all_linked : (x h : List ℕ) → is_linked (at.root ∷ at.inner) x ≡ true → home_of rows x ≡ Some h → mem x (ids (at.root ∷ at.inner)) ≡ false → (mem x (resource_ids changes) || mem x (resource_ids reads)) ≡ true

-- ---- tests of all rows

all_first : {X : Type 0} (f : X → Bool) (xs ys : List X) → list_all f (xs ++ ys) ≡ true
    → list_all f xs ≡ true
all_first f [] ys all = refl
all_first f (x ∷ xs) ys all =
    let parts = and_parts (f x) (list_all f (xs ++ ys)) all in
    and_from _ _ parts.0 (all_first f xs ys parts.1)

all_middle : {X : Type 0} (f : X → Bool) (xs ys zs : List X) → list_all f ((xs ++ ys) ++ zs) ≡ true
    → list_all f ys ≡ true
all_middle f [] ys zs all = all_first f ys zs all
all_middle f (x ∷ xs) ys zs all = all_middle f xs ys zs (and_parts (f x) (list_all f ((xs ++ ys) ++ zs)) all).1

all_around : (f : NodeRow → Bool) (rows : List NodeRow) (n : List ℕ) → (at : Around rows n)
    → list_all f rows ≡ true → list_all f (at.root ∷ at.inner) ≡ true
all_around f rows n at all = all_middle f at.front (at.root ∷ at.inner) at.back (ap (list_all f) (sym at.whole) ∙ all)

-- ---- distinct ids

out_at : (b : Bool) (x : List ℕ) (xs ys zs : List (List ℕ)) → mem x xs ≡ b → AreApart xs zs
    → AreApart ys zs → (b || mem x ys) ≡ true → mem x zs ≡ false
out_at true x xs ys zs e one two there = one x e
out_at false x xs ys zs e one two there = two x there

out_of_either : (x : List ℕ) (xs ys zs : List (List ℕ)) → AreApart xs zs → AreApart ys zs
    → mem x (xs ++ ys) ≡ true → mem x zs ≡ false
out_of_either x xs ys zs one two there = out_at (mem x xs) x xs ys zs refl one two (sym (mem-append x xs ys) ∙ there)

distinct_copies : (root : NodeRow) (inner : List NodeRow) (changes reads : List Resource)
    → are_distinct (ids (root ∷ inner)) ≡ true → are_distinct (resource_ids changes) ≡ true
    → are_distinct (resource_ids reads) ≡ true
    → AreApart (resource_ids changes) (resource_ids reads)
    → AreApart (resource_ids changes) (ids (root ∷ inner))
    → AreApart (resource_ids reads) (ids (root ∷ inner))
    → are_distinct (ids (with_copies (root ∷ inner) changes reads)) ≡ true
distinct_copies root inner changes reads own c d apart out_c out_r =
    let xs = ids_of root in
    let cs = resource_ids changes in
    let rs = resource_ids reads in
    let both : are_distinct (cs ++ rs) ≡ true = distinct_between [] cs rs d c apart in
    ap are_distinct (ids-copies root inner changes reads ∙ ap (λ is. is ++ ids inner) (append_assoc xs cs rs))
    ∙ distinct_between xs (cs ++ rs) (ids inner) own both (λ x there. out_of_either x cs rs (ids (root ∷ inner)) out_c out_r there)

-- ---- links

abbrev Swaps : List NodeRow → List NodeRow → List ℕ → Path → List NodeRow → Type 0
Swaps all part n up rows = (q : Path) (l : Link) → is_linked rows l.rref ≡ true → resolves all (q ++ n ∷ up) l ≡ true → resolves part (q ++ n ∷ []) l ≡ true

or_right : (a b : Bool) → b ≡ true → (a || b) ≡ true
or_right true b h = refl
or_right false b h = h

links_resolved : (all part : List NodeRow) (n : List ℕ) (up : Path) (rows : List NodeRow)
    → Swaps all part n up rows → (q : Path) (ls : List Link)
    → ((x : List ℕ) → list_any (λ l. bytes_eq l.rref x) ls ≡ true → is_linked rows x ≡ true)
    → list_all (resolves all (q ++ n ∷ up)) ls ≡ true
    → list_all (resolves part (q ++ n ∷ [])) ls ≡ true
links_resolved all part n up rows swap q [] linked res = refl
links_resolved all part n up rows swap q (l ∷ ls) linked res =
    let parts = and_parts (resolves all (q ++ n ∷ up) l) (list_all (resolves all (q ++ n ∷ up)) ls) res in
    and_from _ _ (swap q l (linked l.rref (ap (λ b. b || list_any (λ m. bytes_eq m.rref l.rref) ls) (bytes_eq-same l.rref))) parts.0)
    (links_resolved all part n up rows swap q ls (λ x h. linked x (or_right (bytes_eq l.rref x) _ h)) parts.1)

rows_resolved : (all part : List NodeRow) (n : List ℕ) (up : Path) (whole : List NodeRow)
    → Swaps all part n up whole → (q : Path) (rows : List NodeRow) → AreDeep (suc (length up)) rows
    → ((x : List ℕ) → is_linked rows x ≡ true → is_linked whole x ≡ true)
    → are_resolved_from all (q ++ n ∷ up) rows ≡ true
    → are_resolved_from part (q ++ n ∷ []) (all_lifted (length up) rows) ≡ true
rows_resolved all part n up whole swap q [] deep linked res = refl
rows_resolved all part n up whole swap q (r ∷ rows) deep linked res =
    let levels : ℕ = length up in
    let parts = and_parts (nat_lt (suc levels) r.depth) (list_all (λ s. nat_lt (suc levels) s.depth) rows) deep in
    let low : suc (suc levels) ≤ r.depth = ltb-true _ _ parts.0 in
    let kept : Path = r.id ∷ drop (length (q ++ n ∷ up) - (r.depth - 1)) q in
    let path : path_of (q ++ n ∷ up) r ≡ kept ++ n ∷ up = below_x n q up r low in
    let long : length (q ++ n ∷ up) ≡ length q + suc levels = length-append q (n ∷ up) in
    let short : length (q ++ n ∷ []) ≡ length q + 1 = length-append q (n ∷ []) in
    let cut : length (q ++ n ∷ []) - ((r.depth - levels) - 1) ≡ length (q ++ n ∷ up) - (r.depth - 1) = omega (arith, low, long, short) in
    let lifted_path : path_of (q ++ n ∷ []) (lifted_row levels r) ≡ kept ++ n ∷ [] = below_x n q [] (lifted_row levels r) (omega (arith, low)) ∙ ap (λ m. (r.id ∷ drop m q) ++ n ∷ []) cut in
    let here = and_parts (list_all (resolves all (path_of (q ++ n ∷ up) r)) r.links) (are_resolved_from all (path_of (q ++ n ∷ up) r) rows) res in
    and_from _ _
    (subst (λ p. list_all (resolves part p) r.links ≡ true) (sym lifted_path)
    (links_resolved all part n up whole swap kept r.links (λ x h. linked x (ap (λ b. b || is_linked rows x) h)) (subst (λ p. list_all (resolves all p) r.links ≡ true) path here.0)))
    (subst (λ p. are_resolved_from part p (all_lifted levels rows) ≡ true) (sym lifted_path)
    (rows_resolved all part n up whole swap kept rows parts.1 (λ x h. linked x (or_right (list_any (λ l. bytes_eq l.rref x) r.links) _ h)) (subst (λ p. are_resolved_from all p rows ≡ true) path here.1)))

-- ---- homes in the part

home_lifted : (levels : ℕ) (rows : List NodeRow) (x : List ℕ)
    → home_of (all_lifted levels rows) x ≡ home_of rows x
home_lifted levels rows x = ap (λ es. option_map (λ e. e.1) (find (λ e. bytes_eq e.0.id x) es)) (homes_lifted levels rows)

pool_ids : (x : List ℕ) (own changes reads : List Resource)
    → mem x (map (λ y. y.id) ((own ++ changes) ++ reads))
    ≡ ((mem x (resource_ids own) || mem x (resource_ids changes)) || mem x (resource_ids reads))
pool_ids x own changes reads =
    ap (mem x) (map-append (λ y. y.id) (own ++ changes) reads) ∙ mem-append x (resource_ids (own ++ changes)) (resource_ids reads)
    ∙ ap (λ b. b || mem x (resource_ids reads)) (ap (mem x) (map-append (λ y. y.id) own changes) ∙ mem-append x (resource_ids own) (resource_ids changes))

abbrev part_rows : ℕ → NodeRow → List NodeRow → List Resource → List Resource → List NodeRow
part_rows levels root inner changes reads = with_copies (all_lifted levels (root ∷ inner)) changes reads

part_home : (levels : ℕ) (root : NodeRow) (inner : List NodeRow) (changes reads : List Resource)
    (x : List ℕ)
    → home_of (part_rows levels root inner changes reads) x
    ≡ cond
    ((mem x (resource_ids root.resources) || mem x (resource_ids changes))
    || mem x (resource_ids reads))
    (Some root.id) (home_of inner x)
part_home levels root inner changes reads x =
    home_of-cons x (record (lifted_row levels root) { resources = (root.resources ++ changes) ++ reads }) (all_lifted levels inner)
    ∙ ap (λ b. cond b (Some root.id) (home_of (all_lifted levels inner) x)) (pool_ids x root.resources changes reads)
    ∙ ap (cond ((mem x (resource_ids root.resources) || mem x (resource_ids changes)) || mem x (resource_ids reads)) (Some root.id)) (home_lifted levels inner x)

or_none : (a b c : Bool) → b ≡ false → c ≡ false → ((a || b) || c) ≡ a
or_none true b c p q = refl
or_none false false false p q = refl
or_none false true c p q = cc
or_none false false true p q = cc

or_some : (a b c : Bool) → (b || c) ≡ true → ((a || b) || c) ≡ true
or_some true b c h = refl
or_some false b c h = h

-- ---- a link of a row below n resolves in the part

known_at : {X : Type 0} (f : X → Bool) (o : Option X) → option_map_or f o false ≡ true
    → (x : X) × (o ≡ Some x) × (f x ≡ true)
known_at f None h = cc
known_at f (Some x) h = (x, refl, h)

either_home : {X : Type 0} (o : Option X) → (o ≡ None) ⊎ ((x : X) × (o ≡ Some x))
either_home None = inl refl
either_home (Some x) = inr (x, refl)

not_in : (b : Bool) (x : List ℕ) (xs ys : List (List ℕ)) → AreApart xs ys → mem x ys ≡ true
    → mem x xs ≡ b → b ≡ false
not_in false x xs ys apart there e = refl
not_in true x xs ys apart there e = absurd (true≢false (sym there ∙ apart x e))

within : (a b c : Bool) → (a || (b || c)) ≡ true → c ≡ false → (a || (b || false)) ≡ true
within true b c h e = refl
within false true c h e = refl
within false false c h e = sym e ∙ h

swaps : (rows : List NodeRow) (n : List ℕ) (changes reads : List Resource) → IsValid rows
    → (at : Around rows n) → AreCopies rows n at changes reads
    → Swaps rows (part_rows (length at.up) at.root at.inner changes reads) n at.up
    (at.root ∷ at.inner)
swaps rows n changes reads valid at copies q l linked res =
    let x = l.rref in
    let below_n = at.root ∷ at.inner in
    let levels : ℕ = length at.up in
    let own = mem x (resource_ids at.root.resources) in
    let known = known_at (λ home. mem home (q ++ n ∷ at.up)) (home_of rows x) res in
    elim (either_home (home_of below_n x)) [
      | inl none ↦
          let out = homeless_inside rows n x known.0 valid at known.1 none in
          let home : home_of (part_rows levels at.root at.inner changes reads) x ≡ Some at.root.id =
          part_home levels at.root at.inner changes reads x ∙ ap (λ b. cond b (Some at.root.id) (home_of at.inner x)) (or_some own (mem x (resource_ids changes)) (mem x (resource_ids reads)) (copies.all_linked x known.0 linked known.1 out)) in
          ap (λ o. option_map_or (λ h. mem h (q ++ n ∷ [])) o false) home ∙ ap (λ i. mem i (q ++ n ∷ [])) at.named
          ∙ mem-append n q (n ∷ []) ∙ ap (λ b. mem n q || (b || false)) (bytes_eq-same n) ∙ or_true (mem n q)
      | inr some ↦
          let stands = home_stands x some.0 below_n some.1 in
          let out_c = not_in (mem x (resource_ids changes)) x (resource_ids changes) (ids below_n) copies.changes_outside stands.0 refl in
          let out_r = not_in (mem x (resource_ids reads)) x (resource_ids reads) (ids below_n) copies.reads_outside stands.0 refl in
          let home : home_of (part_rows levels at.root at.inner changes reads) x ≡ Some some.0 =
          part_home levels at.root at.inner changes reads x ∙ ap (λ b. cond b (Some at.root.id) (home_of at.inner x)) (or_none own (mem x (resource_ids changes)) (mem x (resource_ids reads)) out_c out_r) ∙ sym (home_of-cons x at.root at.inner) ∙ some.1 in
          let same : some.0 ≡ known.0 = ap (λ o. option_map_or (λ h. h) o some.0) (sym (home_inside rows n x some.0 valid at some.1) ∙ known.1) in
          let on : mem some.0 (q ++ n ∷ at.up) ≡ true = ap (λ h. mem h (q ++ n ∷ at.up)) same ∙ known.2 in
          ap (λ o. option_map_or (λ h. mem h (q ++ n ∷ [])) o false) home
          ∙ mem-append some.0 q (n ∷ [])
          ∙ within (mem some.0 q) (bytes_eq n some.0) (mem some.0 at.up) (sym (mem-append some.0 q (n ∷ at.up)) ∙ on) (not_above rows n some.0 valid at stands.1)
    ]

pub resolved-append : (all : List NodeRow) (before : Path) (xs ys : List NodeRow)
    → are_resolved_from all before (xs ++ ys) ≡ true
    → (are_resolved_from all before xs ≡ true)
    × (are_resolved_from all (path_after before xs) ys ≡ true)
resolved-append all before [] ys res = (refl, res)
resolved-append all before (r ∷ xs) ys res =
    let parts = and_parts (list_all (resolves all (path_of before r)) r.links) (are_resolved_from all (path_of before r) (xs ++ ys)) res in
    let later = resolved-append all (path_of before r) xs ys parts.1 in
    (and_from _ _ parts.0 later.0, later.1)

part_resolved : (rows : List NodeRow) (n : List ℕ) (changes reads : List Resource) → IsValid rows
    → (at : Around rows n) → AreCopies rows n at changes reads
    → are_resolved_from (part_rows (length at.up) at.root at.inner changes reads) []
    (all_lifted (length at.up) (at.root ∷ at.inner))
    ≡ true
part_resolved rows n changes reads valid at copies =
    let below_n = at.root ∷ at.inner in
    let levels : ℕ = length at.up in
    let part = part_rows levels at.root at.inner changes reads in
    let swap = swaps rows n changes reads valid at copies in
    let start = resolved-append rows [] at.front below_n (resolved-append rows [] (at.front ++ below_n) at.back (subst (λ rs. are_resolved_from rows [] rs ≡ true) at.whole (sym (resolved_walk rows) ∙ valid.resolved))).0 in
    let here = and_parts (list_all (resolves rows (path_of (path_after [] at.front) at.root)) at.root.links) (are_resolved_from rows (path_of (path_after [] at.front) at.root) at.inner) start.1 in
    let none : 0 - ((at.root.depth - levels) - 1) ≡ 0 = omega arith in
    let path : path_of [] (lifted_row levels at.root) ≡ n ∷ [] = ap (λ m. at.root.id ∷ drop m []) none ∙ ap (λ i. i ∷ []) at.named in
    and_from _ _
    (subst (λ p. list_all (resolves part p) at.root.links ≡ true) (sym path)
    (links_resolved rows part n at.up below_n swap [] at.root.links (λ x h. ap (λ b. b || is_linked at.inner x) h) (subst (λ p. list_all (resolves rows p) at.root.links ≡ true) at.path here.0)))
    (subst (λ p. are_resolved_from part p (all_lifted levels at.inner) ≡ true) (sym path)
    (rows_resolved rows part n at.up below_n swap [] at.inner at.deep (λ x h. or_right (list_any (λ l. bytes_eq l.rref x) at.root.links) _ h) (subst (λ p. are_resolved_from rows p at.inner ≡ true) at.path here.1)))

-- ---- the part

pub part_valid : (rows : List NodeRow) (n : List ℕ) (changes reads : List Resource) → IsValid rows
    → (at : Around rows n) → AreCopies rows n at changes reads
    → IsValid (with_copies (all_lifted (length at.up) (at.root ∷ at.inner)) changes reads)
part_valid rows n changes reads valid at copies =
    let below_n = at.root ∷ at.inner in
    let levels : ℕ = length at.up in
    let part = all_lifted levels below_n in
    let own : are_distinct (ids below_n) ≡ true =
    distinct_front (ids below_n) (ids at.back) (distinct_back (ids at.front) (ids below_n ++ ids at.back) (ap are_distinct (sym (ids_around rows n at)) ∙ valid.distinct)) in
    let same : ids part ≡ ids below_n = ids_lifted levels below_n in
    record {
      tree = outline-copies part changes reads ∙ outline_lifted n at.up at.root at.inner at.level at.follows at.deep;
      unreserved = unreserved-copies part changes reads ∙ unreserved_lifted levels below_n ∙ all_around (λ r. not (is_reserved r.status)) rows n at valid.unreserved;
      distinct = distinct_copies (lifted_row levels at.root) (all_lifted levels at.inner) changes reads (ap are_distinct same ∙ own) copies.distinct_changes copies.distinct_reads copies.apart
          (λ x there. ap (mem x) same ∙ copies.changes_outside x there) (λ x there. ap (mem x) same ∙ copies.reads_outside x there);
      shallow = shallow-copies part changes reads ∙ shallow_lifted levels below_n (all_around (λ r. nat_le r.depth 32) rows n at valid.shallow);
      resolved = resolved_walk (with_copies part changes reads) ∙ resolved-copies (with_copies part changes reads) part changes reads ∙ part_resolved rows n changes reads valid at copies;
    }
