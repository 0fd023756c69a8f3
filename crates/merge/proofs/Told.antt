-- What the tests tell: a test holds exactly where what it compares is the same.
use Rattle.std.specs.Cmp.Lexicographic.{pointwise}
use Rattle.std.proofs.Common.{◌≡◌, ◌∙◌, ℕ, ◌-◌, ◌&&◌, Bool, List, [], ◌∷◌, length, map, take}
use Rattle.std.proofs.Common.{◌+◌, ◌<◌, Decides, ap, drop, false, get_or, refl, suc, sym, true}
use Rattle.std.proofs.lemmas.List.{drop_more}
use Rattle.std.proofs.lemmas.Bool.Decides.{Decides-and, Decides-eqb, Decides-like}
use Rattle.std.proofs.lemmas.Slice.Eq.{bytes_eq-Decides, slice_eq-Decides}
use Rattle.std.specs.List.{list_all, starts_with, zip}
use Rattle.ticket_items.specs.contracts.usage.UsagePartialEq.TheImpl as usage
use Rattle.ticket_items.specs.declared.audit.Audit.{Audit}
use Rattle.ticket_items.specs.declared.audit.Audit.TheVariants.{Notification, Spawned, Merged}
use Rattle.ticket_items.specs.declared.link.Link.{Link}
use Rattle.ticket_items.specs.declared.node_row.NodeRow.{NodeRow}
use Rattle.ticket_items.specs.declared.usage.Usage.{Usage}
use Rattle.ticket_items.specs.declared.usage.Usage.TheVariants.{Input, Output}
use Rattle.ticket_items.specs.Resource.{is_alike}
use Rattle.ticket_rows.specs.Place.{links_of, named_thing}
use Rattle.ticket_tree.proofs.PlainOneRow.{name_in, class_in}
use Rattle.spawn.proofs.SameCopies.{ids-Decides, pairs-Decides, alike-Decides}
use Rattle.spawn.specs.Parts.{lifted_row}
use Rattle.merge.specs.Alike.{is_link, is_audit, is_row}
use Rattle.merge.specs.Shape.{shape, first_audits}

-- ---- pairs

-- a test of all pairs of two lists that are as long
pub pairs_all : {X Y : Type 0} (test : X → Y → Bool) (xs : List X) (ys : List Y)
    → length xs ≡ length ys → list_all (λ p. test p.0 p.1) (zip xs ys) ≡ pointwise test xs ys
pairs_all test [] [] long = refl
pairs_all test [] (y ∷ ys) long = cc
pairs_all test (x ∷ xs) [] long = cc
pairs_all test (x ∷ xs) (y ∷ ys) long = ap (λ b. test x y && b) (pairs_all test xs ys cc)

and_none : (b : Bool) → (b && false) ≡ false
and_none true = refl
and_none false = refl

pub pairs_unlike : {X Y : Type 0} (test : X → Y → Bool) (xs : List X) (ys : List Y)
    → (length xs ≡ length ys → ⊥) → pointwise test xs ys ≡ false
pairs_unlike test [] [] unlike = absurd (unlike refl)
pairs_unlike test [] (y ∷ ys) unlike = refl
pairs_unlike test (x ∷ xs) [] unlike = refl
pairs_unlike test (x ∷ xs) (y ∷ ys) unlike = ap (λ b. test x y && b) (pairs_unlike test xs ys (λ same. unlike (ap suc same))) ∙ and_none (test x y)

-- the pairs behind one
pub pairs_more : {X Y : Type 0} (test : X → Y → Bool) (xs : List X) (ys : List Y) (i : ℕ) (x : X)
    (y : Y)
    → i < length xs → i < length ys → x ≡ get_or xs i x → y ≡ get_or ys i y
    → pointwise test (drop i xs) (drop i ys)
    ≡ (test x y && pointwise test (drop (i + 1) xs) (drop (i + 1) ys))
pairs_more test xs ys i x y old new is same =
    ap (λ zs. pointwise test zs (drop i ys)) (drop_more xs i x old ∙ ap (λ z. z ∷ drop (i + 1) xs) (sym is))
    ∙ ap (pointwise test (x ∷ drop (i + 1) xs)) (drop_more ys i y new ∙ ap (λ z. z ∷ drop (i + 1) ys) (sym same))

-- ---- links and audits

usage-Decides : (a b : Usage) → Decides ((usage.ghosts).eq a b) (a ≡ b)
usage-Decides Input Input = (λ h. refl, λ e. refl)
usage-Decides Input Output = (λ h. cc, λ e. cc)
usage-Decides Output Input = (λ h. cc, λ e. cc)
usage-Decides Output Output = (λ h. refl, λ e. refl)

link_is : (a b : Link) → (a.rref ≡ b.rref) × (a.usage ≡ b.usage) → a ≡ b
link_is a b (rref, usage) = ap (λ r. record a { rref = r }) rref ∙ ap (λ u. record b { usage = u }) usage

link-Decides : (a b : Link) → Decides (is_link a b) (a ≡ b)
link-Decides a b =
    Decides-like _ (link_is a b) (λ e. (ap (λ l. l.rref) e, ap (λ l. l.usage) e))
    (Decides-and _ _ (bytes_eq-Decides a.rref b.rref) (usage-Decides a.usage b.usage))

audit-Decides : (a b : Audit) → Decides (is_audit a b) (a ≡ b)
audit-Decides (Notification at text) (Notification at' text') =
    Decides-like _ (λ (a, b). cc) (λ e. (cc, cc)) (Decides-and _ _ (Decides-eqb at at') (bytes_eq-Decides text text'))
audit-Decides (Notification at text) (Spawned at' jref' id' read' changed' status') = (λ h. cc, λ e. cc)
audit-Decides (Notification at text) (Merged at' jref' id' changed') = (λ h. cc, λ e. cc)
audit-Decides (Spawned at jref id read changed status) (Notification at' text') = (λ h. cc, λ e. cc)
audit-Decides (Spawned at jref id read changed status) (Spawned at' jref' id' read' changed' status') =
    Decides-like _ (λ (a, (b, (c, (d, (e, f))))). cc) (λ e. (cc, (cc, (cc, (cc, (cc, cc))))))
    (Decides-and _ _ (Decides-eqb at at')
    (Decides-and _ _ (bytes_eq-Decides jref jref')
    (Decides-and _ _ (bytes_eq-Decides id id')
    (Decides-and _ _ (ids-Decides read read') (Decides-and _ _ (ids-Decides changed changed') (bytes_eq-Decides status status'))))))
audit-Decides (Spawned at jref id read changed status) (Merged at' jref' id' changed') = (λ h. cc, λ e. cc)
audit-Decides (Merged at jref id changed) (Notification at' text') = (λ h. cc, λ e. cc)
audit-Decides (Merged at jref id changed) (Spawned at' jref' id' read' changed' status') = (λ h. cc, λ e. cc)
audit-Decides (Merged at jref id changed) (Merged at' jref' id' changed') =
    Decides-like _ (λ (a, (b, (c, d))). cc) (λ e. (cc, (cc, (cc, cc))))
    (Decides-and _ _ (Decides-eqb at at')
    (Decides-and _ _ (bytes_eq-Decides jref jref') (Decides-and _ _ (bytes_eq-Decides id id') (ids-Decides changed changed'))))

-- the audits begin with the old ones
begun-Decides : (olds news : List Audit)
    → Decides (starts_with is_audit news olds) (take (length olds) news ≡ olds)
begun-Decides olds news = Decides-like _ sym sym (slice_eq-Decides audit-Decides olds (take (length olds) news) _ refl)

-- ---- rows

row-Decides : (levels : ℕ) (old new : NodeRow)
    → Decides (is_row levels old new)
    ((shape new ≡ shape (lifted_row levels old))
    × (take (length old.audits) new.audits ≡ old.audits))
row-Decides levels old new =
    Decides-like _ (λ ((((((id, depth), kind), job_part), links), pool), audits). (cc, audits))
    (λ (same, audits).
    let back = sym same in
    ((((((ap (λ s. s.id) back, ap (λ s. s.depth) back), ap (λ s. name_in s.thing) back), ap (λ s. class_in s.thing) back), ap (λ s. links_of s.thing) back), ap (λ s. s.pool) back), audits))
    (Decides-and _ _
    (Decides-and _ _
    (Decides-and _ _
    (Decides-and _ _
    (Decides-and _ _ (Decides-and _ _ (bytes_eq-Decides old.id new.id) (Decides-eqb (old.depth - levels) new.depth)) (bytes_eq-Decides old.kind new.kind))
    (bytes_eq-Decides old.job_part new.job_part))
    (slice_eq-Decides link-Decides old.links new.links _ refl))
    (pairs-Decides is_alike named_thing named_thing alike-Decides old.resources new.resources))
    (begun-Decides old.audits new.audits))

abbrev pub all_lifted : ℕ → List NodeRow → List NodeRow
all_lifted levels rows = map (lifted_row levels) rows

-- the rows have the shape of the ticket's, and begin with their audits
pub rows-Decides : (levels : ℕ) (olds news : List NodeRow)
    → Decides (pointwise (is_row levels) olds news)
    ((map shape news ≡ map shape (all_lifted levels olds))
    × (map first_audits (zip (all_lifted levels olds) news)
    ≡ map (λ o. o.audits) (all_lifted levels olds)))
rows-Decides levels [] [] = (λ h. (refl, refl), λ e. refl)
rows-Decides levels [] (n ∷ news) = (λ h. cc, λ (e, first). cc)
rows-Decides levels (o ∷ olds) [] = (λ h. cc, λ (e, first). cc)
rows-Decides levels (o ∷ olds) (n ∷ news) =
    Decides-like _ (λ ((here, first), (later, firsts)). (cc, cc)) (λ (same, first). ((cc, cc), (cc, cc)))
    (Decides-and _ _ (row-Decides levels o n) (rows-Decides levels olds news))
