-- The calls that change one row keep a ticket valid.
use Rattle.std.proofs.Common.{◌≡◌, ℕ, Bool, true, false, not, cond, List, [], ◌∷◌, ◌++◌, map, Some}
use Rattle.std.proofs.Common.{refl, sym, ap, ◌∙◌, subst, get_or, slice_get}
use Rattle.std.proofs.lemmas.Bool.{and_parts, not-true}
use Rattle.std.proofs.lemmas.Option.{slice_get-get_or}
use Rattle.std.proofs.lemmas.Slice.Eq.{bytes_eq-Decides}
use Rattle.std.specs.List.{find, position}
use Rattle.std.specs.Option.{option_map}
use Rattle.std.specs.Str.{bytes_eq}
use Rattle.ticket_items.proofs.Places.{below_length, found_at_position, passes_at_position}
use Rattle.ticket_items.proofs.Places.{same_found}
use Rattle.ticket_items.proofs.AtKey.{at_key, at_key-none}
use Rattle.ticket_rows.proofs.Changes.{KeepsTicket, IsValid-with_row, IsValid-with_resource}
use Rattle.ticket_rows.proofs.NodePlaces.{node_ids_distinct}
use Rattle.ticket_rows.specs.Edit.{with_resource}
use Rattle.ticket_items.specs.Resource.{with_item}
use Rattle.ticket_items.specs.Ids.{mem, are_distinct}
use Rattle.ticket_rows.specs.OneRow.{MayReplaceNode, replaced_node, replaced_resource}
use Rattle.ticket_rows.specs.Place.{links_of}
use Rattle.ticket_rows.proofs.Shapes.{shape}
use Rattle.ticket_rows.specs.Index.{shape_of}
use Rattle.ticket_rows.specs.Ticket.{IsValid, is_reserved, row_of}
use Rattle.ticket_items.specs.declared.audit.Audit.{Audit}
use Rattle.ticket_items.specs.declared.node_row.NodeRow.{NodeRow}
use Rattle.ticket_items.specs.declared.resource.Resource.{Resource}

pub keeps-append : (audit : Audit) → KeepsTicket (λ r. record r { audits = r.audits ++ audit ∷ [] })
keeps-append audit = record { id = λ r. refl; depth = λ r. refl; pool = λ r. refl; links = λ r. refl; status = λ r h. h }

-- ---- a row in the place of another

-- resources in the place of others, each with the id of the one in whose place it is
abbrev over : List Resource → List Resource → List Resource
over [] olds = olds
over (x ∷ news) [] = []
over (x ∷ news) (y ∷ olds) = record x { id = y.id } ∷ over news olds

ids-over : (news olds : List Resource) → map (λ x. x.id) (over news olds) ≡ map (λ x. x.id) olds
ids-over [] olds = refl
ids-over (x ∷ news) [] = refl
ids-over (x ∷ news) (y ∷ olds) = ap (λ is. y.id ∷ is) (ids-over news olds)

over-same : (news olds : List Resource) → map (λ x. x.id) news ≡ map (λ x. x.id) olds
    → over news olds ≡ news
over-same [] [] same = refl
over-same [] (y ∷ olds) same = cc
over-same (x ∷ news) [] same = cc
over-same (x ∷ news) (y ∷ olds) same =
    let first : y.id ≡ x.id = cc in
    let rest : map (λ z. z.id) news ≡ map (λ z. z.id) olds = cc in
    ap (λ i. record x { id = i } ∷ over news olds) first ∙ ap (λ xs. x ∷ xs) (over-same news olds rest)

-- a row in the place of another, where each of that one's ids, links and depth are kept
abbrev kept_row : NodeRow → NodeRow → NodeRow
kept_row row r = record row { id = r.id; depth = r.depth; resources = over row.resources r.resources; links = r.links }

keeps-kept_row : (row : NodeRow) → is_reserved row.status ≡ false → KeepsTicket (kept_row row)
keeps-kept_row row free = record { id = λ r. refl; depth = λ r. refl; pool = λ r. ids-over row.resources r.resources; links = λ r. refl; status = λ r _. ap not free }

kept_row-same : (row old : NodeRow) → row.id ≡ old.id
    → map (λ x. x.id) row.resources ≡ map (λ x. x.id) old.resources → row.links ≡ old.links
    → record row { depth = old.depth } ≡ kept_row row old
kept_row-same row old id pool links =
    ap (λ i. record row { id = i; depth = old.depth }) id
    ∙ ap (λ xs. record row { id = old.id; depth = old.depth; resources = xs }) (sym (over-same row.resources old.resources pool))
    ∙ ap (λ ls. record row { id = old.id; depth = old.depth; resources = over row.resources old.resources; links = ls }) links

changed_here : {X : Type 0} (key : X → List ℕ) (b : Bool) (x : List ℕ) (f g : X → X) (y old : X)
    (ys : List X)
    → bytes_eq (key y) x ≡ b → cond b (Some y) (find (λ z. bytes_eq (key z) x) ys) ≡ Some old
    → mem (key y) (map key ys) ≡ false
    → (bytes_eq (key old) x ≡ true → f old ≡ g old)
    → (find (λ z. bytes_eq (key z) x) ys ≡ Some old → at_key key x f ys ≡ at_key key x g ys)
    → cond b (f y) y ∷ at_key key x f ys ≡ cond b (g y) y ∷ at_key key x g ys
changed_here key true x f g y old ys e found out same later =
    let here : y ≡ old = cc in
    let none : mem x (map key ys) ≡ false = ap (λ i. mem i (map key ys)) (sym ((bytes_eq-Decides (key y) x).0 e)) ∙ out in
    ap (λ z. z ∷ at_key key x f ys) (ap f here ∙ same (ap (λ z. bytes_eq (key z) x) (sym here) ∙ e) ∙ ap g (sym here)) ∙ ap (λ zs. g y ∷ zs) (at_key-none key x f ys none ∙ sym (at_key-none key x g ys none))
changed_here key false x f g y old ys e found out same later = ap (λ zs. y ∷ zs) (later found)

-- two changes of what has the key are one where they make the same of it
pub at_key-same : {X : Type 0} (key : X → List ℕ) (x : List ℕ) (f g : X → X) (ys : List X) (old : X)
    → find (λ z. bytes_eq (key z) x) ys ≡ Some old → are_distinct (map key ys) ≡ true
    → (bytes_eq (key old) x ≡ true → f old ≡ g old) → at_key key x f ys ≡ at_key key x g ys
at_key-same key x f g [] old found apart same = refl
at_key-same key x f g (y ∷ ys) old found apart same =
    let parts = and_parts _ _ apart in
    changed_here key (bytes_eq (key y) x) x f g y old ys refl found (not-true _ parts.0) same (λ there. at_key-same key x f g ys old there parts.1 same)

pub IsValid-replaced_node : (rows : List NodeRow) (row : NodeRow) → MayReplaceNode rows row
    → IsValid rows → IsValid (replaced_node row rows)
IsValid-replaced_node rows row may valid =
    subst IsValid
    (sym (at_key-same (λ r. r.id) row.id (λ r. record row { depth = r.depth }) (kept_row row) rows may.old may.there (node_ids_distinct rows valid.distinct)
    (λ named. kept_row-same row may.old (sym ((bytes_eq-Decides may.old.id row.id).0 named)) may.resources (ap links_of may.thing))))
    (IsValid-with_row row.id (kept_row row) rows (keeps-kept_row row may.status) valid)

-- what stands at the place that was found has the same pool
pub shape_at_position : (rows : List NodeRow) (row : NodeRow) (k : ℕ) (old : NodeRow)
    → MayReplaceNode rows row → position (λ r. bytes_eq r.id row.id) rows ≡ Some k
    → old ≡ get_or rows k old
    → option_map shape_of (slice_get rows k) ≡ Some (shape_of (record row { depth = old.depth }))
shape_at_position rows row k old may found is =
    let at = found_at_position (λ r. bytes_eq r.id row.id) rows k found in
    let r : NodeRow = at.0 in
    let same : r ≡ may.old = same_found r may.old (row_of rows row.id) at.1 may.there in
    let there : r ≡ old = same_found r old (slice_get rows k) at.2 (slice_get-get_or rows k old (below_length (λ s. bytes_eq s.id row.id) rows k found) ∙ ap Some (sym is)) in
    ap (option_map shape_of) at.2
    ∙ ap (λ i. Some (shape i r.depth (map (λ x. x.id) r.resources))) ((bytes_eq-Decides r.id row.id).0 (passes_at_position (λ s. bytes_eq s.id row.id) rows k r found at.2))
    ∙ ap (λ (t : NodeRow). Some (shape row.id t.depth (map (λ x. x.id) r.resources))) there
    ∙ ap (λ is. Some (shape row.id old.depth is)) (ap (λ t. map (λ x. x.id) t.resources) same ∙ sym may.resources)

-- ---- a resource in the place of another

same_at : (b : Bool) (x y : Resource) → bytes_eq y.id x.id ≡ b
    → cond b x y ≡ cond b (record x { id = y.id }) y
same_at true x y e = ap (λ i. record x { id = i }) (sym ((bytes_eq-Decides y.id x.id).0 e))
same_at false x y e = refl

with_item-same : (x : Resource) (pool : List Resource)
    → with_item x.id (λ _. x) pool ≡ with_item x.id (λ y. record x { id = y.id }) pool
with_item-same x [] = refl
with_item-same x (y ∷ pool) =
    ap (λ z. z ∷ with_item x.id (λ _. x) pool) (same_at (bytes_eq y.id x.id) x y refl) ∙ ap (λ zs. cond (bytes_eq y.id x.id) (record x { id = y.id }) y ∷ zs) (with_item-same x pool)

pub with_resource-same : (x : Resource) (rows : List NodeRow)
    → with_resource x.id (λ _. x) rows ≡ with_resource x.id (λ y. record x { id = y.id }) rows
with_resource-same x [] = refl
with_resource-same x (r ∷ rows) =
    ap (λ pool. record r { resources = pool } ∷ with_resource x.id (λ _. x) rows) (with_item-same x r.resources)
    ∙ ap (λ rs. record r { resources = with_item x.id (λ y. record x { id = y.id }) r.resources } ∷ rs) (with_resource-same x rows)

pub IsValid-replaced_resource : (rows : List NodeRow) (x : Resource) → IsValid rows
    → IsValid (replaced_resource x rows)
IsValid-replaced_resource rows x valid = subst IsValid (sym (with_resource-same x rows)) (IsValid-with_resource x.id (λ y. record x { id = y.id }) rows (λ y. refl) valid)
