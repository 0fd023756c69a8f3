-- Edits of a part, as edits of its rows with copies.
use Rattle.std.proofs.Common.{◌≡◌, ℕ, ◌||◌, Bool, true, false, cond, List, [], ◌∷◌, ◌++◌, Option, Some, None, Result, Ok, Err, OnOk, OnErr, IfSome, refl, sym, ap, ◌∙◌, subst}
use Rattle.std.proofs.lemmas.Bool.{true≢false, and_parts, and_from, not-true, not_from_false}
use Rattle.std.proofs.lemmas.List.{map-append, append-nil}
use Rattle.std.specs.List.{list_any}
use Rattle.std.specs.Str.{bytes_eq}
use Rattle.ticket_items.proofs.Apart.{mem-append, or_false, later_part, later_distinct, front_distinct, other_part, not_in_front}
use Rattle.ticket_items.proofs.AtKey.{at_key-none}
use Rattle.ticket_items.proofs.Places.{is_some-find}
use Rattle.ticket_items.specs.Act.{Act, NodeChange, ResourceChange, NodeAddition, act_of, act_target, is_act_structural}
use Rattle.ticket_items.specs.Ids.{mem, are_distinct}
use Rattle.ticket_items.specs.Resource.{resource_ids, with_item}
use Rattle.ticket_items.specs.declared.edit.Edit.{Edit}
use Rattle.ticket_items.specs.declared.node_row.NodeRow.{NodeRow}
use Rattle.ticket_items.specs.declared.refusal.Refusal.{Refusal}
use Rattle.ticket_items.specs.declared.refusal.Refusal.TheVariants.{UnknownNode, UnknownResource}
use Rattle.ticket_items.specs.declared.resource.Resource.{Resource}
use Rattle.ticket_rows.proofs.AtHome.{holds, any-map}
use Rattle.ticket_rows.proofs.Changes.{IsValid-with_row, IsValid-with_resource, keeps-changed_node}
use Rattle.ticket_rows.proofs.Copies.{ids-copies, mem-copies}
use Rattle.ticket_rows.proofs.Reasons.{later_free, node_among, target_known}
use Rattle.ticket_rows.specs.Copies.{with_copies}
use Rattle.ticket_items.specs.Edit.{is_structural}
use Rattle.ticket_rows.specs.Edit.{act_rows, changed_node, changed_resource, edited_rows, lookups, with_row, with_resource}
use Rattle.ticket_rows.specs.EditRefusal.{Lookups, act_refusal, change_refusal}
use Rattle.ticket_rows.specs.Homes.{has_resource}
use Rattle.ticket_rows.specs.PartEdit.{AreApart, edited_copies, part_lookups, part_refusal}
use Rattle.ticket_rows.specs.Place.{places, row_in}
use Rattle.ticket_rows.specs.Ticket.{IsValid, has_node, ids, ids_of, node_ids, unless, first_of}
use Rattle.ticket_tree.proofs.ById.{node_no_resource, resource_no_node, resource_ids as pool_ids}
use Rattle.ticket_tree.proofs.OnPlaces.{has_resource-any}
use Rattle.ticket_tree.proofs.PlainPlaces.{places-with_row, places-with_resource}
use Rattle.ticket_tree.proofs.PlainRows.{mem-resource_ids, node_touched, resource_touched}
use Rattle.ticket_tree.specs.Laws.{PartRefusalIsOfOwnRows, PartEditIsValid, PartEditOfPlaces, PartEditOfRows}
use Rattle.ticket_tree.specs.Part.{PartCopy, act_part, part_copy}
use Rattle.ticket_tree.specs.PartView.{own_rows}
use Rattle.ticket_tree.specs.PlainEdit.{act_row, changed_row, changed_resource_row, with_row_changed}

-- ---- ids that are apart

-- ids stay distinct where some in the middle are left out
middle_out : (xs ys zs : List (List ℕ)) → are_distinct ((xs ++ ys) ++ zs) ≡ true → are_distinct (xs ++ zs) ≡ true
middle_out [] ys zs apart = later_distinct ys zs apart
middle_out (x ∷ xs) ys zs apart =
    let parts = and_parts _ _ apart in
    let out : mem x ((xs ++ ys) ++ zs) ≡ false = not-true _ parts.0 in
    and_from _ _ (not_from_false _ (mem_out x xs ys zs out)) (middle_out xs ys zs parts.1)
  where
    or_middle : (a b c : Bool) → ((a || b) || c) ≡ false → (a || c) ≡ false
    or_middle true b c e = e
    or_middle false true c e = cc
    or_middle false false c e = e

    mem_out : (x : List ℕ) (xs ys zs : List (List ℕ)) → mem x ((xs ++ ys) ++ zs) ≡ false → mem x (xs ++ zs) ≡ false
    mem_out x xs ys zs out = mem-append x xs zs ∙ or_middle (mem x xs) (mem x ys) (mem x zs) (sym (mem-append x (xs ++ ys) zs ∙ ap (λ b. b || mem x zs) (mem-append x xs ys)) ∙ out)

-- the ids of the rows and of the copies that may be changed, in a part
pub ids_in_part : (rows : List NodeRow) (rw ro : List Resource) → IsValid (with_copies rows rw ro) → AreApart rows rw
ids_in_part [] rw ro valid = absurd (true≢false (sym valid.tree))
ids_in_part (r ∷ rows) rw ro valid =
    let all : are_distinct (((ids_of r ++ resource_ids rw) ++ resource_ids ro) ++ ids rows) ≡ true = ap are_distinct (sym (ids-copies r rows rw ro)) ∙ valid.distinct in
    let own : are_distinct ((ids_of r ++ resource_ids rw) ++ ids rows) ≡ true = middle_out (ids_of r ++ resource_ids rw) (resource_ids ro) (ids rows) all in
    let root : are_distinct (ids_of r ++ resource_ids rw) ≡ true = front_distinct (ids_of r ++ resource_ids rw) (ids rows) own in
    record {
      rows_distinct = middle_out (ids_of r) (resource_ids rw) (ids rows) own;
      copies_distinct = later_distinct (ids_of r) (resource_ids rw) root;
      apart = λ x there. mem-append x (ids_of r) (ids rows)
          ∙ or_false _ _ (not_in_front x (ids_of r) (resource_ids rw) root there) (other_part x (ids_of r ++ resource_ids rw) (ids rows) own (mem-append x (ids_of r) (resource_ids rw) ∙ or_there (mem x (ids_of r)) (mem x (resource_ids rw)) there));
    }
  where
    or_there : (a b : Bool) → b ≡ true → (a || b) ≡ true
    or_there true b e = refl
    or_there false b e = e

-- ---- what is there

has_node-copies : (rows : List NodeRow) (rw ro : List Resource) (x : List ℕ) → has_node (with_copies rows rw ro) x ≡ has_node rows x
has_node-copies [] rw ro x = refl
has_node-copies (r ∷ rows) rw ro x = is_some-find (λ s. bytes_eq s.id x) (with_copies (r ∷ rows) rw ro) ∙ sym (is_some-find (λ s. bytes_eq s.id x) (r ∷ rows))

some_last : (a b c : Bool) → (((a || b) || false) || c) ≡ ((a || c) || b)
some_last true b c = refl
some_last false true true = refl
some_last false true false = refl
some_last false false true = refl
some_last false false false = refl

-- the resources of a part are those of its pools and the copies
has_resource-copies : (rows : List NodeRow) (rw ro : List Resource) (x : List ℕ) → IsValid (with_copies rows rw ro)
    → (has_resource rows x || mem x (resource_ids rw)) ≡ has_resource (with_copies rows rw []) x
has_resource-copies [] rw ro x valid = absurd (true≢false (sym valid.tree))
has_resource-copies (r ∷ rows) rw ro x valid =
    ap (λ b. b || mem x (resource_ids rw)) (sym (has_resource-any (r ∷ rows) x) ∙ ap (λ b. b || list_any (holds x) rows) (sym (any-map x r.resources)))
    ∙ sym (some_last (mem x (resource_ids r.resources)) (mem x (resource_ids rw)) (list_any (holds x) rows))
    ∙ ap (λ b. b || list_any (holds x) rows) (sym (mem-copies r rw [] x) ∙ any-map x ((r.resources ++ rw) ++ []))
    ∙ has_resource-any (with_copies (r ∷ rows) rw []) x

act_refusal_is_of_own_rows : (a : Act) (p : PartCopy) → IsValid (with_copies p.rows p.rw p.ro) → is_act_structural a ≡ false → act_refusal a (part_lookups p.rows p.rw) ≡ act_refusal a (lookups (own_rows p))
act_refusal_is_of_own_rows (NodeChange n change) p valid plain = ap (λ b. first_of (unless b UnknownNode ∷ change_refusal change ∷ [])) (sym (has_node-copies p.rows p.rw [] n))
act_refusal_is_of_own_rows (ResourceChange x change) p valid plain = ap (λ b. first_of (unless b UnknownResource ∷ None ∷ [])) (has_resource-copies p.rows p.rw p.ro x valid)
act_refusal_is_of_own_rows (NodeAddition n addition) p valid plain = absurd (true≢false plain)

pub part_refusal_is_of_own_rows : PartRefusalIsOfOwnRows
part_refusal_is_of_own_rows e p valid plain = act_refusal_is_of_own_rows (act_of e) p valid plain

-- ---- an edit of the rows with copies

-- a change of a node that leaves its pool, whatever stands in that
abbrev KeepsPool : (NodeRow → NodeRow) → Type 0
KeepsPool f = (r : NodeRow) (rw ro : List Resource) → record (f r) { resources = (f r).resources ++ rw ++ ro } ≡ f (record r { resources = r.resources ++ rw ++ ro })

at_root : (b : Bool) (f : NodeRow → NodeRow) (r : NodeRow) (rw ro : List Resource) → KeepsPool f
    → record (cond b (f r) r) { resources = (cond b (f r) r).resources ++ rw ++ ro } ≡ cond b (f (record r { resources = r.resources ++ rw ++ ro })) (record r { resources = r.resources ++ rw ++ ro })
at_root true f r rw ro keeps = keeps r rw ro
at_root false f r rw ro keeps = refl

with_row-copies : (x : List ℕ) (f : NodeRow → NodeRow) (rows : List NodeRow) (rw ro : List Resource) → KeepsPool f → with_copies (with_row x f rows) rw ro ≡ with_row x f (with_copies rows rw ro)
with_row-copies x f [] rw ro keeps = refl
with_row-copies x f (r ∷ rows) rw ro keeps = ap (λ s. s ∷ with_row x f rows) (at_root (bytes_eq r.id x) f r rw ro keeps)

with_resource-copies : (x : List ℕ) (f : Resource → Resource) (rows : List NodeRow) (rw ro : List Resource) → mem x (resource_ids ro) ≡ false
    → with_copies (with_resource x f rows) (with_item x f rw) ro ≡ with_resource x f (with_copies rows rw ro)
with_resource-copies x f [] rw ro out = refl
with_resource-copies x f (r ∷ rows) rw ro out =
    ap (λ pool. record r { resources = pool } ∷ with_resource x f rows)
    (ap (λ pool. (with_item x f r.resources ++ with_item x f rw) ++ pool) (sym (at_key-none (λ y. y.id) x f ro out))
    ∙ ap (λ pool. pool ++ with_item x f ro) (sym (map-append (λ (y : Resource). cond (bytes_eq y.id x) (f y) y) r.resources rw))
    ∙ sym (map-append (λ (y : Resource). cond (bytes_eq y.id x) (f y) y) (r.resources ++ rw) ro))

-- a resource that an edit may change is no copy to be read alone
not_to_read : (rows : List NodeRow) (rw ro : List Resource) (x : List ℕ) → IsValid (with_copies rows rw ro) → (has_resource rows x || mem x (resource_ids rw)) ≡ true → mem x (resource_ids ro) ≡ false
not_to_read [] rw ro x valid there = absurd (true≢false (sym valid.tree))
not_to_read (r ∷ rows) rw ro x valid there =
    let all : are_distinct (((ids_of r ++ resource_ids rw) ++ resource_ids ro) ++ ids rows) ≡ true = ap are_distinct (sym (ids-copies r rows rw ro)) ∙ valid.distinct in
    let front : are_distinct ((ids_of r ++ resource_ids rw) ++ resource_ids ro) ≡ true = front_distinct ((ids_of r ++ resource_ids rw) ++ resource_ids ro) (ids rows) all in
    apart_from x (bytes_eq r.id x) (mem x (resource_ids r.resources)) (mem x (resource_ids rw)) (mem x (ids rows)) _
    (ap (λ b. (b || list_any (holds x) rows) || mem x (resource_ids rw)) (any-map x r.resources) ∙ ap (λ b. b || mem x (resource_ids rw)) (has_resource-any (r ∷ rows) x) ∙ there)
    (held_among x rows)
    (λ here. other_part x (ids_of r ++ resource_ids rw) (resource_ids ro) front (mem-append x (ids_of r) (resource_ids rw) ∙ here))
    (λ later. later_part x (ids_of r ++ resource_ids rw) (resource_ids ro) (not_in_front x ((ids_of r ++ resource_ids rw) ++ resource_ids ro) (ids rows) all later))
  where
    among : (b p q m : Bool) → (p || q) ≡ true → (q ≡ true → m ≡ true) → ((b || p) || m) ≡ true
    among true p q m e later = refl
    among false true q m e later = refl
    among false false q m e later = later e

    held_among : (x : List ℕ) (rows : List NodeRow) → list_any (holds x) rows ≡ true → mem x (ids rows) ≡ true
    held_among x [] e = absurd (true≢false (sym e))
    held_among x (r ∷ rows) e =
        mem-append x (ids_of r) (ids rows) ∙ ap (λ b. (bytes_eq r.id x || b) || mem x (ids rows)) (any-map x r.resources) ∙ among (bytes_eq r.id x) (holds x r) (list_any (holds x) rows) (mem x (ids rows)) e (held_among x rows)

    apart_from : (x : List ℕ) (i own rw m q : Bool) → ((own || q) || rw) ≡ true → (q ≡ true → m ≡ true) → (((i || own) || rw) ≡ true → mem x (resource_ids ro) ≡ false) → (m ≡ true → mem x (resource_ids ro) ≡ false) → mem x (resource_ids ro) ≡ false
    apart_from x true own rw m q e some front later = front refl
    apart_from x false true rw m q e some front later = front refl
    apart_from x false false true m q e some front later = front refl
    apart_from x false false false m true e some front later = later (some refl)
    apart_from x false false false m false e some front later = absurd (true≢false (sym e))

-- what an act that isn't structural makes of the rows with the copies, where it isn't refused
act_with_copies : (a : Act) (at : ℕ) (p : PartCopy) → IsValid (with_copies p.rows p.rw p.ro) → is_act_structural a ≡ false → act_refusal a (part_lookups p.rows p.rw) ≡ None
    → with_copies (act_part a at p).rows (act_part a at p).rw p.ro ≡ act_rows a at (with_copies p.rows p.rw p.ro)
act_with_copies (NodeChange n change) at p valid plain free = with_row-copies n (changed_node change at) p.rows p.rw p.ro (λ r rw ro. refl)
act_with_copies (ResourceChange x change) at p valid plain free =
    with_resource-copies x (changed_resource change) p.rows p.rw p.ro (not_to_read p.rows p.rw p.ro x valid (target_known (ResourceChange x change) (part_lookups p.rows p.rw) free))
act_with_copies (NodeAddition n addition) at p valid plain free = absurd (true≢false plain)

-- rows that it changes stay valid
valid_changed : (a : Act) (at : ℕ) (ask : Lookups) (rows : List NodeRow) → IsValid rows → is_act_structural a ≡ false → act_refusal a ask ≡ None → IsValid (act_rows a at rows)
valid_changed (NodeChange n change) at ask rows valid plain free = IsValid-with_row n (changed_node change at) rows (keeps-changed_node change at (later_free (NodeChange n change) ask free)) valid
valid_changed (ResourceChange x change) at ask rows valid plain free = IsValid-with_resource x (changed_resource change) rows (λ y. refl) valid
valid_changed (NodeAddition n addition) at ask rows valid plain free = absurd (true≢false plain)

pub part_edit_is_valid : PartEditIsValid
part_edit_is_valid e at p valid plain free =
    subst IsValid (sym (act_with_copies (act_of e) at p valid plain free)) (valid_changed (act_of e) at (part_lookups p.rows p.rw) (with_copies p.rows p.rw p.ro) valid plain free)

-- nothing is refused where the result is no refusal
unrefused : {A : Type 0} (o : Option Refusal) (v : A) → IfSome o (λ e. Ok v ≡ Err e) → o ≡ None
unrefused None v refused = refl
unrefused (Some e) v refused = cc

-- a part is left, whatever the result
pub part_is_left : {A : Type 0} (result : Result A Refusal) (e : Edit) (at : ℕ) (rows new : List NodeRow) (rw copies ro : List Resource) → IsValid (with_copies rows rw ro) → is_structural e ≡ false
    → OnOk result (new ≡ edited_rows e at rows) → OnOk result (copies ≡ edited_copies e rw) → OnErr result (new ≡ rows) → OnErr result (copies ≡ rw) → IfSome (part_refusal e rows rw) (λ x. result ≡ Err x) → IsValid (with_copies new copies ro)
part_is_left (Ok v) e at rows new rw copies ro valid plain is_new is_copies stay_rows stay_copies refused =
    subst (λ rs. IsValid (with_copies rs copies ro)) (sym is_new) (subst (λ cs. IsValid (with_copies (edited_rows e at rows) cs ro)) (sym is_copies) (part_edit_is_valid e at (part_copy [] 0 [] rows rw ro) valid plain (unrefused (part_refusal e rows rw) v refused)))
part_is_left (Err x) e at rows new rw copies ro valid plain is_new is_copies stay_rows stay_copies refused =
    subst (λ rs. IsValid (with_copies rs copies ro)) (sym stay_rows) (subst (λ cs. IsValid (with_copies rows cs ro)) (sym stay_copies) valid)

-- ---- on the plain ticket

-- the same of the rows with the copies that may be changed
act_of_own_rows : (a : Act) (at : ℕ) (p : PartCopy) → is_act_structural a ≡ false → own_rows (act_part a at p) ≡ act_rows a at (own_rows p)
act_of_own_rows (NodeChange n change) at p plain = with_row-copies n (changed_node change at) p.rows p.rw [] (λ r rw ro. refl)
act_of_own_rows (ResourceChange x change) at p plain = with_resource-copies x (changed_resource change) p.rows p.rw [] refl
act_of_own_rows (NodeAddition n addition) at p plain = absurd (true≢false plain)

places_stay : (a : Act) (at : ℕ) (rows : List NodeRow) → is_act_structural a ≡ false → places (act_rows a at rows) ≡ places rows
places_stay (NodeChange n change) at rows plain = places-with_row n (changed_node change at) [] rows (record { path = λ before r. refl; places = λ path r. refl })
places_stay (ResourceChange x change) at rows plain = places-with_resource x (changed_resource change) [] rows (λ path y. refl)
places_stay (NodeAddition n addition) at rows plain = absurd (true≢false plain)

pub part_edit_of_places : PartEditOfPlaces
part_edit_of_places e at p valid plain free = ap places (act_of_own_rows (act_of e) at p plain) ∙ places_stay (act_of e) at (own_rows p) plain

-- the ids of the rows with the copies that may be changed are distinct
own_distinct : (rows : List NodeRow) (rw ro : List Resource) → IsValid (with_copies rows rw ro) → are_distinct (ids (with_copies rows rw [])) ≡ true
own_distinct [] rw ro valid = refl
own_distinct (r ∷ rows) rw ro valid =
    let all : are_distinct (((ids_of r ++ resource_ids rw) ++ resource_ids ro) ++ ids rows) ≡ true = ap are_distinct (sym (ids-copies r rows rw ro)) ∙ valid.distinct in
    ap are_distinct (ids-copies r rows rw [] ∙ ap (λ is. is ++ ids rows) (append-nil (ids_of r ++ resource_ids rw))) ∙ middle_out (ids_of r ++ resource_ids rw) (resource_ids ro) (ids rows) all

-- a node that is there is no resource, and a resource no node
own_node : (p : PartCopy) (n : List ℕ) → IsValid (with_copies p.rows p.rw p.ro) → has_node p.rows n ≡ true → mem n (pool_ids (own_rows p)) ≡ false
own_node p n valid known = node_no_resource n (own_rows p) (own_distinct p.rows p.rw p.ro valid) (node_among (own_rows p) n (has_node-copies p.rows p.rw [] n ∙ known))

own_resource : (p : PartCopy) (x : List ℕ) → IsValid (with_copies p.rows p.rw p.ro) → (has_resource p.rows x || mem x (resource_ids p.rw)) ≡ true → mem x (node_ids (own_rows p)) ≡ false
own_resource p x valid known =
    resource_no_node x (own_rows p) (own_distinct p.rows p.rw p.ro valid) (mem-resource_ids x (own_rows p) ∙ has_resource-any (own_rows p) x ∙ sym (has_resource-copies p.rows p.rw p.ro x valid) ∙ known)

row_touched : (a : Act) (at : ℕ) (p : PartCopy) → IsValid (with_copies p.rows p.rw p.ro) → is_act_structural a ≡ false → act_refusal a (part_lookups p.rows p.rw) ≡ None
    → (y : List ℕ) → row_in (act_rows a at (own_rows p)) y ≡ with_row_changed (act_target a) (act_row a at) (row_in (own_rows p)) y
row_touched (NodeChange n change) at p valid plain free y =
    node_touched n (changed_node change at) (changed_row change at) (own_rows p) y (record { id = λ r. refl; pool = λ r. refl; row = λ r. refl }) (own_node p n valid (target_known (NodeChange n change) (part_lookups p.rows p.rw) free))
row_touched (ResourceChange x change) at p valid plain free y =
    resource_touched x (changed_resource change) (changed_resource_row change) (own_rows p) y (λ z. refl) (λ z. refl) (own_resource p x valid (target_known (ResourceChange x change) (part_lookups p.rows p.rw) free))
row_touched (NodeAddition n addition) at p valid plain free y = absurd (true≢false plain)

pub part_edit_of_rows : PartEditOfRows
part_edit_of_rows e at p valid plain free y = ap (λ rs. row_in rs y) (act_of_own_rows (act_of e) at p plain) ∙ row_touched (act_of e) at p valid plain free y
