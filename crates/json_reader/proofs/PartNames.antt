-- The names and the texts of a part stand in its rows with the copies as resources of the root.
use Rattle.std.proofs.Common.{◌≡◌, ◌∙◌, ◌&&◌, ℕ, Bool, true, false, List, [], ◌∷◌, take, drop, refl, sym, ap}
use Rattle.std.proofs.Math.Bool.{and-true, and_assoc}
use Rattle.std.proofs.lemmas.List.{take-append-drop}
use Rattle.std.proofs.lemmas.List.Folds.{list_all-append}
use Rattle.std.specs.List.{list_all}
use Rattle.ticket_items.specs.Names.{is_name, is_text}
use Rattle.ticket_items.specs.SpawnId.{is_spawn_number}
use Rattle.ticket_items.specs.declared.ancestor.Ancestor.{Ancestor}
use Rattle.ticket_items.specs.declared.node_row.NodeRow.{NodeRow}
use Rattle.ticket_items.specs.declared.resource.Resource.{Resource}
use Rattle.json_items.proofs.Tests.{all_true}
use Rattle.json_items.specs.Ancestors.{ancestor_has_names}
use Rattle.json_items.specs.Audits.{audit_has_names, audit_has_texts}
use Rattle.json_items.specs.Validation.{first_fault, on_both}
use Rattle.json_items.specs.Links.{link_has_names}
use Rattle.json_items.specs.PartDraft.{RawPart, raw_part}
use Rattle.json_items.specs.PartForm.{copies_have_names, copies_have_texts, has_names, has_texts}
use Rattle.json_items.specs.Resources.{resource_has_names, resource_has_texts}
use Rattle.json_items.specs.TicketForm.{node_has_names, pools_have_names, row_has_names, row_has_texts}
use Rattle.json_reader.proofs.Findings.{same_faults}
use Rattle.json_reader.specs.Groups.{split_rows}
use Rattle.json_reader.specs.declared.part_groups.GroupSizes.{GroupSizes}

and_false : (b : Bool) → (b && false) ≡ false
and_false true = refl
and_false false = refl

-- a test of a pool is one of its groups
in_groups : (p : Resource → Bool) (s : GroupSizes) (pool : List Resource) → list_all p pool ≡ (list_all p (take s.own pool) && (list_all p (take s.rw (drop s.own pool)) && list_all p (drop s.rw (drop s.own pool))))
in_groups p s pool =
    ap (list_all p) (sym (take-append-drop s.own pool))
    ∙ list_all-append p (take s.own pool) (drop s.own pool)
    ∙ ap (λ b. list_all p (take s.own pool) && b) (ap (list_all p) (sym (take-append-drop s.rw (drop s.own pool))) ∙ list_all-append p (take s.rw (drop s.own pool)) (drop s.rw (drop s.own pool)))

-- the copies' test can stand last
names_last : (a o c l u t : Bool) → ((a && (((o && c) && l) && u)) && t) ≡ (((a && ((o && l) && u)) && t) && c)
names_last false o c l u t = refl
names_last true false c l u t = refl
names_last true true true l u t = sym (and-true ((l && u) && t))
names_last true true false l u t = sym (and_false ((l && u) && t))

texts_last : (a o c u t : Bool) → (((a && (o && c)) && u) && t) ≡ ((((a && o) && u) && t) && c)
texts_last false o c u t = refl
texts_last true false c u t = refl
texts_last true true true u t = sym (and-true (u && t))
texts_last true true false u t = sym (and_false (u && t))

-- the texts of a node beside its pools
abbrev own_texts : NodeRow → Bool
own_texts r = list_all (λ p. is_text p.1) r.attrs

names_in_groups : (s : GroupSizes) (rows : List NodeRow) → list_all row_has_names rows ≡ (list_all row_has_names (split_rows s rows).rows && copies_have_names (split_rows s rows).rw (split_rows s rows).ro)
unfolding node_has_names pools_have_names
names_in_groups s [] = refl
names_in_groups s (root ∷ rows) =
    let pool = root.resources in
    ap (λ b. (node_has_names root && ((b && list_all link_has_names root.links) && list_all audit_has_names root.audits)) && list_all row_has_names rows) (in_groups resource_has_names s pool)
    ∙ names_last (node_has_names root) (list_all resource_has_names (take s.own pool)) (copies_have_names (take s.rw (drop s.own pool)) (drop s.rw (drop s.own pool))) (list_all link_has_names root.links) (list_all audit_has_names root.audits) (list_all row_has_names rows)

texts_in_groups : (s : GroupSizes) (rows : List NodeRow) → list_all row_has_texts rows ≡ (list_all row_has_texts (split_rows s rows).rows && copies_have_texts (split_rows s rows).rw (split_rows s rows).ro)
unfolding row_has_texts
texts_in_groups s [] = refl
texts_in_groups s (root ∷ rows) =
    let pool = root.resources in
    ap (λ b. ((own_texts root && b) && list_all audit_has_texts root.audits) && list_all row_has_texts rows) (in_groups resource_has_texts s pool)
    ∙ texts_last (own_texts root) (list_all resource_has_texts (take s.own pool)) (copies_have_texts (take s.rw (drop s.own pool)) (drop s.rw (drop s.own pool))) (list_all audit_has_texts root.audits) (list_all row_has_texts rows)

-- ---- all of a part

abbrev pub Outer : Type 0
Outer = (List ℕ × ℕ) × List Ancestor

abbrev pub outer_names : Outer → Bool
outer_names = on_both (on_both is_name is_spawn_number) (list_all ancestor_has_names)

abbrev pub outer_texts : Outer → Bool
outer_texts = on_both (on_both (λ _. true) (λ _. true)) (list_all (λ _. true))

abbrev pub names : Outer × List NodeRow → Bool
names = on_both outer_names (list_all row_has_names)

abbrev pub texts : Outer × List NodeRow → Bool
texts = on_both outer_texts (list_all row_has_texts)

-- the part of these nodes
abbrev pub part_of : GroupSizes → Outer × List NodeRow → RawPart
part_of s p = raw_part p.0.0.0 p.0.0.1 p.0.1 (split_rows s p.1)

same_names : (s : GroupSizes) (p : Outer × List NodeRow) → names p ≡ has_names (part_of s p)
same_names s p = ap (λ b. outer_names p.0 && b) (names_in_groups s p.1) ∙ sym (and_assoc (outer_names p.0) (list_all row_has_names (split_rows s p.1).rows) (copies_have_names (split_rows s p.1).rw (split_rows s p.1).ro))

same_texts : (s : GroupSizes) (p : Outer × List NodeRow) → texts p ≡ has_texts (part_of s p)
same_texts s p = ap (λ b. b && list_all row_has_texts p.1) (all_true p.0.1) ∙ texts_in_groups s p.1

pub same_fault : (s : GroupSizes) (p : Outer × List NodeRow) → first_fault names texts p ≡ first_fault has_names has_texts (part_of s p)
same_fault s p = same_faults names texts has_names has_texts p (part_of s p) (same_names s p) (same_texts s p)
