-- An edit of a part that isn't structural leaves it sound, and an end gives its node the Status.
use Rattle.std.proofs.Common.{◌≡◌, ℕ, ◌+◌, ◌&&◌, ◌||◌, Bool, true, false, not, cond, List, [], ◌∷◌, ◌++◌, map, length, nat_le, Some, None, is_some, refl, sym, ap, ◌∙◌, slice_get}
use Rattle.std.proofs.lemmas.Bool.{true≢false}
use Rattle.std.proofs.lemmas.Slice.Eq.{bytes_eq-Decides}
use Rattle.std.specs.List.{find, list_all, list_any}
use Rattle.std.specs.Option.{option_map_or}
use Rattle.std.specs.Str.{bytes_eq}
use Rattle.ticket_items.specs.Act.{Act, NodeChange, ResourceChange, NodeAddition, NewStatus, act_of, is_act_structural}
use Rattle.ticket_items.specs.Resource.{resource_ids, with_item}
use Rattle.ticket_items.specs.declared.edit.Edit.{Edit}
use Rattle.ticket_items.specs.declared.node_row.NodeRow.{NodeRow}
use Rattle.ticket_items.specs.declared.refusal.Refusal.TheVariants.{UnknownNode, ReservedStatus}
use Rattle.ticket_items.specs.declared.resource.Resource.{Resource}
use Rattle.ticket_rows.proofs.Changes.{KeepsTicket, keeps-at_id, keeps-changed_node, keeps-resources}
use Rattle.ticket_rows.proofs.Reasons.{later_free}
use Rattle.ticket_rows.specs.Copies.{with_copies}
use Rattle.ticket_items.specs.Edit.{is_structural}
use Rattle.ticket_rows.specs.Edit.{act_rows, changed_node, changed_resource}
use Rattle.ticket_rows.specs.EditRefusal.{act_refusal}
use Rattle.ticket_rows.specs.PartEdit.{part_lookups}
use Rattle.ticket_rows.specs.Ticket.{IsValid, first_of, has_node, ids, ids_of, is_reserved, max_depth, unless}
use Rattle.ticket_tree.specs.Part.{PartCopy, act_part, are_ancestors_new, are_linked, are_shallow_below, edited_part, has_ancestors, is_linked, is_sound, refusal_of_part}
use Rattle.worker_core.specs.Orders.{end_edit}
use Rattle.worker_core.specs.Worker.{end_word, root_status}
use Rattle.world_items.specs.declared.end.End.{End}
use Rattle.world_items.specs.declared.end.End.TheVariants.{Completed, Aborted}

-- ---- what a change of each row keeps

ids-kept : (g : NodeRow → NodeRow) (rows : List NodeRow) → KeepsTicket g → ids (map g rows) ≡ ids rows
ids-kept g [] keeps = refl
ids-kept g (r ∷ rows) keeps =
    ap (λ i. (i ∷ map (λ x. x.id) (g r).resources) ++ ids (map g rows)) (keeps.id r) ∙ ap (λ is. (r.id ∷ is) ++ ids (map g rows)) (keeps.pool r) ∙ ap (λ is. ids_of r ++ is) (ids-kept g rows keeps)

shallow-kept : (n : ℕ) (g : NodeRow → NodeRow) (rows : List NodeRow) → KeepsTicket g → are_shallow_below n (map g rows) ≡ are_shallow_below n rows
shallow-kept n g [] keeps = refl
shallow-kept n g (r ∷ rows) keeps =
    ap (λ d. nat_le (d + n) max_depth && are_shallow_below n (map g rows)) (keeps.depth r) ∙ ap (λ b. nat_le (r.depth + n) max_depth && b) (shallow-kept n g rows keeps)

linked-kept : (g : NodeRow → NodeRow) (rows : List NodeRow) (x : List ℕ) → KeepsTicket g → is_linked (map g rows) x ≡ is_linked rows x
linked-kept g [] x keeps = refl
linked-kept g (r ∷ rows) x keeps =
    ap (λ ls. list_any (λ l. bytes_eq l.rref x) ls || is_linked (map g rows) x) (keeps.links r) ∙ ap (λ b. list_any (λ l. bytes_eq l.rref x) r.links || b) (linked-kept g rows x keeps)

linked_ids : (rows : List NodeRow) (pool : List Resource) → are_linked rows pool ≡ list_all (is_linked rows) (resource_ids pool)
linked_ids rows [] = refl
linked_ids rows (y ∷ pool) = ap (λ b. is_linked rows y.id && b) (linked_ids rows pool)

all_linked-kept : (g : NodeRow → NodeRow) (rows : List NodeRow) (xs : List (List ℕ)) → KeepsTicket g → list_all (is_linked (map g rows)) xs ≡ list_all (is_linked rows) xs
all_linked-kept g rows [] keeps = refl
all_linked-kept g rows (x ∷ xs) keeps = ap (λ b. b && list_all (is_linked (map g rows)) xs) (linked-kept g rows x keeps) ∙ ap (λ b. is_linked rows x && b) (all_linked-kept g rows xs keeps)

pool_linked : (g : NodeRow → NodeRow) (rows : List NodeRow) (new old : List Resource) → KeepsTicket g → resource_ids new ≡ resource_ids old → are_linked (map g rows) new ≡ are_linked rows old
pool_linked g rows new old keeps same =
    linked_ids (map g rows) new ∙ ap (list_all (is_linked (map g rows))) same ∙ all_linked-kept g rows (resource_ids old) keeps ∙ sym (linked_ids rows old)

-- a part stays sound
sound-kept : (g : NodeRow → NodeRow) (p : PartCopy) (rw : List Resource) → KeepsTicket g → resource_ids rw ≡ resource_ids p.rw → is_sound (record p { rows = map g p.rows; rw = rw }) ≡ is_sound p
sound-kept g p rw keeps same =
    let rows = map g p.rows in
    let above = has_ancestors p.ancestors in
    let new = are_ancestors_new p.ancestors in
    ap (λ b. above && b && new (ids rows ++ resource_ids rw ++ resource_ids p.ro) && are_linked rows rw && are_linked rows p.ro) (shallow-kept (length p.ancestors) g p.rows keeps)
    ∙ ap (λ is. above && are_shallow_below (length p.ancestors) p.rows && new (is ++ resource_ids rw ++ resource_ids p.ro) && are_linked rows rw && are_linked rows p.ro) (ids-kept g p.rows keeps)
    ∙ ap (λ is. above && are_shallow_below (length p.ancestors) p.rows && new (ids p.rows ++ is ++ resource_ids p.ro) && are_linked rows rw && are_linked rows p.ro) same
    ∙ ap (λ b. above && are_shallow_below (length p.ancestors) p.rows && new (ids p.rows ++ resource_ids p.rw ++ resource_ids p.ro) && b && are_linked rows p.ro) (pool_linked g p.rows rw p.rw keeps same)
    ∙ ap (λ b. above && are_shallow_below (length p.ancestors) p.rows && new (ids p.rows ++ resource_ids p.rw ++ resource_ids p.ro) && are_linked p.rows p.rw && b) (pool_linked g p.rows p.ro p.ro keeps refl)

-- ---- edits

copies-kept : (x : List ℕ) (f : Resource → Resource) (pool : List Resource) → ((y : Resource) → (f y).id ≡ y.id) → resource_ids (with_item x f pool) ≡ resource_ids pool
copies-kept x f [] keeps = refl
copies-kept x f (y ∷ pool) keeps = ap (λ i. i ∷ resource_ids (with_item x f pool)) (same (bytes_eq y.id x)) ∙ ap (λ is. y.id ∷ is) (copies-kept x f pool keeps)
  where
    same : (b : Bool) → (cond b (f y) y).id ≡ y.id
    same true = keeps y
    same false = refl

sound_after : (a : Act) (at : ℕ) (p : PartCopy) → is_act_structural a ≡ false → act_refusal a (part_lookups p.rows p.rw) ≡ None → is_sound (act_part a at p) ≡ is_sound p
sound_after (NodeChange n change) at p plain free =
    sound-kept _ p p.rw (keeps-at_id n (changed_node change at) (keeps-changed_node change at (later_free (NodeChange n change) (part_lookups p.rows p.rw) free))) refl
sound_after (ResourceChange x change) at p plain free =
    sound-kept _ p (with_item x (changed_resource change) p.rw) (keeps-resources x (changed_resource change) (λ y. refl)) (copies-kept x (changed_resource change) p.rw (λ y. refl))
sound_after (NodeAddition n addition) at p plain free = absurd (true≢false plain)

pub edited_sound : (e : Edit) (at : ℕ) (p : PartCopy) → is_structural e ≡ false → refusal_of_part e p ≡ None → is_sound (edited_part e at p) ≡ is_sound p
edited_sound e at p plain free = sound_after (act_of e) at p plain free

-- ---- the end

itself : (x : List ℕ) → bytes_eq x x ≡ true
itself x = (bytes_eq-Decides x x).1 refl

pub first_known : (rows : List NodeRow) (rw ro : List Resource) → IsValid (with_copies rows rw ro) → has_node rows (option_map_or (λ r. r.id) (slice_get rows 0) []) ≡ true
first_known [] rw ro valid = absurd (true≢false (sym valid.tree))
first_known (r ∷ rows) rw ro valid = ap (λ b. is_some (cond b (Some r) (find (λ s. bytes_eq s.id r.id) rows))) (itself r.id)

pub word_free : (how : End) → is_reserved (end_word how) ≡ false
word_free Completed = refl
word_free Aborted = refl

-- an end isn't refused
pub ending_free : (p : PartCopy) (how : End) → IsValid (with_copies p.rows p.rw p.ro) → refusal_of_part (end_edit p how) p ≡ None
ending_free p how valid =
    ap (λ b. first_of (unless b UnknownNode ∷ unless (not (is_reserved (end_word how))) ReservedStatus ∷ [])) (first_known p.rows p.rw p.ro valid)
    ∙ ap (λ b. first_of (None ∷ unless (not b) ReservedStatus ∷ [])) (word_free how)

first_ended : (rows : List NodeRow) (rw ro : List Resource) (word : List ℕ) (at : ℕ) → IsValid (with_copies rows rw ro)
    → option_map_or (λ r. r.status) (slice_get (act_rows (NodeChange (option_map_or (λ r. r.id) (slice_get rows 0) []) (NewStatus word)) at rows) 0) [] ≡ word
first_ended [] rw ro word at valid = absurd (true≢false (sym valid.tree))
first_ended (r ∷ rows) rw ro word at valid = ap (λ b. (cond b (record r { status = word }) r).status) (itself r.id)

-- the node has the Status of the end
pub root_ended : (p : PartCopy) (how : End) (at : ℕ) → IsValid (with_copies p.rows p.rw p.ro) → bytes_eq (root_status (edited_part (end_edit p how) at p)) (end_word how) ≡ true
root_ended p how at valid = ap (λ s. bytes_eq s (end_word how)) (first_ended p.rows p.rw p.ro (end_word how) at valid) ∙ itself (end_word how)
