-- A ticket stays valid as a part that fits is put back.
use Rattle.std.proofs.Common.{◌≡◌, ◌∙◌, true, List, [], ◌∷◌, ◌++◌, sym, ap, subst, append_assoc}
use Rattle.std.proofs.Common.{append-nil}
use Rattle.ticket_items.specs.Ids.{are_distinct}
use Rattle.ticket_items.specs.Resource.{resource_ids}
use Rattle.ticket_rows.proofs.Changes.{IsValid-with_row}
use Rattle.ticket_rows.proofs.OneRows.{IsValid-replaced_node, IsValid-replaced_resource}
use Rattle.ticket_rows.proofs.OneRows.{keeps-append}
use Rattle.ticket_rows.specs.OneRow.{rows_with_audit}
use Rattle.ticket_rows.specs.Ticket.{IsValid}
use Rattle.ticket_items.specs.declared.node_row.NodeRow.{NodeRow}
use Rattle.ticket_items.specs.declared.resource.Resource.{Resource}
use Rattle.spawn.specs.Spawning.{parent_of}
use Rattle.merge.proofs.Replaced.{new_key, no_nodes, no_resources, node_may, node_more, nodes_last}
use Rattle.merge.proofs.Replaced.{resource_more, resources_last}
use Rattle.merge.proofs.Returning.{free_nodes, nodes_behind_resources, nodes_told, parent_of_out}
use Rattle.merge.proofs.Returning.{part_copies, put_told}
use Rattle.merge.specs.Laws.{PutIsValid}
use Rattle.merge.specs.Put.{merged_audit}
use Rattle.merge.specs.Putting.{MayTakeNodes, with_nodes, with_resources}

-- ---- nodes and resources put in, one by one

valid_nodes : (rows done later : List NodeRow) → MayTakeNodes rows (done ++ later)
    → IsValid (with_nodes done rows) → IsValid (with_nodes (done ++ later) rows)
valid_nodes rows done [] may valid = subst (λ ns. IsValid (with_nodes ns rows)) (sym (append-nil done)) valid
valid_nodes rows done (x ∷ later) may valid =
    let whole : (done ++ x ∷ []) ++ later ≡ done ++ x ∷ later = append_assoc done (x ∷ []) later in
    let put = node_more x done rows ∙ nodes_last done x rows (new_key (λ z. z.id) done x later may.distinct) in
    subst (λ ns. IsValid (with_nodes ns rows)) whole
    (valid_nodes rows (done ++ x ∷ []) later (subst (MayTakeNodes rows) (sym whole) may) (subst IsValid put (IsValid-replaced_node (with_nodes done rows) x (node_may rows done x later may) valid)))

valid_resources : (rows : List NodeRow) (done later : List Resource)
    → are_distinct (resource_ids (done ++ later)) ≡ true → IsValid (with_resources done rows)
    → IsValid (with_resources (done ++ later) rows)
valid_resources rows done [] apart valid = subst (λ xs. IsValid (with_resources xs rows)) (sym (append-nil done)) valid
valid_resources rows done (x ∷ later) apart valid =
    let whole : (done ++ x ∷ []) ++ later ≡ done ++ x ∷ later = append_assoc done (x ∷ []) later in
    let put = resource_more x done rows ∙ resources_last done x rows (new_key (λ z. z.id) done x later apart) in
    subst (λ xs. IsValid (with_resources xs rows)) whole
    (valid_resources rows (done ++ x ∷ []) later (ap (λ xs. are_distinct (resource_ids xs)) whole ∙ apart) (subst IsValid put (IsValid-replaced_resource (with_resources done rows) x valid)))

-- ---- the law

pub put_is_valid : PutIsValid
put_is_valid t r p time valid good fits free =
    let rows = t.rows in
    let u = parent_of rows r.node in
    let audit = merged_audit r time in
    let told = rows_with_audit u audit rows in
    let told_valid = IsValid-with_row u (λ s. record s { audits = s.audits ++ audit ∷ [] }) rows (keeps-append audit) valid in
    let copied = with_resources p.rw told in
    let copied_valid = valid_resources told [] p.rw (part_copies t r p valid fits).distinct (subst IsValid (sym (no_resources told)) told_valid) in
    let may = nodes_behind_resources told p.rw p.rows (nodes_told u audit rows p.rows (free_nodes t r p valid free fits)) in
    subst IsValid (put_told u audit p rows (parent_of_out t r p valid good fits)) (valid_nodes copied [] p.rows may (subst IsValid (sym (no_nodes copied)) copied_valid))
