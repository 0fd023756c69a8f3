-- An act that isn't refused leaves a ticket.
use Rattle.std.proofs.Common.{◌≡◌, ℕ, List, None, refl}
use Rattle.ticket_items.specs.Act.{Act, NodeChange, ResourceChange, NodeAddition, act_of}
use Rattle.ticket_items.specs.Act.{NewNode, NewResource, NewLink}
use Rattle.ticket_items.specs.declared.edit.Edit.{Edit}
use Rattle.ticket_items.specs.declared.node_row.NodeRow.{NodeRow}
use Rattle.ticket_rows.proofs.Changes.{IsValid-with_row, IsValid-with_resource, keeps-changed_node}
use Rattle.ticket_rows.proofs.Growing.{IsValid-add_link}
use Rattle.ticket_rows.proofs.NewNode.{IsValid-add_node}
use Rattle.ticket_rows.proofs.NewResource.{IsValid-add_resource}
use Rattle.ticket_rows.proofs.NodePlaces.{node_ids_distinct}
use Rattle.ticket_rows.proofs.Reasons.{later_free, child_new, resource_new, link_reached}
use Rattle.ticket_rows.proofs.Reasons.{target_known, node_among}
use Rattle.ticket_rows.specs.Edit.{act_rows, changed_node, changed_resource, lookups}
use Rattle.ticket_rows.specs.Edit.{edited_rows, refusal_of}
use Rattle.ticket_rows.specs.EditRefusal.{act_refusal}
use Rattle.ticket_rows.specs.Ticket.{IsValid}

pub IsValid-act : (a : Act) (at : ℕ) (rows : List NodeRow) → IsValid rows
    → act_refusal a (lookups rows) ≡ None → IsValid (act_rows a at rows)
IsValid-act (NodeChange n change) at rows valid free =
    IsValid-with_row n (changed_node change at) rows (keeps-changed_node change at (later_free (NodeChange n change) (lookups rows) free)) valid
IsValid-act (ResourceChange x change) at rows valid free = IsValid-with_resource x (changed_resource change) rows (λ y. refl) valid
IsValid-act (NodeAddition n (NewNode new)) at rows valid free =
    let fit = child_new n new (lookups rows) free in
    IsValid-add_node n new.id new.kind new.job_part new.status rows fit.0 fit.1 fit.2 fit.3 valid
IsValid-act (NodeAddition n (NewResource x)) at rows valid free =
    IsValid-add_resource n x rows (node_ids_distinct rows valid.distinct) (node_among rows n (target_known (NodeAddition n (NewResource x)) (lookups rows) free)) (resource_new n x (lookups rows) free) valid
IsValid-act (NodeAddition n (NewLink link)) at rows valid free = IsValid-add_link n link rows (link_reached n link (lookups rows) free) valid

pub IsValid-edited : (e : Edit) (at : ℕ) (rows : List NodeRow) → IsValid rows
    → refusal_of e rows ≡ None → IsValid (edited_rows e at rows)
IsValid-edited e at rows valid free = IsValid-act (act_of e) at rows valid free
