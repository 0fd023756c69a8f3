-- A change that isn't refused, and a replacement of what may be replaced, leave a ticket.
use Rattle.std.proofs.Common.{◌++◌, ◌∷◌, []}
use Rattle.ticket_rows.proofs.Changes.{IsValid-with_row}
use Rattle.ticket_rows.proofs.EditedValid.{IsValid-edited}
use Rattle.ticket_rows.proofs.OneRows.{keeps-append, IsValid-replaced_node}
use Rattle.ticket_rows.proofs.OneRows.{IsValid-replaced_resource}
use Rattle.ticket_tree.specs.Laws.{EditIsValid, AppendIsValid, ReplacedNodeIsValid}
use Rattle.ticket_tree.specs.Laws.{ReplacedResourceIsValid}

pub edit_is_valid : EditIsValid
edit_is_valid = IsValid-edited

pub append_is_valid : AppendIsValid
append_is_valid n audit rows valid = IsValid-with_row n (λ r. record r { audits = r.audits ++ audit ∷ [] }) rows (keeps-append audit) valid

pub replaced_node_is_valid : ReplacedNodeIsValid
replaced_node_is_valid row rows valid may = IsValid-replaced_node rows row may valid

pub replaced_resource_is_valid : ReplacedResourceIsValid
replaced_resource_is_valid x rows valid may = IsValid-replaced_resource rows x valid
