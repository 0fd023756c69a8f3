-- The edits of a part that aren't structural: of its rows, and of the copies that may be changed.
use Rattle.std.specs.Prelude.{◌≡◌, ℕ, ◌||◌, true, false, List, Option}
use Rattle.ticket_items.specs.Ids.{mem, are_distinct}
use Rattle.ticket_items.specs.Resource.{resource_ids, with_item}
use Rattle.ticket_items.specs.Act.{Act, ResourceChange, act_of}
use Rattle.ticket_rows.specs.Edit.{lookups, changed_resource}
use Rattle.ticket_rows.specs.EditRefusal.{Lookups, edit_refusal}
use Rattle.ticket_rows.specs.Homes.{has_resource}
use Rattle.ticket_rows.specs.Ticket.{ids}
use Rattle.ticket_items.specs.declared.edit.Edit.{Edit}
use Rattle.ticket_items.specs.declared.node_row.NodeRow.{NodeRow}
use Rattle.ticket_items.specs.declared.refusal.Refusal.{Refusal}
use Rattle.ticket_items.specs.declared.resource.Resource.{Resource}

-- the ids of rows are distinct, those of copies too, and no id stands in both
pub record AreApart (rows : List NodeRow) (copies : List Resource) : Type 0 where
  pub rows_distinct : are_distinct (ids rows) ≡ true
  pub copies_distinct : are_distinct (resource_ids copies) ≡ true
  pub apart : (x : List ℕ) → mem x (resource_ids copies) ≡ true → mem x (ids rows) ≡ false

-- what a part is asked before an edit: its resources are those of its pools and the copies
abbrev pub part_lookups : List NodeRow → List Resource → Lookups
part_lookups rows copies =
    record (lookups rows) { has_resource = λ x. has_resource rows x || mem x (resource_ids copies) }

-- why an edit of a part is refused, if it is
abbrev pub part_refusal : Edit → List NodeRow → List Resource → Option Refusal
part_refusal e rows copies = edit_refusal e (part_lookups rows copies)

-- the copies after an act, and after an edit
abbrev pub act_copies : Act → List Resource → List Resource
act_copies (ResourceChange x change) copies = with_item x (changed_resource change) copies
act_copies a copies = copies

abbrev pub edited_copies : Edit → List Resource → List Resource
edited_copies e copies = act_copies (act_of e) copies
