-- The part that JSON data is, or the first refusal of it: `NotProfile`, `BadId`, `BadText`, and
-- then what is wrong with its rows, with the copies as resources of the root.
use Rattle.std.specs.Prelude.{◌&&◌, Bool, List, Option, Result, Err}
use Rattle.std.specs.List.{list_all}
use Rattle.std.specs.Option.{option_map_or}
use Rattle.serde_json.specs.Data.{Data}
use Rattle.ticket_items.specs.Names.{is_name}
use Rattle.ticket_tree.specs.Part.{PartCopy}
use Rattle.ticket_rows.specs.Copies.{with_copies}
use Rattle.ticket_items.specs.SpawnId.{is_spawn_number}
use Rattle.ticket_rows.specs.Ticket.{fault_of}
use Rattle.ticket_items.specs.declared.node_row.NodeRow.{NodeRow}
use Rattle.ticket_items.specs.declared.refusal.Refusal.{Refusal}
use Rattle.ticket_items.specs.declared.refusal.Refusal.TheVariants.{NotProfile}
use Rattle.ticket_items.specs.declared.resource.Resource.{Resource}
use Rattle.json_items.specs.Validation.{checked_fault, checked_value}
use Rattle.json_items.specs.TicketForm.{row_has_names, row_has_texts}
use Rattle.json_items.specs.PartDraft.{RawPart, part_form}
use Rattle.json_items.specs.Resources.{resource_has_names, resource_has_texts}
use Rattle.json_items.specs.Ancestors.{ancestor_has_names}

-- whether all ids and names of copies are such
abbrev pub copies_have_names : List Resource → List Resource → Bool
copies_have_names changes reads = list_all resource_has_names changes
    && list_all resource_has_names reads

abbrev pub copies_have_texts : List Resource → List Resource → Bool
copies_have_texts changes reads = list_all resource_has_texts changes
    && list_all resource_has_texts reads

-- whether the job's id is such, and the spawn's number is one
abbrev pub has_ids : RawPart → Bool
has_ids p = is_name p.job_id && is_spawn_number p.spawn

-- and those of the ancestors with their names
abbrev pub has_outer_names : RawPart → Bool
has_outer_names p = has_ids p && list_all ancestor_has_names p.ancestors

-- and those of the nodes
abbrev pub has_own_names : RawPart → Bool
has_own_names p = has_outer_names p && list_all row_has_names p.rows

-- whether all ids and names are such
abbrev pub has_names : RawPart → Bool
has_names p = has_own_names p && copies_have_names p.rw p.ro

-- whether all texts are such
abbrev pub has_texts : RawPart → Bool
has_texts p = list_all row_has_texts p.rows && copies_have_texts p.rw p.ro

-- the rows with the copies as resources of the root
abbrev pub all_rows : RawPart → List NodeRow
all_rows p = with_copies p.rows p.rw p.ro

-- what is wrong with the draft of a part whose names and texts are such
abbrev pub built_fault : RawPart → Option Refusal
built_fault p = fault_of (all_rows p)

-- what is wrong with the draft of a part
abbrev pub part_fault : RawPart → Option Refusal
part_fault p = checked_fault (has_names p) (has_texts p) (built_fault p)

-- the part of a draft whose names are such
abbrev pub part_of_raw : RawPart → PartCopy
part_of_raw p = record {
  job_id = p.job_id;
  spawn_id = p.spawn;
  ancestors = p.ancestors;
  rows = p.rows;
  rw = p.rw;
  ro = p.ro;
}

-- the part that the data is
abbrev pub part_read : Data → Result PartCopy Refusal
part_read d = option_map_or (λ p. checked_value (part_fault p) (part_of_raw p)) (part_form d) (Err NotProfile)
