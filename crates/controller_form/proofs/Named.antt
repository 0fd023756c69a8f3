-- The spawn of a part is among the part's ids.
use Rattle.std.proofs.Common.{◌≡◌, ◌&&◌, Bool, true, false, refl}
use Rattle.std.specs.List.{list_all}
use Rattle.ticket_items.specs.Names.{is_name}
use Rattle.ticket_items.specs.SpawnId.{is_spawn_number}
use Rattle.json_items.specs.Ancestors.{ancestor_has_names}
use Rattle.json_items.specs.PartDraft.{RawPart}
use Rattle.json_items.specs.PartForm as part_form
use Rattle.json_items.specs.TicketForm.{row_has_names}

within : (job number above rows copies : Bool) → (number && (job && number && above && rows && copies)) ≡ (job && number && above && rows && copies)
within true true above rows copies = refl
within true false above rows copies = refl
within false true above rows copies = refl
within false false above rows copies = refl

pub own_named : (p : RawPart) → (is_spawn_number p.spawn && part_form.has_names p) ≡ part_form.has_names p
own_named p = within (is_name p.job_id) (is_spawn_number p.spawn) (list_all ancestor_has_names p.ancestors) (list_all row_has_names p.rows) (part_form.copies_have_names p.rw p.ro)
