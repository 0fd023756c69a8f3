-- What is known of controllers that are written: their ids, names and texts are valid, and their
-- tickets and parts are read again.
use Rattle.std.specs.Prelude.{◌≡◌, ◌≤◌, true, false, Ok, IfSome}
use Rattle.std.specs.List.{All, list_all}
use Rattle.serde_json.specs.Data.{depth}
use Rattle.serde_json.specs.Written.{has_float}
use Rattle.ticket_items.specs.Names.{is_name}
use Rattle.ticket_items.specs.SpawnId.{is_spawn_number}
use Rattle.ticket_tree.specs.Part.{PartCopy}
use Rattle.json_items.specs.TicketForm.{ticket_read}
use Rattle.json_items.specs.PartForm.{part_read}
use Rattle.json_text.specs.PartWritten.{part_data}
use Rattle.json_text.specs.Written.{ticket_data}
use Rattle.master_core.specs.Master as master
use Rattle.worker_core.specs.Worker as worker
use Rattle.worker_core.specs.declared.entry.Entry.{Entry}
use Rattle.controller_form.specs.States.RecordForm.{spawn_has_names, spawn_has_texts}

-- a master
pub record IsWritableMaster (m : master.State) : Type 0 where
  pub kept : master.IsConsistent m
  pub name : is_name m.name ≡ true
  pub workers : list_all is_name m.workers ≡ true
  pub names : list_all spawn_has_names m.records ≡ true
  pub texts : list_all spawn_has_texts m.records ≡ true
  pub again : ticket_read (ticket_data m.ticket) ≡ Ok m.ticket
  pub plain : has_float (ticket_data m.ticket) ≡ false
  pub low : depth (ticket_data m.ticket) ≤ 68

-- a part
pub record IsWritablePart (p : PartCopy) : Type 0 where
  pub again : part_read (part_data p) ≡ Ok p
  pub plain : has_float (part_data p) ≡ false
  pub low : depth (part_data p) ≤ 68

-- an entry
pub record IsWritableEntry (e : Entry) : Type 0 where
  pub number : is_spawn_number e.spawn_id ≡ true
  pub part : IfSome e.part IsWritablePart

-- a worker
pub record IsWritableWorker (w : worker.State) : Type 0 where
  pub kept : worker.IsConsistent w
  pub name : is_name w.name ≡ true
  pub master : is_name w.master ≡ true
  pub entries : All IsWritableEntry w.entries
