-- How many bytes the messages of work have.
use Rattle.std.specs.Prelude.{ℕ, length, Option, Some, None, if◌then◌else◌, option_map}
use Rattle.serde_json.specs.Written.{compact_text}
use Rattle.spawn.specs.Records.{is_out}
use Rattle.spawn.specs.declared.records.spawn_rec.SpawnRec.{SpawnRec}
use Rattle.ticket_tree.specs.Part.{PartCopy}
use Rattle.controller.specs.declared.message.Message.{Message}
use Rattle.jmf_message.specs.Written.{message_data}
use Rattle.master_core.specs.Master as master
use Rattle.master_core.specs.Orders.{submit_of}
use Rattle.worker_core.specs.Orders.{part_return}
use Rattle.worker_core.specs.Worker as worker
use Rattle.worker_core.specs.declared.entry.Entry.{Entry}

-- the bytes of the text of a message
abbrev pub message_size : Message → ℕ
message_size message = length (compact_text (message_data message))

-- of the one that sends the part of a master's spawn
abbrev pub submit_size : master.State → SpawnRec → ℕ
submit_size m r = message_size (submit_of m.name m.ticket r)

-- the same while that is out
abbrev pub spawn_size : master.State → SpawnRec → Option ℕ
spawn_size m r = if is_out r then Some (submit_size m r) else None

-- of the one that gives a part back at a time
abbrev pub return_size : worker.State → ℕ → PartCopy → ℕ
return_size w at p = message_size (part_return w.name w.master at p)

-- of the one that gives the part of an entry back, as it is, while it keeps one
abbrev pub entry_size : worker.State → Entry → Option ℕ
entry_size w e = option_map (return_size w e.at) e.part
