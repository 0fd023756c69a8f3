-- Work that is shared by two controllers: the spawns of a master, and the entries of a worker.
use Rattle.std.specs.Prelude.{ℕ, Bool, true, false, not, List, [], codes, map, slice_get}
use Rattle.std.specs.Prelude.{Option, Some, None, option_map, if◌then◌else◌}
use Rattle.std.specs.List.{filter}
use Rattle.std.specs.Option.{option_and_then, option_map_or}
use Rattle.ticket_items.specs.Attrs.{text_at}
use Rattle.ticket_items.specs.declared.node_row.NodeRow.{NodeRow}
use Rattle.ticket_rows.specs.Ticket.{row_of}
use Rattle.spawn.specs.declared.records.phase.Phase.{Phase}
use Rattle.spawn.specs.declared.records.phase.Phase.TheVariants.{Out, Merged, Withdrawn}
use Rattle.spawn.specs.declared.records.spawn_rec.SpawnRec.{SpawnRec}
use Rattle.master_core.specs.Master as master
use Rattle.worker_core.specs.Worker as worker
use Rattle.worker_core.specs.declared.entry.Entry.{Entry}
use Rattle.worker_core.specs.declared.stage.Stage.TheVariants.{Open, Done, Closed, Declined}
use Rattle.job_list.specs.declared.work.Work.{Work}
use Rattle.job_list.specs.declared.work_phase.WorkPhase.{WorkPhase}
use Rattle.job_list.specs.declared.work_phase.WorkPhase.TheVariants as phase

-- whether a part is still out: the master waits for it, or the worker keeps it
abbrev pub is_open_phase : WorkPhase → Bool
is_open_phase (phase.Spawn Out) = true
is_open_phase (phase.Spawn Merged) = false
is_open_phase (phase.Spawn Withdrawn) = false
is_open_phase (phase.Entry stage) = worker.keeps_part stage

abbrev pub is_open : Work → Bool
is_open w = is_open_phase w.phase

-- whether work is open, or isn't, as is asked for
abbrev pub is_asked : Bool → WorkPhase → Bool
is_asked are_open p = if are_open then is_open_phase p else not (is_open_phase p)

-- how far work is, in a word
abbrev pub phase_word : WorkPhase → List ℕ
phase_word (phase.Spawn Out) = codes "Out"
phase_word (phase.Spawn Merged) = codes "Merged"
phase_word (phase.Spawn Withdrawn) = codes "Withdrawn"
phase_word (phase.Entry Open) = codes "Open"
phase_word (phase.Entry (Done how)) = worker.end_word how
phase_word (phase.Entry (Closed how)) = codes "Closed"
phase_word (phase.Entry Declined) = codes "Declined"

-- ---- what is known of a node

-- a text that is known, or nothing
abbrev pub known_text : Option (List ℕ) → List ℕ
known_text text = option_map_or (λ t. t) text []

abbrev pub descriptive_name : NodeRow → Option (List ℕ)
descriptive_name r = text_at (codes "DescriptiveName") r.attrs

abbrev pub name_in : Option NodeRow → Option (List ℕ)
name_in row = option_and_then descriptive_name row

abbrev pub status_in : Option NodeRow → Option (List ℕ)
status_in row = option_map (λ r. r.status) row

abbrev pub id_in : Option NodeRow → Option (List ℕ)
id_in row = option_map (λ r. r.id) row

-- ---- spawns

-- the work of a spawn: with its worker, on a node of the master's ticket
unfoldable pub work_of_spawn : master.State → SpawnRec → Work
work_of_spawn m r =
    record {
      spawn_id = r.id;
      phase = phase.Spawn r.phase;
      other = r.worker;
      job = Some m.ticket.job_id;
      node = Some r.node;
      descriptive_name = name_in (row_of m.ticket.rows r.node);
      status = status_in (row_of m.ticket.rows r.node);
      at = r.at;
    }

abbrev pub is_spawn : Bool → SpawnRec → Bool
is_spawn are_open r = is_asked are_open (phase.Spawn r.phase)

-- the work of a master that is open, or all other, in the order in which it went out
abbrev pub works_of_master : Bool → master.State → List Work
works_of_master are_open m = map (work_of_spawn m) (filter (is_spawn are_open) m.records)

-- ---- entries

-- the node of the part that an entry keeps, which is the first of its rows
abbrev pub root_of : Entry → Option NodeRow
root_of e = option_and_then (λ p. slice_get p.rows 0) e.part

abbrev pub job_in : Entry → Option (List ℕ)
job_in e = option_map (λ p. p.job_id) e.part

-- the work of an entry: from the master, on the node of its part
unfoldable pub work_of_entry : worker.State → Entry → Work
work_of_entry w e =
    record {
      spawn_id = e.spawn_id;
      phase = phase.Entry e.phase;
      other = w.master;
      job = job_in e;
      node = id_in (root_of e);
      descriptive_name = name_in (root_of e);
      status = status_in (root_of e);
      at = e.at;
    }

abbrev pub is_entry : Bool → Entry → Bool
is_entry are_open e = is_asked are_open (phase.Entry e.phase)

-- the work of a worker that is open, or all other, in the order in which it was taken or declined
abbrev pub works_of_worker : Bool → worker.State → List Work
works_of_worker are_open w = map (work_of_entry w) (filter (is_entry are_open) w.entries)
