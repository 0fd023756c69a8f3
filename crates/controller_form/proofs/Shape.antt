-- States that are written have no float, and nest little.
use Rattle.std.proofs.Common.{◌≡◌, ◌≤◌, ℕ, false, List, [], ◌∷◌, Option, Some, None, IfSome, refl, arith}
use Rattle.std.proofs.lemmas.Bool.{or_from}
use Rattle.std.proofs.lemmas.List.Elements.{All-head, All-tail}
use Rattle.std.specs.List.{All}
use Rattle.serde_json.specs.Data.{depth, items_depth}
use Rattle.serde_json.specs.Written.{has_float, items_have_float}
use Rattle.ticket_tree.specs.Part.{PartCopy}
use Rattle.spawn.specs.declared.records.spawn_rec.SpawnRec.{SpawnRec}
use Rattle.json_items.specs.Listed.{data_items}
use Rattle.json_items.specs.Resources.{all_showing}
use Rattle.json_items.specs.Shown.{nothing_shown}
use Rattle.json_profile.proofs.PoolShape.{items_low, pool_low, texts_flat}
use Rattle.json_text.proofs.Plain.{items_plain, pool_plain, texts_plain}
use Rattle.master_core.specs.Master as master
use Rattle.worker_core.specs.Worker as worker
use Rattle.worker_core.specs.declared.entry.Entry.{Entry}
use Rattle.worker_core.specs.declared.stage.Stage.{Stage}
use Rattle.worker_core.specs.declared.stage.Stage.TheVariants.{Open, Done, Closed, Declined}
use Rattle.controller_form.specs.States.EntryForm.{entry_data}
use Rattle.controller_form.specs.States.MasterForm.{master_state_data}
use Rattle.controller_form.specs.States.RecordForm.{record_data}
use Rattle.controller_form.specs.States.StateFormat.{written_format}
use Rattle.controller_form.specs.States.Writable.{IsWritableEntry, IsWritableMaster, IsWritablePart, IsWritableWorker}
use Rattle.controller_form.specs.States.WorkerForm.{worker_state_data}

-- ---- no float

record_plain : (r : SpawnRec) → has_float (record_data r) ≡ false
record_plain r = or_from _ _ (pool_plain (all_showing nothing_shown r.ro)) (or_from _ _ (texts_plain r.rw) refl)

pub master_plain : (m : master.State) → IsWritableMaster m → has_float (master_state_data m) ≡ false
master_plain m known = or_from _ _ (or_from _ _ (items_plain record_data record_plain m.records) (or_from _ _ known.plain (or_from _ _ (texts_plain m.workers) refl))) refl

-- ---- depth

record_low : (r : SpawnRec) → depth (record_data r) ≤ 4
record_low r = omega (arith, pool_low (all_showing nothing_shown r.ro), texts_flat r.rw)

pub master_nests : (m : master.State) → IsWritableMaster m → depth (master_state_data m) ≤ 127
master_nests m known = omega (arith, items_low record_data 4 record_low m.records, texts_flat m.workers, known.low)

-- ---- both, of a worker

entry_shape : (s : ℕ) (phase : Stage) (part : Option PartCopy) (at : ℕ) → IfSome part IsWritablePart → (has_float (entry_data written_format (record { spawn_id = s; phase = phase; part = part; at = at })) ≡ false) × (depth (entry_data written_format (record { spawn_id = s; phase = phase; part = part; at = at })) ≤ 69)
entry_shape s Open None at known = (refl, omega arith)
entry_shape s Open (Some p) at known = (or_from _ _ known.plain refl, omega (arith, known.low))
entry_shape s (Done how) None at known = (refl, omega arith)
entry_shape s (Done how) (Some p) at known = (or_from _ _ known.plain refl, omega (arith, known.low))
entry_shape s (Closed how) None at known = (refl, omega arith)
entry_shape s (Closed how) (Some p) at known = (or_from _ _ known.plain refl, omega (arith, known.low))
entry_shape s Declined None at known = (refl, omega arith)
entry_shape s Declined (Some p) at known = (or_from _ _ known.plain refl, omega (arith, known.low))

entries_shape : (es : List Entry) → All IsWritableEntry es → (items_have_float (data_items (entry_data written_format) es) ≡ false) × (items_depth (data_items (entry_data written_format) es) ≤ 69)
entries_shape [] known = (refl, omega arith)
entries_shape (e ∷ es) known =
    let first = entry_shape e.spawn_id e.phase e.part e.at (All-head IsWritableEntry e es known).part in
    let rest = entries_shape es (All-tail IsWritableEntry e es known) in
    (or_from _ _ first.0 rest.0, omega (arith, first.1, rest.1))

pub worker_plain : (w : worker.State) → IsWritableWorker w → has_float (worker_state_data w) ≡ false
worker_plain w known = or_from _ _ (or_from _ _ ((entries_shape w.entries known.entries).0) refl) refl

pub worker_nests : (w : worker.State) → IsWritableWorker w → depth (worker_state_data w) ≤ 127
worker_nests w known = omega (arith, (entries_shape w.entries known.entries).1)
