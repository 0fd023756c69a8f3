-- What the controllers of a shop show as one ticket with one table of holders.
use Rattle.std.specs.Prelude.{ℕ, List, map, if◌then◌else◌, Option, Some, None}
use Rattle.std.specs.Option.{option_and_then, option_map_or}
use Rattle.ticket_rows.specs.Place.{Row, places, row_in}
use Rattle.ticket_tree.specs.Part.{PartCopy}
use Rattle.ticket_tree.specs.PartView.{part_row}
use Rattle.controller.specs.declared.body.Body.{Body}
use Rattle.controller.specs.declared.body.Body.TheVariants as body
use Rattle.controller.specs.declared.command.Command.TheVariants as command
use Rattle.controller.specs.declared.message.Message.{Message}
use Rattle.spawn.specs.declared.records.phase.Phase as records
use Rattle.spawn.specs.declared.records.phase.Phase.TheVariants as recorded
use Rattle.spawn.specs.declared.records.spawn_rec.SpawnRec.{SpawnRec}
use Rattle.world_items.specs.declared.holder.Holder.{Holder}
use Rattle.world_items.specs.declared.holder.Holder.TheVariants as held_by
use Rattle.master_core.specs.Master as master
use Rattle.worker_core.specs.Worker as worker
use Rattle.worker_core.specs.declared.entry.Entry.{Entry}
use Rattle.world.specs.Controllers.{Controllers}
use Rattle.world.specs.Messages.{entry_for}
use Rattle.plain_shop.specs.Replay.{TaggedShop}
use Rattle.plain_shop.specs.Shop.{Away, Closed, Declined, Done, Merged, Open, Phase, PlainState, Rows}
use Rattle.plain_shop.specs.Shop.{SpawnState, Withdrawn}
use Rattle.plain_shop.specs.Steps.{Abort, Return, Submit, Tag, ToAbort, ToReturn, ToSubmit}
use Rattle.world.specs.State.{State}

-- ---- spawns

-- how far a spawn whose part wasn't put in yet has come, by its worker's entry of it
abbrev pub entry_shown : Entry → Phase
entry_shown e =
    if worker.is_declined e then Declined else (if worker.is_open e then Open else Done)

-- how far a spawn has come, by the phase of its record and by its worker's entry of it, which is
-- closed only where the part was put in
abbrev pub phase_shown : records.Phase → Option Entry → Phase
phase_shown recorded.Out None = Away
phase_shown recorded.Out (Some e) = entry_shown e
phase_shown recorded.Merged None = Merged
phase_shown recorded.Merged (Some e) = if worker.is_closed e then Closed else Merged
phase_shown recorded.Withdrawn entry = Withdrawn

abbrev pub spawn_shown : Controllers → SpawnRec → SpawnState
spawn_shown c r =
    record {
      number = r.id;
      node = r.node;
      worker = r.worker;
      rw = r.rw;
      phase = phase_shown r.phase (entry_for c r);
    }

-- ---- rows

-- the entry of a spawn, at its worker
abbrev pub entry_of_spawn : Controllers → ℕ → Option Entry
entry_of_spawn c s = option_and_then (entry_for c) (master.record_of c.master.records s)

-- the row of an id as the master sees it
abbrev pub seen_shown : Controllers → Rows
seen_shown c = row_in c.master.ticket.rows

-- the part in it, until that is given up
abbrev pub part_of_spawn : Controllers → ℕ → Option PartCopy
part_of_spawn c s = option_and_then (λ e. e.part) (entry_of_spawn c s)

-- the row of an id as its holder has it: where a spawn holds it that its worker took, as it is in
-- the part there, and else as the master sees it
abbrev pub row_at : Controllers → List ℕ → Option Holder → Option Row
row_at c x None = seen_shown c x
row_at c x (Some held_by.Master) = seen_shown c x
row_at c x (Some (held_by.Spawn s)) =
    option_map_or (λ p. part_row p x) (part_of_spawn c s) (seen_shown c x)

abbrev pub now_shown : Controllers → Rows
now_shown c x = row_at c x (master.holder c.master x)

-- ---- the whole

abbrev pub shop_shown : Controllers → PlainState
shop_shown c =
    record {
      master = c.master.name;
      workers = c.master.workers;
      job = c.master.ticket.job_id;
      tree = places c.master.ticket.rows;
      seen = seen_shown c;
      now = now_shown c;
      holder = master.holder c.master;
      spawns = map (spawn_shown c) c.master.records;
    }

-- the tag of a message
abbrev pub tag_in : Body → Tag
tag_in (body.Submit p) = Submit p.spawn_id
tag_in (body.Return p) = Return p.spawn_id
tag_in (body.Abort s) = Abort s
tag_in (body.Answer command.Submit s told) = ToSubmit s
tag_in (body.Answer command.Return s told) = ToReturn s
tag_in (body.Answer command.Abort s told) = ToAbort s

abbrev pub tag_of : Message → Tag
tag_of m = tag_in m.body

abbrev pub shows : State → TaggedShop
shows w = record { shop = shop_shown w.controllers; tags = map tag_of w.messages }
