-- What a master does with an order: why it is refused, and else its step.
use Rattle.std.specs.Prelude.{ℕ, List, [], ◌∷◌, ◌++◌, Option, Some, None, Result}
use Rattle.std.specs.Prelude.{Ok}
use Rattle.std.specs.Option.{option_map, option_map_or}
use Rattle.ticket_items.specs.Ids.{mem}
use Rattle.ticket_items.specs.declared.edit.Edit.{Edit}
use Rattle.ticket_items.specs.declared.refusal.Refusal.{Refusal}
use Rattle.ticket_items.specs.declared.refusal.Refusal.TheVariants.{NotHeld, NotOut, UnknownWorker}
use Rattle.ticket_items.specs.Edit.{target}
use Rattle.ticket_rows.specs.Edit.{job_after_edit, lookups}
use Rattle.ticket_rows.specs.EditRefusal.{later_refusal, unknown_refusal}
use Rattle.ticket_rows.specs.Ticket.{Job, first_of, unless}
use Rattle.controller.specs.Step.{Makes, Step, unless_refused}
use Rattle.controller.specs.declared.body.Body.TheVariants.{Submit, Abort}
use Rattle.controller.specs.declared.done.Done.{Done}
use Rattle.controller.specs.declared.message.Message.{Message}
use Rattle.world_items.specs.declared.reply.Reply.TheVariants as reply
use Rattle.spawn.specs.Parts.{part_for}
use Rattle.spawn.specs.Spawning.{job_after_spawn, new_record, spawn_refusal}
use Rattle.spawn.specs.declared.records.spawn_rec.SpawnRec.{SpawnRec}
pub use Rattle.world_items.specs.Holder.{held_refusal}
use Rattle.world_items.specs.declared.master_order.Order.{Order}
use Rattle.world_items.specs.declared.master_order.Order.TheVariants as order
use Rattle.master_core.specs.Master.{State, holder, is_spawn_out, next_number, record_of}

-- ---- refusals

-- why the master can't change what has an id, if it can't
abbrev pub not_held : State → List ℕ → Option Refusal
not_held w x = option_map_or held_refusal (holder w x) None

-- why an edit is refused, if it is: what isn't there comes first, then who holds its target, and
-- then all else
abbrev pub edit_refusal : Edit → State → Option Refusal
edit_refusal e w =
    first_of
    (unknown_refusal e (lookups w.ticket.rows) ∷ not_held w (target e)
    ∷ later_refusal e (lookups w.ticket.rows) ∷ [])

-- why an order is refused, if it is
abbrev pub order_refusal : Order → State → Option Refusal
order_refusal (order.Edit e) w = edit_refusal e w
order_refusal (order.Spawn node worker rw) w =
    first_of
    (unless (mem worker w.workers) UnknownWorker
    ∷ spawn_refusal w.ticket.rows w.records (next_number w.records) node rw ∷ [])
order_refusal (order.Resend s) w = unless (is_spawn_out w.records s) NotOut
order_refusal (order.Withdraw s) w = unless (is_spawn_out w.records s) NotOut

-- ---- what goes out

-- the message by which the master of a name sends the part of a spawn out, as its ticket is
abbrev pub submit_of : List ℕ → Job → SpawnRec → Message
submit_of name t r =
    record { sender = name; receiver = r.worker; at = r.at; body = Submit (part_for t r) }

-- the message by which the master of a name asks the worker of a spawn to give it up
abbrev pub abort_of : List ℕ → SpawnRec → Message
abort_of name r = record { sender = name; receiver = r.worker; at = r.at; body = Abort r.id }

-- the spawn whose part an order sends out
abbrev pub spawn_sent : Order → State → Option ℕ
spawn_sent (order.Edit e) w = None
spawn_sent (order.Spawn node worker rw) w = Some (next_number w.records)
spawn_sent (order.Resend s) w = Some s
spawn_sent (order.Withdraw s) w = None

-- the spawn whose worker an order asks to give it up
abbrev pub spawn_to_give_up : Order → Option ℕ
spawn_to_give_up (order.Edit e) = None
spawn_to_give_up (order.Spawn node worker rw) = None
spawn_to_give_up (order.Resend s) = None
spawn_to_give_up (order.Withdraw s) = Some s

-- ---- the step

-- the record of the next spawn
abbrev pub next_record : State → List ℕ → List ℕ → List (List ℕ) → ℕ → SpawnRec
next_record w node worker rw at =
    new_record w.ticket.rows (next_number w.records) node worker rw at

-- the step that spawns by a record, which is new
abbrev pub spawn_step : SpawnRec → State → Step State Message
spawn_step r w =
    record {
      reply = Ok (reply.Spawned r.id);
      sent = Some (submit_of w.name (job_after_spawn w.ticket r) r);
      next = record w { ticket = job_after_spawn w.ticket r; records = w.records ++ r ∷ [] };
    }

-- the master's step on an order at a time that isn't refused
abbrev pub allowed_step : Order → ℕ → State → Step State Message
allowed_step (order.Edit e) at w =
    record {
      reply = Ok reply.Edited;
      sent = None;
      next = record w { ticket = job_after_edit e at w.ticket };
    }
allowed_step (order.Spawn node worker rw) at w = spawn_step (next_record w node worker rw at) w
allowed_step (order.Resend s) at w =
    record {
      reply = Ok (reply.Sent s);
      sent = option_map (submit_of w.name w.ticket) (record_of w.records s);
      next = w;
    }
allowed_step (order.Withdraw s) at w =
    record {
      reply = Ok (reply.Asked s);
      sent = option_map (abort_of w.name) (record_of w.records s);
      next = w;
    }

-- the master's step on an order at a time
abbrev pub order_step : Order → ℕ → State → Step State Message
order_step o at w = unless_refused (order_refusal o w) w (allowed_step o at w)

-- a master makes the step of an order at a time: with this result, and it is then this
abbrev pub Does : Order → ℕ → State → Result Done Refusal → State → Type 0
Does o at old result new = Makes (order_step o at old) old result new
