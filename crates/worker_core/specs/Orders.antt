-- What a worker does with an order: why it is refused, and else its step.
use Rattle.std.specs.Prelude.{ℕ, ◌&&◌, ◌||◌, Bool, not, List, [], ◌∷◌, if◌then◌else◌, Option, Some}
use Rattle.std.specs.Prelude.{None, is_some, Result, Ok}
use Rattle.std.specs.Option.{option_and_then, option_map, option_map_or}
use Rattle.ticket_items.specs.Ids.{mem}
use Rattle.ticket_items.specs.Resource.{resource_ids}
use Rattle.ticket_items.specs.declared.edit.Edit.{Edit}
use Rattle.ticket_items.specs.declared.edit.Edit.TheVariants.{SetStatus}
use Rattle.ticket_items.specs.declared.refusal.Refusal.{Refusal}
use Rattle.ticket_items.specs.declared.refusal.Refusal.TheVariants.{UnknownEntry, NotOpen, ReadOnly}
use Rattle.ticket_items.specs.declared.refusal.Refusal.TheVariants.{NotInPart, NotForWorkers}
use Rattle.ticket_items.specs.declared.refusal.Refusal.TheVariants.{NotDone, Acknowledged}
use Rattle.ticket_items.specs.Edit.{is_of_node, is_structural, target}
use Rattle.ticket_rows.specs.EditRefusal.{later_refusal}
use Rattle.ticket_rows.specs.Homes.{has_resource}
use Rattle.ticket_rows.specs.PartEdit.{part_lookups}
use Rattle.ticket_rows.specs.Ticket.{first_of, has_node, unless}
use Rattle.ticket_tree.specs.Part.{PartCopy, edited_part}
use Rattle.controller.specs.Step.{Makes, Step, unless_refused}
use Rattle.controller.specs.declared.body.Body.TheVariants.{Return}
use Rattle.controller.specs.declared.done.Done.{Done}
use Rattle.controller.specs.declared.message.Message.{Message}
use Rattle.world_items.specs.declared.reply.Reply.TheVariants as reply
pub use Rattle.world_items.specs.WorkerOrder.{spawn_of_order}
use Rattle.world_items.specs.declared.end.End.{End}
use Rattle.worker_core.specs.declared.entry.Entry.{Entry}
use Rattle.world_items.specs.declared.worker_order.Order.{Order}
use Rattle.world_items.specs.declared.worker_order.Order.TheVariants as order
use Rattle.worker_core.specs.declared.stage.Stage.TheVariants as stages
use Rattle.worker_core.specs.Worker.{State, end_word, entry_of, is_closed, is_declined, is_open}
use Rattle.worker_core.specs.Worker.{open_part, root_id, with_entry}

-- ---- refusals

-- whether the target of an edit is a node of a part, or a resource of its pools or a copy that may
-- be changed
abbrev pub is_here : Edit → PartCopy → Bool
is_here e p =
    if is_of_node e then has_node p.rows (target e) else
    has_resource p.rows (target e) || mem (target e) (resource_ids p.rw)

-- whether it is a copy that may be read alone
abbrev pub is_to_read : Edit → PartCopy → Bool
is_to_read e p = not (is_of_node e) && mem (target e) (resource_ids p.ro)

-- why an edit of a part that is open is refused, if it is
abbrev pub part_edit_refusal : Edit → PartCopy → Option Refusal
part_edit_refusal e p =
    first_of
    (unless (not (is_structural e)) NotForWorkers
    ∷ unless (is_here e p || is_to_read e p) NotInPart
    ∷ unless (not (is_to_read e p)) ReadOnly ∷ later_refusal e (part_lookups p.rows p.rw) ∷ [])

-- why an edit of an entry is refused, if it is
abbrev pub edit_refusal : Edit → Entry → Option Refusal
edit_refusal e entry = option_map_or (part_edit_refusal e) (open_part entry) (Some NotOpen)

-- why the part of an entry isn't given back once more, if it isn't: it is open, or was given up
abbrev pub resend_refusal : Entry → Option Refusal
resend_refusal entry =
    first_of
    (unless (not (is_open entry)) NotDone ∷ unless (not (is_closed entry)) Acknowledged ∷ [])

-- why an order on an entry whose part was taken is refused, if it is
abbrev pub work_refusal : Order → Entry → Option Refusal
work_refusal (order.Edit s e) entry = edit_refusal e entry
work_refusal (order.Finish s how) entry = unless (is_some (open_part entry)) NotOpen
work_refusal (order.Resend s) entry = resend_refusal entry

-- why an order on an entry is refused, if it is: on one that was declined as if there were none
abbrev pub entry_refusal : Order → Entry → Option Refusal
entry_refusal o entry =
    first_of (unless (not (is_declined entry)) UnknownEntry ∷ work_refusal o entry ∷ [])

-- why an order is refused, if it is
abbrev pub order_refusal : Order → List Entry → Option Refusal
order_refusal o entries =
    option_map_or (entry_refusal o) (entry_of entries (spawn_of_order o)) (Some UnknownEntry)

-- ---- what becomes of an entry

-- an entry after an edit at a time
abbrev pub edited_entry : Edit → ℕ → Entry → Entry
edited_entry e at entry = record entry { part = option_map (edited_part e at) entry.part }

-- the edit that gives the node of a part the Status of an end
abbrev pub end_edit : PartCopy → End → Edit
end_edit p how = SetStatus (root_id p) (end_word how)

-- a part after the end: its node has the Status
abbrev pub ended_part : End → ℕ → PartCopy → PartCopy
ended_part how at p = edited_part (end_edit p how) at p

-- an entry that is finished: its part has ended, and its time is that of the end
abbrev pub finished_entry : End → ℕ → Entry → Entry
finished_entry how at entry =
    record entry {
      phase = stages.Done how;
      part = option_map (ended_part how at) entry.part;
      at = at;
    }

-- ---- what goes out

-- the message that gives a part back at a time, from a name to another
abbrev pub part_return : List ℕ → List ℕ → ℕ → PartCopy → Message
part_return name master at p =
    record { sender = name; receiver = master; at = at; body = Return p }

-- and the one that gives back the part of an entry, if it has one
abbrev pub return_of : List ℕ → List ℕ → Entry → Option Message
return_of name master entry = option_map (part_return name master entry.at) entry.part

-- ---- the step

-- the worker's step on an order at a time that isn't refused
abbrev pub allowed_step : Order → ℕ → State → Step State Message
allowed_step (order.Edit s e) at w =
    record {
      reply = Ok reply.Edited;
      sent = None;
      next = record w { entries = with_entry s (edited_entry e at) w.entries };
    }
allowed_step (order.Finish s how) at w =
    record {
      reply = Ok (reply.Finished s);
      sent =
          option_and_then (λ entry. return_of w.name w.master (finished_entry how at entry))
          (entry_of w.entries s);
      next = record w { entries = with_entry s (finished_entry how at) w.entries };
    }
allowed_step (order.Resend s) at w =
    record {
      reply = Ok (reply.Sent s);
      sent = option_and_then (return_of w.name w.master) (entry_of w.entries s);
      next = w;
    }

-- the worker's step on an order at a time
abbrev pub order_step : Order → ℕ → State → Step State Message
order_step o at w = unless_refused (order_refusal o w.entries) w (allowed_step o at w)

-- a worker makes the step of an order at a time: with this result, and it is then this
abbrev pub Does : Order → ℕ → State → Result Done Refusal → State → Type 0
Does o at old result new = Makes (order_step o at old) old result new
