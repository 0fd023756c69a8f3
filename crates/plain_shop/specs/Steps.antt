-- What is answered in a shop, and what is done: to each order and to each message that comes.
use Rattle.std.specs.Prelude.{ℕ, ◌&&◌, ◌||◌, Bool, false, not, List, [], ◌∷◌, map, is_some}
use Rattle.std.specs.Prelude.{if◌then◌else◌, Option, Some, None, Ok, Err}
use Rattle.std.specs.List.{find, list_all}
use Rattle.std.specs.Option.{option_map_or}
use Rattle.std.specs.Str.{bytes_eq}
use Rattle.ticket_items.specs.Ids.{mem}
use Rattle.ticket_items.specs.SpawnId.{is_spawn_number}
use Rattle.ticket_items.specs.declared.edit.Edit.{Edit}
use Rattle.ticket_items.specs.declared.refusal.Refusal.{Refusal}
use Rattle.ticket_items.specs.declared.refusal.Refusal.TheVariants.{UnknownWorker, UnknownNode}
use Rattle.ticket_items.specs.declared.refusal.Refusal.TheVariants.{IsRoot, UnknownResource}
use Rattle.ticket_items.specs.declared.refusal.Refusal.TheVariants.{NotLinked, TooManySpawns}
use Rattle.ticket_items.specs.declared.refusal.Refusal.TheVariants.{NotOut}
use Rattle.ticket_items.specs.declared.refusal.Refusal.TheVariants.{UnknownEntry, NotOpen, NotDone}
use Rattle.ticket_items.specs.declared.refusal.Refusal.TheVariants.{NotForWorkers, NotInPart}
use Rattle.ticket_items.specs.declared.refusal.Refusal.TheVariants.{ReadOnly, Acknowledged}
use Rattle.ticket_items.specs.Edit.{is_of_node, is_structural, target}
use Rattle.ticket_rows.specs.EditRefusal.{later_refusal, unknown_refusal}
use Rattle.ticket_rows.specs.Place.{nodes_in, resources_in, up}
use Rattle.ticket_rows.specs.Ticket.{first_of, unless}
use Rattle.ticket_tree.specs.PlainEdit.{plain_lookups, stands}
use Rattle.world_items.specs.declared.reply.Reply.{Reply}
use Rattle.world_items.specs.declared.reply.Reply.TheVariants as reply
use Rattle.plain_shop.specs.Claim.{claim, ids_of, linked_outside, linked_ro}
use Rattle.world_items.specs.Holder.{held_refusal}
use Rattle.world_items.specs.declared.master_order.Order as master_order
use Rattle.world_items.specs.declared.master_order.Order.TheVariants as to_master
use Rattle.world_items.specs.WorkerOrder.{spawn_of_order}
use Rattle.world_items.specs.declared.end.End.TheVariants.{Aborted}
use Rattle.world_items.specs.declared.worker_order.Order as worker_order
use Rattle.world_items.specs.declared.worker_order.Order.TheVariants as to_worker
use Rattle.plain_shop.specs.Shop.{Phase, PlainState, SpawnState, has_number, is_away, is_closed}
use Rattle.plain_shop.specs.Shop.{is_declined}
use Rattle.plain_shop.specs.Shop.{is_done, is_merged, is_open, is_out, is_taken, next_number, spawn_of}
use Rattle.plain_shop.specs.Acts.{after_close, after_decline, after_edit, after_finish, after_merge}
use Rattle.plain_shop.specs.Acts.{after_withdrawal, is_held_by}
use Rattle.plain_shop.specs.Acts.{after_spawn, after_taking, after_work}
use Rattle.plain_shop.specs.Step.{Step, StepOrWord, refused_step, unless_refused}
use Rattle.world_items.specs.declared.word.Word.TheVariants.{NoMessage}

-- a message that was sent, without what it says: a part goes out, or comes back, or a worker is to
-- give a spawn up, or one of these is answered
pub data Tag : Type 0 where
  Submit : ℕ → Tag
  Return : ℕ → Tag
  Abort : ℕ → Tag
  ToSubmit : ℕ → Tag
  ToReturn : ℕ → Tag
  ToAbort : ℕ → Tag

-- a reply with nothing sent, and one with a message
abbrev pub quiet_step : Reply → PlainState → Step PlainState Tag
quiet_step reply next = record { reply = Ok reply; sent = None; next = next }

abbrev pub sending_step : Reply → PlainState → Tag → Step PlainState Tag
sending_step reply next tag = record { reply = Ok reply; sent = Some tag; next = next }

-- ---- the master

-- why the master can't change what has an id, if it can't: a spawn holds it
abbrev pub not_held : PlainState → List ℕ → Option Refusal
not_held p x = option_map_or held_refusal (p.holder x) None

-- why an edit of the master is refused, if it is
abbrev pub edit_refusal : Edit → PlainState → Option Refusal
edit_refusal e p =
    first_of
    (unknown_refusal e (plain_lookups p.tree) ∷ not_held p (target e)
    ∷ later_refusal e (plain_lookups p.tree) ∷ [])

-- why a spawn is refused, if it is: the order's resources are asked for as they are listed
abbrev pub spawn_refusal : List ℕ → List ℕ → List (List ℕ) → PlainState → Option Refusal
spawn_refusal n worker rw p =
    first_of
    (unless (mem worker p.workers) UnknownWorker
    ∷ unless (stands (nodes_in p.tree) n) UnknownNode
    ∷ unless (is_some (up (nodes_in p.tree) n)) IsRoot
    ∷ unless (list_all (stands (resources_in p.tree)) rw) UnknownResource
    ∷ unless (list_all (λ x. mem x (ids_of (linked_outside p.tree n))) rw) NotLinked
    ∷ first_of (map (not_held p) (ids_of (claim p.tree n rw)))
    ∷ unless (is_spawn_number (next_number p)) TooManySpawns ∷ [])

-- why a part isn't sent once more, nor its worker asked to give it up, if it isn't: its spawn isn't
-- out
abbrev pub resend_refusal : ℕ → PlainState → Option Refusal
resend_refusal s p = unless (option_map_or (λ a. is_out a.phase) (spawn_of s p) false) NotOut

-- the master on an order
abbrev pub master_does : master_order.Order → ℕ → PlainState → Step PlainState Tag
master_does (to_master.Edit e) at p =
    unless_refused (edit_refusal e p) p (quiet_step reply.Edited (after_edit e at p))
master_does (to_master.Spawn n worker rw) at p =
    unless_refused (spawn_refusal n worker rw p) p
    (sending_step (reply.Spawned (next_number p)) (after_spawn n worker rw at p) (Submit (next_number p)))
master_does (to_master.Resend s) at p =
    unless_refused (resend_refusal s p) p (sending_step (reply.Sent s) p (Submit s))
master_does (to_master.Withdraw s) at p =
    unless_refused (resend_refusal s p) p (sending_step (reply.Asked s) p (Abort s))

-- ---- a worker

-- whether a spawn has a number, went to the worker of a name, and was taken there
abbrev pub is_taken_by : List ℕ → ℕ → SpawnState → Bool
is_taken_by name s a = has_number s a && bytes_eq a.worker name && is_taken a.phase

-- whether a spawn holds the target of an edit: a node where a node is meant, else a resource
abbrev pub is_held : Edit → SpawnState → PlainState → Bool
is_held e a p =
    stands (if is_of_node e then nodes_in p.tree else resources_in p.tree) (target e)
    && is_held_by a.number p.holder (target e)

-- whether the target of an edit is a resource of which the spawn has a copy to read
abbrev pub is_to_read : Edit → SpawnState → PlainState → Bool
is_to_read e a p =
    not (is_of_node e) && mem (target e) (ids_of (linked_ro p.tree a.node a.rw))

-- why an edit of a worker is refused, if it is
abbrev pub work_refusal : Edit → SpawnState → PlainState → Option Refusal
work_refusal e a p =
    first_of
    (unless (is_open a.phase) NotOpen ∷ unless (not (is_structural e)) NotForWorkers
    ∷ unless (is_held e a p || is_to_read e a p) NotInPart
    ∷ unless (not (is_to_read e a p)) ReadOnly ∷ later_refusal e (plain_lookups p.tree) ∷ [])

-- why a part isn't given back once more, if it isn't: it is open, or the worker has given it up
abbrev pub back_refusal : Phase → Option Refusal
back_refusal phase =
    first_of
    (unless (not (is_open phase)) NotDone ∷ unless (not (is_closed phase)) Acknowledged ∷ [])

-- the worker on an order about a spawn that it took
abbrev pub on_order : worker_order.Order → ℕ → PlainState → SpawnState → Step PlainState Tag
on_order (to_worker.Edit s e) at p a =
    unless_refused (work_refusal e a p) p (quiet_step reply.Edited (after_work e at p))
on_order (to_worker.Finish s how) at p a =
    unless_refused (unless (is_open a.phase) NotOpen) p
    (sending_step (reply.Finished s) (after_finish how at a p) (Return s))
on_order (to_worker.Resend s) at p a =
    unless_refused (back_refusal a.phase) p (sending_step (reply.Sent s) p (Return s))

-- the worker of a name on an order
abbrev pub worker_does : List ℕ → worker_order.Order → ℕ → PlainState → Step PlainState Tag
worker_does name o at p =
    option_map_or (on_order o at p) (find (is_taken_by name (spawn_of_order o)) p.spawns)
    (refused_step UnknownEntry p)

-- ---- a message

-- what a command is taken as that came before: by a worker that took the part, or declined it
abbrev pub repeat_reply : SpawnState → Reply
repeat_reply a = if is_taken a.phase then reply.Again a.number else reply.Declined a.number

-- a part comes to the worker: it is taken, or it was before, or it was declined
abbrev pub on_submit : PlainState → SpawnState → Step PlainState Tag
on_submit p a =
    if is_away a.phase
    then sending_step (reply.Taken a.number) (after_taking a.number p) (ToSubmit a.number)
    else sending_step (repeat_reply a) p (ToSubmit a.number)

-- the worker is to give a spawn up: one that it hasn't taken it declines, and the work on one that
-- is open ends
abbrev pub on_abort : ℕ → PlainState → SpawnState → Step PlainState Tag
on_abort at p a =
    if is_away a.phase
    then sending_step (reply.Declined a.number) (after_decline a.number p) (ToAbort a.number)
    else (if is_open a.phase
    then sending_step (reply.Ended a.number) (after_finish Aborted at a p) (ToAbort a.number)
    else sending_step (repeat_reply a) p (ToAbort a.number))

-- a part comes back to the master: it is put in, or it was before. None comes back that isn't
-- finished; as if it was put in before
abbrev pub on_return : ℕ → PlainState → SpawnState → Step PlainState Tag
on_return at p a =
    if is_done a.phase
    then sending_step (reply.Merged a.number) (after_merge at a p) (ToReturn a.number)
    else sending_step (reply.Already a.number) p (ToReturn a.number)

-- the worker is told that a part came back: it gives up one that was put in. It isn't told so of
-- another; as if it was told before
abbrev pub on_return_answer : PlainState → SpawnState → Step PlainState Tag
on_return_answer p a =
    quiet_step (reply.Acked a.number) (if is_merged a.phase then after_close a.number p else p)

-- the master is told what came of a spawn that was to be given up: it takes back one that was
-- declined
abbrev pub on_abort_answer : ℕ → PlainState → SpawnState → Step PlainState Tag
on_abort_answer at p a =
    if is_declined a.phase
    then quiet_step (reply.Freed a.number) (after_withdrawal at a p)
    else quiet_step (reply.Noted a.number) p

-- what comes of a spawn, by its number. No message tells of one that there isn't; as if none came
abbrev pub step_on_spawn : ℕ → PlainState → (SpawnState → Step PlainState Tag) → StepOrWord PlainState Tag
step_on_spawn s p f = option_map_or (λ a. Ok (f a)) (spawn_of s p) (Err NoMessage)

-- a message comes to its receiver
abbrev pub on_message : ℕ → PlainState → Tag → StepOrWord PlainState Tag
on_message at p (Submit s) = step_on_spawn s p (on_submit p)
on_message at p (Return s) = step_on_spawn s p (on_return at p)
on_message at p (Abort s) = step_on_spawn s p (on_abort at p)
on_message at p (ToSubmit s) = Ok (quiet_step (reply.Noted s) p)
on_message at p (ToReturn s) = step_on_spawn s p (on_return_answer p)
on_message at p (ToAbort s) = step_on_spawn s p (on_abort_answer at p)
