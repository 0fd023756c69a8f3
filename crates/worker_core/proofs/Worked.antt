-- The definitions computed on a small job: the printing of a product was spawned to the press, with its sheets to change and its
-- paper to read.
use Rattle.std.proofs.Common.{◌≡◌, ℕ, true, false, List, [], ◌∷◌, ◌++◌, map, Some, None, Ok, Err, refl}
use Rattle.std.specs.Option.{option_map}
use Rattle.std.specs.Prelude.{codes}
use Rattle.ticket_items.specs.declared.audit.Audit.TheVariants.{Notification}
use Rattle.ticket_items.specs.declared.edit.Edit.TheVariants.{SetStatus, SetResStatus, Note, AddNode}
use Rattle.ticket_items.specs.declared.node_row.NodeRow.{NodeRow}
use Rattle.ticket_items.specs.declared.refusal.Refusal.TheVariants.{UnknownEntry, NotOpen, ReadOnly, NotInPart, NotForWorkers, NotDone, Acknowledged, BadPart, ReservedStatus, WrongMessage, WrongSender}
use Rattle.ticket_items.specs.declared.resource.Resource.{Resource}
use Rattle.ticket_items.specs.declared.usage.Usage.TheVariants.{Input, Output}
use Rattle.ticket_tree.specs.Part.{PartCopy}
use Rattle.controller.specs.declared.body.Body.{Body}
use Rattle.controller.specs.declared.body.Body.TheVariants.{Submit, Return, Abort, Answer}
use Rattle.controller.specs.declared.command.Command.TheVariants as command
use Rattle.controller.specs.declared.message.Message.{Message}
use Rattle.controller.specs.declared.queue_status.QueueStatus.TheVariants.{Running, Completed, Aborted}
use Rattle.world_items.specs.declared.reply.Reply.TheVariants.{Again, Acked, Noted, Taken}
use Rattle.world_items.specs.declared.reply.Reply.TheVariants as reply
use Rattle.worker_core.specs.Messages.{take_step}
use Rattle.worker_core.specs.Orders.{allowed_step, order_refusal}
use Rattle.worker_core.specs.Stored.{is_worker}
use Rattle.worker_core.specs.Worker.{State, may_change, state}
use Rattle.world_items.specs.declared.end.End.TheVariants as end
use Rattle.world_items.specs.declared.worker_order.Order.TheVariants.{Edit, Finish, Resend}
use Rattle.worker_core.specs.declared.stage.Stage.TheVariants.{Open, Done, Closed}
use Rattle.worker_core.specs.declared.stage.Stage.TheVariants as stage

abbrev paper : Resource
paper = record { id = codes "r1"; name = codes "Media"; class = codes "Consumable"; status = codes "Available"; attrs = [] }

abbrev sheets : Resource
sheets = record { id = codes "r2"; name = codes "Component"; class = codes "Quantity"; status = codes "Unavailable"; attrs = [] }

abbrev printing : List ℕ → NodeRow
printing status =
    record {
      id = codes "n1";
      depth = 1;
      kind = codes "ConventionalPrinting";
      job_part = codes "p1";
      status = status;
      attrs = [];
      resources = [];
      links = record { rref = codes "r1"; usage = Input } ∷ record { rref = codes "r2"; usage = Output } ∷ [];
      audits = [];
    }

abbrev part : List ℕ → PartCopy
part status =
    record {
      job_id = codes "J1";
      spawn_id = 1;
      ancestors = record { node_id = codes "n0"; job_part = codes "p0" } ∷ [];
      rows = printing status ∷ [];
      rw = sheets ∷ [];
      ro = paper ∷ [];
    }

abbrev from_to : List ℕ → List ℕ → ℕ → Body → Message
from_to sender receiver at body = record { sender = sender; receiver = receiver; at = at; body = body }

abbrev sent : Message
sent = from_to (codes "mis") (codes "press") 100 (Submit (part (codes "Waiting")))

abbrev press : State
press = state (codes "press") (codes "mis") []

abbrev taken : State
taken = (take_step sent 110 press).next

abbrev done : State
done = (allowed_step (Finish 1 end.Completed) 120 taken).next

abbrev acknowledged : Message
acknowledged = from_to (codes "mis") (codes "press") 150 (Answer command.Return 1 (Ok Completed))

abbrev refusing : Message
refusing = from_to (codes "mis") (codes "press") 150 (Answer command.Return 1 (Err 22))

abbrev closed : State
closed = (take_step acknowledged 150 done).next

-- ---- orders

before : order_refusal (Edit 1 (SetStatus (codes "n1") (codes "InProgress"))) press.entries ≡ Some UnknownEntry
before = refl

to_read : order_refusal (Edit 1 (SetResStatus (codes "r1") (codes "InUse"))) taken.entries ≡ Some ReadOnly
to_read = refl

elsewhere : order_refusal (Edit 1 (SetStatus (codes "n2") (codes "InProgress"))) taken.entries ≡ Some NotInPart
elsewhere = refl

-- a resource's id is no node's, and a node's no resource's
as_node : order_refusal (Edit 1 (SetStatus (codes "r1") (codes "InProgress"))) taken.entries ≡ Some NotInPart
as_node = refl

as_resource : order_refusal (Edit 1 (SetResStatus (codes "n1") (codes "InUse"))) taken.entries ≡ Some NotInPart
as_resource = refl

added : order_refusal (Edit 1 (AddNode (codes "n1") (codes "n3") (codes "Folding") (codes "p3") (codes "Waiting"))) taken.entries ≡ Some NotForWorkers
added = refl

added_elsewhere : order_refusal (Edit 1 (AddNode (codes "n9") (codes "n3") (codes "Folding") (codes "p3") (codes "Spawned"))) taken.entries ≡ Some NotForWorkers
added_elsewhere = refl

reserved : order_refusal (Edit 1 (SetStatus (codes "n1") (codes "Spawned"))) taken.entries ≡ Some ReservedStatus
reserved = refl

reserved_elsewhere : order_refusal (Edit 1 (SetStatus (codes "n2") (codes "Spawned"))) taken.entries ≡ Some NotInPart
reserved_elsewhere = refl

not_done : order_refusal (Resend 1) taken.entries ≡ Some NotDone
not_done = refl

noted : order_refusal (Edit 1 (Note (codes "n1") (codes "washed up"))) taken.entries ≡ None
noted = refl

note : map (λ e. option_map (λ p. map (λ r. r.audits) p.rows) e.part) (allowed_step (Edit 1 (Note (codes "n1") (codes "washed up"))) 115 taken).next.entries ≡ Some ((Notification 115 (codes "washed up") ∷ []) ∷ []) ∷ []
note = refl

not_open : order_refusal (Edit 1 (SetStatus (codes "n1") (codes "Waiting"))) done.entries ≡ Some NotOpen
not_open = refl

added_late : order_refusal (Edit 1 (AddNode (codes "n1") (codes "n3") (codes "Folding") (codes "p3") (codes "Waiting"))) done.entries ≡ Some NotOpen
added_late = refl

finished_twice : order_refusal (Finish 1 end.Aborted) done.entries ≡ Some NotOpen
finished_twice = refl

finished : done.entries ≡ record { spawn_id = 1; phase = Done end.Completed; part = Some (part (codes "Completed")); at = 120 } ∷ []
finished = refl

-- the part comes back with the Status of the end, and is the same once more
returned : (allowed_step (Finish 1 end.Completed) 120 taken).sent ≡ Some (from_to (codes "press") (codes "mis") 120 (Return (part (codes "Completed"))))
returned = refl

resent : (allowed_step (Resend 1) 130 done).sent ≡ Some (from_to (codes "press") (codes "mis") 120 (Return (part (codes "Completed"))))
resent = refl

may : map (may_change taken.entries 1) (codes "n1" ∷ codes "r2" ∷ codes "r1" ∷ codes "n0" ∷ []) ≡ true ∷ true ∷ false ∷ false ∷ []
may = refl

may_late : may_change done.entries 1 (codes "n1") ≡ false
may_late = refl

-- ---- messages

first : (take_step sent 110 press).reply ≡ Ok (Taken 1)
first = refl

entry : taken.entries ≡ record { spawn_id = 1; phase = Open; part = Some (part (codes "Waiting")); at = 110 } ∷ []
entry = refl

first_answer : (take_step sent 110 press).sent ≡ Some (from_to (codes "press") (codes "mis") 110 (Answer command.Submit 1 (Ok Running)))
first_answer = refl

again : (take_step sent 111 taken).reply ≡ Ok (Again 1)
again = refl

again_answer : (take_step sent 111 taken).sent ≡ Some (from_to (codes "press") (codes "mis") 111 (Answer command.Submit 1 (Ok Running)))
again_answer = refl

late_answer : (take_step sent 140 done).sent ≡ Some (from_to (codes "press") (codes "mis") 140 (Answer command.Submit 1 (Ok Completed)))
late_answer = refl

late_state : (take_step sent 140 done).next ≡ done
late_state = refl

acked : (take_step acknowledged 150 done).reply ≡ Ok (Acked 1)
acked = refl

refused : (take_step refusing 150 done).reply ≡ Ok (Noted 1)
refused = refl

refused_state : (take_step refusing 150 done).next ≡ done
refused_state = refl

-- the entry gives up its part, and keeps all else
gave_up : closed.entries ≡ record { spawn_id = 1; phase = Closed end.Completed; part = None; at = 120 } ∷ []
gave_up = refl

acked_again : (take_step acknowledged 160 closed).reply ≡ Ok (Acked 1)
acked_again = refl

acked_again_state : (take_step acknowledged 160 closed).next ≡ closed
acked_again_state = refl

refused_late : (take_step refusing 160 closed).reply ≡ Ok (Noted 1)
refused_late = refl

again_late : (take_step sent 170 closed).reply ≡ Ok (Again 1)
again_late = refl

again_late_answer : (take_step sent 170 closed).sent ≡ Some (from_to (codes "press") (codes "mis") 170 (Answer command.Submit 1 (Ok Completed)))
again_late_answer = refl

again_late_state : (take_step sent 170 closed).next ≡ closed
again_late_state = refl

closed_orders : map (λ o. order_refusal o closed.entries) (Edit 1 (Note (codes "n1") (codes "late")) ∷ Finish 1 end.Aborted ∷ Resend 1 ∷ []) ≡ Some NotOpen ∷ Some NotOpen ∷ Some Acknowledged ∷ []
closed_orders = refl

acked_early : (take_step acknowledged 150 taken).reply ≡ Err NotDone
acked_early = refl

acked_early_state : (take_step acknowledged 150 taken).next ≡ taken
acked_early_state = refl

acked_unknown : (take_step (from_to (codes "mis") (codes "press") 150 (Answer command.Return 2 (Ok Completed))) 150 done).reply ≡ Err UnknownEntry
acked_unknown = refl

-- the receiver is asked for before the sender, and the sender before what is said
other_receiver : (take_step (from_to (codes "mis") (codes "bind") 100 (Submit (part (codes "Waiting")))) 110 press).reply ≡ Err WrongMessage
other_receiver = refl

other_answer : (take_step (from_to (codes "bind") (codes "fold") 100 (Submit (part (codes "Waiting")))) 110 press).sent ≡ Some (from_to (codes "press") (codes "bind") 110 (Answer command.Submit 1 (Err 45)))
other_answer = refl

other_sender : (take_step (from_to (codes "bind") (codes "press") 100 (Submit (record (part (codes "Waiting")) { ancestors = [] }))) 110 press).reply ≡ Err WrongSender
other_sender = refl

came_back : (take_step (from_to (codes "bind") (codes "press") 100 (Return (part (codes "Waiting")))) 110 press).reply ≡ Err WrongMessage
came_back = refl

-- without ancestors it can't have come from a ticket, but what is there already isn't asked for that
bad_part : (take_step (from_to (codes "mis") (codes "press") 100 (Submit (record (part (codes "Waiting")) { ancestors = [] }))) 110 press).reply ≡ Err BadPart
bad_part = refl

bad_again : (take_step (from_to (codes "mis") (codes "press") 100 (Submit (record (part (codes "Waiting")) { ancestors = [] }))) 110 taken).reply ≡ Ok (Again 1)
bad_again = refl

-- ---- to be given up

abbrev asked : Message
asked = from_to (codes "mis") (codes "press") 100 (Abort 1)

abbrev declining : State
declining = (take_step asked 120 press).next

abbrev ended : State
ended = (take_step asked 120 taken).next

-- before the part is taken it is declined, for good
declined : (take_step asked 120 press).reply ≡ Ok (reply.Declined 1)
declined = refl

declined_answer : (take_step asked 120 press).sent ≡ Some (from_to (codes "press") (codes "mis") 120 (Answer command.Abort 1 (Err 38)))
declined_answer = refl

declined_entries : declining.entries ≡ record { spawn_id = 1; phase = stage.Declined; part = None; at = 120 } ∷ []
declined_entries = refl

declined_again : (take_step asked 121 declining).reply ≡ Ok (reply.Declined 1)
declined_again = refl

late_part : (take_step sent 121 declining).reply ≡ Ok (reply.Declined 1)
late_part = refl

late_part_answer : (take_step sent 121 declining).sent ≡ Some (from_to (codes "press") (codes "mis") 121 (Answer command.Submit 1 (Err 38)))
late_part_answer = refl

late_part_state : (take_step sent 121 declining).next ≡ declining
late_part_state = refl

declined_orders : map (λ o. order_refusal o declining.entries) (Edit 1 (Note (codes "n1") (codes "late")) ∷ Finish 1 end.Aborted ∷ Resend 1 ∷ []) ≡ Some UnknownEntry ∷ Some UnknownEntry ∷ Some UnknownEntry ∷ []
declined_orders = refl

acked_declined : (take_step acknowledged 150 declining).reply ≡ Err UnknownEntry
acked_declined = refl

-- the work on an open one ends, and its part goes back as it is sent once more
ends : (take_step asked 120 taken).reply ≡ Ok (reply.Ended 1)
ends = refl

ends_answer : (take_step asked 120 taken).sent ≡ Some (from_to (codes "press") (codes "mis") 120 (Answer command.Abort 1 (Ok Aborted)))
ends_answer = refl

ended_entries : ended.entries ≡ record { spawn_id = 1; phase = Done end.Aborted; part = Some (part (codes "Aborted")); at = 120 } ∷ []
ended_entries = refl

ended_return : (allowed_step (Resend 1) 123 ended).sent ≡ Some (from_to (codes "press") (codes "mis") 120 (Return (part (codes "Aborted"))))
ended_return = refl

-- one that is finished or closed stays so
too_late : map (λ w. (take_step asked 140 w).reply) (ended ∷ done ∷ closed ∷ []) ≡ Ok (Again 1) ∷ Ok (Again 1) ∷ Ok (Again 1) ∷ []
too_late = refl

too_late_answer : (take_step asked 140 done).sent ≡ Some (from_to (codes "press") (codes "mis") 140 (Answer command.Abort 1 (Ok Completed)))
too_late_answer = refl

too_late_states : map (λ w. (take_step asked 140 w).next) (ended ∷ done ∷ closed ∷ []) ≡ ended ∷ done ∷ closed ∷ []
too_late_states = refl

-- a worker asks for nothing to be given up, and is told of none
answer_to_none : (take_step (from_to (codes "mis") (codes "press") 130 (Answer command.Abort 1 (Ok Aborted))) 130 taken).reply ≡ Err WrongMessage
answer_to_none = refl

-- ---- what was stored

stored : map is_worker (press ∷ taken ∷ done ∷ closed ∷ declining ∷ ended ∷ []) ≡ true ∷ true ∷ true ∷ true ∷ true ∷ true ∷ []
stored = refl

same_name : is_worker (record done { master = codes "press" }) ≡ false
same_name = refl

one_spawn : is_worker (record taken { entries = taken.entries ++ done.entries }) ≡ false
one_spawn = refl

other_end : is_worker (record done { entries = record { spawn_id = 1; phase = Done end.Aborted; part = Some (part (codes "Completed")); at = 120 } ∷ [] }) ≡ false
other_end = refl

other_spawn : is_worker (record done { entries = record { spawn_id = 2; phase = Done end.Completed; part = Some (part (codes "Completed")); at = 120 } ∷ [] }) ≡ false
other_spawn = refl

closed_with_part : is_worker (record done { entries = record { spawn_id = 1; phase = Closed end.Completed; part = Some (part (codes "Completed")); at = 120 } ∷ [] }) ≡ false
closed_with_part = refl

declined_with_part : is_worker (record done { entries = record { spawn_id = 1; phase = stage.Declined; part = Some (part (codes "Completed")); at = 120 } ∷ [] }) ≡ false
declined_with_part = refl

done_without_part : is_worker (record done { entries = record { spawn_id = 1; phase = Done end.Completed; part = None; at = 120 } ∷ [] }) ≡ false
done_without_part = refl

unsound : is_worker (record taken { entries = record { spawn_id = 1; phase = Open; part = Some (record (part (codes "Waiting")) { ancestors = [] }); at = 110 } ∷ [] }) ≡ false
unsound = refl
