-- What a master does with a message, whoever sent it and whatever it says: why it is refused, and
-- else what comes of it.
use Rattle.std.specs.Prelude.{ℕ, ◌&&◌, ◌==◌, Bool, true, false, not, [], ◌∷◌, codes, ⊤}
use Rattle.std.specs.Prelude.{if◌then◌else◌, Option, Some, None, Result, Ok, Err, slice_get}
use Rattle.std.specs.Option.{option_map_or}
use Rattle.std.specs.Str.{bytes_eq}
use Rattle.ticket_items.specs.Refusal.{number_of}
use Rattle.ticket_items.specs.declared.refusal.Refusal.{Refusal}
use Rattle.ticket_items.specs.declared.refusal.Refusal.TheVariants.{Declined, NotOut, UnknownSpawn}
use Rattle.ticket_items.specs.declared.refusal.Refusal.TheVariants.{WrongMessage}
use Rattle.ticket_items.specs.declared.refusal.Refusal.TheVariants.{WrongSender, WrongShape}
use Rattle.ticket_rows.specs.Copies.{with_copies}
use Rattle.ticket_rows.specs.Ticket.{IsValid, first_of, unless}
use Rattle.ticket_tree.specs.Part.{PartCopy}
use Rattle.controller.specs.Reply.{spawn_in}
use Rattle.controller.specs.Step.{Step, Taking, message_step}
pub use Rattle.controller.specs.Words.{is_for_worker}
use Rattle.controller.specs.declared.body.Body.{Body}
use Rattle.controller.specs.declared.body.Body.TheVariants.{Submit, Return, Abort, Answer}
use Rattle.controller.specs.declared.command.Command.{Command}
use Rattle.controller.specs.declared.command.Command.TheVariants as command
use Rattle.controller.specs.declared.message.Message.{Message}
use Rattle.controller.specs.declared.queue_status.QueueStatus.{QueueStatus}
use Rattle.controller.specs.declared.queue_status.QueueStatus.TheVariants as queue
use Rattle.world_items.specs.declared.reply.Reply.TheVariants as reply
use Rattle.spawn.specs.Records.{is_out}
use Rattle.spawn.specs.declared.records.phase.Phase.{Phase}
use Rattle.spawn.specs.declared.records.phase.Phase.TheVariants.{Out, Merged, Withdrawn}
use Rattle.spawn.specs.declared.records.spawn_rec.SpawnRec.{SpawnRec}
use Rattle.merge.specs.Alike.{is_fit}
use Rattle.merge.specs.Put.{put}
use Rattle.merge.specs.Withdrawal.{job_after_withdrawal}
use Rattle.master_core.specs.Master.{State, record_of, with_merged, with_withdrawn}

-- ---- refusals

-- why a part that comes back is refused, if it is, by the phase of its spawn and whether it fits:
-- it has to fit while the spawn is out, isn't looked at once that is merged, and isn't wanted once
-- that is withdrawn
abbrev pub return_refusal : Phase → Bool → Option Refusal
return_refusal Out fits = unless fits WrongShape
return_refusal Merged fits = None
return_refusal Withdrawn fits = Some NotOut

-- why what a message says of a spawn is refused, if it is
abbrev pub body_refusal : Body → State → SpawnRec → Option Refusal
body_refusal (Submit p) w r = None
body_refusal (Return p) w r = return_refusal r.phase (is_fit w.ticket r p)
body_refusal (Abort s) w r = None
body_refusal (Answer c s response) w r = None

-- why a message about a spawn is refused, if it is: it has to come from the spawn's worker
abbrev pub record_refusal : Message → State → SpawnRec → Option Refusal
record_refusal m w r =
    first_of (unless (bytes_eq m.sender r.worker) WrongSender ∷ body_refusal m.body w r ∷ [])

-- why a message is refused, if it is
abbrev pub take_refusal : Message → State → Option Refusal
take_refusal m w =
    first_of
    (unless (bytes_eq m.receiver w.name && not (is_for_worker m.body)) WrongMessage
    ∷ option_map_or (record_refusal m w) (record_of w.records (spawn_in m.body)) (Some UnknownSpawn)
    ∷ [])

-- ---- what becomes of the ticket and the records

-- the part that a message brings back is a valid ticket with its copies, as each part is
abbrev pub IsValidBody : Body → Type 0
IsValidBody (Submit p) = ⊤
IsValidBody (Return p) = IsValid (with_copies p.rows p.rw p.ro)
IsValidBody (Abort s) = ⊤
IsValidBody (Answer c s response) = ⊤

-- the master once a part of a spawn that is out is put in at a time
abbrev pub state_after_merge : PartCopy → ℕ → State → SpawnRec → State
state_after_merge p at w r =
    record w { ticket = put w.ticket r p at; records = with_merged r.id w.records }

-- the master once a spawn that is out is withdrawn at a time
abbrev pub state_after_withdrawal : ℕ → State → SpawnRec → State
state_after_withdrawal at w r =
    record w { ticket = job_after_withdrawal w.ticket r at; records = with_withdrawn r.id w.records }

-- whether the answer to a command tells that its taker declines a spawn that it hasn't begun
abbrev pub is_declined : Command → Result QueueStatus ℕ → Bool
is_declined command.Submit response = false
is_declined command.Return response = false
is_declined command.Abort (Ok status) = false
is_declined command.Abort (Err reason) = reason == number_of Declined

-- the Status of the queue entry of a part that came back: how the work on it ended, as the Status
-- of its node says
abbrev pub end_of_part : PartCopy → QueueStatus
end_of_part p =
    if option_map_or (λ r. bytes_eq r.status (codes "Aborted")) (slice_get p.rows 0) false
    then queue.Aborted else queue.Completed

-- ---- what comes of a message that isn't refused

-- a part of a spawn that is out comes back: it is put in
abbrev pub merge_taking : PartCopy → ℕ → State → SpawnRec → Taking State
merge_taking p at w r =
    record {
      reply = reply.Merged p.spawn_id;
      response = Ok (end_of_part p);
      next = state_after_merge p at w r;
    }

-- a part that was put in before comes back once more
abbrev pub repeat_taking : PartCopy → State → Taking State
repeat_taking p w =
    record { reply = reply.Already p.spawn_id; response = Ok (end_of_part p); next = w }

-- the worker of a spawn that is out declines it: it is withdrawn
abbrev pub withdrawal_taking : ℕ → ℕ → State → SpawnRec → Taking State
withdrawal_taking s at w r =
    record { reply = reply.Freed s; response = Ok queue.Completed; next = state_after_withdrawal at w r }

-- what tells of a spawn is noted alone
abbrev pub note_taking : ℕ → State → Taking State
note_taking s w = record { reply = reply.Noted s; response = Ok queue.Completed; next = w }

-- what comes of the record of a spawn, where it was found and is out, and what comes of it else
abbrev pub while_out : (SpawnRec → Taking State) → Taking State → Option SpawnRec → Taking State
while_out made other found = option_map_or (λ r. if is_out r then made r else other) found other

-- a part comes back
abbrev pub on_return : PartCopy → ℕ → State → Taking State
on_return p at w = while_out (merge_taking p at w) (repeat_taking p w) (record_of w.records p.spawn_id)

-- the worker of a spawn declines it
abbrev pub on_decline : ℕ → ℕ → State → Taking State
on_decline s at w = while_out (withdrawal_taking s at w) (note_taking s w) (record_of w.records s)

-- what comes of a message at a time that isn't refused, by what it says
abbrev pub on_body : Body → ℕ → State → Taking State
on_body (Submit p) at w = note_taking p.spawn_id w
on_body (Return p) at w = on_return p at w
on_body (Abort s) at w = note_taking s w
on_body (Answer c s response) at w = if is_declined c response then on_decline s at w else note_taking s w

-- the master's step on a message at a time
abbrev pub take_step : Message → ℕ → State → Step State Message
take_step m at w = message_step w.name m at (take_refusal m w) w (on_body m.body at w)
