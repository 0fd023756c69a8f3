-- What a worker does with a message, whoever sent it and whatever it says: why it is refused, and
-- else what comes of it.
use Rattle.std.specs.Prelude.{ℕ, ◌&&◌, ◌||◌, Bool, true, false, not, List, [], ◌∷◌, ◌++◌}
use Rattle.std.specs.Prelude.{if◌then◌else◌, Option, Some, None, is_some, Result, Ok, Err, ⊤}
use Rattle.std.specs.Option.{option_map_or}
use Rattle.std.specs.Str.{bytes_eq}
use Rattle.ticket_items.specs.declared.refusal.Refusal.{Refusal}
use Rattle.ticket_items.specs.declared.refusal.Refusal.TheVariants.{UnknownEntry, NotDone, BadPart}
use Rattle.ticket_items.specs.declared.refusal.Refusal.TheVariants.{WrongMessage, WrongSender}
use Rattle.ticket_rows.specs.Copies.{with_copies}
use Rattle.ticket_rows.specs.Ticket.{IsValid, first_of, unless}
use Rattle.ticket_tree.specs.Part.{PartCopy, is_sound}
use Rattle.controller.specs.Step.{Step, Taking, message_step}
pub use Rattle.controller.specs.Words.{is_for_worker}
use Rattle.controller.specs.declared.body.Body.{Body}
use Rattle.controller.specs.declared.body.Body.TheVariants.{Submit, Return, Abort, Answer}
use Rattle.controller.specs.declared.message.Message.{Message}
use Rattle.controller.specs.declared.queue_status.QueueStatus.{QueueStatus}
use Rattle.world_items.specs.declared.reply.Reply.{Reply}
use Rattle.world_items.specs.declared.reply.Reply.TheVariants as reply
use Rattle.world_items.specs.declared.end.End.TheVariants as end
use Rattle.worker_core.specs.declared.entry.Entry.{Entry}
use Rattle.worker_core.specs.Orders.{finished_entry}
use Rattle.worker_core.specs.Worker.{State, closed_entry, declined_entry, entry_of, is_declined}
use Rattle.worker_core.specs.Worker.{is_open, new_entry, response_in, with_entry}

-- ---- refusals

-- why a part that goes out is refused, if it is: one of which there is no entry yet has to be sound
abbrev pub part_refusal : List Entry → PartCopy → Option Refusal
part_refusal entries p = unless (is_some (entry_of entries p.spawn_id) || is_sound p) BadPart

-- why an answer that is of an entry is refused, if it is: the work on that has to have ended, and
-- of one that was declined it is as if there were none
abbrev pub ended_refusal : Entry → Option Refusal
ended_refusal e =
    first_of (unless (not (is_declined e)) UnknownEntry ∷ unless (not (is_open e)) NotDone ∷ [])

-- why an answer about a spawn is refused, if it is: it has to be of an entry
abbrev pub answer_refusal : List Entry → ℕ → Option Refusal
answer_refusal entries s = option_map_or ended_refusal (entry_of entries s) (Some UnknownEntry)

-- why what a message says is refused, if it is
abbrev pub body_refusal : Body → List Entry → Option Refusal
body_refusal (Submit p) entries = part_refusal entries p
body_refusal (Return p) entries = None
body_refusal (Abort s) entries = None
body_refusal (Answer c s response) entries = answer_refusal entries s

-- why a message is refused, if it is
abbrev pub take_refusal : Message → State → Option Refusal
take_refusal m w =
    first_of
    (unless (bytes_eq m.receiver w.name && is_for_worker m.body) WrongMessage
    ∷ unless (bytes_eq m.sender w.master) WrongSender
    ∷ body_refusal m.body w.entries ∷ [])

-- ---- what becomes of the entries

-- the part that a message sends out is a valid ticket with its copies, as each part is
abbrev pub IsValidBody : Body → Type 0
IsValidBody (Submit p) = IsValid (with_copies p.rows p.rw p.ro)
IsValidBody (Return p) = ⊤
IsValidBody (Abort s) = ⊤
IsValidBody (Answer c s response) = ⊤

-- an entry that is to be given up at a time: the work on it ends, if it is open
abbrev pub aborted_entry : ℕ → Entry → Entry
aborted_entry at e = if is_open e then finished_entry end.Aborted at e else e

-- ---- what comes of a message that isn't refused

-- it is taken as this and leaves these entries, and its command is told what is told of a spawn in
-- them
abbrev pub taking_with : Reply → ℕ → List Entry → State → Taking State
taking_with r s entries w =
    record { reply = r; response = response_in entries s; next = record w { entries = entries } }

-- what a command is taken as that comes to an entry which it doesn't change: it came before, or its
-- spawn was declined
abbrev pub again_reply : ℕ → Entry → Reply
again_reply s e = if is_declined e then reply.Declined s else reply.Again s

-- a part comes of which there is an entry
abbrev pub repeat_taking : ℕ → State → Entry → Taking State
repeat_taking s w e = taking_with (again_reply s e) s w.entries w

-- a part comes of which there is none: it gets one
abbrev pub entry_taking : PartCopy → ℕ → State → Taking State
entry_taking p at w =
    taking_with (reply.Taken p.spawn_id) p.spawn_id (w.entries ++ new_entry p at ∷ []) w

-- what it is taken as that the spawn of an entry is to be given up
abbrev pub abort_reply : ℕ → Entry → Reply
abort_reply s e = if is_open e then reply.Ended s else again_reply s e

-- the spawn of an entry is to be given up: the work on it ends, if it is open
abbrev pub abort_taking : ℕ → ℕ → State → Entry → Taking State
abort_taking s at w e = taking_with (abort_reply s e) s (with_entry s (aborted_entry at) w.entries) w

-- a spawn without an entry is to be given up: it is declined, for good
abbrev pub decline_taking : ℕ → ℕ → State → Taking State
decline_taking s at w = taking_with (reply.Declined s) s (w.entries ++ declined_entry s at ∷ []) w

-- a part comes
abbrev pub on_submit : PartCopy → ℕ → State → Taking State
on_submit p at w =
    option_map_or (repeat_taking p.spawn_id w) (entry_of w.entries p.spawn_id) (entry_taking p at w)

-- a spawn is to be given up
abbrev pub on_abort : ℕ → ℕ → State → Taking State
on_abort s at w = option_map_or (abort_taking s at w) (entry_of w.entries s) (decline_taking s at w)

-- a part that was given back has come, and its entry is closed; or it was refused, which is noted
abbrev pub on_answer : ℕ → Result QueueStatus ℕ → State → Taking State
on_answer s (Ok status) w = taking_with (reply.Acked s) s (with_entry s closed_entry w.entries) w
on_answer s (Err reason) w = taking_with (reply.Noted s) s w.entries w

-- what comes of a message at a time that isn't refused, by what it says
abbrev pub on_body : Body → ℕ → State → Taking State
on_body (Submit p) at w = on_submit p at w
on_body (Return p) at w = taking_with (reply.Already p.spawn_id) p.spawn_id w.entries w
on_body (Abort s) at w = on_abort s at w
on_body (Answer c s response) at w = on_answer s response w

-- the worker's step on a message at a time
abbrev pub take_step : Message → ℕ → State → Step State Message
take_step m at w = message_step w.name m at (take_refusal m w) w (on_body m.body at w)
