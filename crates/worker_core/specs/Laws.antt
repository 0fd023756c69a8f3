-- Laws of workers: what they may change, what orders and messages change, and what is given back.
use Rattle.std.specs.Prelude.{◌≡◌, ◌==◌, ◌&&◌, ◌⊎◌, ℕ, true, false, List, Some, None}
use Rattle.std.specs.Prelude.{if◌then◌else◌, is_none, is_ok, Ok, Err}
use Rattle.ticket_items.specs.declared.edit.Edit.{Edit}
use Rattle.ticket_items.specs.Edit.{target}
use Rattle.ticket_rows.specs.Place.{places}
use Rattle.ticket_tree.specs.Part.{PartCopy}
use Rattle.ticket_tree.specs.PartView.{own_rows, part_row}
use Rattle.controller.specs.Reply.{answer_to}
use Rattle.controller.specs.declared.body.Body.{Body}
use Rattle.controller.specs.declared.body.Body.TheVariants.{Abort, Answer, Submit}
use Rattle.controller.specs.declared.command.Command.{Command}
use Rattle.controller.specs.declared.message.Message.{Message}
use Rattle.world_items.specs.declared.reply.Reply.TheVariants as reply
use Rattle.worker_core.specs.Messages.{IsValidBody, aborted_entry, again_reply, take_refusal}
use Rattle.worker_core.specs.Messages.{take_step}
use Rattle.worker_core.specs.Orders.{order_refusal, order_step, return_of, spawn_of_order}
use Rattle.worker_core.specs.Worker.{IsConsistent, State, closed_entry, entry_of, has, is_open}
use Rattle.worker_core.specs.Worker.{is_declined, is_ended, may_change, response_of_stage}
use Rattle.world_items.specs.declared.end.End.{End}
use Rattle.worker_core.specs.declared.entry.Entry.{Entry}
use Rattle.world_items.specs.declared.worker_order.Order.{Order}
use Rattle.world_items.specs.declared.worker_order.Order.TheVariants as order
use Rattle.worker_core.specs.declared.stage.Stage.TheVariants.{Open}

-- ---- what may be changed

-- what may be changed through a spawn stands in its entry, which is open
abbrev pub MayChangeIsHeld : Type 0
MayChangeIsHeld =
    (entries : List Entry) (s : ℕ) (x : List ℕ) → may_change entries s x ≡ true
    → (e : Entry) × (p : PartCopy) × (entry_of entries s ≡ Some e) × (e.phase ≡ Open)
    × (e.part ≡ Some p) × (has p x ≡ true)

-- an edit that isn't refused is of what may be changed
abbrev pub EditIsOfHeld : Type 0
EditIsOfHeld =
    (entries : List Entry) (s : ℕ) (e : Edit) → order_refusal (order.Edit s e) entries ≡ None
    → may_change entries s (target e) ≡ true

-- ---- what an order changes

-- a part in which nothing is another that no worker may change: not the job, the spawn, the
-- ancestors, the copies to read or the places
pub record IsSamePart (old new : PartCopy) : Type 0 where
  pub job : new.job_id ≡ old.job_id
  pub spawn : new.spawn_id ≡ old.spawn_id
  pub ancestors : new.ancestors ≡ old.ancestors
  pub ro : new.ro ≡ old.ro
  pub places : places (own_rows new) ≡ places (own_rows old)

-- a part of the entry of a spawn as it may be after an order: it has changed in rows that could be
-- changed alone
pub record IsNextPart (entries : List Entry) (s : ℕ) (old new : PartCopy) : Type 0 where
  pub same : IsSamePart old new
  pub rows : (x : List ℕ) → may_change entries s x ≡ false → part_row new x ≡ part_row old x

-- an entry of a spawn as it may be after an order: the part that it has is as above, it has been
-- finished only if it was open, and once it is finished it stays
pub record IsNext (entries : List Entry) (s : ℕ) (old new : Entry) : Type 0 where
  pub part :
      (p : PartCopy) → old.part ≡ Some p
      → (q : PartCopy) × (new.part ≡ Some q) × IsNextPart entries s p q
  pub phase : (new.phase ≡ old.phase) ⊎ ((old.phase ≡ Open) × (is_open new ≡ false))
  pub finished : is_open old ≡ false → new ≡ old

-- each entry stays, and is as it may be after an order
abbrev pub OrderKeepsEntries : Type 0
OrderKeepsEntries =
    (o : Order) (at : ℕ) (w : State) (s : ℕ) (e : Entry) → IsConsistent w → entry_of w.entries s ≡ Some e
    → (next : Entry) × (entry_of (order_step o at w).next.entries s ≡ Some next)
    × IsNext w.entries s e next

-- what always holds of a worker holds after an order
abbrev pub OrderIsKept : Type 0
OrderIsKept = (o : Order) (at : ℕ) (w : State) → IsConsistent w → IsConsistent (order_step o at w).next

-- ---- what a message changes

-- the entry of a spawn after a message at a time that isn't refused: one whose part, which was
-- given back, has come is closed, and one that is to be given up is ended if it is open
abbrev pub entry_after : ℕ → Body → ℕ → Entry → Entry
entry_after s (Answer c t response) at e = if (t == s) && is_ok response then closed_entry e else e
entry_after s (Abort t) at e = if t == s then aborted_entry at e else e
entry_after s body at e = e

-- each entry stays, but for what a message that isn't refused makes of it
abbrev pub MessageKeepsEntries : Type 0
MessageKeepsEntries =
    (m : Message) (at : ℕ) (w : State) (s : ℕ) (e : Entry) → entry_of w.entries s ≡ Some e
    → entry_of (take_step m at w).next.entries s
    ≡ Some (if is_none (take_refusal m w) then entry_after s m.body at e else e)

-- what always holds of a worker holds after a message
abbrev pub MessageIsKept : Type 0
MessageIsKept = (m : Message) (at : ℕ) (w : State) → IsValidBody m.body → IsConsistent w
    → IsConsistent (take_step m at w).next

-- an answer that tells of a refusal changes nothing
abbrev pub RefusalChangesNothing : Type 0
RefusalChangesNothing =
    (m : Message) (at : ℕ) (w : State) (c : Command) (s reason : ℕ)
    → m.body ≡ Answer c s (Err reason) → (take_step m at w).next ≡ w

-- a part of which there is an entry changes nothing, is taken as one that came again or was
-- declined, and is told how far the entry is
pub record IsAgain (m : Message) (at : ℕ) (w : State) (s : ℕ) (e : Entry) : Type 0 where
  pub state : (take_step m at w).next ≡ w
  pub reply : (take_step m at w).reply ≡ Ok (again_reply s e)
  pub response : (take_step m at w).sent ≡ answer_to w.name m at (response_of_stage e.phase)

abbrev pub SubmitIsAgain : Type 0
SubmitIsAgain =
    (m : Message) (at : ℕ) (w : State) (p : PartCopy) (e : Entry) → m.body ≡ Submit p
    → take_refusal m w ≡ None → entry_of w.entries p.spawn_id ≡ Some e
    → IsAgain m at w p.spawn_id e

-- a part that was taken has an entry, and so the same message changes nothing from then on
abbrev pub SubmitIsTaken : Type 0
SubmitIsTaken =
    (m : Message) (at : ℕ) (w : State) (p : PartCopy) → m.body ≡ Submit p → take_refusal m w ≡ None
    → (e : Entry) × (entry_of (take_step m at w).next.entries p.spawn_id ≡ Some e)
    × (take_refusal m (take_step m at w).next ≡ None)

-- a spawn that is to be given up, of which there is no entry, is declined, and has an entry that
-- says so
abbrev pub AbortIsDeclined : Type 0
AbortIsDeclined =
    (m : Message) (at : ℕ) (w : State) (s : ℕ) → m.body ≡ Abort s → take_refusal m w ≡ None
    → entry_of w.entries s ≡ None
    → ((take_step m at w).reply ≡ Ok (reply.Declined s))
    × ((e : Entry) × (entry_of (take_step m at w).next.entries s ≡ Some e) × (is_declined e ≡ true))

-- and that entry stays as it is, whatever is ordered or comes
abbrev pub DeclinedStays : Type 0
DeclinedStays =
    (w : State) (s : ℕ) (e : Entry) → entry_of w.entries s ≡ Some e → is_declined e ≡ true
    → ((o : Order) (at : ℕ) → IsConsistent w → entry_of (order_step o at w).next.entries s ≡ Some e)
    × ((m : Message) (at : ℕ) → entry_of (take_step m at w).next.entries s ≡ Some e)

-- ---- what is given back

-- a message that goes out is that of the entry as it is after the order, which is finished
abbrev pub ReturnIsOfEntry : Type 0
ReturnIsOfEntry =
    (o : Order) (at : ℕ) (w : State) (m : Message) → (order_step o at w).sent ≡ Some m
    → (e : Entry) × (entry_of (order_step o at w).next.entries (spawn_of_order o) ≡ Some e)
    × (is_ended e ≡ true) × (return_of w.name w.master e ≡ Some m)

-- and so it is the same once more
abbrev pub ResentIsSame : Type 0
ResentIsSame =
    (s : ℕ) (how : End) (at later : ℕ) (w : State)
    → order_refusal (order.Finish s how) w.entries ≡ None
    → (order_step (order.Resend s) later (order_step (order.Finish s how) at w).next).sent
    ≡ (order_step (order.Finish s how) at w).sent
