-- Laws of masters: what they may change, what orders and messages change, and what goes out.
use Rattle.std.specs.Prelude.{◌≡◌, ◌⊎◌, ℕ, true, false, List, Some, None, Ok, Err, IfOk}
use Rattle.ticket_items.specs.Refusal.{number_of}
use Rattle.ticket_items.specs.declared.edit.Edit.{Edit}
use Rattle.ticket_items.specs.declared.refusal.Refusal.TheVariants.{Declined}
use Rattle.ticket_items.specs.Edit.{target}
use Rattle.ticket_tree.specs.Part.{PartCopy}
use Rattle.controller.specs.Reply.{is_answer, is_freed}
use Rattle.controller.specs.declared.body.Body.TheVariants.{Return, Answer}
use Rattle.controller.specs.declared.command.Command.TheVariants.{Abort}
use Rattle.controller.specs.declared.message.Message.{Message}
use Rattle.world_items.specs.declared.reply.Reply.TheVariants as reply
use Rattle.spawn.specs.Parts.{part_for}
use Rattle.spawn.specs.Records.{is_out}
use Rattle.spawn.specs.declared.records.spawn_rec.SpawnRec.{SpawnRec}
use Rattle.world_items.specs.declared.holder.Holder.TheVariants as held_by
use Rattle.master_core.specs.Master.{IsConsistent, State, holder, is_spawn_out, may_change}
use Rattle.master_core.specs.Master.{merged_record}
use Rattle.master_core.specs.Master.{record_of, withdrawn_record}
use Rattle.master_core.specs.Messages.{IsValidBody, state_after_merge, state_after_withdrawal}
use Rattle.master_core.specs.Messages.{take_refusal, take_step}
use Rattle.master_core.specs.Orders.{abort_of, order_refusal, order_step, spawn_sent}
use Rattle.master_core.specs.Orders.{spawn_to_give_up}
use Rattle.master_core.specs.Orders.{submit_of}
use Rattle.world_items.specs.declared.master_order.Order.{Order}
use Rattle.world_items.specs.declared.master_order.Order.TheVariants as order

-- ---- what may be changed

-- what the master may change no spawn holds
abbrev pub MayChangeIsHeld : Type 0
MayChangeIsHeld =
    (w : State) (x : List ℕ) → may_change w x ≡ true → holder w x ≡ Some held_by.Master

-- an edit that isn't refused is of what may be changed
abbrev pub EditIsOfHeld : Type 0
EditIsOfHeld =
    (w : State) (e : Edit) → order_refusal (order.Edit e) w ≡ None
    → may_change w (target e) ≡ true

-- ---- what an order changes

-- what always holds of a master holds after an order
abbrev pub OrderIsKept : Type 0
OrderIsKept = (o : Order) (at : ℕ) (w : State) → IsConsistent w → IsConsistent (order_step o at w).next

-- an order changes the record of no spawn, and no part of one that is out
abbrev pub OrderKeepsSpawns : Type 0
OrderKeepsSpawns =
    (o : Order) (at : ℕ) (w : State) (s : ℕ) (r : SpawnRec) → IsConsistent w
    → record_of w.records s ≡ Some r
    → (record_of (order_step o at w).next.records s ≡ Some r)
    × (is_out r ≡ true → part_for (order_step o at w).next.ticket r ≡ part_for w.ticket r)

-- ---- what a message changes

-- what always holds of a master holds after a message
abbrev pub MessageIsKept : Type 0
MessageIsKept =
    (m : Message) (at : ℕ) (w : State) → IsValidBody m.body → IsConsistent w
    → IsConsistent (take_step m at w).next

-- a part that comes back is put in, of a spawn that is out
abbrev pub Merges : Message → ℕ → State → State → Type 0
Merges m at w later =
    (p : PartCopy) × (r : SpawnRec) × (m.body ≡ Return p) × (take_refusal m w ≡ None)
    × (record_of w.records p.spawn_id ≡ Some r) × (is_out r ≡ true)
    × ((take_step m at w).reply ≡ Ok (reply.Merged p.spawn_id)) × (later ≡ state_after_merge p at w r)

-- a spawn that is out is withdrawn, as its worker declines it
abbrev pub Frees : Message → ℕ → State → State → Type 0
Frees m at w later =
    (s : ℕ) × (r : SpawnRec) × (m.body ≡ Answer Abort s (Err (number_of Declined)))
    × (take_refusal m w ≡ None) × (record_of w.records s ≡ Some r) × (is_out r ≡ true)
    × ((take_step m at w).reply ≡ Ok (reply.Freed s)) × (later ≡ state_after_withdrawal at w r)

-- a message changes nothing else
abbrev pub MessageEndsSpawns : Type 0
MessageEndsSpawns =
    (m : Message) (at : ℕ) (w : State)
    → ((take_step m at w).next ≡ w)
    ⊎ (Merges m at w (take_step m at w).next ⊎ Frees m at w (take_step m at w).next)

-- an answer changes nothing but as it frees a spawn
abbrev pub AnswerFreesAlone : Type 0
AnswerFreesAlone =
    (m : Message) (at : ℕ) (w : State) → is_answer m.body ≡ true
    → IfOk (take_step m at w).reply (λ r. is_freed r ≡ false) → (take_step m at w).next ≡ w

-- a message changes the record of a spawn only as it merges or frees it, which was out, and no part
-- of one that stays out
abbrev pub MessageKeepsSpawns : Type 0
MessageKeepsSpawns =
    (m : Message) (at : ℕ) (w : State) (s : ℕ) (r : SpawnRec) → IsValidBody m.body → IsConsistent w
    → record_of w.records s ≡ Some r
    → ((is_out r ≡ true) × ((take_step m at w).reply ≡ Ok (reply.Merged s))
    × (record_of (take_step m at w).next.records s ≡ Some (merged_record r)))
    ⊎ (((is_out r ≡ true) × ((take_step m at w).reply ≡ Ok (reply.Freed s))
    × (record_of (take_step m at w).next.records s ≡ Some (withdrawn_record r)))
    ⊎ ((record_of (take_step m at w).next.records s ≡ Some r)
    × (is_out r ≡ true → part_for (take_step m at w).next.ticket r ≡ part_for w.ticket r)))

-- ---- merged once

-- once a part is put in its spawn isn't out
abbrev pub MergedIsIn : Type 0
MergedIsIn =
    (m : Message) (at : ℕ) (w : State) (s : ℕ) → (take_step m at w).reply ≡ Ok (reply.Merged s)
    → (is_spawn_out w.records s ≡ true) × (is_spawn_out (take_step m at w).next.records s ≡ false)

-- what has come in stays so, whatever is ordered or comes
abbrev pub InStaysIn : Type 0
InStaysIn =
    (w : State) (s : ℕ) (r : SpawnRec) → record_of w.records s ≡ Some r → is_out r ≡ false
    → ((o : Order) (at : ℕ) → record_of (order_step o at w).next.records s ≡ Some r)
    × ((m : Message) (at : ℕ) → record_of (take_step m at w).next.records s ≡ Some r)

-- a part that comes back once more, whatever it holds, changes nothing and was put in before
abbrev pub ReturnIsAlready : Type 0
ReturnIsAlready =
    (m : Message) (at : ℕ) (w : State) (p : PartCopy) → m.body ≡ Return p → take_refusal m w ≡ None
    → is_spawn_out w.records p.spawn_id ≡ false
    → ((take_step m at w).next ≡ w) × ((take_step m at w).reply ≡ Ok (reply.Already p.spawn_id))

-- ---- what goes out

-- what goes out is made of the record of the new spawn, or of the one that is sent once more, as it
-- is after the order; and that spawn is out
abbrev pub SubmitIsOfRecord : Type 0
SubmitIsOfRecord =
    (o : Order) (at : ℕ) (w : State) (s : ℕ) → IsConsistent w → order_refusal o w ≡ None
    → spawn_sent o w ≡ Some s
    → (r : SpawnRec) × (record_of (order_step o at w).next.records s ≡ Some r) × (is_out r ≡ true)
    × ((order_step o at w).sent ≡ Some (submit_of w.name (order_step o at w).next.ticket r))

-- what asks a worker to give a spawn up is made of the record of that, which is out
abbrev pub AbortIsOfRecord : Type 0
AbortIsOfRecord =
    (o : Order) (at : ℕ) (w : State) (s : ℕ) → order_refusal o w ≡ None → spawn_to_give_up o ≡ Some s
    → (r : SpawnRec) × (record_of w.records s ≡ Some r) × (is_out r ≡ true)
    × ((order_step o at w).sent ≡ Some (abort_of w.name r))

-- and where no spawn is sent or asked for nothing goes out
abbrev pub NothingIsSent : Type 0
NothingIsSent =
    (o : Order) (at : ℕ) (w : State) → spawn_sent o w ≡ None → spawn_to_give_up o ≡ None
    → (order_step o at w).sent ≡ None
