-- What an order or a message that isn't refused says.
use Rattle.std.proofs.Common.{◌≡◌, ◌||◌, ◌&&◌, ℕ, Bool, true, false, cond, not, List, [], ◌∷◌, Option, Some, None, is_some, refl, ap, ◌∙◌}
use Rattle.std.proofs.lemmas.Bool.{true≢false}
use Rattle.std.specs.Option.{option_map_or}
use Rattle.std.specs.Str.{bytes_eq}
use Rattle.ticket_items.specs.declared.edit.Edit.{Edit}
use Rattle.ticket_items.specs.declared.refusal.Refusal.{Refusal}
use Rattle.ticket_items.specs.declared.refusal.Refusal.TheVariants.{UnknownNode, UnknownResource, UnknownEntry, NotOpen, ReadOnly, NotInPart, NotForWorkers, NotDone, Acknowledged, WrongMessage, WrongSender}
use Rattle.ticket_items.specs.Act.{Act, NodeChange, ResourceChange, NodeAddition, act_of, act_target, is_act_of_node, is_act_structural}
use Rattle.ticket_items.specs.Edit.{is_structural}
use Rattle.ticket_rows.specs.EditRefusal.{Lookups, act_later, act_refusal, change_refusal, later_refusal}
use Rattle.ticket_rows.specs.PartEdit.{part_lookups}
use Rattle.ticket_rows.specs.Ticket.{first_of, unless}
use Rattle.ticket_tree.specs.Part.{PartCopy, refusal_of_part}
use Rattle.controller.specs.Step.{unless_refused}
use Rattle.controller.specs.declared.message.Message.{Message}
use Rattle.worker_core.specs.Messages.{body_refusal, is_for_worker, take_refusal}
use Rattle.worker_core.specs.Orders.{allowed_step, edit_refusal, entry_refusal, is_here, is_to_read, order_refusal, order_step, part_edit_refusal, resend_refusal, spawn_of_order, work_refusal}
use Rattle.worker_core.specs.Worker.{State, entry_of, is_closed, is_declined, is_open, open_part}
use Rattle.worker_core.specs.declared.entry.Entry.{Entry}
use Rattle.world_items.specs.declared.worker_order.Order.{Order}

-- ---- the entry of an order

found_in : (f : Entry → Option Refusal) (o : Option Entry) → option_map_or f o (Some UnknownEntry) ≡ None → (e : Entry) × (o ≡ Some e) × (f e ≡ None)
found_in f None none = cc
found_in f (Some e) none = (e, refl, none)

taken_free : (b : Bool) (l : Option Refusal) → first_of (unless (not b) UnknownEntry ∷ l ∷ []) ≡ None → (b ≡ false) × (l ≡ None)
taken_free false None e = (refl, refl)
taken_free false (Some r) e = cc
taken_free true l e = cc

-- an order that isn't refused on an entry is of one that wasn't declined
pub work_free : (o : Order) (e : Entry) → entry_refusal o e ≡ None → (is_declined e ≡ false) × (work_refusal o e ≡ None)
work_free o e none = taken_free (is_declined e) (work_refusal o e) none

-- on an entry that wasn't declined an order is refused for the work on it
pub of_taken : (o : Order) (e : Entry) → is_declined e ≡ false → entry_refusal o e ≡ work_refusal o e
of_taken o e taken = ap (λ b. first_of (unless (not b) UnknownEntry ∷ work_refusal o e ∷ [])) taken ∙ one_first (work_refusal o e)
  where
    one_first : (l : Option Refusal) → first_of (None ∷ l ∷ []) ≡ l
    one_first None = refl
    one_first (Some r) = refl

-- and on one that was declined as if there were none
pub of_declined : (o : Order) (e : Entry) → is_declined e ≡ true → entry_refusal o e ≡ Some UnknownEntry
of_declined o e declined = ap (λ b. first_of (unless (not b) UnknownEntry ∷ work_refusal o e ∷ [])) declined

-- an order that isn't refused has its entry, which wasn't declined
pub ordered_on : (o : Order) (entries : List Entry) → order_refusal o entries ≡ None → (e : Entry) × (entry_of entries (spawn_of_order o) ≡ Some e) × (work_refusal o e ≡ None) × (is_declined e ≡ false)
ordered_on o entries none =
    let found = found_in (entry_refusal o) (entry_of entries (spawn_of_order o)) none in
    let free = work_free o found.0 found.2 in
    (found.0, found.1, free.1, free.0)

-- an order is refused for what it is refused for on its entry
pub refused_on : (o : Order) (entries : List Entry) (e : Entry) → entry_of entries (spawn_of_order o) ≡ Some e → order_refusal o entries ≡ entry_refusal o e
refused_on o entries e found = ap (λ f. option_map_or (entry_refusal o) f (Some UnknownEntry)) found

-- ---- a part that is open

-- the entry is, and has the part
pub of_open : (e : Entry) (p : PartCopy) → open_part e ≡ Some p → (is_open e ≡ true) × (e.part ≡ Some p)
of_open e p is = by (is_open e) is
  where
    by : (b : Bool) → cond b e.part None ≡ Some p → (b ≡ true) × (e.part ≡ Some p)
    by true is = (refl, is)
    by false is = cc

pub opened : (e : Entry) (p : PartCopy) → is_open e ≡ true → e.part ≡ Some p → open_part e ≡ Some p
opened e p is_open' has = ap (λ b. cond b e.part None) is_open' ∙ has

-- ---- edits

pub record IsFree (e : Edit) (entry : Entry) : Type 0 where
  pub part : PartCopy
  pub opened : open_part entry ≡ Some part
  pub plain : is_structural e ≡ false
  pub here : is_here e part ≡ true
  pub free : refusal_of_part e part ≡ None

edited_open : (f : PartCopy → Option Refusal) (o : Option PartCopy) → option_map_or f o (Some NotOpen) ≡ None → (p : PartCopy) × (o ≡ Some p) × (f p ≡ None)
edited_open f None none = cc
edited_open f (Some p) none = (p, refl, none)

four_none : (b c d : Bool) (l : Option Refusal) → first_of (unless (not b) NotForWorkers ∷ unless (c || d) NotInPart ∷ unless (not d) ReadOnly ∷ l ∷ []) ≡ None → (b ≡ false) × (c ≡ true) × (l ≡ None)
four_none false true false None e = (refl, refl, refl)
four_none false true false (Some r) e = cc
four_none false true true l e = cc
four_none false false true l e = cc
four_none false false false l e = cc
four_none true c d l e = cc

-- an act on what is here isn't refused, but for its value
plain_free : (a : Act) (at : Lookups) → is_act_structural a ≡ false → cond (is_act_of_node a) (at.has_node (act_target a)) (at.has_resource (act_target a)) ≡ true → act_later a at ≡ None → act_refusal a at ≡ None
plain_free (NodeChange n change) at plain here later = ap (λ b. first_of (unless b UnknownNode ∷ change_refusal change ∷ [])) here ∙ ap (λ o. first_of (None ∷ o ∷ [])) later
plain_free (ResourceChange x change) at plain here later = ap (λ b. first_of (unless b UnknownResource ∷ None ∷ [])) here
plain_free (NodeAddition n addition) at plain here later = absurd (true≢false plain)

pub edit_free : (e : Edit) (entry : Entry) → edit_refusal e entry ≡ None → IsFree e entry
edit_free e entry none =
    let on = edited_open (part_edit_refusal e) (open_part entry) none in
    let p : PartCopy = on.0 in
    let parts = four_none (is_structural e) (is_here e p) (is_to_read e p) (later_refusal e (part_lookups p.rows p.rw)) on.2 in
    record { part = p; opened = on.1; plain = parts.0; here = parts.1; free = plain_free (act_of e) (part_lookups p.rows p.rw) parts.0 parts.1 parts.2 }

-- ---- other orders

only_open : (o : Option PartCopy) → unless (is_some o) NotOpen ≡ None → (p : PartCopy) × (o ≡ Some p)
only_open (Some p) e = (p, refl)
only_open None e = cc

-- what may be finished has a part that is open
pub open_free : (e : Entry) → unless (is_some (open_part e)) NotOpen ≡ None → (p : PartCopy) × (open_part e ≡ Some p)
open_free e none = only_open (open_part e) none

only_done : (a b : Bool) → first_of (unless (not a) NotDone ∷ unless (not b) Acknowledged ∷ []) ≡ None → (a ≡ false) × (b ≡ false)
only_done false false e = (refl, refl)
only_done false true e = cc
only_done true b e = cc

-- what may be given back once more is done
pub done_free : (e : Entry) → resend_refusal e ≡ None → (is_open e ≡ false) × (is_closed e ≡ false)
done_free e none = only_done (is_open e) (is_closed e) none

-- an order that isn't refused is done
pub done_order : (o : Order) (at : ℕ) (w : State) → order_refusal o w.entries ≡ None → order_step o at w ≡ allowed_step o at w
done_order o at w free = ap (λ why. unless_refused why w (allowed_step o at w)) free

-- ---- messages

three_none : (a b : Bool) (l : Option Refusal) → first_of (unless a WrongMessage ∷ unless b WrongSender ∷ l ∷ []) ≡ None → (a ≡ true) × (b ≡ true) × (l ≡ None)
three_none true true None e = (refl, refl, refl)
three_none true true (Some r) e = cc
three_none true false l e = cc
three_none false b l e = cc

-- a message that isn't refused isn't refused for what it says
pub body_free : (m : Message) (w : State) → take_refusal m w ≡ None → body_refusal m.body w.entries ≡ None
body_free m w none = (three_none (bytes_eq m.receiver w.name && is_for_worker m.body) (bytes_eq m.sender w.master) (body_refusal m.body w.entries) none).2

-- it is for the worker, and from its master
abbrev pub is_for : Message → State → Bool
is_for m w = bytes_eq m.receiver w.name && is_for_worker m.body

abbrev pub is_from : Message → State → Bool
is_from m w = bytes_eq m.sender w.master

pub for_free : (m : Message) (w : State) → take_refusal m w ≡ None → is_for m w ≡ true
for_free m w none = (three_none (is_for m w) (is_from m w) (body_refusal m.body w.entries) none).0

pub from_free : (m : Message) (w : State) → take_refusal m w ≡ None → is_from m w ≡ true
from_free m w none = (three_none (is_for m w) (is_from m w) (body_refusal m.body w.entries) none).1
