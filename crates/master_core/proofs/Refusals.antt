-- What an order or a message that isn't refused says.
use Rattle.std.proofs.Common.{◌≡◌, ◌∙◌, cond, ℕ, ◌&&◌, Bool, true, false, not, List, [], ◌∷◌, Option, Some, None, is_some, refl, sym, ap}
use Rattle.std.specs.List.{filter}
use Rattle.std.specs.Option.{option_map_or}
use Rattle.std.specs.Str.{bytes_eq}
use Rattle.ticket_items.specs.Ids.{mem}
use Rattle.ticket_items.specs.declared.edit.Edit.{Edit}
use Rattle.ticket_items.specs.Act.{act_of}
use Rattle.ticket_items.specs.declared.node_row.NodeRow.{NodeRow}
use Rattle.ticket_items.specs.declared.refusal.Refusal.{Refusal}
use Rattle.ticket_items.specs.declared.refusal.Refusal.TheVariants.{UnknownWorker, UnknownSpawn, NotOut, WrongMessage, WrongSender}
use Rattle.ticket_items.specs.Edit.{is_of_node, target}
use Rattle.ticket_rows.proofs.Reasons.{named_known}
use Rattle.ticket_rows.specs.Edit.{lookups, refusal_of}
use Rattle.ticket_rows.specs.EditRefusal.{later_refusal, unknown_refusal}
use Rattle.ticket_rows.specs.Homes.{has_resource}
use Rattle.ticket_rows.specs.Place.{Place, is_node, places, place_at}
use Rattle.ticket_rows.specs.Ticket.{first_of, has_node, unless}
use Rattle.ticket_tree.proofs.OnPlaces.{stands_node, stands_resource}
use Rattle.ticket_tree.specs.Part.{PartCopy}
use Rattle.controller.specs.Reply.{spawn_in}
use Rattle.controller.specs.Step.{unless_refused}
use Rattle.controller.specs.declared.body.Body.TheVariants.{Return}
use Rattle.controller.specs.declared.message.Message.{Message}
use Rattle.spawn.specs.Records.{is_out, is_out_phase}
use Rattle.spawn.specs.Spawning.{spawn_refusal}
use Rattle.spawn.specs.Table.{holder_at}
use Rattle.spawn.specs.declared.records.phase.Phase.{Phase}
use Rattle.spawn.specs.declared.records.phase.Phase.TheVariants.{Out, Merged, Withdrawn}
use Rattle.spawn.specs.declared.records.spawn_rec.SpawnRec.{SpawnRec}
use Rattle.world_items.specs.declared.holder.Holder.{Holder}
use Rattle.world_items.specs.declared.holder.Holder.TheVariants as held_by
use Rattle.spawn.proofs.PartKept.{mapped_some}
use Rattle.merge.specs.Alike.{is_fit}
use Rattle.master_core.specs.Master.{State, holder, is_spawn_out, next_number, record_of}
use Rattle.master_core.specs.Messages.{body_refusal, is_for_worker, record_refusal, return_refusal, take_refusal}
use Rattle.master_core.specs.Orders.{allowed_step, edit_refusal, held_refusal, not_held, order_refusal, order_step}
use Rattle.world_items.specs.declared.master_order.Order.{Order}
use Rattle.world_items.specs.declared.master_order.Order.TheVariants as order

-- ---- what an edit names stands in the ticket

stands_at : (b here : Bool) (p : Place) (x : List ℕ) (kept : List Place) (later : Option Place) → bytes_eq p.id x ≡ here → is_some (place_at (cond b (p ∷ kept) kept) x) ≡ true → (is_some (place_at kept x) ≡ true → is_some later ≡ true) → is_some (cond here (Some p) later) ≡ true
stands_at b true p x kept later e there go = refl
stands_at true false p x kept later e there go = go (sym (ap (λ c. is_some (cond c (Some p) (place_at kept x))) e) ∙ there)
stands_at false false p x kept later e there go = go there

-- what stands among those that pass stands among all
kept_stands : (f : Place → Bool) (tree : List Place) (x : List ℕ) → is_some (place_at (filter f tree) x) ≡ true → is_some (place_at tree x) ≡ true
kept_stands f [] x there = there
kept_stands f (p ∷ tree) x there = stands_at (f p) (bytes_eq p.id x) p x (filter f tree) (place_at tree x) refl there (kept_stands f tree x)

node_stands : (rows : List NodeRow) (x : List ℕ) → has_node rows x ≡ true → is_some (place_at (places rows) x) ≡ true
node_stands rows x known = kept_stands is_node (places rows) x (stands_node rows x ∙ known)

resource_stands : (rows : List NodeRow) (x : List ℕ) → has_resource rows x ≡ true → is_some (place_at (places rows) x) ≡ true
resource_stands rows x known = kept_stands (λ p. not (is_node p)) (places rows) x (stands_resource rows x ∙ known)

stands_by : (of_node : Bool) (rows : List NodeRow) (x : List ℕ) → cond of_node (has_node rows x) (has_resource rows x) ≡ true → is_some (place_at (places rows) x) ≡ true
stands_by true rows x known = node_stands rows x known
stands_by false rows x known = resource_stands rows x known

target_stands : (e : Edit) (rows : List NodeRow) → unknown_refusal e (lookups rows) ≡ None → is_some (place_at (places rows) (target e)) ≡ true
target_stands e rows none = stands_by (is_of_node e) rows (target e) (named_known (act_of e) (lookups rows) none)

-- ---- edits

three_none : (a b c : Option Refusal) → first_of (a ∷ b ∷ c ∷ []) ≡ None → (a ≡ None) × (b ≡ None) × (c ≡ None)
three_none None None None e = (refl, refl, refl)
three_none None None (Some r) e = cc
three_none None (Some r) c e = cc
three_none (Some r) b c e = cc

masters : (h : Option Holder) → is_some h ≡ true → option_map_or held_refusal h None ≡ None → h ≡ Some held_by.Master
masters None known none = cc
masters (Some held_by.Master) known none = refl
masters (Some (held_by.Spawn s)) known none = cc

pub record IsFree (w : State) (e : Edit) : Type 0 where
  pub rows : refusal_of e w.ticket.rows ≡ None
  pub held : holder w (target e) ≡ Some held_by.Master

-- an edit that isn't refused isn't by the ticket either, and the master holds its target
pub edit_free : (e : Edit) (w : State) → edit_refusal e w ≡ None → IsFree w e
edit_free e w none =
    let at = lookups w.ticket.rows in
    let parts = three_none (unknown_refusal e at) (not_held w (target e)) (later_refusal e at) none in
    let stands = target_stands e w.ticket.rows parts.0 in
    record {
      rows = ap (λ o. first_of (o ∷ later_refusal e at ∷ [])) parts.0 ∙ ap (λ o. first_of (None ∷ o ∷ [])) parts.2;
      held = masters (holder w (target e)) (mapped_some (holder_at w.records) (place_at (places w.ticket.rows) (target e)) ∙ stands) parts.1;
    }

-- ---- other orders

two_none : (a : Bool) (l : Option Refusal) → first_of (unless a UnknownWorker ∷ l ∷ []) ≡ None → (a ≡ true) × (l ≡ None)
two_none true None e = (refl, refl)
two_none true (Some r) e = cc
two_none false l e = cc

-- a spawn that isn't refused goes to a worker, and the ticket doesn't refuse it
pub spawn_free : (w : State) (node worker : List ℕ) (rw : List (List ℕ)) → order_refusal (order.Spawn node worker rw) w ≡ None
    → (mem worker w.workers ≡ true) × (spawn_refusal w.ticket.rows w.records (next_number w.records) node rw ≡ None)
spawn_free w node worker rw none = two_none (mem worker w.workers) (spawn_refusal w.ticket.rows w.records (next_number w.records) node rw) none

only_out : (a : Bool) → unless a NotOut ≡ None → a ≡ true
only_out true e = refl
only_out false e = cc

-- what is sent once more, or is to be given up, is out
pub resend_free : (w : State) (s : ℕ) → order_refusal (order.Resend s) w ≡ None → is_spawn_out w.records s ≡ true
resend_free w s none = only_out (is_spawn_out w.records s) none

pub withdraw_free : (w : State) (s : ℕ) → order_refusal (order.Withdraw s) w ≡ None → is_spawn_out w.records s ≡ true
withdraw_free w s none = only_out (is_spawn_out w.records s) none

-- an order that isn't refused is done
pub done_order : (o : Order) (at : ℕ) (w : State) → order_refusal o w ≡ None → order_step o at w ≡ allowed_step o at w
done_order o at w free = ap (λ why. unless_refused why w (allowed_step o at w)) free

-- ---- messages

record_there : (f : SpawnRec → Option Refusal) (o : Option SpawnRec) (a : Bool) → first_of (unless a WrongMessage ∷ option_map_or f o (Some UnknownSpawn) ∷ []) ≡ None → (r : SpawnRec) × (o ≡ Some r) × (f r ≡ None)
record_there f o false e = cc
record_there f None true e = cc
record_there f (Some r) true e = (r, refl, one (f r) e)
  where
    one : (l : Option Refusal) → first_of (l ∷ []) ≡ None → l ≡ None
    one None e = refl
    one (Some x) e = cc

sent_free : (a : Bool) (l : Option Refusal) → first_of (unless a WrongSender ∷ l ∷ []) ≡ None → l ≡ None
sent_free true None e = refl
sent_free true (Some r) e = cc
sent_free false l e = cc

-- a message that isn't refused is about a spawn of which there is a record, and isn't refused for
-- what it says
pub take_free : (m : Message) (w : State) → take_refusal m w ≡ None → (r : SpawnRec) × (record_of w.records (spawn_in m.body) ≡ Some r) × (body_refusal m.body w r ≡ None)
take_free m w none =
    let there = record_there (record_refusal m w) (record_of w.records (spawn_in m.body)) (bytes_eq m.receiver w.name && not (is_for_worker m.body)) none in
    (there.0, there.1, sent_free (bytes_eq m.sender there.0.worker) (body_refusal m.body w there.0) there.2)

fit_if_out : (phase : Phase) (fit : Bool) → return_refusal phase fit ≡ None → is_out_phase phase ≡ true → fit ≡ true
fit_if_out Out true e out = refl
fit_if_out Out false e out = cc
fit_if_out Merged fit e out = cc
fit_if_out Withdrawn fit e out = cc

-- and a part that comes back fits while its spawn is out
pub part_free : (p : PartCopy) (w : State) (r : SpawnRec) → body_refusal (Return p) w r ≡ None → is_out r ≡ true → is_fit w.ticket r p ≡ true
part_free p w r none out = fit_if_out r.phase (is_fit w.ticket r p) none out
