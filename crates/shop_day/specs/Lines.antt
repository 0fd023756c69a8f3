-- What the lines of a day ask of a shop, and why one gives up.
use Rattle.std.specs.Prelude.{◌≡◌, ◌⊎◌, ℕ, Bool, false, List, if◌then◌else◌, is_some, unwrap_or}
use Rattle.std.specs.Prelude.{MatchBool, Option, None}
use Rattle.std.specs.Option.{option_map}
use Rattle.std.specs.Str.{bytes_eq}
use Rattle.ticket_items.specs.Ids.{mem}
use Rattle.ticket_items.specs.declared.refusal.Refusal.{Refusal}
use Rattle.ticket_items.specs.declared.refusal.Refusal.TheVariants.{Memory}
use Rattle.json_profile.specs.ReadAs.{IsRefusalOf}
use Rattle.controller_form.specs.Orders.MasterForm.{master_order_read}
use Rattle.controller_form.specs.Orders.WorkerForm.{worker_order_read}
use Rattle.streams.specs.declared.refused.Refused.TheVariants.{Core, ReadFailed}
use Rattle.streams.specs.declared.fault.Fault.{Fault}
use Rattle.streams.specs.declared.fault.Fault.TheVariants.{Input, Device}
use Rattle.stored_state.specs.Seat.{IsKeeperFault, read_in}
use Rattle.plain_shop.specs.Replay.{TaggedShop}
use Rattle.plain_shop.specs.Settling.{message_at}
use Rattle.plain_shop.specs.Shop.{PlainState}
use Rattle.world_items.specs.declared.event.Event.{Event}
use Rattle.world_items.specs.declared.stop.Stop.{Stop}
use Rattle.world_items.specs.declared.what.What.{What}
use Rattle.world_items.specs.declared.what.What.TheVariants.{MasterOrder, WorkerOrder}
use Rattle.world_items.specs.declared.what.What.TheVariants.{Deliver, Restart}
use Rattle.shop_day.specs.declared.line.Call.{Call}
use Rattle.shop_day.specs.declared.line.Call.TheVariants.{Order, Take, Show}
use Rattle.shop_day.specs.declared.line.Line.{Line}

-- ---- what a line asks for

-- the order that bytes are for the controller of a name, if there is such a controller and they are
-- one
abbrev pub order_in : PlainState → List ℕ → List ℕ → Option What
order_in p name bytes =
    if bytes_eq name p.master then option_map MasterOrder (read_in master_order_read bytes)
    else (if mem name p.workers
    then option_map (WorkerOrder name) (read_in worker_order_read bytes) else None)

-- whether a line asks for a step: its bytes are an order, or a message of its number was sent
abbrev pub asks_step : Call → TaggedShop → Bool
asks_step (Order name bytes) p = is_some (order_in p.shop name bytes.items)
asks_step (Take k) p = is_some (message_at p.tags k)
asks_step (Show name) p = false

-- what happens by a line. By a look, and by what is no order, a controller is started again
abbrev pub what_of : Call → PlainState → What
what_of (Order name bytes) p = unwrap_or (order_in p name bytes.items) (Restart name)
what_of (Take k) p = Deliver k
what_of (Show name) p = Restart name

-- what happens at a time, where its controller stops so
abbrev pub event : What → ℕ → Stop → Event
event what at stop = record { what = what; at = at; stop = stop }

-- the same by a line
abbrev pub event_of : Line → PlainState → Stop → Event
event_of l p stop = event (what_of l.call p) l.at stop

-- ---- why it gives up

-- memory ran out, or the keeper failed
abbrev pub IsFailed : Fault → Type 0
IsFailed (Input (Core e)) = e ≡ Memory
IsFailed (Device e) = IsKeeperFault e
IsFailed fault = ⊥

-- the bytes are refused as an order, or memory ran out
abbrev pub IsNoOrder : PlainState → List ℕ → List ℕ → Fault → Type 0
IsNoOrder p name bytes fault =
    (e : Refusal) × (fault ≡ Input (Core e))
    × MatchBool (bytes_eq name p.master) (IsRefusalOf master_order_read bytes e)
    (IsRefusalOf worker_order_read bytes e)

-- such; or the bytes are no order, or no message has the number
abbrev pub GivesUp : Call → TaggedShop → Fault → Type 0
GivesUp (Order name bytes) p fault = IsFailed fault ⊎ IsNoOrder p.shop name bytes.items fault
GivesUp (Take k) p fault =
    IsFailed fault ⊎ ((message_at p.tags k ≡ None) × (fault ≡ Device ReadFailed))
GivesUp (Show name) p fault = IsFailed fault
