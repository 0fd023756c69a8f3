-- The form of an event of a script, and the event that JSON data is. By its form the ids, names and
-- texts may be any bytes, and a spawn is 0 where its SpawnID names none.
use Rattle.std.specs.Prelude.{ℕ, ◌&&◌, ◌||◌, Bool, true, false, List, [], ◌∷◌, codes, if◌then◌else◌}
use Rattle.std.specs.Prelude.{Option, Some, None}
use Rattle.std.specs.Option.{option_map}
use Rattle.std.specs.Str.{bytes_eq}
use Rattle.serde_json.specs.Data.{Data}
use Rattle.serde_json.specs.Find.{as_str, get}
use Rattle.ticket_items.specs.Names.{is_name}
use Rattle.json_source.specs.Read.{◌>>=◌, some_if, has_only, number_under, text_under}
use Rattle.controller_form.specs.Orders.MasterForm as master_form
use Rattle.controller_form.specs.Orders.WorkerForm as worker_form
use Rattle.world_items.specs.declared.event.Event.{Event}
use Rattle.world_items.specs.declared.stop.Stop.{Stop}
use Rattle.world_items.specs.declared.stop.Stop.TheVariants.{Run, BeforeSave, BeforeSend}
use Rattle.world_items.specs.declared.what.What.{What}
use Rattle.world_items.specs.declared.what.What.TheVariants.{MasterOrder, WorkerOrder, Deliver}
use Rattle.world_items.specs.declared.what.What.TheVariants.{Restart}

-- ---- by members and their kinds alone

-- an order to the controller of a name: to the master, whose name is the first, or to a worker
abbrev pub order_to : List ℕ → List ℕ → Data → Option What
order_to master name d =
    if bytes_eq name master then option_map MasterOrder (master_form.master_order_form d)
    else option_map (WorkerOrder name) (worker_form.worker_order_form d)

abbrev pub order_members : List (List ℕ)
order_members = codes "At" ∷ codes "Event" ∷ codes "Order" ∷ codes "Stop" ∷ codes "To" ∷ []

-- a controller is told to do something
unfoldable pub order_form : List ℕ → Data → Option What
order_form master d = do
  _ ← some_if (has_only order_members d)
  name ← text_under (codes "To") d
  order ← get (codes "Order") d
  order_to master name order

abbrev pub deliver_members : List (List ℕ)
deliver_members = codes "At" ∷ codes "Deliver" ∷ codes "Event" ∷ codes "Stop" ∷ []

-- a message is handed to its receiver
unfoldable pub deliver_form : Data → Option What
deliver_form d = do
  _ ← some_if (has_only deliver_members d)
  number ← number_under (codes "Deliver") d
  Some (Deliver number)

abbrev pub restart_members : List (List ℕ)
restart_members = codes "At" ∷ codes "Event" ∷ codes "Stop" ∷ codes "To" ∷ []

-- a controller stops, and is started again
unfoldable pub restart_form : Data → Option What
restart_form d = do
  _ ← some_if (has_only restart_members d)
  name ← text_under (codes "To") d
  Some (Restart name)

-- what happens, of the kind that its `Event` names
unfoldable pub what_form : List ℕ → Data → Option What
what_form master d = text_under (codes "Event") d >>= λ kind.
    if bytes_eq kind (codes "Order") then order_form master d
    else (if bytes_eq kind (codes "Deliver") then deliver_form d
    else (if bytes_eq kind (codes "Restart") then restart_form d else None))

-- where the controller stops, by its word
abbrev pub stop_named : List ℕ → Option Stop
stop_named word =
    if bytes_eq word (codes "Run") then Some Run else
    (if bytes_eq word (codes "BeforeSave") then Some BeforeSave else
    (if bytes_eq word (codes "BeforeSend") then Some BeforeSend else None))

-- the one that stands under `Stop`: it doesn't stop where nothing does
abbrev pub stop_of : Option Data → Option Stop
stop_of None = Some Run
stop_of (Some d) = as_str d >>= stop_named

-- an event of a shop whose master has this name
unfoldable pub event_form : List ℕ → Data → Option Event
event_form master d = do
  at ← number_under (codes "At") d
  stop ← stop_of (get (codes "Stop") d)
  what ← what_form master d
  Some (record { what = what; at = at; stop = stop })

-- ---- ids, names and texts

abbrev pub what_has_names : What → Bool
what_has_names (MasterOrder o) = master_form.order_has_names o
what_has_names (WorkerOrder name o) = is_name name && worker_form.order_has_names o
what_has_names (Deliver number) = true
what_has_names (Restart name) = is_name name

abbrev pub what_has_texts : What → Bool
what_has_texts (MasterOrder o) = master_form.order_has_texts o
what_has_texts (WorkerOrder name o) = worker_form.order_has_texts o
what_has_texts (Deliver number) = true
what_has_texts (Restart name) = true

abbrev pub event_has_names : Event → Bool
event_has_names e = what_has_names e.what

abbrev pub event_has_texts : Event → Bool
event_has_texts e = what_has_texts e.what

-- ---- stops

-- no controller stops
abbrev pub is_run : Stop → Bool
is_run Run = true
is_run _ = false

abbrev pub event_runs : Event → Bool
event_runs e = is_run e.stop

-- an event at which the controller may stop, or not
abbrev pub event_in : Bool → List ℕ → Data → Option Event
event_in stops master d = do
  e ← event_form master d
  _ ← some_if (stops || event_runs e)
  Some e
