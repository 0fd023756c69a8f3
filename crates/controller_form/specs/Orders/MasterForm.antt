-- The form of a master's orders, and the order that JSON data is. By its form the ids, names and
-- texts may be any bytes, and the spawn is 0 where the SpawnID names none.
use Rattle.std.specs.Prelude.{ℕ, ◌&&◌, Bool, true, List, [], ◌∷◌, codes, if◌then◌else◌, Option}
use Rattle.std.specs.Prelude.{Some, None, Result}
use Rattle.std.specs.List.{list_all}
use Rattle.std.specs.Option.{option_and_then, option_map}
use Rattle.std.specs.Str.{bytes_eq}
use Rattle.serde_json.specs.Data.{Data}
use Rattle.serde_json.specs.Find.{as_str, get}
use Rattle.ticket_items.specs.Names.{is_name}
use Rattle.ticket_items.specs.SpawnId.{is_spawn_number}
use Rattle.ticket_items.specs.declared.refusal.Refusal.{Refusal}
use Rattle.json_items.specs.Edits.{edit_form as form_of_edit, edit_has_names, edit_has_texts}
use Rattle.json_items.specs.Validation.{checked_draft, first_fault}
use Rattle.json_items.specs.Listed.{list_form}
use Rattle.json_source.specs.Read.{◌>>=◌, some_if, has_only, text_under}
use Rattle.world_items.specs.declared.master_order.Order.{Order}
use Rattle.world_items.specs.declared.master_order.Order.TheVariants.{Edit, Spawn, Resend, Withdraw}
use Rattle.controller_form.specs.Orders.KnownSpawn.{known_form}

-- ---- by members and their kinds alone

abbrev pub edit_members : List (List ℕ)
edit_members = codes "Edit" ∷ codes "Order" ∷ []

-- to edit the ticket
unfoldable pub edit_form : Data → Option Order
edit_form d = do
  _ ← some_if (has_only edit_members d)
  e ← option_and_then form_of_edit (get (codes "Edit") d)
  Some (Edit e)

-- the list of texts under `RW`
abbrev pub copies_under : Data → Option (List (List ℕ))
copies_under d = option_and_then (list_form as_str) (get (codes "RW") d)

abbrev pub spawn_members : List (List ℕ)
spawn_members = codes "Node" ∷ codes "Order" ∷ codes "RW" ∷ codes "Worker" ∷ []

-- to send a node to a worker
unfoldable pub spawn_form : Data → Option Order
spawn_form d = do
  _ ← some_if (has_only spawn_members d)
  node ← text_under (codes "Node") d
  worker ← text_under (codes "Worker") d
  copies ← copies_under d
  Some (Spawn node worker copies)

-- an order of the kind that its `Order` names
unfoldable pub master_order_form : Data → Option Order
master_order_form d = text_under (codes "Order") d >>= λ kind.
    if bytes_eq kind (codes "Edit") then edit_form d
    else (if bytes_eq kind (codes "Spawn") then spawn_form d
    else (if bytes_eq kind (codes "Resend") then option_map Resend (known_form d)
    else (if bytes_eq kind (codes "Withdraw") then option_map Withdraw (known_form d) else None)))

-- ---- ids, names and texts

-- whether the ids and names are valid, and the SpawnID names a spawn
abbrev pub order_has_names : Order → Bool
order_has_names (Edit e) = edit_has_names e
order_has_names (Spawn node worker copies) = is_name node && is_name worker
    && list_all is_name copies
order_has_names (Resend s) = is_spawn_number s
order_has_names (Withdraw s) = is_spawn_number s

abbrev pub order_has_texts : Order → Bool
order_has_texts (Edit e) = edit_has_texts e
order_has_texts (Spawn node worker copies) = true
order_has_texts (Resend s) = true
order_has_texts (Withdraw s) = true

-- ---- what data is read as

-- the order that the data is, or its first refusal
abbrev pub master_order_read : Data → Result Order Refusal
master_order_read d = checked_draft (first_fault order_has_names order_has_texts) (master_order_form d)
