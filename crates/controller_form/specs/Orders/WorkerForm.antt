-- The form of a worker's orders, and the order that JSON data is. By its form the ids, names and
-- texts of an edit may be any bytes, and the spawn is 0 where the SpawnID names none.
use Rattle.std.specs.Prelude.{ℕ, ◌&&◌, Bool, true, List, [], ◌∷◌, codes, if◌then◌else◌, Option}
use Rattle.std.specs.Prelude.{Some, None, Result}
use Rattle.std.specs.Option.{option_and_then, option_map}
use Rattle.std.specs.Str.{bytes_eq}
use Rattle.serde_json.specs.Data.{Data}
use Rattle.serde_json.specs.Find.{get}
use Rattle.ticket_items.specs.SpawnId.{is_spawn_number}
use Rattle.ticket_items.specs.declared.refusal.Refusal.{Refusal}
use Rattle.json_items.specs.Edits.{edit_form as form_of_edit, edit_has_names, edit_has_texts}
use Rattle.json_items.specs.Validation.{checked_draft, first_fault}
use Rattle.json_source.specs.Read.{◌>>=◌, some_if, has_only, text_under}
use Rattle.world_items.specs.declared.worker_order.Order.{Order}
use Rattle.world_items.specs.declared.worker_order.Order.TheVariants.{Edit, Finish, Resend}
use Rattle.controller_form.specs.Orders.EndNamed.{end_named}
use Rattle.controller_form.specs.Orders.KnownSpawn.{known_form, spawn_under}

-- ---- by members and their kinds alone

abbrev pub edit_members : List (List ℕ)
edit_members = codes "Edit" ∷ codes "Order" ∷ codes "SpawnID" ∷ []

-- to edit the part of a spawn
unfoldable pub edit_form : Data → Option Order
edit_form d = do
  _ ← some_if (has_only edit_members d)
  s ← spawn_under (codes "SpawnID") d
  e ← option_and_then form_of_edit (get (codes "Edit") d)
  Some (Edit s e)

abbrev pub finish_members : List (List ℕ)
finish_members = codes "Order" ∷ codes "SpawnID" ∷ codes "Status" ∷ []

-- to end the work on it
unfoldable pub finish_form : Data → Option Order
finish_form d = do
  _ ← some_if (has_only finish_members d)
  s ← spawn_under (codes "SpawnID") d
  word ← text_under (codes "Status") d
  end ← end_named word
  Some (Finish s end)

-- an order of the kind that its `Order` names
unfoldable pub worker_order_form : Data → Option Order
worker_order_form d = text_under (codes "Order") d >>= λ kind.
    if bytes_eq kind (codes "Edit") then edit_form d
    else (if bytes_eq kind (codes "Finish") then finish_form d
    else (if bytes_eq kind (codes "Resend") then option_map Resend (known_form d) else None))

-- ---- ids, names and texts

-- whether the SpawnID names a spawn, and the ids and names of the edit are valid
abbrev pub order_has_names : Order → Bool
order_has_names (Edit s e) = is_spawn_number s && edit_has_names e
order_has_names (Finish s end) = is_spawn_number s
order_has_names (Resend s) = is_spawn_number s

abbrev pub order_has_texts : Order → Bool
order_has_texts (Edit s e) = edit_has_texts e
order_has_texts (Finish s end) = true
order_has_texts (Resend s) = true

-- ---- what data is read as

-- the order that the data is, or its first refusal
abbrev pub worker_order_read : Data → Result Order Refusal
worker_order_read d = checked_draft (first_fault order_has_names order_has_texts) (worker_order_form d)
