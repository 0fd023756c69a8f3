-- The form of what a controller is begun of. In a draft the names may be any bytes.
use Rattle.std.specs.Prelude.{ℕ, ◌&&◌, Bool, true, not, List, [], ◌∷◌, codes, Option, Some}
use Rattle.std.specs.Prelude.{is_some, if◌then◌else◌, Result, Err}
use Rattle.std.specs.Option.{option_map_or}
use Rattle.std.specs.Result.{result_map_both}
use Rattle.std.specs.Str.{bytes_eq}
use Rattle.serde_json.specs.Data.{Data}
use Rattle.serde_json.specs.Find.{get}
use Rattle.ticket_items.specs.FirstFault.{unless}
use Rattle.ticket_items.specs.Names.{is_name}
use Rattle.ticket_items.specs.declared.refusal.Refusal.{Refusal}
use Rattle.ticket_items.specs.declared.refusal.Refusal.TheVariants.{NotProfile, SameName}
use Rattle.json_items.specs.Validation.{checked_fault, checked_value}
use Rattle.json_source.specs.Read.{◌>>=◌, some_if, has_only, text_under}
use Rattle.master_core.specs.Master as master
use Rattle.worker_core.specs.Worker as worker
use Rattle.controller_form.specs.Openings.ShopForm.{shop_fault, shop_form, shop_has_names}
use Rattle.controller_form.specs.Openings.ShopForm.{shop_has_texts, shop_of}
use Rattle.controller_form.specs.declared.openings.opening.Opening.{Opening}
use Rattle.controller_form.specs.declared.openings.opening.Opening.TheVariants.{Master, Worker}
use Rattle.controller_form.specs.declared.openings.raw_shop.RawShop.{RawShop}
use Rattle.controller_form.specs.declared.openings.shop.Shop.{Shop}

-- ---- a master

abbrev pub master_members : List (List ℕ)
master_members = codes "Master" ∷ codes "Ticket" ∷ codes "Workers" ∷ []

abbrev pub master_form : Data → Option RawShop
master_form d = some_if (has_only master_members d) >>= λ _. shop_form d

abbrev pub shop_read_fault : RawShop → Option Refusal
shop_read_fault s = checked_fault (shop_has_names s) (shop_has_texts s) (shop_fault s)

-- the shop of a master
abbrev pub shop_read : Data → Result Shop Refusal
shop_read d =
    option_map_or (λ s. checked_value (shop_read_fault s) (shop_of s)) (master_form d) (Err NotProfile)

-- the master of a shop, of whose ticket nothing is out
abbrev pub opening_of_shop : Shop → Opening
opening_of_shop s = Master (master.state s.master s.workers s.ticket [])

abbrev pub master_read : Data → Result Opening Refusal
master_read d = result_map_both opening_of_shop (λ e. e) (shop_read d)

-- ---- a worker

-- the names of a worker and of its master
pub record RawWorker : Type 0 where
  pub name : List ℕ
  pub master : List ℕ

abbrev pub worker_members : List (List ℕ)
worker_members = codes "Master" ∷ codes "Worker" ∷ []

unfoldable pub worker_form : Data → Option RawWorker
worker_form d = do
  _ ← some_if (has_only worker_members d)
  name ← text_under (codes "Worker") d
  master ← text_under (codes "Master") d
  Some (record { name = name; master = master })

abbrev pub worker_has_names : RawWorker → Bool
worker_has_names w = is_name w.name && is_name w.master

abbrev pub worker_late_fault : RawWorker → Option Refusal
worker_late_fault w = unless (not (bytes_eq w.name w.master)) SameName

abbrev pub worker_fault : RawWorker → Option Refusal
worker_fault w = checked_fault (worker_has_names w) true (worker_late_fault w)

-- a worker that has taken nothing
abbrev pub worker_in : RawWorker → Opening
worker_in w = Worker (worker.state w.name w.master [])

abbrev pub worker_read : Data → Result Opening Refusal
worker_read d =
    option_map_or (λ w. checked_value (worker_fault w) (worker_in w)) (worker_form d) (Err NotProfile)

-- ---- either

-- the controller that the data begins, or its first refusal: a worker where there is a member of
-- that name, and else a master
abbrev pub opening_read : Data → Result Opening Refusal
opening_read d =
    if is_some (get (codes "Worker") d) then worker_read d else master_read d
