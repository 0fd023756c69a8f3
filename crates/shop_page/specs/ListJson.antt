-- What is open of a shop, as JSON: each member is always there, but the refusal of what wasn't
-- refused.
use Rattle.std.specs.Prelude.{ℕ, ◌-◌, ◌++◌, ◌∷◌, List, [], codes, Option, Some, None}
use Rattle.std.specs.List.{filter}
use Rattle.serde_json.specs.Data.{Data, Members, array, member, no_members, object, string}
use Rattle.serde_json.specs.Written.{compact_text}
use Rattle.ticket_items.specs.SpawnId.{spawn_text}
use Rattle.json_items.specs.Listed.{data_items}
use Rattle.list_text.specs.JsonLine.{number_data, work_data}
use Rattle.shop_page.specs.Delays.{is_late, is_refused, refusal_of}
use Rattle.shop_page.specs.declared.open_work.OpenWork.{OpenWork}
use Rattle.shop_page.specs.declared.shop.Shop.{Shop}

-- members behind the number of a refusal, if there is one
abbrev pub with_refusal : Option ℕ → Members → Members
with_refusal None more = more
with_refusal (Some number) more = member (codes "Refused") (number_data number) more

-- of which work of which controller a message is, which was refused or not, and how old it is
abbrev pub told_delivery : List ℕ → Option ℕ → ℕ → ℕ → Data
told_delivery controller refusal seconds spawn =
    object
    (member (codes "Controller") (string controller)
    (with_refusal refusal
    (member (codes "Seconds") (number_data seconds)
    (member (codes "SpawnID") (string (spawn_text spawn)) no_members))))

-- the same of work at a time
abbrev pub delivery_data : ℕ → OpenWork → Data
delivery_data now w =
    told_delivery w.controller.now (refusal_of w.delivery) (now - w.work.now.at)
    w.work.now.spawn_id

-- open work as a list tells it, without the size of its message
abbrev pub open_data : ℕ → OpenWork → Data
open_data now w = work_data w.name.now None now w.work.now

-- what is open, what of it was refused, and what of it waits too long
abbrev pub list_data : Shop → List OpenWork → Data
list_data shop works =
    object
    (member (codes "At") (number_data shop.now)
    (member (codes "Controllers") (number_data shop.controllers)
    (member (codes "Open") (array (data_items (open_data shop.now) works))
    (member (codes "Refused")
    (array (data_items (delivery_data shop.now) (filter is_refused works)))
    (member (codes "Waiting")
    (array (data_items (delivery_data shop.now) (filter (is_late shop.now) works)))
    no_members)))))

-- the same as a line of text
abbrev pub list_line : Shop → List OpenWork → List ℕ
list_line shop works = compact_text (list_data shop works) ++ 10 ∷ []
