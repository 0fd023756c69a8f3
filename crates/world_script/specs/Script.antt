-- A script: a shop, and what happens in it.
use Rattle.std.specs.Prelude.{ℕ, ◌&&◌, Bool, true, false, List, [], ◌∷◌, codes, if◌then◌else◌, Option, Some}
use Rattle.std.specs.Prelude.{Result, Err}
use Rattle.std.specs.List.{list_all}
use Rattle.std.specs.Option.{option_and_then, option_map_or}
use Rattle.serde_json.specs.Data.{Data}
use Rattle.serde_json.specs.Find.{get}
use Rattle.ticket_items.specs.declared.refusal.Refusal.{Refusal}
use Rattle.ticket_items.specs.declared.refusal.Refusal.TheVariants.{NotProfile}
use Rattle.json_items.specs.Validation.{checked_fault, checked_value}
use Rattle.json_items.specs.Listed.{list_form}
use Rattle.json_profile.specs.ReadAs as bytes
use Rattle.json_source.specs.Read.{◌>>=◌, some_if, has_only}
use Rattle.controller_form.specs.Openings.ShopForm.{shop_fault, shop_form, shop_has_names}
use Rattle.controller_form.specs.Openings.ShopForm.{shop_has_texts}
use Rattle.controller_form.specs.declared.openings.raw_shop.RawShop.{RawShop}
use Rattle.world_items.specs.declared.event.Event.{Event}
use Rattle.world_script.specs.EventForm.{event_form, event_has_names, event_has_texts}
use Rattle.world_script.specs.EventForm.{event_in, event_runs}
use Rattle.world_script.specs.declared.script.Script.{Script}

-- ---- by members and their kinds alone

-- a shop and its events
pub record RawScript : Type 0 where
  pub shop : RawShop
  pub events : List Event

-- what stands under `Events`
abbrev pub events_under : List ℕ → Data → Option (List Event)
events_under master d = get (codes "Events") d >>= list_form (event_form master)

abbrev pub script_members : List (List ℕ)
script_members = codes "Events" ∷ codes "Master" ∷ codes "Ticket" ∷ codes "Workers" ∷ []

-- a shop, and the events in turn
abbrev pub script_parts : Data → Option (RawShop × List Event)
script_parts d = do
  shop ← shop_form d
  events ← events_under shop.master d
  Some (shop, events)

unfoldable pub script_form : Data → Option RawScript
script_form d = do
  _ ← some_if (has_only script_members d)
  parts ← script_parts d
  Some (record { shop = parts.0; events = parts.1 })

-- the same parts, where controllers may stop or not
abbrev pub events_in : Bool → List ℕ → Data → Option (List Event)
events_in stops master d =
    option_and_then (list_form (event_in stops master)) (get (codes "Events") d)

abbrev pub parts_in : Bool → Data → Option (RawShop × List Event)
parts_in stops d = do
  _ ← some_if (has_only script_members d)
  shop ← shop_form d
  events ← events_in stops shop.master d
  Some (shop, events)

-- ---- faults

-- whether all ids and names, and all texts, are valid
abbrev pub script_has_names : RawScript → Bool
script_has_names s = shop_has_names s.shop && list_all event_has_names s.events

abbrev pub script_has_texts : RawScript → Bool
script_has_texts s = shop_has_texts s.shop && list_all event_has_texts s.events

-- what is wrong with a draft: each fault in all of it before the next one
abbrev pub script_fault : RawScript → Option Refusal
script_fault s = checked_fault (script_has_names s) (script_has_texts s) (shop_fault s.shop)

-- whether no controller stops at any event
abbrev pub runs_on : RawScript → Bool
runs_on s = list_all event_runs s.events

-- ---- what data and bytes are read as

-- the script of a draft
abbrev pub script_of : RawScript → Script
script_of s =
    record {
      master = s.shop.master;
      workers = s.shop.workers;
      ticket = s.shop.ticket.job;
      events = s.events;
    }

-- the script that JSON data is, or its first refusal
abbrev pub script_read : Data → Result Script Refusal
script_read d =
    option_map_or (λ s. checked_value (script_fault s) (script_of s)) (script_form d) (Err NotProfile)

-- the same, of a script in which no controller stops: a stop is refused by its form
abbrev pub running_script_read : Data → Result Script Refusal
running_script_read d =
    option_map_or (λ s. if runs_on s then checked_value (script_fault s) (script_of s) else Err NotProfile)
    (script_form d) (Err NotProfile)

-- the one or the other, where controllers may stop or not
abbrev pub script_in : Bool → Data → Result Script Refusal
script_in true d = script_read d
script_in false d = running_script_read d

-- the bytes are JSON that is read so
abbrev pub IsReadAs : List ℕ → Result Script Refusal → Type 0
IsReadAs b answer = bytes.IsReadAs script_read b answer

-- why bytes are refused: no JSON, the first refusal of their data, or memory ran out
abbrev pub IsRefusalOf : List ℕ → Refusal → Type 0
IsRefusalOf b e = bytes.IsRefusalOf script_read b e

-- the same, of a script in which no controller stops
abbrev pub IsReadAsRunning : List ℕ → Result Script Refusal → Type 0
IsReadAsRunning b answer = bytes.IsReadAs running_script_read b answer

abbrev pub IsRefusalOfRunning : List ℕ → Refusal → Type 0
IsRefusalOfRunning b e = bytes.IsRefusalOf running_script_read b e
