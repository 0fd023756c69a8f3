-- The form of a shop. In a draft the names may be any bytes, and the ticket's rows no tree's.
use Rattle.std.specs.Prelude.{ℕ, ◌&&◌, Bool, List, [], ◌∷◌, codes, Option, Some}
use Rattle.std.specs.List.{list_all}
use Rattle.std.specs.Option.{option_and_then}
use Rattle.serde_json.specs.Data.{Data}
use Rattle.serde_json.specs.Find.{as_str, get}
use Rattle.ticket_items.specs.FirstFault.{first_of, unless}
use Rattle.ticket_items.specs.Ids.{are_distinct}
use Rattle.ticket_items.specs.Names.{is_name}
use Rattle.ticket_items.specs.declared.refusal.Refusal.{Refusal}
use Rattle.ticket_items.specs.declared.refusal.Refusal.TheVariants.{SameName}
use Rattle.json_items.specs.TicketDraft.{RawTicket, ticket_form as form_of_ticket}
use Rattle.json_items.specs.TicketForm as ticket_form
use Rattle.json_items.specs.Listed.{list_form}
use Rattle.json_source.specs.Read.{◌>>=◌, text_under}
use Rattle.controller_form.specs.declared.openings.raw_shop.RawShop.{RawShop}
use Rattle.controller_form.specs.declared.openings.shop.Shop.{Shop}

-- ---- by members and their kinds alone

-- what stands under `Workers` and `Ticket`
abbrev pub workers_under : Data → Option (List (List ℕ))
workers_under d = option_and_then (list_form as_str) (get (codes "Workers") d)

abbrev pub ticket_under : Data → Option RawTicket
ticket_under d = option_and_then form_of_ticket (get (codes "Ticket") d)

-- a shop in an object that may have other members
unfoldable pub shop_form : Data → Option RawShop
shop_form d = do
  master ← text_under (codes "Master") d
  workers ← workers_under d
  ticket ← ticket_under d
  Some (record { master = master; workers = workers; ticket = ticket })

-- ---- faults

-- whether the names of the controllers, and the ids and names of their ticket, are valid
abbrev pub shop_has_names : RawShop → Bool
shop_has_names s =
    is_name s.master && list_all is_name s.workers && ticket_form.has_names s.ticket

abbrev pub shop_has_texts : RawShop → Bool
shop_has_texts s = ticket_form.has_texts s.ticket

-- what is wrong with a shop whose names and texts are valid: its ticket, or two names that are one
abbrev pub shop_fault : RawShop → Option Refusal
shop_fault s =
    first_of
    (ticket_form.built_fault s.ticket ∷ unless (are_distinct (s.master ∷ s.workers)) SameName ∷ [])

-- ---- built

abbrev pub shop_of : RawShop → Shop
shop_of s = record { master = s.master; workers = s.workers; ticket = s.ticket.job }
