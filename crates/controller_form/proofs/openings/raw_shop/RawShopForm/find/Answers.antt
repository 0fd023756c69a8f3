use Rattle.std.proofs.Common.{rules, ◌≡◌, ◌&&◌, ℕ, true, List, None, Option, ap, sym}
use Rattle.std.specs.Prelude.{codes}
use Rattle.std.specs.List.{list_all}
use Rattle.std.specs.Option.{option_and_then, option_map}
use Rattle.serde_json.specs.Data.{Data}
use Rattle.serde_json.specs.Find.{as_str, get}
use Rattle.ticket_items.specs.Names.{is_name}
use Rattle.ticket_items.specs.declared.refusal.Refusal.{Refusal}
use Rattle.json_items.proofs.Mapped.{mapped}
use Rattle.json_items.proofs.Tests.{all_true}
use Rattle.json_items.specs.Validation.{checked_fault, first_fault, on_both}
use Rattle.json_items.specs.Listed.{list_form}
use Rattle.json_items.specs.Members.{three_form}
use Rattle.json_items.specs.TicketDraft.{RawTicket, ticket_form as form_of_ticket}
use Rattle.json_items.specs.TicketForm as ticket_form
use Rattle.controller_form.specs.Openings.ShopForm.{shop_form, shop_has_names, shop_has_texts}
use Rattle.controller_form.specs.declared.openings.raw_shop.RawShop.{RawShop}
use Rattle.controller_form.proofs.Together.{three_together}
use Rattle.controller_form.proofs.openings.raw_shop.RawShopForm.find.Goals as goal

abbrev Parts : Type 0
Parts = (List ℕ × List (List ℕ)) × RawTicket

abbrev make : Parts → RawShop
make p = record { master = p.0.0; workers = p.0.1; ticket = p.1 }

abbrev fault : Parts → Option Refusal
fault = first_fault (on_both (on_both is_name (list_all is_name)) ticket_form.has_names) (on_both (on_both (λ _. true) (list_all (λ _. true))) ticket_form.has_texts)

abbrev parts : Data → Option Parts
parts d = three_form (codes "Master") as_str (codes "Workers") (list_form as_str) (codes "Ticket") form_of_ticket d

in_parts : (d : Data) → shop_form d ≡ option_map make (parts d)
unfolding shop_form
in_parts d = three_together (λ master workers ticket. make ((master, workers), ticket)) (option_and_then as_str (get (codes "Master") d)) (option_and_then (list_form as_str) (get (codes "Workers") d)) (option_and_then form_of_ticket (get (codes "Ticket") d))

same_fault : (p : Parts) → first_fault shop_has_names shop_has_texts (make p) ≡ fault p
same_fault p = ap (λ b. checked_fault (shop_has_names (make p)) (b && ticket_form.has_texts p.1) None) (sym (all_true p.0.1))

pub returns : goal.returns
returns g c =
    let d = g.S.Source.content c.args.value.now in
    mapped _ fault (first_fault shop_has_names shop_has_texts) make (parts d) (shop_form d) c.in_ok-found.found c.map.result (in_parts d) same_fault (λ p x h. search rules) c.in_ok-found.ensures c.map.ensures.cases
