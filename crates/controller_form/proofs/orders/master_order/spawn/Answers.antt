use Rattle.std.proofs.Common.{rules, ◌≡◌, ◌∙◌, ℕ, true, List, None, Option, Some, ap, sym}
use Rattle.std.specs.Prelude.{codes}
use Rattle.std.specs.List.{list_all}
use Rattle.std.specs.Option.{option_and_then, option_map}
use Rattle.serde_json.specs.Data.{Data}
use Rattle.serde_json.specs.Find.{as_str, get}
use Rattle.ticket_items.specs.Names.{is_name}
use Rattle.ticket_items.specs.declared.refusal.Refusal.{Refusal}
use Rattle.json_source.specs.Read.{◌>>=◌, has_only, some_if}
use Rattle.json_items.proofs.Mapped.{mapped}
use Rattle.json_items.proofs.Tests.{all_true}
use Rattle.json_items.specs.Validation.{checked_fault, first_fault, on_both}
use Rattle.json_items.specs.Listed.{list_form}
use Rattle.json_items.specs.Members.{three_form}
use Rattle.world_items.specs.declared.master_order.Order.{Order}
use Rattle.world_items.specs.declared.master_order.Order.TheVariants.{Spawn}
use Rattle.controller_form.specs.Orders.MasterForm.{order_has_names, order_has_texts, spawn_form, spawn_members}
use Rattle.controller_form.proofs.Together.{three_together}
use Rattle.controller_form.proofs.orders.master_order.spawn.Goals as goal

abbrev Parts : Type 0
Parts = (List ℕ × List ℕ) × List (List ℕ)

abbrev make : Parts → Order
make p = Spawn p.0.0 p.0.1 p.1

abbrev fault : Parts → Option Refusal
fault = first_fault (on_both (on_both is_name is_name) (list_all is_name)) (on_both (on_both (λ _. true) (λ _. true)) (list_all (λ _. true)))

abbrev parts : Data → Option Parts
parts d = three_form (codes "Node") as_str (codes "Worker") as_str (codes "RW") (list_form as_str) d

in_parts : (d : Data) → some_if (has_only spawn_members d) ≡ Some tt → spawn_form d ≡ option_map make (parts d)
unfolding spawn_form
in_parts d passed =
    ap (λ o. o >>= λ _. option_and_then as_str (get (codes "Node") d) >>= λ node. option_and_then as_str (get (codes "Worker") d) >>= λ worker. option_and_then (list_form as_str) (get (codes "RW") d) >>= λ rw. Some (Spawn node worker rw)) passed
    ∙ three_together Spawn (option_and_then as_str (get (codes "Node") d)) (option_and_then as_str (get (codes "Worker") d)) (option_and_then (list_form as_str) (get (codes "RW") d))

same_fault : (p : Parts) → first_fault order_has_names order_has_texts (make p) ≡ fault p
same_fault p = ap (λ b. checked_fault (order_has_names (make p)) b None) (sym (all_true p.1))

pub returns : goal.returns
returns g c =
    let d = g.S.Source.content c.args.value.now in
    mapped _ fault (first_fault order_has_names order_has_texts) make (parts d) (spawn_form d) c.in_ok-found.found c.map.result (in_parts d c.in_ok-check_members.ensures.read) same_fault (λ p x h. search rules) c.in_ok-found.ensures c.map.ensures.cases
