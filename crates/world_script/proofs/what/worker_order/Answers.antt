use Rattle.std.proofs.Common.{rules, ◌≡◌, true, List, ℕ, Option, Some, None, refl}
use Rattle.std.specs.Option.{option_map}
use Rattle.ticket_items.specs.Names.{is_name}
use Rattle.ticket_items.specs.declared.refusal.Refusal.{Refusal}
use Rattle.json_items.proofs.Mapped.{mapped}
use Rattle.json_items.specs.Validation.{both_read, first_fault, on_both}
use Rattle.world_items.specs.declared.worker_order.Order.{Order}
use Rattle.controller_form.specs.Orders.WorkerForm.{order_has_names, order_has_texts, worker_order_form}
use Rattle.world_items.specs.declared.what.What.{What}
use Rattle.world_items.specs.declared.what.What.TheVariants.{WorkerOrder}
use Rattle.world_script.specs.EventForm.{what_has_names, what_has_texts}
use Rattle.world_script.proofs.what.worker_order.Goals as goal

abbrev make : List ℕ × Order → What
make p = WorkerOrder p.0 p.1

abbrev fault : List ℕ × Order → Option Refusal
fault = first_fault (on_both is_name order_has_names) (on_both (λ _. true) order_has_texts)

abbrev what_fault : What → Option Refusal
what_fault = first_fault what_has_names what_has_texts

to_one : (name : List ℕ) (order : Option Order) → option_map (WorkerOrder name) order ≡ option_map make (both_read (Some name) order)
to_one name None = refl
to_one name (Some o) = refl

pub returns : goal.returns
returns g c =
    let name = c.args.name.now in
    let order = worker_order_form (g.S.Source.content c.args.value.now) in
    mapped _ fault what_fault make (both_read (Some name) order) (option_map (WorkerOrder name) order) c.zip-found.result c.map.result (to_one name order) (λ p. refl) (λ p x h. search rules)
    (c.zip-found.ensures is_name (λ _. true) (Some name) order_has_names order_has_texts order c.in_ok-name.ensures c.in_ok-order.ensures)
    c.map.ensures.cases
