use Rattle.std.proofs.Common.{rules, ◌≡◌, ℕ, true, Option, Some, refl}
use Rattle.std.specs.Prelude.{codes}
use Rattle.std.specs.Option.{option_and_then, option_map}
use Rattle.serde_json.specs.Data.{Data}
use Rattle.serde_json.specs.Find.{get}
use Rattle.ticket_items.specs.SpawnId.{is_spawn_number}
use Rattle.ticket_items.specs.declared.edit.Edit.{Edit as TicketEdit}
use Rattle.ticket_items.specs.declared.refusal.Refusal.{Refusal}
use Rattle.json_source.specs.Read.{has_only, some_if}
use Rattle.json_items.proofs.Faults.{two_together}
use Rattle.json_items.proofs.Mapped.{mapped}
use Rattle.json_items.specs.Edits.{edit_form as form_of_edit, edit_has_names, edit_has_texts}
use Rattle.json_items.specs.Validation.{both_read, first_fault, on_both}
use Rattle.world_items.specs.declared.worker_order.Order.{Order}
use Rattle.world_items.specs.declared.worker_order.Order.TheVariants.{Edit}
use Rattle.controller_form.specs.Orders.KnownSpawn.{spawn_under}
use Rattle.controller_form.specs.Orders.WorkerForm.{edit_form, edit_members, order_has_names, order_has_texts}
use Rattle.controller_form.proofs.orders.worker_order.edit.Goals as goal

abbrev Parts : Type 0
Parts = ℕ × TicketEdit

abbrev make : Parts → Order
make p = Edit p.0 p.1

abbrev fault : Parts → Option Refusal
fault = first_fault (on_both is_spawn_number edit_has_names) (on_both (λ _. true) edit_has_texts)

abbrev parts : Data → Option Parts
parts d = both_read (spawn_under (codes "SpawnID") d) (option_and_then form_of_edit (get (codes "Edit") d))

in_parts : (d : Data) → some_if (has_only edit_members d) ≡ Some tt → edit_form d ≡ option_map make (parts d)
unfolding edit_form
in_parts d passed = two_together Edit (some_if (has_only edit_members d)) (spawn_under (codes "SpawnID") d) (option_and_then form_of_edit (get (codes "Edit") d)) passed

pub returns : goal.returns
returns g c =
    let d = g.S.Source.content c.args.value.now in
    mapped _ fault (first_fault order_has_names order_has_texts) make (parts d) (edit_form d) c.in_ok-found.found c.map.result (in_parts d c.in_ok-check_members.ensures.read) (λ p. refl) (λ p x h. search rules) c.in_ok-found.ensures c.map.ensures.cases
