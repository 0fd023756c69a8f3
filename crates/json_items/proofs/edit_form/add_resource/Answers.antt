use Rattle.std.proofs.Common.{rules, ◌≡◌, true, Option, List, ℕ, Some, refl}
use Rattle.std.specs.Prelude.{codes}
use Rattle.std.specs.Option.{option_map}
use Rattle.serde_json.specs.Data.{Data}
use Rattle.ticket_items.specs.Names.{is_name}
use Rattle.ticket_items.specs.declared.edit.Edit.{Edit}
use Rattle.ticket_items.specs.declared.edit.Edit.TheVariants.{AddResource}
use Rattle.ticket_items.specs.declared.refusal.Refusal.{Refusal}
use Rattle.ticket_items.specs.declared.resource.Resource.{Resource}
use Rattle.json_source.specs.Read.{has_only, some_if, text_under}
use Rattle.json_items.proofs.Faults.{two_together}
use Rattle.json_items.proofs.Mapped.{mapped}
use Rattle.json_items.specs.Edits.{add_resource_form, add_resource_members, edit_has_names, edit_has_texts}
use Rattle.json_items.specs.Validation.{both_read, first_fault, on_both}
use Rattle.json_items.specs.Resources.{own_resource, resource_has_names, resource_has_texts}
use Rattle.json_items.proofs.edit_form.add_resource.Goals as goal

abbrev make : List ℕ × Resource → Edit
make p = AddResource p.0 p.1

abbrev fault : List ℕ × Resource → Option Refusal
fault = first_fault (on_both is_name resource_has_names) (on_both (λ _. true) resource_has_texts)

abbrev edit_fault : Edit → Option Refusal
edit_fault = first_fault edit_has_names edit_has_texts

abbrev parts : Data → Option (List ℕ × Resource)
parts d = both_read (text_under (codes "Node") d) (own_resource d)

in_parts : (d : Data) → some_if (has_only add_resource_members d) ≡ Some tt → add_resource_form d ≡ option_map make (parts d)
unfolding add_resource_form
in_parts d passed = two_together AddResource (some_if (has_only add_resource_members d)) (text_under (codes "Node") d) (own_resource d) passed

pub returns : goal.returns
returns g c =
    let d = g.S.Source.content c.args.value.now in
    mapped _ fault edit_fault make (parts d) (add_resource_form d) c.zip-found.result c.map.result (in_parts d c.in_ok-check_members.ensures.read) (λ p. refl) (λ p x h. search rules)
    (c.zip-found.ensures is_name (λ _. true) (text_under (codes "Node") d) resource_has_names resource_has_texts (own_resource d) c.in_ok-node.ensures c.in_ok-resource.ensures)
    c.map.ensures.cases
