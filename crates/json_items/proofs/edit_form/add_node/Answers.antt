use Rattle.std.proofs.Common.{rules, ◌≡◌, ◌∙◌, ℕ, true, List, Option, Some, ap, refl}
use Rattle.std.specs.Prelude.{codes}
use Rattle.std.specs.Option.{option_and_then, option_map}
use Rattle.serde_json.specs.Data.{Data}
use Rattle.serde_json.specs.Find.{as_str, get}
use Rattle.ticket_items.specs.Names.{is_name}
use Rattle.ticket_items.specs.declared.edit.Edit.{Edit}
use Rattle.ticket_items.specs.declared.edit.Edit.TheVariants.{AddNode}
use Rattle.ticket_items.specs.declared.refusal.Refusal.{Refusal}
use Rattle.json_source.specs.Read.{◌>>=◌, has_only, some_if, text_under}
use Rattle.json_items.proofs.Faults.{five_together}
use Rattle.json_items.proofs.Mapped.{mapped}
use Rattle.json_items.specs.Edits.{add_node_form, add_node_members, edit_has_names, edit_has_texts}
use Rattle.json_items.specs.Validation.{both_read, first_fault, on_both}
use Rattle.json_items.specs.Members.{four_form}
use Rattle.json_items.proofs.edit_form.add_node.Goals as goal

abbrev Parts : Type 0
Parts = (((List ℕ × List ℕ) × List ℕ) × List ℕ) × List ℕ

abbrev make : Parts → Edit
make p = AddNode p.0.0.1 p.0.0.0.0 p.1 p.0.0.0.1 p.0.1

abbrev fault : Parts → Option Refusal
fault = first_fault (on_both (on_both (on_both (on_both is_name is_name) is_name) is_name) is_name) (on_both (on_both (on_both (on_both (λ _. true) (λ _. true)) (λ _. true)) (λ _. true)) (λ _. true))

abbrev parts : Data → Option Parts
parts d = both_read (four_form (codes "ID") as_str (codes "JobPartID") as_str (codes "Node") as_str (codes "Status") as_str d) (option_and_then as_str (get (codes "Type") d))

in_parts : (d : Data) → some_if (has_only add_node_members d) ≡ Some tt → add_node_form d ≡ option_map make (parts d)
unfolding add_node_form
in_parts d passed =
    ap (λ o. o >>= λ _. text_under (codes "ID") d >>= λ id. text_under (codes "JobPartID") d >>= λ job_part. text_under (codes "Node") d >>= λ node. text_under (codes "Status") d >>= λ status. text_under (codes "Type") d >>= λ kind. Some (AddNode node id kind job_part status)) passed
    ∙ five_together (λ id job_part node status kind. AddNode node id kind job_part status) (text_under (codes "ID") d) (text_under (codes "JobPartID") d) (text_under (codes "Node") d) (text_under (codes "Status") d) (text_under (codes "Type") d)

pub returns : goal.returns
returns g c =
    let d = g.S.Source.content c.args.value.now in
    mapped _ fault (first_fault edit_has_names edit_has_texts) make (parts d) (add_node_form d) c.in_ok-found.found c.map.result (in_parts d c.in_ok-check_members.ensures.read) (λ p. refl) (λ p x h. search rules) c.in_ok-found.ensures c.map.ensures.cases
