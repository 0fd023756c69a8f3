use Rattle.std.proofs.Common.{◌≡◌, true, Bool, Option, List, ℕ, refl}
use Rattle.std.specs.Prelude.{codes}
use Rattle.std.specs.Option.{option_map}
use Rattle.serde_json.specs.Data.{Data}
use Rattle.serde_json.specs.Find.{get, as_str}
use Rattle.ticket_items.specs.Attrs.{Pairs}
use Rattle.ticket_items.specs.Names.{is_name}
use Rattle.ticket_items.specs.declared.refusal.Refusal.{Refusal}
use Rattle.ticket_items.specs.declared.resource.Resource.{Resource}
use Rattle.json_source.specs.Read.{attrs_of}
use Rattle.json_items.proofs.Faults.{made_ok, made_err, five_together}
use Rattle.json_items.specs.Attributes.{attrs_have_names, attrs_have_texts}
use Rattle.json_items.specs.Validation.{both_read, first_fault, on_both}
use Rattle.json_items.specs.Members.{four_form}
use Rattle.json_items.specs.Resources.{own_resource, resource_has_names, resource_has_texts}
use Rattle.json_items.proofs.resources.resource_form.ResourceForm.find.Goals as goal

abbrev Parts : Type 0
Parts = (((List ℕ × List ℕ) × List ℕ) × List ℕ) × Pairs

abbrev make : Parts → Resource
make p = record { class = p.0.0.0.0; id = p.0.0.0.1; name = p.0.0.1; status = p.0.1; attrs = p.1 }

abbrev names : ((List ℕ × List ℕ) × List ℕ) × List ℕ → Bool
names = on_both (on_both (on_both is_name is_name) is_name) is_name

abbrev texts : ((List ℕ × List ℕ) × List ℕ) × List ℕ → Bool
texts = on_both (on_both (on_both (λ _. true) (λ _. true)) (λ _. true)) (λ _. true)

abbrev fault : Parts → Option Refusal
fault = first_fault (on_both names attrs_have_names) (on_both texts attrs_have_texts)

abbrev four : Data → Option (((List ℕ × List ℕ) × List ℕ) × List ℕ)
four = four_form (codes "Class") as_str (codes "ID") as_str (codes "Name") as_str (codes "Status") as_str

abbrev attrs : Data → Option Pairs
attrs d = attrs_of (get (codes "Attr") d)

in_parts : (d : Data) → own_resource d ≡ option_map make (both_read (four d) (attrs d))
unfolding own_resource
in_parts d = five_together (λ class id name status attrs. record { class = class; id = id; name = name; status = status; attrs = attrs }) _ _ _ _ (attrs d)

same_fault : (p : Parts) → first_fault resource_has_names resource_has_texts (make p) ≡ fault p
unfolding resource_has_names resource_has_texts
same_fault p = refl

pub returns : goal.returns
returns g c =
    let d = g.S.Source.content c.args.value.now in
    made_ok fault (first_fault resource_has_names resource_has_texts) make (both_read (four d) (attrs d)) (own_resource d) c.zip.result c.in-Ok.found _ (in_parts d) same_fault c.in-Ok.is
    (c.zip.ensures names texts (four d) attrs_have_names attrs_have_texts (attrs d) c.in_ok-names.ensures c.in_ok-attrs.ensures)
    refl

pub returns-in-Err : goal.returns-in-Err
returns-in-Err g c =
    let d = g.S.Source.content c.args.value.now in
    made_err fault (first_fault resource_has_names resource_has_texts) make (both_read (four d) (attrs d)) (own_resource d) c.zip.result _ (in_parts d) same_fault c.in-Err.is
    (c.zip.ensures names texts (four d) attrs_have_names attrs_have_texts (attrs d) c.in_ok-names.ensures c.in_ok-attrs.ensures)
