use Rattle.std.proofs.Common.{true}
use Rattle.json_items.specs.Validation.{first_fault}
use Rattle.json_items.specs.Resources.{own_resource, resource_has_names, resource_has_texts}
use Rattle.json_items.specs.Shown.{shown_form}
use Rattle.json_reader.proofs.Findings.{found_of, found_value}
use Rattle.json_reader.proofs.Pools.{marked_found}
use Rattle.json_reader.proofs.found_pool.find_marked.Goals as goal

pub returns : goal.returns
returns g c =
    let d = g.S.Source.content c.args.value.now in
    let found = found_of (first_fault resource_has_names resource_has_texts) c.in_ok-resource.resource (own_resource d) c.in_ok-resource.ensures in
    marked_found d found.0 c.in_ok-resource.resource c.in_ok-shown.shown c.in_ok-check_members.ensures.read found.1
    (found_value (first_fault (λ _. true) (λ _. true)) c.in_ok-find.field-0 c.in_ok-shown.shown (shown_form d) c.in_ok-shown.was c.in_ok-find.ensures) found.2
