use Rattle.std.proofs.Common.{◌≡◌, ◌∙◌, IfOk, ap, option_to_list, subst}
use Rattle.std.specs.List.{flat_map}
use Rattle.ticket_rows.specs.Homes.{resource_of}
use Rattle.spawn.proofs.InOrder.{found_in_order}
use Rattle.spawn.proofs.parts.part_rows.resources_to_change.Goals as goal

pub returns : goal.returns
returns c =
    let rows = c.args.ticket.now.rows in
    subst (λ xs. IfOk c.resources_of.result (λ v. v.items ≡ xs)) (ap (flat_map (λ x. option_to_list (resource_of rows x))) c.as_slice.ensures ∙ found_in_order rows c.args.spawn.now c.requires.valid c.requires.good) c.resources_of.ensures
