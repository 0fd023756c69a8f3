use Rattle.std.proofs.Common.{◌∙◌, sym, ap}
use Rattle.std.specs.Option.{option_map}
use Rattle.ticket_rows.proofs.AtHome.{none-found, resource-found, home_row, in_pool}
use Rattle.ticket_rows.proofs.pools.resource.Goals as goal

pub returns-in-None : goal.returns-in-None
returns-in-None c = sym (ap (option_map (λ e. e.0)) (none-found c.args.rows.now c.args.id.now (sym c.in-None.ensures)))

pub returns-in-Some : goal.returns-in-Some
returns-in-Some c =
    let row = home_row c.args.rows.now c.args.id.now c.in-Some.home c.index-rows-home.result (sym c.in-Some.ensures) c.index-rows-home.is in
    c.find_in.ensures ∙ ap (in_pool c.args.id.now) c.as_slice.ensures ∙ ap (λ r. in_pool c.args.id.now r.resources) (sym c.index-rows-home.is) ∙ sym (resource-found c.args.rows.now c.args.id.now c.index-rows-home.result row)
