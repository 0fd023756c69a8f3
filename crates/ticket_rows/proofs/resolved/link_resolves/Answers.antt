use Rattle.std.proofs.Common.{◌∙◌, ap, false}
use Rattle.std.specs.Option.{option_map, option_map_or}
use Rattle.ticket_items.proofs.Apart.{texts_of}
use Rattle.ticket_rows.proofs.Table.{mem-texts, under}
use Rattle.ticket_items.specs.Ids.{mem}
use Rattle.ticket_rows.proofs.resolved.link_resolves.Goals as goal

pub returns-in-Some : goal.returns-in-Some
returns-in-Some c =
    let there = ap (option_map (λ h. h.now)) (c.in-Some.ensures.value ∙ ap (λ x. under x c.args.homes.now) c.as_str.ensures.value) in
    c.is_on.ensures ∙ mem-texts c.in-Some.home.now.now c.args.path.now ∙ ap (λ o. option_map_or (λ home. mem home (texts_of c.args.path.now)) o false) there
