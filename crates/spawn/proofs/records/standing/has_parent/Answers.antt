use Rattle.std.proofs.Common.{◌∙◌, ap, false}
use Rattle.std.specs.Option.{option_map_or}
use Rattle.spawn.proofs.BelowRoot.{has_parent_is, is_lower}
use Rattle.spawn.proofs.records.standing.has_parent.Goals as goal

pub returns-in-None : goal.returns-in-None
returns-in-None c = ap (λ o. option_map_or is_lower o false) c.in-None.ensures.found ∙ has_parent_is c.args.ticket.now.rows c.args.node.now c.in-None.ensures.valid

pub returns-in-Some : goal.returns-in-Some
returns-in-Some c = ap (λ o. option_map_or is_lower o false) c.in-Some.ensures.found ∙ has_parent_is c.args.ticket.now.rows c.args.node.now c.in-Some.ensures.valid
