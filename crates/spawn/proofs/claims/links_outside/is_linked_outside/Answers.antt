use Rattle.std.proofs.Common.{◌∙◌, ◌&&◌, not, ap, sym}
use Rattle.ticket_tree.specs.Part.{is_linked}
use Rattle.spawn.proofs.LinkedOutside.{missing_outside, with_rows_below}
use Rattle.spawn.proofs.claims.links_outside.is_linked_outside.Goals as goal

pub returns-in-None : goal.returns-in-None
returns-in-None c = sym (missing_outside c.args.ticket.now.rows c.args.node.now c.args.resource.now c.requires.valid (sym c.in-None.ensures))

pub returns-then-not-is_below : goal.returns-then-not-is_below
returns-then-not-is_below c =
    let linked = is_linked c.args.below.now c.args.resource.now in
    c.is_linked.ensures ∙ ap (λ b. not b && linked) (sym c.if-not-is_below.true ∙ c.is_below.ensures)
    ∙ with_rows_below c.args.ticket.now.rows c.args.below.now c.args.node.now c.args.resource.now c.in-Some.home.now c.requires.valid c.requires.known c.requires.rows (sym c.in-Some.ensures)

pub returns-else-not-is_below : goal.returns-else-not-is_below
returns-else-not-is_below c =
    let linked = is_linked c.args.below.now c.args.resource.now in
    ap not c.if-not-is_below.false ∙ ap (λ b. not b && linked) (sym c.if-not-is_below.false ∙ c.is_below.ensures)
    ∙ with_rows_below c.args.ticket.now.rows c.args.below.now c.args.node.now c.args.resource.now c.in-Some.home.now c.requires.valid c.requires.known c.requires.rows (sym c.in-Some.ensures)
