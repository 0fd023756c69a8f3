use Rattle.std.proofs.Common.{◌≡◌, ◌∙◌, Ok, Err, Some, get_or, sym, ap, arith}
use Rattle.std.proofs.lemmas.List.Sorted.{searched}
use Rattle.ticket_rows.proofs.Labels.{at_or, place_at, place_between, rise_le}
use Rattle.ticket_rows.proofs.places.place_of.Goals as goal

pub returns-then-order-guess : goal.returns-then-order-guess
returns-then-order-guess c =
    let order = c.args.order.now in
    let there : get_or order c.args.guess 0 ≡ c.args.label = c.if-order-guess.true in
    sym (place_at order c.args.guess c.args.label c.requires (at_or order c.args.guess 0 (omega (arith, c.if-guess-order.true)) ∙ ap Some there))

pub returns-in-Ok : goal.returns-in-Ok
returns-in-Ok c =
    let order = c.args.order.now in
    let found = searched order c.args.label (Ok c.in-Ok.place) c.in-Ok.ensures.position (rise_le order c.requires) in
    sym (place_at order c.in-Ok.place c.args.label c.requires (at_or order c.in-Ok.place 0 found.0 ∙ ap Some found.1))

pub returns-in-Err : goal.returns-in-Err
returns-in-Err c =
    let order = c.args.order.now in
    let found = searched order c.args.label (Err c.in-Err.place) c.in-Err.ensures.position (rise_le order c.requires) in
    sym (place_between order c.in-Err.place c.args.label found.0 found.1 found.2)
