use Rattle.std.proofs.Common.{◌∙◌, sym, ap, get_or}
use Rattle.ticket_items.proofs.Places.{none_at_position}
use Rattle.worker_core.proofs.AtNumber.{found_there}
use Rattle.worker_core.proofs.Kept.{number_of}
use Rattle.worker_core.specs.Worker.{is_of}
use Rattle.worker_core.proofs.entries.Entries.entry_of.Goals as goal

pub returns-in-None : goal.returns-in-None
returns-in-None c = sym (none_at_position (is_of c.args.spawn) c.args.self.now (sym c.in-None.ensures))

pub returns-in-Some : goal.returns-in-Some
returns-in-Some c =
    let k = c.in-Some.place in
    let e = c.index.result.now in
    sym (found_there number_of c.args.spawn c.args.self.now k e (sym c.in-Some.ensures) (c.index.ensures ∙ ap (λ es. get_or es k e) c.self.view_is))
