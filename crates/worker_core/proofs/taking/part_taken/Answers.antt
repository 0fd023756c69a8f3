use Rattle.std.proofs.Common.{◌≡◌, ◌∙◌, None, ap, sym}
use Rattle.std.specs.Option.{option_map_or}
use Rattle.worker_core.proofs.MessageLaws.{told_new}
use Rattle.worker_core.specs.Messages.{entry_taking, repeat_taking}
use Rattle.worker_core.specs.Worker.{entry_of, state}
use Rattle.worker_core.proofs.taking.part_taken.Goals as goal

pub returns-in-None-clause-response : goal.returns-in-None-clause-response
returns-in-None-clause-response c name master at =
    let p = c.args.part.now in
    let w = state name master c.args.entries.now in
    let none : entry_of w.entries p.spawn_id ≡ None = ap (entry_of w.entries) (sym c.spawn_id.ensures.id) ∙ sym c.in-None.ensures in
    sym (ap (λ o. (option_map_or (repeat_taking p.spawn_id w) o (entry_taking p at w)).response) none ∙ told_new p at w.entries none)
