use Rattle.std.proofs.Common.{◌≡◌, ◌∙◌, Some, None, ap, sym}
use Rattle.std.specs.Option.{option_map_or}
use Rattle.worker_core.proofs.MessageLaws.{told_aborted, told_declined}
use Rattle.worker_core.specs.Messages.{abort_taking, decline_taking}
use Rattle.worker_core.specs.Worker.{entry_of, state}
use Rattle.worker_core.proofs.taking.abort_taken.Goals as goal

pub returns-in-None-clause-response : goal.returns-in-None-clause-response
returns-in-None-clause-response c name master at =
    let s = c.args.spawn in
    let w = state name master c.args.entries.now in
    let none : entry_of w.entries s ≡ None = sym c.in-None.ensures in
    c.response.ensures ∙ sym (ap (λ o. (option_map_or (abort_taking s at w) o (decline_taking s at w)).response) none ∙ told_declined s at w.entries none)

pub returns-in-Some-clause-response : goal.returns-in-Some-clause-response
returns-in-Some-clause-response c name master at =
    let s = c.args.spawn in
    let w = state name master c.args.entries.now in
    let e = c.in-Some.entry.now in
    let here : entry_of w.entries s ≡ Some e = sym c.in-Some.ensures in
    c.abort_told.ensures at ∙ sym (ap (λ o. (option_map_or (abort_taking s at w) o (decline_taking s at w)).response) here ∙ told_aborted s at w.entries e here)
