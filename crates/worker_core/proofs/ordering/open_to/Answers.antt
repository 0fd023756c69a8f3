use Rattle.std.proofs.Common.{◌∙◌, sym, ap, get_or}
use Rattle.worker_core.proofs.Places.{missing, refused_at}
use Rattle.worker_core.proofs.ordering.open_to.Goals as goal

pub returns-in-None-clause-refusal : goal.returns-in-None-clause-refusal
returns-in-None-clause-refusal c = missing c.args.order.now c.args.entries.now c.spawn.result c.spawn.ensures (sym c.in-None.ensures)

pub returns-in-None-entry_refusal-clause-refusal : goal.returns-in-None-entry_refusal-clause-refusal
returns-in-None-entry_refusal-clause-refusal c =
    let k = c.in-Some.place in
    let e = c.index.result.now in
    refused_at c.args.order.now c.args.entries.now c.spawn.result k e c.spawn.ensures (sym c.in-Some.ensures) (c.index.ensures ∙ ap (λ es. get_or es k e) c.entries.view_is) ∙ sym c.in-None-entry_refusal.ensures

pub returns-in-Some-entry_refusal-clause-refusal : goal.returns-in-Some-entry_refusal-clause-refusal
returns-in-Some-entry_refusal-clause-refusal c =
    let k = c.in-Some.place in
    let e = c.index.result.now in
    refused_at c.args.order.now c.args.entries.now c.spawn.result k e c.spawn.ensures (sym c.in-Some.ensures) (c.index.ensures ∙ ap (λ es. get_or es k e) c.entries.view_is) ∙ sym c.in-Some-entry_refusal.ensures
