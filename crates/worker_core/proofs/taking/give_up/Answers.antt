use Rattle.std.proofs.Common.{◌∙◌, ◌∷◌, ◌++◌, [], sym, ap, slice_set}
use Rattle.std.proofs.lemmas.Result.{on_ok_weaker}
use Rattle.ticket_items.proofs.Places.{none_at_position}
use Rattle.worker_core.proofs.Closing.{aborted_number}
use Rattle.worker_core.proofs.GivingUp.{declined_behind, given_up}
use Rattle.worker_core.proofs.SpawnIndex.{index_kept, place_inside, spawn_stays}
use Rattle.worker_core.specs.Messages.{aborted_entry, on_abort}
use Rattle.worker_core.specs.Worker.{entry_of, is_of, state}
use Rattle.worker_core.specs.declared.entry.Entry.{Entry}
use Rattle.worker_core.proofs.taking.give_up.Goals as goal

pub push-requires : goal.push-requires
push-requires c =
    let entries = c.args.entries.now in
    ap (λ (e : Entry). entry_of entries e.spawn_id) c.new_declined.ensures ∙ none_at_position (is_of c.args.spawn) entries (sym c.in-None.ensures)

pub returns-in_ok-push-in-None-clause-ok : goal.returns-in_ok-push-in-None-clause-ok
returns-in_ok-push-in-None-clause-ok c name master =
    let entries = c.args.entries.now in
    ap (state name master) (c.in_ok-push-in-None.ensures.ok ∙ ap (λ e. entries ++ e ∷ []) c.new_declined.ensures) ∙ declined_behind name master c.args.spawn c.args.at entries (sym c.in-None.ensures)

pub invariant_of-entries : goal.invariant_of-entries
invariant_of-entries c =
    let at = c.args.at in
    let x = c.index_mut.result.now in
    let y = c.abort.new.entry in
    index_kept c.entries.inside.spawns c.entries.inside.list.items c.in-Some.place x y c.entries.invariant c.index_mut.ensures.value
    (spawn_stays c.abort.result (aborted_entry at) x y (aborted_number at) c.abort.ensures.ok c.abort.ensures.err)

pub returns-in-Some-clause-ok : goal.returns-in-Some-clause-ok
returns-in-Some-clause-ok c name master =
    let s = c.args.spawn in
    let at = c.args.at in
    let k = c.in-Some.place in
    let entries = c.entries.inside.list.items in
    on_ok_weaker c.abort.result
    (λ made.
    ap (λ e. state name master (slice_set entries k e)) made
    ∙ given_up name master s at entries k c.index_mut.result.now c.entries.invariant.once (place_inside s k entries c.args.entries.now c.entries.view_is (sym c.in-Some.ensures)) c.index_mut.ensures.value
    ∙ ap (λ es. (on_abort s at (state name master es)).next) c.entries.view_is)
    c.abort.ensures.ok
