use Rattle.std.proofs.Common.{◌∙◌, sym, ap, slice_set}
use Rattle.ticket_items.proofs.Places.{none_at_position}
use Rattle.worker_core.proofs.AtNumber.{at_number-none, write_at_number}
use Rattle.worker_core.proofs.Closing.{closed_number}
use Rattle.worker_core.proofs.Kept.{no_number, number_of}
use Rattle.worker_core.proofs.SpawnIndex.{index_kept, place_inside}
use Rattle.worker_core.specs.Worker.{closed_entry, is_of, with_entry}
use Rattle.worker_core.proofs.entries.Entries.close.Goals as goal

pub invariant_of-self : goal.invariant_of-self
invariant_of-self c =
    let x = c.index_mut.result.now in
    index_kept c.self.inside.spawns c.self.inside.list.items c.in-Some.place x c.close.new.self c.self.invariant c.index_mut.ensures.value (ap number_of c.close.ensures ∙ closed_number x)

pub returns-in-Some : goal.returns-in-Some
returns-in-Some c =
    let s = c.args.spawn in
    let k = c.in-Some.place in
    let entries = c.self.inside.list.items in
    ap (slice_set entries k) c.close.ensures
    ∙ write_at_number number_of s closed_entry entries k c.index_mut.result.now c.self.invariant.once (place_inside s k entries c.args.self.now c.self.view_is (sym c.in-Some.ensures)) c.index_mut.ensures.value
    ∙ ap (with_entry s closed_entry) c.self.view_is

pub returns-in_default : goal.returns-in_default
returns-in_default c =
    let entries = c.args.self.now in
    let s = c.args.spawn in
    sym (at_number-none number_of s closed_entry entries (no_number entries s (none_at_position (is_of s) entries (sym c.in_default.ensures))))
