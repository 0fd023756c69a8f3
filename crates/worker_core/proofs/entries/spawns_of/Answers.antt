use Rattle.std.proofs.Common.{◌≡◌, ◌∙◌, ◌+◌, true, is_some, sym, ap, take}
use Rattle.std.specs.List.{position}
use Rattle.worker_core.proofs.KeptStored.{entries_twice, front_more}
use Rattle.worker_core.proofs.SpawnIndex.{front_length, index_more, known_number, none_of}
use Rattle.worker_core.specs.Worker.{is_of}
use Rattle.worker_core.proofs.entries.spawns_of.Goals as goal

pub returns-then-is_some : goal.returns-then-is_some
returns-then-is_some c =
    let entries = c.args.list.now in
    let i = c.loop-place.place in
    let e = c.index-list-place.result in
    let s = e.spawn_id in
    let there : is_some (position (is_of s) (take i entries)) ≡ true =
    sym (ap is_some (c.in_ok-insert.ensures.old ∙ c.loop-place.invariant.places s))
    ∙ sym c.is_some.ensures ∙ c.if-is_some.true in
    entries_twice entries i e c.loop-place-test.true c.index-list-place.is (sym (known_number s (take i entries)) ∙ there)

pub loop-place-preserved : goal.loop-place-preserved
loop-place-preserved c =
    let entries = c.args.list.now in
    let i = c.loop-place.place in
    let e = c.index-list-place.result in
    let s = e.spawn_id in
    let known = sym (c.in_ok-insert.ensures.old ∙ c.loop-place.invariant.places s) in
    let none = none_of (position (is_of s) (take i entries)) (ap is_some known ∙ sym c.is_some.ensures ∙ c.if-is_some.false) in
    index_more c.loop-place.spawns c.insert.new.self (take i entries) (take (i + 1) entries) e i c.loop-place.invariant none c.in_ok-insert.ensures.updates
    (front_length entries i c.loop-place-test.true) (front_more entries i e c.loop-place-test.true c.index-list-place.is)
