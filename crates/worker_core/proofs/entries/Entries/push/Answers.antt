use Rattle.std.proofs.Common.{◌∙◌, ◌++◌, ◌∷◌, [], ap, length, is_ok, if◌then◌else◌}
use Rattle.worker_core.proofs.SpawnIndex.{index_more, no_place}
use Rattle.worker_core.specs.Worker.{entry_of}
use Rattle.worker_core.proofs.entries.Entries.push.Goals as goal

pub invariant_of-self-2 : goal.invariant_of-self-2
invariant_of-self-2 c =
    let e = c.args.entry in
    let entries = c.self.inside.list.items in
    let kept = c.reserve.new.self.items in
    index_more c.self.inside.spawns c.insert.new.self entries c.push.new.self.items e c.len.result c.self.invariant
    (no_place entries e.spawn_id (ap (λ es. entry_of es e.spawn_id) c.self.view_is ∙ c.requires)) c.in_ok-insert.ensures.updates
    (c.len.ensures ∙ c.reserve.new.self.ok.0 ∙ ap length c.reserve.ensures.items)
    (c.push.ensures.items ∙ ap (λ o. if is_ok o then kept ++ e ∷ [] else kept) c.unwrap.ensures ∙ ap (λ es. es ++ e ∷ []) c.reserve.ensures.items)
