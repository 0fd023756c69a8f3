use Rattle.std.proofs.Common.{◌≡◌, map, take}
use Rattle.ticket_items.specs.SpawnId.{spawn_text}
use Rattle.json_text.proofs.marked.spawn_texts.Given as goal

-- the texts so far
abbrev pub invariant-loop-spawn : goal.invariant-loop-spawn
invariant-loop-spawn l = l.texts.items ≡ map spawn_text (take l.spawn-index l.spawns)
