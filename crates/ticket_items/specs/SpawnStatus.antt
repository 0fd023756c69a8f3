-- What a resource shows of the spawns that copied it, in a word (JDF 1.5, 3.8).
use Rattle.std.specs.Prelude.{ℕ, List, codes}
use Rattle.ticket_items.specs.declared.spawn_status.SpawnStatus.{SpawnStatus}
use Rattle.ticket_items.specs.declared.spawn_status.SpawnStatus.TheVariants.{NotSpawned}
use Rattle.ticket_items.specs.declared.spawn_status.SpawnStatus.TheVariants.{SpawnedRO, SpawnedRW}

abbrev pub status_word : SpawnStatus → List ℕ
status_word NotSpawned = codes "NotSpawned"
status_word SpawnedRO = codes "SpawnedRO"
status_word SpawnedRW = codes "SpawnedRW"
