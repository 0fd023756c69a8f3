-- Spawns in JSON data, by the texts that name them (our own).
use Rattle.std.specs.Prelude.{ℕ, List, Option, unwrap_or}
use Rattle.std.specs.Option.{option_map}
use Rattle.serde_json.specs.Data.{Data}
use Rattle.serde_json.specs.Find.{as_str}
use Rattle.ticket_items.specs.SpawnId.{spawn_of}

-- the number of the spawn that a text names, and 0, which is no spawn's, where it names none
abbrev pub spawn_named : List ℕ → ℕ
spawn_named text = unwrap_or (spawn_of text) 0

-- the spawn that a text in JSON data names
abbrev pub spawn_form : Data → Option ℕ
spawn_form d = option_map spawn_named (as_str d)
