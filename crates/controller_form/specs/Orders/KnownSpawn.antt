-- The spawn that an order is about.
use Rattle.std.specs.Prelude.{ℕ, List, [], ◌∷◌, codes, Option}
use Rattle.std.specs.Option.{option_and_then}
use Rattle.serde_json.specs.Data.{Data}
use Rattle.serde_json.specs.Find.{get}
use Rattle.json_items.specs.Spawns.{spawn_form}
use Rattle.json_source.specs.Read.{◌>>=◌, some_if, has_only}

-- the spawn that the text under a name names
abbrev pub spawn_under : List ℕ → Data → Option ℕ
spawn_under name d = option_and_then spawn_form (get name d)

abbrev pub known_members : List (List ℕ)
known_members = codes "Order" ∷ codes "SpawnID" ∷ []

-- the spawn of an order that tells nothing else
unfoldable pub known_form : Data → Option ℕ
known_form d = some_if (has_only known_members d) >>= λ _. spawn_under (codes "SpawnID") d
