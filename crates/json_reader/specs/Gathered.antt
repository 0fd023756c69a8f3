-- What nodes that are read are gathered in.
use Rattle.std.specs.Prelude.{◌≡◌, ℕ, List, [], ◌++◌, Option, Some, None, Result, Ok, Err}
use Rattle.std.specs.Prelude.{⊤}
use Rattle.serde_json.specs.Data.{Data}
use Rattle.ticket_items.specs.declared.refusal.Refusal.{Refusal}
use Rattle.json_items.specs.TicketDraft.{RawRow, list_rows}
use Rattle.json_source.specs.Read.{Fails}

-- what is read was added to what was gathered, of whatever nodes that was; or there is nothing to
-- read, unless memory ran out
abbrev pub Gathers : {G : Type 0} → (List RawRow → G → Type 0) → G → G → Result ⊤ Refusal
    → Option (List RawRow) → Type 0
Gathers is_of old new (Ok u) read = (added : List RawRow) × (read ≡ Some added)
    × ((before : List RawRow) → is_of before old → is_of (before ++ added) new)
Gathers is_of old new (Err e) read = Fails e read

-- the nodes of the list that stands there, none where it is absent
abbrev pub rows_under : ℕ → Option Data → Option (List RawRow)
rows_under depth None = Some []
rows_under depth (Some d) = list_rows depth d
