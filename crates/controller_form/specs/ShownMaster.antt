-- What is written of the ticket that a master shows.
use Rattle.std.specs.Prelude.{ℕ, List, [], ◌∷◌, ◌++◌}
use Rattle.serde_json.specs.Written.{compact_text}
use Rattle.json_text.specs.Written.{shown_data}
use Rattle.spawn.specs.Marking.{marks}
use Rattle.master_core.specs.Master as master

-- the text of a master's ticket with the marks of what is out, and the end of its line
abbrev pub master_text : master.State → List ℕ
master_text m =
    compact_text (shown_data (marks m.ticket.rows m.records) m.ticket) ++ 10 ∷ []
