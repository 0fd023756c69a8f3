-- Lines of events that are appended one after another.
use Rattle.std.proofs.Common.{◌≡◌, ℕ, List, ◌++◌, drop}
use Rattle.jdf_loop.specs.EventLine.{lines}
use Rattle.jdf_loop.specs.declared.event_line.EventLine.{EventLine}

-- what was appended so far, and the lines of the events from i on, are those of all events
abbrev pub IsSoFar : List EventLine → ℕ → List ℕ → List ℕ → Type 0
IsSoFar told i old now = now ++ lines (drop i told) ≡ old ++ lines told
