-- What is told beside an output.
use Rattle.std.specs.Prelude.{◌⊎◌, ℕ, List}
use Rattle.streams.specs.Streams.{Traffic, Writes, WritesFront}

-- a text is told, or a front of it where a write failed
abbrev pub TellsText : List ℕ → Traffic → Type 0
TellsText text told = Writes told text ⊎ WritesFront told text
