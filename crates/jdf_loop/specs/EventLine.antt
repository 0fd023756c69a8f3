-- The lines of events.
use Rattle.std.specs.Prelude.{ℕ, Bool, false, true, List}
use Rattle.std.specs.List.{flat_map, list_any}
use Rattle.jdf_commands.specs.WorldCommand.Run as world_run
use Rattle.streams.specs.Refused.{refused_line}
use Rattle.streams.specs.declared.refused.Refused.TheVariants as refused
use Rattle.jdf_loop.specs.declared.event_line.EventLine.{EventLine}
use Rattle.jdf_loop.specs.declared.event_line.EventLine.TheVariants.{Answered, TooLarge}

-- the line of an event, and a line for each of several
abbrev pub line_of : EventLine → List ℕ
line_of (Answered a) = world_run.line_of a
line_of TooLarge = refused_line refused.TooLarge

abbrev pub lines : List EventLine → List ℕ
lines told = flat_map line_of told

-- whether a message was too large to be sent
abbrev pub is_too_large : EventLine → Bool
is_too_large (Answered a) = false
is_too_large TooLarge = true

abbrev pub has_too_large : List EventLine → Bool
has_too_large told = list_any (λ line. is_too_large line) told
