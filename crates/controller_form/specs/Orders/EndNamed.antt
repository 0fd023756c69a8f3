-- How the work on a part ends, by its word.
use Rattle.std.specs.Prelude.{ℕ, List, codes, if◌then◌else◌, Option, Some, None}
use Rattle.std.specs.Str.{bytes_eq}
use Rattle.world_items.specs.declared.end.End.{End}
use Rattle.world_items.specs.declared.end.End.TheVariants.{Completed, Aborted}

-- the end that a word names
abbrev pub end_named : List ℕ → Option End
end_named word =
    if bytes_eq word (codes "Completed") then Some Completed else
    (if bytes_eq word (codes "Aborted") then Some Aborted else None)
