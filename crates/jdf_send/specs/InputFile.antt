-- The file that an input comes from.
use Rattle.std.specs.Prelude.{ℕ, List, Option, Some, None, codes, if◌then◌else◌}
use Rattle.std.specs.Str.{bytes_eq}

-- the file that a path names: none where it is `-`, which stands for standard input
abbrev pub file_of : Option (List ℕ) → Option (List ℕ)
file_of None = None
file_of (Some path) = if bytes_eq path (codes "-") then None else Some path
